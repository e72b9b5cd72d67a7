-- `look::follow::following` meets its contract, one law for each way to go on.
use borrow.Author.Rules.{rules}
use native.Mathlib.Omega.{arith}
use Rattle.look.proofs.Following.{found, below, inside, sought-below, sound-behind, to_end, to-label, to_block, taken, untaken, goes_on}
use Rattle.look.proofs.follow.following.Statement.{statement}
use Rattle.look.proofs.follow.following.Tie as tie

pub following_spec : {M : Type 1} → statement M
following_spec =
    tie.close
    (tie.spec
    (λ c. search rules) (λ c. search rules) (λ c. search rules) (λ c κs. search rules) (λ c κs. search rules) (λ c κs. search rules)
    (λ c. search rules)
    (λ c. let q = c.requires in let f = found q in let h = inside q.stands f.rec f.is c.u16_at-n.ensures in omega (arith, h))
    (λ c. λ count w rec e. to_end w rec e c.args.store.now c.u16_at-kind.ensures c.if-kind-eq15.true c.byte-label.ensures c.if-label-eq0.true)
    (λ c. let q = c.requires in let f = found q in let h = below q.stands f.rec f.is in omega (arith, h))
    (λ c κs. let q = c.requires in let f = found q in record { count = q.count; none = sound-behind q.stands f.rec f.is c.u16_at-n.ensures })
    (λ c. let q = c.requires in let f = found q in let h = sought-below q.stands f.rec f.is c.u16_at-n.ensures c.records_before.ensures in omega (arith, h))
    (λ c. λ count w rec e. to-label w rec e c.args.store.now c.u16_at-kind.ensures c.if-kind-eq15.true c.byte-label.ensures c.if-label-eq0.false c.u16_at-n.ensures c.records_before.ensures)
    (λ c κs. let q = c.requires in record { count = q.count; none = q.stands.sound })
    (λ c. λ count w rec e. to_block w rec e c.args.store.now c.u16_at-kind.ensures c.if-kind-eq16.true c.byte-label.ensures c.records_before-then-kind-eq16.ensures)
    (λ c κs. search rules)
    (λ c. let q = c.requires in let f = found q in let h = below q.stands f.rec f.is in omega (arith, h))
    (λ c κs. search rules)
    (λ c κs. let q = c.requires in let f = found q in record { count = q.count; none = sound-behind q.stands f.rec f.is c.u16_at-n.ensures })
    (λ c. let q = c.requires in let f = found q in let h = sought-below q.stands f.rec f.is c.u16_at-n.ensures c.records_before-then-branches_on.ensures in omega (arith, h))
    (λ c. λ count w rec e. taken w rec e c.args.store.now c.u16_at-kind.ensures c.if-kind-eq17.true c.branches_on.ensures c.if-branches_on.true c.byte.ensures c.u16_at-n.ensures c.records_before-then-branches_on.ensures)
    (λ c. let q = c.requires in let f = found q in let h = below q.stands f.rec f.is in omega (arith, h))
    (λ c. λ count w rec e. untaken w rec e c.args.store.now c.u16_at-kind.ensures c.if-kind-eq17.true c.branches_on.ensures c.if-branches_on.false)
    (λ c. let q = c.requires in let f = found q in let h = below q.stands f.rec f.is in omega (arith, h))
    (λ c. λ count w rec e. goes_on w rec e c.args.store.now c.u16_at-kind.ensures c.if-kind-eq15.false c.if-kind-eq16.false c.if-kind-eq17.false))
