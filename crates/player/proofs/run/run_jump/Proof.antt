-- `player::run::run_jump` meets its contract, one law for each way to go on.
use borrow.Author.Rules.{rules}
use native.Mathlib.Omega.{arith}
use mathlib.Core.Path.{refl, sym, ap, ◌∙◌}
use mathlib.Core.Option.{some}
use lib.ListN.{length}
use Rattle.mir.specs.declared.records.Record.{Record}
use Rattle.player.proofs.Encoding.{a-jump, a-branch-if, a_call}
use Rattle.player.proofs.Steps.{play_as, play-label, play-end, play-branch, play-taken, play-untaken, play-call, known_here}
use Rattle.player.proofs.Looks.{jump_stands}
use Rattle.player.proofs.run.run_jump.Statement.{statement}
use Rattle.player.proofs.run.run_jump.Tie as tie

pub run_jump_spec : {M : Type 1} → statement M
run_jump_spec =
    tie.close
    (tie.spec
    (λ c. search rules) (λ c. search rules) (λ c. search rules) (λ c κs. search rules) (λ c κs. search rules) (λ c κs. search rules)
    (λ c. search rules)
    (λ c.
    let p = c.requires in
    let z = p.1.1.0 in
    let j = jump_stands p.1.1.1.0 c.u16_at-n.ensures in
    let w = j.stands in
    let h = w.here.inside in
    omega (arith, h))
    (λ c κs. search rules)
    (λ c.
    let p = c.requires in
    let z = p.1.1.0 in
    let j = jump_stands p.1.1.1.0 c.u16_at-n.ensures in
    let w = j.stands in
    play_as c.reached.ensures
    (play-label z (known_here w.here (a-jump _ w.rec w.encodes 14 (sym c.u16_at-kind.ensures ∙ c.if-kind-eq14.true) refl))))
    (λ c κs. search rules)
    (λ c.
    let p = c.requires in
    let z = p.1.1.0 in
    let j = jump_stands p.1.1.1.0 c.u16_at-n.ensures in
    let w = j.stands in
    play_as c.reached-then-label-eq0.ensures
    (play-end z (known_here w.here (a-jump _ w.rec w.encodes 15 (sym c.u16_at-kind.ensures ∙ c.if-kind-eq15.true) refl))
    (sym c.byte-label.ensures ∙ c.if-label-eq0.true)))
    (λ c κs.
    let a = c.args in
    let p = c.requires in
    let z = p.1.1.0 in
    let j = jump_stands p.1.1.1.0 c.u16_at-n.ensures in
    let w = j.stands in
    record { count = length a.constants.now; none = sym w.here.sound ∙ z })
    (λ c κs. search rules)
    (λ c.
    let p = c.requires in
    let z = p.1.1.0 in
    let j = jump_stands p.1.1.1.0 c.u16_at-n.ensures in
    let w = j.stands in
    play_as c.reached-then-kind-eq15.ensures
    (play-branch z
    (known_here w.here
    (a-jump _ w.rec w.encodes 15 (sym c.u16_at-kind.ensures ∙ c.if-kind-eq15.true) (ap (λ l. some (Record.Branch l)) (sym c.byte-label.ensures))))
    c.if-label-eq0.false c.find.ensures))
    (λ c κs. search rules) (λ c κs. search rules)
    (λ c κs.
    let a = c.args in
    let p = c.requires in
    let z = p.1.1.0 in
    let j = jump_stands p.1.1.1.0 c.u16_at-n.ensures in
    let w = j.stands in
    record { count = length a.constants.now; none = sym w.here.sound ∙ z })
    (λ c κs. search rules) (λ c. search rules)
    (λ c.
    let p = c.requires in
    let z = p.1.1.0 in
    let j = jump_stands p.1.1.1.0 c.u16_at-n.ensures in
    let w = j.stands in
    play_as c.reached-then-branches_on.ensures
    (play-taken z
    (known_here w.here (a-branch-if _ w.rec w.encodes (sym c.u16_at-kind.ensures ∙ c.if-kind-eq17.true) c.byte.ensures))
    (sym c.branches_on.ensures ∙ c.if-branches_on.true) c.find-then-branches_on.ensures))
    (λ c κs. search rules) (λ c. search rules)
    (λ c.
    let p = c.requires in
    let z = p.1.1.0 in
    let j = jump_stands p.1.1.1.0 c.u16_at-n.ensures in
    let w = j.stands in
    play_as c.reached-then-kind-eq17.ensures
    (play-untaken z
    (known_here w.here (a-branch-if _ w.rec w.encodes (sym c.u16_at-kind.ensures ∙ c.if-kind-eq17.true) refl))
    (sym c.branches_on.ensures ∙ c.if-branches_on.false)))
    (λ c κs. search rules) (λ c. search rules) (λ c κs. search rules) (λ c. search rules)
    (λ c.
    let p = c.requires in
    let z = p.1.1.0 in
    let j = jump_stands p.1.1.1.0 c.u16_at-n.ensures in
    let w = j.stands in
    let k = c.u16_at-kind.ensures in
    play_as c.reached-2.ensures
    (play-call z
    (known_here w.here
    (a_call _ w.rec w.encodes j.jump (λ e. c.if-kind-eq14.false (k ∙ e)) (λ e. c.if-kind-eq15.false (k ∙ e)) (λ e. c.if-kind-eq17.false (k ∙ e))))
    c.run_block-k.ensures)))
