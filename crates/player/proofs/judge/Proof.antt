-- `player::judge` meets its contract: each refusal by its tests, and what the passes found by one law.
use borrow.Author.Rules.{rules}
use borrow.Author.Tests.{eq-eqb, le-ltb, lt-ltb, ne_eqb}
use native.Mathlib.Omega.{arith}
use mathlib.Core.Path.{sym, ◌∙◌}
use Rattle.player_machine.specs.Refusal.{refusal}
use Rattle.player.proofs.Answering.{turned-away, let-in}
use Rattle.player.proofs.judge.Statement.{statement}
use Rattle.player.proofs.judge.Tie as tie

pub judge_spec : {M : Type 1} → statement M
unfolding refusal
judge_spec =
    tie.close
    (tie.spec
    (λ c κs. search rules)
    (λ c. turned-away c.refuse.ensures (λ z. omega (arith, z)) (simp (lt-ltb _ _ c.if-listing-gt65536.true)))
    (λ c κs. search rules)
    (λ c. turned-away {number = 8} {index = 0} (search rules) (λ z. omega (arith, z)) (simp (le-ltb _ _ c.if-listing-gt65536.false, lt-ltb 256 c.args.constants (omega arith))))
    (λ c κs. search rules)
    (λ c. turned-away c.refuse-then-words-ne1602.ensures (λ z. omega (arith, z)) (simp (le-ltb _ _ c.if-listing-gt65536.false, le-ltb 256 c.args.constants (omega arith), ne_eqb _ _ c.if-words-ne1602.true)))
    (λ c κs. search rules) (λ c κs. search rules)
    (λ c.
    let e = c.examine-x.ensures in
    turned-away c.refuse-then-x-ne0.ensures c.if-x-ne0.true (simp (le-ltb _ _ c.if-listing-gt65536.false, le-ltb 256 c.args.constants (omega arith), eq-eqb _ _ c.if-words-ne1602.false, ← e.number, ← e.index, ne_eqb _ _ c.if-x-ne0.true)))
    (λ c κs. search rules)
    (λ c.
    let e = c.examine-x.ensures in
    turned-away c.refuse-then-x-start.ensures (λ z. omega (arith, z)) (simp (le-ltb _ _ c.if-listing-gt65536.false, le-ltb 256 c.args.constants (omega arith), eq-eqb _ _ c.if-words-ne1602.false, ← e.number, ← e.index, eq-eqb _ _ c.if-x-ne0.false, lt-ltb _ _ c.if-x-start.true)))
    (λ c κs.
    let e = c.examine-x.ensures in
    (c.if-listing-gt65536.false, record { count = c.args.constants; none = sym e.number ∙ c.if-x-ne0.false }))
    (λ c κs. search rules)
    (λ c.
    let e = c.examine-x.ensures in
    let b = c.breach_of-breach.ensures _ e (sym e.number ∙ c.if-x-ne0.false) in
    turned-away c.refuse-then-breach-x.ensures (λ z. omega (arith, z)) (simp (le-ltb _ _ c.if-listing-gt65536.false, le-ltb 256 c.args.constants (omega arith), eq-eqb _ _ c.if-words-ne1602.false, ← e.number, ← e.index, eq-eqb _ _ c.if-x-ne0.false, le-ltb _ _ c.if-x-start.false, ← b, lt-ltb _ _ c.if-breach-x.true)))
    (λ c κs.
    let e = c.examine-x.ensures in
    record { count = c.args.constants; none = sym e.number ∙ c.if-x-ne0.false })
    (λ c.
    let e = c.examine-x.ensures in
    let b = c.breach_of-breach.ensures _ e (sym e.number ∙ c.if-x-ne0.false) in
    let-in c.if-listing-gt65536.false (omega arith) c.if-words-ne1602.false e c.if-x-ne0.false c.if-x-start.false b c.if-breach-x.false c.skip.ensures))
