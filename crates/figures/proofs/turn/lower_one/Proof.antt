-- `lower_one` meets its contract.
use borrow.Author.Rules.{rules}
use native.Mathlib.Omega.{arith}
use mathlib.Core.Path.{◌≡◌, sym, ap, ◌∙◌}
use lib.ListN.{length, take, length-take}
use Rattle.lowering.specs.Labels.{role}
use Rattle.lowering.specs.Lower.{barred}
use Rattle.figures.proofs.Taking.{turn-barred, turn-finished, listed-few, listed-length, listed-fits, branch_few}
use Rattle.figures.proofs.turn.lower_one.Statement.{statement}
use Rattle.figures.proofs.turn.lower_one.Tie as tie

pub lower_one_spec : {M : Type 1} → statement M
lower_one_spec =
    tie.close
    (tie.spec
    (λ c κs. search rules) (λ c κs. search rules) (λ c κs. search rules)
    (λ c. let a = c.args in simp c.refused.ensures (turn-barred c.requires.0 (sym (c.barred.ensures ∙ ap (λ x. barred x a.instruction a.p.low.real) c.is_stable.ensures) ∙ c.if-barred.true)))
    (λ c. let r = c.requires.0 in omega (arith, r.count, r.words))
    (λ c. let r = c.requires.0 in let a = c.args in let l : length (take a.p.constants a.constants.now) ≡ a.p.constants = simp length-take (omega (arith, r.count, r.words)) in sym l)
    (λ c κs. search rules) (λ c κs. search rules)
    (λ c. let w : length c.rerun-t.result.added.words ≡ 3 = search (rules, c.rerun-t.type_inv) in let a = c.args in let r = c.requires in
    let h = listed-few a.mode a.instruction r.0 c.rerun-t.ensures (sym (c.barred.ensures ∙ ap (λ x. barred x a.instruction a.p.low.real) c.is_stable.ensures) ∙ c.if-barred.false) w in let q = c.rerun-t.auto.out in let g = r.0.stage in omega (arith, h, q, g))
    (λ c. let w : length c.rerun-t.result.added.words ≡ 3 = search (rules, c.rerun-t.type_inv) in let a = c.args in let r = c.requires in
    sym (listed-length a.mode a.instruction r.0 c.rerun-t.ensures (sym (c.barred.ensures ∙ ap (λ x. barred x a.instruction a.p.low.real) c.is_stable.ensures) ∙ c.if-barred.false) w))
    (λ c κs. let w : length c.rerun-t.result.added.words ≡ 3 = search (rules, c.rerun-t.type_inv) in let a = c.args in let r = c.requires in
    let o = branch_few (role a.instruction) in let e = c.branch_of-branches.ensures in
    (listed-fits a.mode a.instruction r.0 c.rerun-t.ensures (sym (c.barred.ensures ∙ ap (λ x. barred x a.instruction a.p.low.real) c.is_stable.ensures) ∙ c.if-barred.false) w r.1, omega (arith, o, e)))
    (λ c. search rules) (λ c. search rules)
    (λ c. let w : length c.rerun-t.result.added.words ≡ 3 = search (rules, c.rerun-t.type_inv) in let a = c.args in let r = c.requires in
    turn-finished a.mode a.instruction r.0 c.rerun-t.ensures (sym (c.barred.ensures ∙ ap (λ x. barred x a.instruction a.p.low.real) c.is_stable.ensures) ∙ c.if-barred.false) w a.next r.1 c.branch_of-branches.ensures c.finish.ensures))
