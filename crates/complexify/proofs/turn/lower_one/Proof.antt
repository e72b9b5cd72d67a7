-- `lower_one` meets its contract.
use borrow.Author.Rules.{rules}
use native.Mathlib.Omega.{arith}
use mathlib.Core.Path.{◌≡◌, sym, ap, ◌∙◌}
use lib.ListN.{length, take, length-take}
use Rattle.lowering.specs.Lower.{barred}
use Rattle.complexify.proofs.Turns.{turn-barred, turn-finished, listed-few, listed-length, listed-fits}
use Rattle.complexify.proofs.turn.lower_one.Statement.{statement}
use Rattle.complexify.proofs.turn.lower_one.Tie as tie

pub lower_one_spec : {M : Type 1} → statement M
lower_one_spec =
    tie.close
    (tie.spec
    (λ c κs. search rules) (λ c κs. search rules) (λ c κs. search rules)
    (λ c. simp c.refused.ensures (turn-barred c.requires.0 (sym (c.barred.ensures ∙ ap (λ x. barred x c.args.instruction c.args.p.low.real) c.is_stable.ensures) ∙ c.if-barred.true)))
    (λ c. let r = c.requires.0 in omega (arith, r.count, r.words))
    (λ c. let r = c.requires.0 in let l : length (take c.args.p.count c.args.constants.now) ≡ c.args.p.count = simp length-take (omega (arith, r.count, r.words)) in sym l)
    (λ c κs. search rules)
    (λ c. let w : length c.rerun-t.result.added.words ≡ 3 = search (rules, c.rerun-t.type_inv) in let h = listed-few c.args.mode c.args.instruction c.requires.0 c.rerun-t.ensures (sym (c.barred.ensures ∙ ap (λ x. barred x c.args.instruction c.args.p.low.real) c.is_stable.ensures) ∙ c.if-barred.false) w in let q = c.rerun-t.auto.out in let g = c.requires.0.stage in omega (arith, h, q, g))
    (λ c. let w : length c.rerun-t.result.added.words ≡ 3 = search (rules, c.rerun-t.type_inv) in let h = listed-length c.args.mode c.args.instruction c.requires.0 c.rerun-t.ensures (sym (c.barred.ensures ∙ ap (λ x. barred x c.args.instruction c.args.p.low.real) c.is_stable.ensures) ∙ c.if-barred.false) w in sym h)
    (λ c κs. let w : length c.rerun-t.result.added.words ≡ 3 = search (rules, c.rerun-t.type_inv) in let h = listed-fits c.args.mode c.args.instruction c.requires.0 c.rerun-t.ensures (sym (c.barred.ensures ∙ ap (λ x. barred x c.args.instruction c.args.p.low.real) c.is_stable.ensures) ∙ c.if-barred.false) w in h c.requires.1)
    (λ c. search rules) (λ c. search rules) (λ c. search rules)
    (λ c. let w : length c.rerun-t.result.added.words ≡ 3 = search (rules, c.rerun-t.type_inv) in turn-finished c.args.mode c.args.instruction c.requires.0 c.rerun-t.ensures (sym (c.barred.ensures ∙ ap (λ x. barred x c.args.instruction c.args.p.low.real) c.is_stable.ensures) ∙ c.if-barred.false) w c.args.next c.finish.ensures))
