-- `nearest::distance` meets its contract: 0 / 0 is the NaN that a NaN's pattern leads to.
use mathlib.Core.Path.{sym, ap, ◌∙◌}
use borrow.Author.Rules.{rules}
use lib.Ieee.{Float, of_bits, div}
use Rattle.float.specs.Word.{value}
use Rattle.float.proofs.Nan.{bits_nan, of_false}
use Rattle.nearest.specs.Apart.{apart}
use Rattle.nearest.proofs.Distances.{across_nan, up_nan}
use Rattle.nearest.proofs.distance.Statement.{statement}
use Rattle.nearest.proofs.distance.Tie as tie

pub distance_spec : {M : Type 1} → statement M
unfolding div of_bits
distance_spec =
    tie.close
    (tie.spec
    (λ c κs. search rules)
    (λ c.
    let a = c.args in
    across_nan a.re a.im (value a.y)
    ∙ ap (λ (v : Float). apart a.re a.im v (value a.y)) (sym (bits_nan a.x (sym c.is_nan.ensures ∙ c.if-is_nan.true))))
    (λ c κs. search rules)
    (λ c.
    let a = c.args in
    up_nan a.re a.im (value a.x)
    ∙ ap (λ (v : Float). apart a.re a.im (value a.x) v) (sym (bits_nan a.y (sym c.is_nan-2.ensures ∙ c.if-is_nan-2.true))))
    (λ c. of_false _ (sym c.is_nan.ensures ∙ c.if-is_nan.false))
    (λ c. of_false _ (sym c.is_nan-2.ensures ∙ c.if-is_nan-2.false))
    (λ c. search rules))
