-- The larger of words is associative, so that the largest of a list is that of its parts' largest. Assumes nothing.
use Prim.Native.Nat.{ℕ}
use mathlib.Core.Path.{◌≡◌, refl, sym, ap, ◌∙◌}
use mathlib.Core.Bool.{Bool, true, false, ◌||◌, cond, true≢false}
use mathlib.Core.List.{List, [], ◌∷◌, ◌++◌}
use lib.Ieee.{Float, is_nan, lt, of_bits}
use Rattle.float.specs.Word.{value}
use Rattle.peak.specs.Peak.{larger, largest}
use Rattle.float.proofs.Order.{not_below_through, above_number, below_trans}

-- whether the later of two values is taken
abbrev yields : Float → Float → Bool
yields x y = is_nan x || lt x y

or-true : (a b c : Bool) → (b ≡ true → c ≡ true) → a || b ≡ true → a || c ≡ true
or-true true b c h e = refl
or-true false b c h e = h e

or-false : (a b : Bool) → a || b ≡ false → (a ≡ false) × (b ≡ false)
or-false true b e = absurd (true≢false e)
or-false false b e = (refl, e)

yields_trans : (x y z : Float) → yields x y ≡ true → yields y z ≡ true → yields x z ≡ true
yields_trans x y z p q = or-true (is_nan x) (lt x y) (lt x z) (λ l. below_trans x y z l (number (is_nan y) (lt y z) (above_number x y l) q)) p
  where
    number : (a b : Bool) → a ≡ false → a || b ≡ true → b ≡ true
    number true b n e = absurd (true≢false n)
    number false b n e = e

stays_through : (x y z : Float) → yields x y ≡ false → yields y z ≡ false → yields x z ≡ false
stays_through x y z p q =
    let a = or-false (is_nan x) (lt x y) p in
    let b = or-false (is_nan y) (lt y z) q in
    ap (λ t. t || lt x z) a.0 ∙ not_below_through x y z b.0 a.1 b.1

takes : (a b : ℕ) {t : Bool} → yields (value a) (value b) ≡ t → larger a b ≡ cond t b a
unfolding larger
takes a b e = ap (λ t. cond t b a) e

pub associative : (a b c : ℕ) → larger a (larger b c) ≡ larger (larger a b) c
associative a b c = cases (yields (value a) (value b)) (yields (value b) (value c)) refl refl
  where
    cases : (t u : Bool) → yields (value a) (value b) ≡ t → yields (value b) (value c) ≡ u → larger a (larger b c) ≡ larger (larger a b) c
    cases true true p q =
        ap (larger a) (takes b c q) ∙ takes a c (yields_trans (value a) (value b) (value c) p q) ∙ sym (takes b c q) ∙ ap (λ x. larger x c) (sym (takes a b p))
    cases true false p q = ap (larger a) (takes b c q) ∙ takes a b p ∙ sym (takes b c q) ∙ ap (λ x. larger x c) (sym (takes a b p))
    cases false true p q = ap (larger a) (takes b c q) ∙ ap (λ x. larger x c) (sym (takes a b p))
    cases false false p q =
        ap (larger a) (takes b c q) ∙ takes a b p ∙ sym (takes a c (stays_through (value a) (value b) (value c) p q)) ∙ ap (λ x. larger x c) (sym (takes a b p))

pub largest_append : (s t : List ℕ) → largest (s ++ t) ≡ larger (largest s) (largest t)
unfolding largest is_nan of_bits
largest_append [] t = refl
largest_append (a ∷ s) t = ap (larger a) (largest_append s t) ∙ associative a (largest s) (largest t)
