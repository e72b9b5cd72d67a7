-- Distances computed in f64 are those of the words, and the code's best point is the definition's, point by point.
use mathlib.Core.Path.{◌≡◌, refl, sym, ap, ap₂, ◌∙◌, subst}
use mathlib.Core.Logic.{◌⊎◌, inl, inr}
use Prim.Native.Nat.{ℕ}
use mathlib.Core.List.{List, [], ◌∷◌}
use mathlib.Core.Bool.{Bool, true, false, true≢false, ◌||◌, cond}
use mathlib.Core.Option.{Option, none, some}
use lib.Dec.{T}
use lib.Ieee.{Float, nan, inf, fin, binary64, neg, add, sub, mul, fits, is_nan, to_bits, le, ne}
use lib.Ieee.Bits.{of_bits-to_bits, is_false}
use lib.Ieee.Fits.{add-fits, sub-fits, mul-fits}
use Rattle.float.specs.Word.{value, word, minus, times}
use Rattle.float.proofs.Nan.{only_nan, unequal, equal}
use Rattle.float.proofs.Marks.{number_word, value_word}
use Rattle.nearest.specs.Nearest.{distance, Candidate, not_farther, chosen, better}
use Rattle.nearest.specs.Apart.{apart}
use Rattle.nearest.proofs.Ties.{not_above_number, not_above_nan}

-- the square of a result, as a word and as a value
square : (ws : List ℕ) (s : Float) → T (fits binary64 s) → value (times (word ws s) (word ws s)) ≡ mul binary64 s s
square ws s h =
    let w = word ws s in
    value_word (w ∷ w ∷ []) (mul binary64 (value w) (value w)) (mul-fits binary64 (value w) (value w))
    ∙ ap (λ t. mul binary64 t t) (value_word ws s h)

-- a NaN is not lost
sub_nan : (x : Float) → sub binary64 x nan ≡ nan
unfolding sub add neg
sub_nan nan = refl
sub_nan (inf s) = refl
sub_nan (fin s m d) = refl

add_nan : (x : Float) → add binary64 x nan ≡ nan
unfolding add
add_nan nan = refl
add_nan (inf s) = refl
add_nan (fin s m d) = refl

pub across_nan : (re im y : Float) → nan ≡ apart re im nan y
unfolding add mul
across_nan re im y = ap (λ d. add binary64 (mul binary64 d d) (mul binary64 (sub binary64 im y) (sub binary64 im y))) (sym (sub_nan re))

pub up_nan : (re im x : Float) → nan ≡ apart re im x nan
unfolding mul
up_nan re im x =
    sym (add_nan (mul binary64 (sub binary64 re x) (sub binary64 re x)))
    ∙ ap (λ d. add binary64 (mul binary64 (sub binary64 re x) (sub binary64 re x)) (mul binary64 d d)) (sym (sub_nan im))

-- the sum of the squares is the distance in f64
module _ (re im x y : ℕ) where
  abbrev a : ℕ
  a = minus re x

  abbrev b : ℕ
  b = minus im y

  abbrev squares : List ℕ
  squares = times a a ∷ times b b ∷ []

  abbrev d : Float
  d = apart (value re) (value im) (value x) (value y)

  in_words : add binary64 (value (times a a)) (value (times b b)) ≡ d
  in_words =
      ap₂ (add binary64)
      (square (re ∷ x ∷ []) (sub binary64 (value re) (value x)) (sub-fits binary64 (value re) (value x)))
      (square (im ∷ y ∷ []) (sub binary64 (value im) (value y)) (sub-fits binary64 (value im) (value y)))

  -- one that is a NaN is passed over, and of a number the word goes by its value
  pub looked-at : (best : Option Candidate) (i : ℕ)
      → better not_farther best (record { index = i; far = to_bits binary64 d }) ≡ better not_farther best (record { index = i; far = distance re im x y })
  looked-at best i = go (is_nan d) refl ∙ ap (λ (v : Float). better not_farther best (record { index = i; far = word squares v })) (sym in_words)
    where
      held_by : T (fits binary64 d)
      held_by = add-fits binary64 _ _

      nothing : (w : ℕ) → value w ≡ d → is_nan d ≡ true → better not_farther best (record { index = i; far = w }) ≡ best
      nothing w v e = ap (λ n. cond n best (chosen not_farther best (record { index = i; far = w }))) (ap is_nan v ∙ e)

      go : (n : Bool) → is_nan d ≡ n → better not_farther best (record { index = i; far = to_bits binary64 d }) ≡ better not_farther best (record { index = i; far = word squares d })
      go true e = nothing (to_bits binary64 d) (of_bits-to_bits binary64 d held_by) e ∙ sym (nothing (word squares d) (value_word squares d held_by) e)
      go false e = ap (λ w. better not_farther best (record { index = i; far = w })) (number_word squares d e)

-- ---- one point further

-- the best so far: none where the least distance is a NaN
abbrev pub held : ℕ → Float → Option Candidate
held index least = cond (is_nan least) none (some (record { index = index; far = to_bits binary64 least }))

-- whether a value differs from itself tells a NaN
pub nan_differs : (x : Float) → ne x x ≡ true → is_nan x ≡ true
unfolding is_nan
nan_differs x e = ap is_nan (unequal x e)

pub number_same : (x : Float) → ne x x ≡ false → is_nan x ≡ false
number_same x e = is_false (is_nan x) (equal x e)

-- a number equals itself
number_equal : (x : Float) → is_nan x ≡ false → ne x x ≡ false
number_equal x e = go (ne x x) refl
  where
    go : (b : Bool) → ne x x ≡ b → b ≡ false
    go true u = absurd (true≢false (sym (nan_differs x u) ∙ e))
    go false u = refl

or-false : (b : Bool) → (b || false) ≡ b
or-false true = refl
or-false false = refl

module _ (index i : ℕ) (least x : Float) (k : T (fits binary64 least)) (h : T (fits binary64 x)) where
  abbrev new : Candidate
  new = record { index = i; far = to_bits binary64 x }

  abbrev old : Candidate
  old = record { index = index; far = to_bits binary64 least }

  -- the definition's tests are those of the values
  tests : (best : Option Candidate) → cond (is_nan x) best (chosen not_farther best new) ≡ better not_farther best new
  tests best = ap (λ n. cond n best (chosen not_farther best new)) (sym (ap is_nan (of_bits-to_bits binary64 x h)))

  less : le x least ≡ not_farther (to_bits binary64 x) (to_bits binary64 least)
  less = sym (ap₂ le (of_bits-to_bits binary64 x h) (of_bits-to_bits binary64 least k))

  -- none before
  first : is_nan least ≡ true → cond (le x least || ne least least) (held i x) (held index least) ≡ better not_farther (held index least) new
  unfolding ne
  first e =
      let n = only_nan least e in
      ap₂ (λ (v w : Float). cond (le x v || ne v v) (held i x) (held index w)) n n
      ∙ ap (λ b. cond (b || true) (held i x) (held index nan)) (not_above_nan x)
      ∙ tests none
      ∙ ap (λ n. better not_farther (cond n none (some old)) new) (sym e)

  -- one before
  either : (n l : Bool) → is_nan x ≡ n → le x least ≡ l → cond l (held i x) (some old) ≡ cond n (some old) (cond l (some new) (some old))
  either n true en el =
      let m = not_above_number x least el in
      ap (λ b. cond b none (some new)) m ∙ ap (λ b. cond b (some old) (some new)) (sym m ∙ en)
  either true false en el = refl
  either false false en el = refl

  later : is_nan least ≡ false → cond (le x least || ne least least) (held i x) (held index least) ≡ better not_farther (held index least) new
  later e =
      let u = number_equal least e in
      (λ j. cond (le x least || u j) (held i x) (cond (e j) none (some old)))
      ∙ ap (λ b. cond b (held i x) (some old)) (or-false (le x least))
      ∙ either (is_nan x) (le x least) refl refl
      ∙ ap (λ l. cond (is_nan x) (some old) (cond l (some new) (some old))) less
      ∙ tests (some old)
      ∙ ap (λ n. better not_farther (cond n none (some old)) new) (sym e)

  -- the code's test is the definition's
  pub turn : (n : Bool) → is_nan least ≡ n → cond (le x least || ne least least) (held i x) (held index least) ≡ better not_farther (held index least) new
  turn true e = first e
  turn false e = later e

  -- the best after a turn of the loop, by the way it went: the new point is taken, or the old one stays
  pub joined : (index' : ℕ) (least' : Float) (won : Bool) → won ≡ le x least || ne least least
      → ((won ≡ true) × (index' ≡ i) × (least' ≡ x)) ⊎ ((won ≡ false) × (index' ≡ index) × (least' ≡ least))
      → T (fits binary64 least') × (held index' least' ≡ better not_farther (held index least) new)
  joined index' least' won e (inl t) = (
    subst (λ (v : Float). T (fits binary64 v)) (sym t.2) h,
    (λ j. held (t.1 j) (t.2 j)) ∙ ap (λ w. cond w (held i x) (held index least)) (sym t.0 ∙ e) ∙ turn (is_nan least) refl,
  )
  joined index' least' won e (inr t) = (
    subst (λ (v : Float). T (fits binary64 v)) (sym t.2) k,
    (λ j. held (t.1 j) (t.2 j)) ∙ ap (λ w. cond w (held i x) (held index least)) (sym t.0 ∙ e) ∙ turn (is_nan least) refl,
  )
