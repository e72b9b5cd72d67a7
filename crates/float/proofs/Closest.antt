-- The nearest whole number, by how twice the rest compares with the divisor. Assumes nothing.
use mathlib.Core.Path.{◌≡◌, refl, sym, ap, ◌∙◌, subst}
use mathlib.Core.Bool.{not}
use Prim.Native.Nat.{ℕ, ◌*◌, ◌/◌, ◌%◌, ◌^◌, ◌≤◌, ◌<◌, compare, Ordering}
use native.Mathlib.Nat.{lt_of_lt_of_le, le_trans, mod-eq_of_lt, div-eq_of_lt, mul-div_cancel, mul-mod_left}
use native.Mathlib.Omega.{arith}
use lib.Pow.{pow_mono}
use lib.Dec.{T, lit≤, is_le, compare_is_eq, eqb, leb→le, nleb→lt, eqb→eq, eqb_refl}
use lib.Arith.{lt_of_le-ne}
use lib.Ieee.{nearest}
use lib.Ieee.Nearest.{closest}

-- ---- what `compare` says
abbrev pub Cmp : Ordering → ℕ → ℕ → Type 0
Cmp Ordering.lt a b = a < b
Cmp Ordering.eq a b = a ≡ b
Cmp Ordering.gt a b = b < a

pub cmp : (a b : ℕ) → Cmp (compare a b) a b
cmp a b = go (compare a b) (leb→le a b) (nleb→lt a b) (eqb→eq a b) (λ (e : a ≡ b). subst (λ (x : ℕ). T (eqb a x)) e (eqb_refl a))
  where
    go : (o : Ordering) → (T (is_le o) → a ≤ b) → (T (not (is_le o)) → b < a) → (T (compare_is_eq o) → a ≡ b) → (a ≡ b → T (compare_is_eq o)) → Cmp o a b
    go Ordering.lt h k e n = lt_of_le-ne (h tt) n
    go Ordering.eq h k e n = e tt
    go Ordering.gt h k e n = k tt

-- there is one way to compare two numbers
cmp_one : (o p : Ordering) (a b : ℕ) → Cmp o a b → Cmp p a b → o ≡ p
cmp_one Ordering.lt Ordering.lt a b x y = refl
cmp_one Ordering.lt Ordering.eq a b x y = absurd (omega (arith, x, y))
cmp_one Ordering.lt Ordering.gt a b x y = absurd (omega (arith, x, y))
cmp_one Ordering.eq Ordering.lt a b x y = absurd (omega (arith, x, y))
cmp_one Ordering.eq Ordering.eq a b x y = refl
cmp_one Ordering.eq Ordering.gt a b x y = absurd (omega (arith, x, y))
cmp_one Ordering.gt Ordering.lt a b x y = absurd (omega (arith, x, y))
cmp_one Ordering.gt Ordering.eq a b x y = absurd (omega (arith, x, y))
cmp_one Ordering.gt Ordering.gt a b x y = refl

pub cmp_is : (o : Ordering) (a b : ℕ) → Cmp o a b → compare a b ≡ o
cmp_is o a b h = cmp_one (compare a b) o a b (cmp a b) h

-- two numbers that stand to each other as two others do
pub cmp_as : (o : Ordering) (a b c d : ℕ) → (a < b → c < d) → (a ≡ b → c ≡ d) → (b < a → d < c) → Cmp o a b → Cmp o c d
cmp_as Ordering.lt a b c d f g h x = f x
cmp_as Ordering.eq a b c d f g h x = g x
cmp_as Ordering.gt a b c d f g h x = h x

pub closest_by : (o : Ordering) (a b : ℕ) → Cmp o (a % b * 2) b → closest a b ≡ nearest (a / b) o
closest_by o a b h = ap (nearest (a / b)) (cmp_is o (a % b * 2) b h)

pub closest_exact : (n c : ℕ) → 0 < c → closest (n * c) c ≡ n
closest_exact n c C = closest_by Ordering.lt (n * c) c (omega (arith, mul-mod_left n c)) ∙ mul-div_cancel n C

-- a number of 63 digits, 64 or more of which stand below the point
pub closest_none : (w t : ℕ) → w < 2 ^ 63 → 64 ≤ t → closest w (2 ^ t) ≡ 0
closest_none w t hi h =
    let big : 2 ^ 64 ≤ 2 ^ t = pow_mono h in
    let w-lt : w < 2 ^ t = lt_of_lt_of_le hi (le_trans (lit≤ tt) big) in
    closest_by Ordering.lt w (2 ^ t) (subst (λ (x : ℕ). x * 2 < 2 ^ t) (sym (mod-eq_of_lt w-lt)) (lt_of_lt_of_le (omega arith) big)) ∙ div-eq_of_lt w-lt
