-- The mends of specs/Mends.antt lead to the whole root, in eight at most (`EightMends`). Of a distance d each of Heron's leaves d * d / 2 ^ 28 at most, or 2; the one with
-- 26 digits more ends at the whole root or a unit above it. Assumes nothing.
use mathlib.Core.Path.{◌≡◌, refl, sym, ap, subst}
use mathlib.Core.Bool.{Bool, true, false, not, cond}
use mathlib.Core.Logic.{◌⊎◌, inl, inr}
use Prim.Native.Nat.{ℕ, ◌+◌, ◌-◌, ◌*◌, ◌/◌, ◌%◌, ◌^◌, ◌≤◌, ◌<◌}
use native.Mathlib.Nat.{mod-lt, div-add-mod', div-lt_iff_lt-mul, le-div_iff_mul-le, mul-le-mul, mul-le-mul_left, mul-le-mul_right, le_of_mul-le-mul_right, lt_of_mul-lt-mul_right, lt_of_not-le, lt_irrefl}
use native.Mathlib.Omega.{arith}
use borrow.Author.Tests.{le-leb, lt-leb}
use lib.Dec.{T, leb, leb→le, nleb→lt, lit≤}
use Rattle.float.specs.Laws.{IsWholeRoot}
use Rattle.float.specs.Mends.{estimate, middle, above, mended, EightMends}

-- ---- estimates of 27 digits
-- u is d at most from m / u
abbrev pub Off : ℕ → ℕ → ℕ → Type 0
Off m u d = (u * u ≤ m + d * u) × (m ≤ u * u + d * u)

quotient : (m u d : ℕ) → 0 < u → Off m u d → (u ≤ m / u + d) × (m / u ≤ u + d)
quotient m u d p h =
    let cut = div-add-mod' m u in
    let rest = mod-lt m p in
    let hi : u < m / u + d + 1 = lt_of_mul-lt-mul_right u (omega (arith, cut, rest, h.0)) in
    (omega (arith, hi), le_of_mul-le-mul_right {m = m / u} {n = u + d} {k = u} (omega (arith, cut, h.1)) p)

-- the square of a sum by the product, where the two are d apart at most
abbrev Squares : ℕ → ℕ → ℕ → Type 0
Squares x y d = (4 * (x * y) ≤ (x + y) * (x + y)) × ((x + y) * (x + y) ≤ 4 * (x * y) + d * d)

squares : (x y d : ℕ) → x ≤ y + d → y ≤ x + d → Squares x y d
squares x y d g h = go (leb x y) (leb→le x y) (nleb→lt x y)
  where
    up : (x y k : ℕ) → k ≤ d → y ≡ x + k → Squares x y d
    up x y k l is =
        let by-x : x * y ≡ x * (x + k) = ap (λ (z : ℕ). x * z) is in
        let square : y * y ≡ (x + k) * (x + k) = ap (λ (z : ℕ). z * z) is in
        (omega (arith, by-x, square), omega (arith, by-x, square, mul-le-mul l l))

    go : (b : Bool) → (T b → x ≤ y) → (T (not b) → y < x) → Squares x y d
    go true s t = let l = s tt in up x y (y - x) (omega (arith, l)) (omega (arith, l))
    go false s t = let l = t tt in let r = up y x (x - y) (omega (arith, l)) (omega (arith, l)) in (omega (arith, r.0), omega (arith, r.1))

product : (x y : ℕ) → 4 * (x * y) ≤ (x + y) * (x + y)
product x y = (squares x y (x + y) (omega arith) (omega arith)).0

estimated : (m : ℕ) → 2 ^ 52 ≤ m → m < 2 ^ 54 → Off m (estimate m).value (3 * 2 ^ 23)
estimated m lo hi = go (m / 2 ^ 28) (omega arith) (omega arith) (omega arith) (omega arith)
  where
    go : (h : ℕ) → 2 ^ 24 ≤ h → h ≤ 2 ^ 26 → h * 2 ^ 28 ≤ m → m < h * 2 ^ 28 + 2 ^ 28 → Off m (h + 27 * 2 ^ 21) (3 * 2 ^ 23)
    go h l g k n = (omega (arith, mul-le-mul_right h g), omega (arith, product h (7 * 2 ^ 23)))

-- what a mend leaves
abbrev pub Near : ℕ → ℕ → ℕ → Type 0
Near m u d = Off m u d × (2 ^ 26 ≤ u)

-- where u is off by d, the middle v is off by d * d / 2 ^ 28 at most, or by 2
closer : (m u v d e : ℕ) → 2 ^ 52 ≤ m → 0 < u → Off m u d → v ≡ middle m u → 2 ≤ e → d * d ≤ e * 2 ^ 28 → Near m v e
closer m u v d e big p h is two small = go (m / u) (m % u) (div-add-mod' m u) (mod-lt m p) (quotient m u d p h) (omega arith) (omega arith)
  where
    go : (a r : ℕ) → a * u + r ≡ m → r < u → (u ≤ a + d) × (a ≤ u + d) → 2 * v ≤ u + a → u + (a + 1) ≤ 2 * v + 2 → Near m v e
    go a r cut rest near lo hi =
        let high : m ≤ v * v + 2 * v = omega (arith, product u (a + 1), mul-le-mul hi hi) in
        let low : 2 ^ 26 - 1 < v = lt_of_not-le (λ (g : v ≤ 2 ^ 26 - 1). lt_irrefl 0 (omega (arith, mul-le-mul g g, high))) in
        let by-e : e * 2 ^ 26 ≤ e * v = mul-le-mul_left e (omega (arith, low)) in
        ((omega (arith, (squares u a d near.0 near.1).1, mul-le-mul lo lo, by-e), omega (arith, high, mul-le-mul_right v two)), omega (arith, low))

-- the three mends of the estimate
abbrev pub once : ℕ → ℕ
once m = middle m (estimate m).value

abbrev pub twice : ℕ → ℕ
twice m = middle m (once m)

abbrev pub thrice : ℕ → ℕ
thrice m = middle m (twice m)

module _ (m : ℕ) (lo : 2 ^ 52 ≤ m) (hi : m < 2 ^ 54) where
  pub near-once : Near m (once m) (9 * 2 ^ 18)
  near-once = closer m (estimate m).value (once m) (3 * 2 ^ 23) (9 * 2 ^ 18) lo (omega arith) (estimated m lo hi) refl (lit≤ tt) (lit≤ tt)

  pub near-twice : Near m (twice m) (81 * 2 ^ 8)
  near-twice = let h = near-once in closer m (once m) (twice m) (9 * 2 ^ 18) (81 * 2 ^ 8) lo (omega (arith, h.1)) h.0 refl (lit≤ tt) (lit≤ tt)

  pub near-thrice : Near m (thrice m) 2
  near-thrice = let h = near-twice in closer m (twice m) (thrice m) (81 * 2 ^ 8) 2 lo (omega (arith, h.1)) h.0 refl (lit≤ tt) (lit≤ tt)

-- ---- the mend with 26 digits more, from w * 2 ^ 26, by divisions of m
abbrev pub long : ℕ → ℕ → ℕ
long m w = (w + m / w) * 2 ^ 25 + m % w * 2 ^ 25 / w

pub long_is : (m w : ℕ) → 0 < w → long m w ≡ middle (m * 2 ^ 52) (w * 2 ^ 26)
long_is m w p = go (m / w) (m % w) (m % w * 2 ^ 25 / w) (m % w * 2 ^ 25 % w) (div-add-mod' m w) (div-add-mod' (m % w * 2 ^ 25) w) (mod-lt (m % w * 2 ^ 25) p)
  where
    pos : 0 < w * 2 ^ 26
    pos = omega (arith, p)

    go : (a b c d : ℕ) → a * w + b ≡ m → c * w + d ≡ b * 2 ^ 25 → d < w → (w + a) * 2 ^ 25 + c ≡ middle (m * 2 ^ 52) (w * 2 ^ 26)
    go a b c d cut cut-2 rest =
        let k : ℕ = a * 2 ^ 26 + 2 * c in
        let lo : k ≤ m * 2 ^ 52 / (w * 2 ^ 26) = (le-div_iff_mul-le {k = w * 2 ^ 26} {x = k} {y = m * 2 ^ 52} pos).1 (omega (arith, cut, cut-2)) in
        let hi : m * 2 ^ 52 / (w * 2 ^ 26) < k + 2 = (div-lt_iff_lt-mul {k = w * 2 ^ 26} {x = m * 2 ^ 52} {y = k + 2} pos).1 (omega (arith, cut, cut-2, rest)) in
        half (m * 2 ^ 52 / (w * 2 ^ 26)) lo hi
      where
        half : (x : ℕ) → a * 2 ^ 26 + 2 * c ≤ x → x < a * 2 ^ 26 + 2 * c + 2 → (w + a) * 2 ^ 25 + c ≡ (w * 2 ^ 26 + x) / 2
        half x lo hi = omega arith

-- what the divisions give
abbrev pub Divided : ℕ → ℕ → Type 0
Divided m w = (w < 2 ^ 28) × (w ≤ m / w + 2) × (m / w ≤ w + 2) × (m % w < w) × (m % w * 2 ^ 25 / w < 2 ^ 25) × (m % w * 2 ^ 25 % w < w)

pub divided : (m w : ℕ) → m < 2 ^ 54 → 0 < w → Off m w 2 → Divided m w
divided m w hi p off =
    let top : w < 2 ^ 28 = lt_of_not-le (λ (g : 2 ^ 28 ≤ w). lt_irrefl 0 (omega (arith, mul-le-mul_right w g, off.0))) in
    let by = quotient m w 2 p off in
    let rest = mod-lt m p in
    (top, by.0, by.1, rest, (div-lt_iff_lt-mul p).1 (omega (arith, rest)), mod-lt (m % w * 2 ^ 25) p)

-- q by its square: close enough to n for one unit to be all that is left
abbrev pub Close : ℕ → ℕ → ℕ → ℕ → Type 0
Close n q under over = (q * q + under ≡ n + over) × (under ≤ 2 * q + over) × (over ≤ 2 ^ 52)

-- where q is t from w * 2 ^ 26
pub close : (m w t : ℕ) → 0 < w → Off m w 2 → Divided m w → (long m w ≡ w * 2 ^ 26 + t) ⊎ (w * 2 ^ 26 ≡ long m w + t)
    → Close (m * 2 ^ 52) (long m w) (m % w * 2 ^ 25 % w * 2 ^ 27) (t * t)
close m w t p off f = go (m / w) (m % w) (m % w * 2 ^ 25 / w) (m % w * 2 ^ 25 % w) (div-add-mod' m w) (div-add-mod' (m % w * 2 ^ 25) w) f.5 f.1
  where
    go : (a b c d : ℕ) → a * w + b ≡ m → c * w + d ≡ b * 2 ^ 25 → d < w → w ≤ a + 2
        → ((w + a) * 2 ^ 25 + c ≡ w * 2 ^ 26 + t) ⊎ (w * 2 ^ 26 ≡ (w + a) * 2 ^ 25 + c + t) → Close (m * 2 ^ 52) ((w + a) * 2 ^ 25 + c) (d * 2 ^ 27) (t * t)
    go a b c d cut cut-2 rest lo (inl e) =
        let by-w : w * (a * 2 ^ 25 + c) ≡ w * (w * 2 ^ 25 + t) = ap (λ (x : ℕ). w * x) (omega arith) in
        let square : ((w + a) * 2 ^ 25 + c) * ((w + a) * 2 ^ 25 + c) ≡ (w * 2 ^ 26 + t) * (w * 2 ^ 26 + t) = ap (λ (x : ℕ). x * x) e in
        let far : t ≤ 2 ^ 26 = le_of_mul-le-mul_right {m = t} {n = 2 ^ 26} {k = w} (omega (arith, by-w, off.1)) p in
        (omega (arith, square, by-w), omega arith, omega (arith, mul-le-mul far far))
    go a b c d cut cut-2 rest lo (inr e) =
        let by-w : w * (a * 2 ^ 25 + c + t) ≡ w * (w * 2 ^ 25) = ap (λ (x : ℕ). w * x) (omega arith) in
        let by-t : t * ((w + a) * 2 ^ 25 + c + t) ≡ t * (w * 2 ^ 26) = ap (λ (x : ℕ). t * x) (sym e) in
        let square : ((w + a) * 2 ^ 25 + c + t) * ((w + a) * 2 ^ 25 + c + t) ≡ w * 2 ^ 26 * (w * 2 ^ 26) = ap (λ (x : ℕ). x * x) (sym e) in
        let far : t ≤ 2 ^ 26 = omega arith in
        (omega (arith, square, by-t, by-w), omega (arith, product t 1), omega (arith, mul-le-mul far far))

-- ---- the last mend
-- the test of the code is that of the definition
pub above_is : (n q under over : ℕ) → q * q + under ≡ n + over → cond (leb over under) 0 1 ≡ above n q
above_is n q under over is = go (leb over under) (leb→le over under) (nleb→lt over under)
  where
    go : (b : Bool) → (T b → over ≤ under) → (T (not b) → under < over) → cond b 0 1 ≡ above n q
    go true y x = let l = y tt in sym (ap (λ (b : Bool). cond b 0 1) (le-leb (q * q) n (omega (arith, is, l))))
    go false y x = let l = x tt in sym (ap (λ (b : Bool). cond b 0 1) (lt-leb (q * q) n (omega (arith, is, l))))

-- the square of a number one lower
pub less : (q p : ℕ) → q ≡ p + 1 → q * q ≡ p * p + 2 * p + 1
less q p e = omega (arith, ap (λ (x : ℕ). x * x) e)

lowered : (n q under over : ℕ) → Close n q under over → 2 ^ 52 < 2 * q → IsWholeRoot n (q - above n q)
lowered n q under over near big = go (leb (q * q) n) (leb→le (q * q) n) (nleb→lt (q * q) n)
  where
    go : (b : Bool) → (T b → q * q ≤ n) → (T (not b) → n < q * q) → IsWholeRoot n (q - cond b 0 1)
    go true y x = let l = y tt in subst (λ (p : ℕ). IsWholeRoot n p) {x = q} {y = q - 0} (omega arith) (l, omega (arith, near))
    go false y x =
        let l = x tt in
        let back : q ≡ q - 1 + 1 = omega (arith, big) in
        let square = less q (q - 1) back in
        (omega (arith, near, square, big), omega (arith, l, square))

-- ---- "in a proved eight steps at most"
lengthened : (m w : ℕ) → m < 2 ^ 54 → Near m w 2 → IsWholeRoot (m * 2 ^ 52) (middle (m * 2 ^ 52) (w * 2 ^ 26) - above (m * 2 ^ 52) (middle (m * 2 ^ 52) (w * 2 ^ 26)))
lengthened m w hi near = subst (λ (q : ℕ). IsWholeRoot (m * 2 ^ 52) (q - above (m * 2 ^ 52) q)) (long_is m w positive) (by (leb (w * 2 ^ 26) (long m w)) (leb→le (w * 2 ^ 26) (long m w)) (nleb→lt (w * 2 ^ 26) (long m w)))
  where
    positive : 0 < w
    positive = omega (arith, near.1)

    f : Divided m w
    f = divided m w hi positive near.0

    from : (t : ℕ) → (long m w ≡ w * 2 ^ 26 + t) ⊎ (w * 2 ^ 26 ≡ long m w + t) → IsWholeRoot (m * 2 ^ 52) (long m w - above (m * 2 ^ 52) (long m w))
    from t e = lowered (m * 2 ^ 52) (long m w) (m % w * 2 ^ 25 % w * 2 ^ 27) (t * t) (close m w t positive near.0 f e) (omega (arith, near.1, f))

    by : (b : Bool) → (T b → w * 2 ^ 26 ≤ long m w) → (T (not b) → long m w < w * 2 ^ 26) → IsWholeRoot (m * 2 ^ 52) (long m w - above (m * 2 ^ 52) (long m w))
    by true y x = let l = y tt in from (long m w - w * 2 ^ 26) (inl (omega (arith, l)))
    by false y x = let l = x tt in from (w * 2 ^ 26 - long m w) (inr (omega (arith, l)))

pub eight-mends : EightMends mended
unfolding mended
eight-mends m lo hi =
    let q : ℕ = middle (m * 2 ^ 52) (thrice m * 2 ^ 26) in
    (lengthened m (thrice m) hi (near-thrice m lo hi), few (leb (q * q) (m * 2 ^ 52)))
  where
    few : (b : Bool) → 4 + cond b 0 1 ≤ 8
    few true = lit≤ tt
    few false = lit≤ tt
