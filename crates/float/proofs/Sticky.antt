-- A sticky digit. w units stand for x where they are x, or where w is odd and x lies strictly between the two even numbers of units around it (`Near`).
-- Then x and w units are on the same side of every even number of units, and so they round alike as soon as two digits of w are to be dropped (`sticky-round`).
-- Assumes nothing.
use mathlib.Core.Path.{◌≡◌, refl, sym, ap, ap₂, ◌∙◌, subst}
use mathlib.Core.Logic.{◌⊎◌, inl, inr}
use mathlib.Core.Bool.{Bool, true, false, not}
use Prim.Native.Nat.{ℕ, zero, suc, ◌+◌, ◌-◌, ◌*◌, ◌/◌, ◌%◌, ◌^◌, ◌≤◌, ◌<◌, compare}
use native.Mathlib.Nat.{lt_of_mul-lt-mul_right, add-lt-add_of_lt_of_le, le_refl, le_trans, le_of_eq, le_antisymm, lt_of_lt_of_le, lt_of_le_of_lt, lt_of_not-le, not-le_of_lt, lt_irrefl, le_of_suc-le-suc, mul_assoc, mul-le-mul_right, mul-lt-mul_of_pos_right, add-mul, div-eq_of_lt-le, div-add-mod', mod-lt, le-div_iff_mul-le, div-lt_iff_lt-mul}
use native.Mathlib.Omega.{arith}
use lib.Dec.{T, leb, leb→le, nleb→lt}
use lib.Pow.{pow-add, pow_pos, pow_mono}
use lib.Ieee.{binary64, size, nearest, units, round}
use lib.Ieee.Digits.{size-lt, size-le}
use lib.Ieee.Fits.{round_is}
use lib.Ieee.Nearest.{closest}
use Rattle.float.specs.Near.{Near}
use Rattle.float.proofs.Closest.{cmp, cmp_is, cmp_as}

-- x and y are on the same side of m
abbrev Sides : ℕ → ℕ → ℕ → Type 0
Sides x y m = ((m < x) × (m < y)) ⊎ (((x < m) × (y < m)) ⊎ ((x ≡ m) × (y ≡ m)))

same_sides : (x m : ℕ) → Sides x x m
same_sides x m = go (leb m x) (leb→le m x) (nleb→lt m x) (leb x m) (leb→le x m) (nleb→lt x m)
  where
    go : (s : Bool) → (T s → m ≤ x) → (T (not s) → x < m) → (t : Bool) → (T t → x ≤ m) → (T (not t) → m < x) → Sides x x m
    go true a b true c d = inr (inr (le_antisymm (c tt) (a tt), le_antisymm (c tt) (a tt)))
    go true a b false c d = inl (d tt, d tt)
    go false a b t c d = inr (inl (b tt, b tt))

-- i even numbers of units
near_sides : (x w u i : ℕ) → Near x w u → Sides x (w * u) (2 * i * u)
near_sides x w u i (inl e) = subst (λ (y : ℕ). Sides y (w * u) (2 * i * u)) (sym e) (same_sides (w * u) (2 * i * u))
near_sides x w u i (inr n) = go (leb w (2 * i)) (leb→le w (2 * i)) (nleb→lt w (2 * i))
  where
    go : (t : Bool) → (T t → w ≤ 2 * i) → (T (not t) → 2 * i < w) → Sides x (w * u) (2 * i * u)
    go true a b =
        let l : w + 1 ≤ 2 * i = next w i (a tt) n.0 in
        let m : (w + 1) * u ≤ 2 * i * u = mul-le-mul_right u l in
        inr (inl (omega (arith, n.2, m), omega (arith, n.1, n.2, m)))
      where
        next : (w i : ℕ) → w ≤ 2 * i → w % 2 ≡ 1 → w + 1 ≤ 2 * i
        next w i h o = omega arith
    go false a b =
        let m : (2 * i + 1) * u ≤ w * u = mul-le-mul_right u (omega (arith, b tt)) in
        inl (omega (arith, n.1, m), omega (arith, n.1, n.2, m))

-- a unit of 2 ^ p, and a larger power of two
pow_sides : (x w p j m : ℕ) → Near x w (2 ^ p) → p < j → Sides x (w * 2 ^ p) (m * 2 ^ j)
pow_sides x w p j m n h =
    subst (Sides x (w * 2 ^ p))
    (sym (ap (λ (z : ℕ). m * 2 ^ z) {x = j} {y = j - suc p + suc p} (omega arith) ∙ ap (λ (z : ℕ). m * z) (pow-add 2 (j - suc p) (suc p)) ∙ shape m (2 ^ (j - suc p)) p))
    (near_sides x w (2 ^ p) (m * 2 ^ (j - suc p)) n)
  where
    shape : (m a p : ℕ) → m * (a * 2 ^ suc p) ≡ 2 * (m * a) * 2 ^ p
    shape m a p = ap (λ (z : ℕ). m * (a * z)) (native.Mathlib.Nat.pow-succ' 2 p) ∙ omega arith

below_of : (x y m : ℕ) → Sides x y m → x < m → y < m
below_of x y m (inl s) h = omega (arith, s.0)
below_of x y m (inr (inl s)) h = s.1
below_of x y m (inr (inr s)) h = omega (arith, s.0)

equal_of : (x y m : ℕ) → Sides x y m → x ≡ m → y ≡ m
equal_of x y m (inl s) h = absurd (no m x s.0 h)
  where
    no : (m x : ℕ) → m < x → x ≡ m → ⊥
    no m x a b = omega arith
equal_of x y m (inr (inl s)) h = absurd (no m x s.0 h)
  where
    no : (m x : ℕ) → x < m → x ≡ m → ⊥
    no m x a b = omega arith
equal_of x y m (inr (inr s)) h = s.1

above_of : (x y m : ℕ) → Sides x y m → m < x → m < y
above_of x y m (inl s) h = s.1
above_of x y m (inr (inl s)) h = omega (arith, s.0)
above_of x y m (inr (inr s)) h = omega (arith, s.0)

flip : (x y m : ℕ) → Sides x y m → Sides y x m
flip x y m (inl s) = inl (s.1, s.0)
flip x y m (inr (inl s)) = inr (inl (s.1, s.0))
flip x y m (inr (inr s)) = inr (inr (s.1, s.0))

atleast_of : (x y m : ℕ) → Sides x y m → m ≤ x → m ≤ y
atleast_of x y m s h = le_of_suc-le-suc (lt_of_not-le (λ (g : suc y ≤ m). not-le_of_lt (below_of y x m (flip x y m s) g) h))

-- ---- numbers on the same sides of every half unit have the same nearest whole number
module _ (x y h : ℕ) (H : 0 < h) (sides : (j : ℕ) → Sides x y (j * h)) where
  whole : x / (2 * h) ≡ y / (2 * h)
  whole =
      let u = 2 * h in
      let q = y / u in
      let U : 0 < u = omega arith in
      let lo : q * u ≤ y = (le-div_iff_mul-le U).0 (native.Mathlib.Nat.le_refl q) in
      let hi : y < (q + 1) * u = (div-lt_iff_lt-mul U).0 (omega arith) in
      div-eq_of_lt-le u
      (atleast_of y x (q * u) (flip x y (q * u) (subst (Sides x y) (two q h) (sides (2 * q)))) lo)
      (below_of y x ((q + 1) * u) (flip x y ((q + 1) * u) (subst (Sides x y) (two (q + 1) h) (sides (2 * (q + 1))))) hi)
    where
      two : (q h : ℕ) → 2 * q * h ≡ q * (2 * h)
      two q h = omega arith

  pub closest-sides : closest x (2 * h) ≡ closest y (2 * h)
  closest-sides =
      let u = 2 * h in
      let q = y / u in
      let ex : q * u + x % u ≡ x = subst (λ (z : ℕ). z * u + x % u ≡ x) whole (div-add-mod' x u) in
      let ey : q * u + y % u ≡ y = div-add-mod' y u in
      let s : Sides x y (q * u + h) = subst (Sides x y) (mid q h) (sides (2 * q + 1)) in
      ap₂ nearest whole
      (sym (cmp_is (compare (x % u * 2) u) (y % u * 2) u (cmp_as (compare (x % u * 2) u) (x % u * 2) u (y % u * 2) u
      (λ (l : x % u * 2 < u). let m : y < q * u + h = below_of x y (q * u + h) s (omega (arith, ex, l)) in omega (arith, ey, m))
      (λ (l : x % u * 2 ≡ u). let m : y ≡ q * u + h = equal_of x y (q * u + h) s (omega (arith, ex, l)) in omega (arith, ey, m))
      (λ (l : u < x % u * 2). let m : q * u + h < y = above_of x y (q * u + h) s (omega (arith, ex, l)) in omega (arith, ey, m))
      (cmp (x % u * 2) u))))
    where
      mid : (q h : ℕ) → (2 * q + 1) * h ≡ q * (2 * h) + h
      mid q h = omega arith

-- ---- and the same number of digits
size_mono : (x y c : ℕ) → 0 < c → ((j : ℕ) → 2 ^ j * c ≤ x → 2 ^ j * c ≤ y) → size (x / c) ≤ size (y / c)
size_mono x y c C f =
    let z = size (y / c) in
    size-le (x / c) z
    (lt_of_not-le (λ (g : 2 ^ z ≤ x / c). not-le_of_lt (size-lt (y / c)) ((le-div_iff_mul-le C).1 (f z ((le-div_iff_mul-le C).0 g)))))

module _ (x w p b : ℕ) (n : Near x w (2 ^ p)) (big : 2 ^ 62 ≤ w) where
  reaches : (2 ^ p ≤ x) × (2 ^ p ≤ w * 2 ^ p)
  reaches = let m : 2 * 2 ^ p ≤ w * 2 ^ p = mul-le-mul_right (2 ^ p) (omega arith) in (go n m, omega (arith, m))
    where
      go : Near x w (2 ^ p) → 2 * 2 ^ p ≤ w * 2 ^ p → 2 ^ p ≤ x
      go (inl e) m = omega arith
      go (inr t) m = omega (arith, t.1)

  pow-agree : (j : ℕ) → (2 ^ j * 2 ^ b ≤ x → 2 ^ j * 2 ^ b ≤ w * 2 ^ p) × (2 ^ j * 2 ^ b ≤ w * 2 ^ p → 2 ^ j * 2 ^ b ≤ x)
  pow-agree j = go (leb (j + b) p) (leb→le (j + b) p) (nleb→lt (j + b) p)
    where
      low : j + b ≤ p → 2 ^ j * 2 ^ b ≤ 2 ^ p
      low h = le_trans (le_of_eq (sym (pow-add 2 j b))) (pow_mono h)

      go : (t : Bool) → (T t → j + b ≤ p) → (T (not t) → p < j + b) → (2 ^ j * 2 ^ b ≤ x → 2 ^ j * 2 ^ b ≤ w * 2 ^ p) × (2 ^ j * 2 ^ b ≤ w * 2 ^ p → 2 ^ j * 2 ^ b ≤ x)
      go true a c = ((λ _. le_trans (low (a tt)) reaches.1), (λ _. le_trans (low (a tt)) reaches.0))
      go false a c =
          let s : Sides x (w * 2 ^ p) (2 ^ j * 2 ^ b) = subst (Sides x (w * 2 ^ p)) (native.Mathlib.Nat.one-mul (2 ^ (j + b)) ∙ pow-add 2 j b) (pow_sides x w p (j + b) 1 n (c tt)) in
          (atleast_of x (w * 2 ^ p) (2 ^ j * 2 ^ b) s, atleast_of (w * 2 ^ p) x (2 ^ j * 2 ^ b) (flip x (w * 2 ^ p) (2 ^ j * 2 ^ b) s))

  sizes : size (x / 2 ^ b) ≡ size (w * 2 ^ p / 2 ^ b)
  sizes = le_antisymm (size_mono x (w * 2 ^ p) (2 ^ b) (pow_pos b) (λ j. (pow-agree j).0)) (size_mono (w * 2 ^ p) x (2 ^ b) (pow_pos b) (λ j. (pow-agree j).1))

  -- two digits of w, at least, are dropped
  room : p + 1 < b + (size (w * 2 ^ p / 2 ^ b) - 53)
  room =
      let z = size (w * 2 ^ p / 2 ^ b) in
      let hi : w * 2 ^ p < 2 ^ (z + b) = lt_of_lt_of_le ((div-lt_iff_lt-mul (pow_pos b)).0 (size-lt (w * 2 ^ p / 2 ^ b))) (le_of_eq (sym (pow-add 2 z b))) in
      let lo : 2 ^ (62 + p) ≤ w * 2 ^ p = le_trans (le_of_eq (pow-add 2 62 p)) (mul-le-mul_right (2 ^ p) big) in
      let l : 62 + p < z + b = lt_of_not-le (λ (g : z + b ≤ 62 + p). lt_irrefl (2 ^ (z + b)) (lt_of_le_of_lt (pow_mono g) (lt_of_le_of_lt lo hi))) in
      omega (arith, l)

  kept : (k : ℕ) → p + 1 < b + k → closest x (2 ^ b * 2 ^ k) ≡ closest (w * 2 ^ p) (2 ^ b * 2 ^ k)
  kept k r =
      let h = 2 ^ (b + k - 1) in
      let u : 2 ^ b * 2 ^ k ≡ 2 * h = sym (pow-add 2 b k) ∙ ap (λ (z : ℕ). 2 ^ z) {x = b + k} {y = suc (b + k - 1)} (omega arith) ∙ native.Mathlib.Nat.pow-succ' 2 (b + k - 1) in
      ap (closest x) u ∙ closest-sides x (w * 2 ^ p) h (pow_pos (b + k - 1)) (λ j. pow_sides x w p (b + k - 1) j n (omega arith)) ∙ sym (ap (closest (w * 2 ^ p)) u)

  pub same_kept : (s : Bool) → units binary64 s (closest x (2 ^ b * 2 ^ (size (x / 2 ^ b) - 53))) (size (x / 2 ^ b) - 53)
      ≡ units binary64 s (closest (w * 2 ^ p) (2 ^ b * 2 ^ (size (w * 2 ^ p / 2 ^ b) - 53))) (size (w * 2 ^ p / 2 ^ b) - 53)
  same_kept s =
      ap (λ (z : ℕ). units binary64 s (closest x (2 ^ b * 2 ^ (z - 53))) (z - 53)) sizes
      ∙ ap (λ (q : ℕ). units binary64 s q (size (w * 2 ^ p / 2 ^ b) - 53)) (kept (size (w * 2 ^ p / 2 ^ b) - 53) room)

pub near_scale : (x w a l : ℕ) → Near x w (2 ^ a) → Near (x * 2 ^ l) w (2 ^ (a + l))
near_scale x w a l (inl e) = inl (ap (λ (z : ℕ). z * 2 ^ l) e ∙ mul_assoc w (2 ^ a) (2 ^ l) ∙ ap (λ (z : ℕ). w * z) (sym (pow-add 2 a l)))
near_scale x w a l (inr n) =
    let e = pow-add 2 a l in
    let p : w * 2 ^ a * 2 ^ l < (x + 2 ^ a) * 2 ^ l = mul-lt-mul_of_pos_right n.1 (pow_pos l) in
    let q : x * 2 ^ l < (w * 2 ^ a + 2 ^ a) * 2 ^ l = mul-lt-mul_of_pos_right n.2 (pow_pos l) in
    inr (subst (λ (v : ℕ). (w % 2 ≡ 1) × (w * v < x * 2 ^ l + v) × (x * 2 ^ l < w * v + v)) (sym e) (n.0, omega (arith, p), omega (arith, q)))

pub sticky_round : (s : Bool) (x w a b : ℕ) → Near x w (2 ^ a) → 2 ^ 62 ≤ w → round binary64 s x (2 ^ b) ≡ round binary64 s (w * 2 ^ a) (2 ^ b)
sticky_round s x w a b n big =
    let X = x * 2 ^ 1074 in
    let e : w * 2 ^ a * 2 ^ 1074 ≡ w * 2 ^ (a + 1074) = mul_assoc w (2 ^ a) (2 ^ 1074) ∙ ap (λ (z : ℕ). w * z) (sym (pow-add 2 a 1074)) in
    round_is binary64 s x (2 ^ b)
    ∙ same_kept X w (a + 1074) b (near_scale x w a 1074 n) big s
    ∙ ap (λ (y : ℕ). units binary64 s (closest y (2 ^ b * 2 ^ (size (y / 2 ^ b) - 53))) (size (y / 2 ^ b) - 53)) (sym e)
    ∙ sym (round_is binary64 s (w * 2 ^ a) (2 ^ b))

-- ---- making and moving a sticky digit
-- a number cut at the digit d, its lowest digit set where something is cut off
pub jam_near : (x u : ℕ) → 0 < u → (x % u ≡ 0 → ⊥) → Near x (x / u + (1 - x / u % 2)) u
jam_near x u U n =
    let q = x / u in
    let e : q * u + x % u ≡ x = div-add-mod' x u in
    let l : x % u < u = mod-lt x U in
    let a : (q + (1 - q % 2)) * u ≤ (q + 1) * u = mul-le-mul_right u (omega arith) in
    let b : q * u ≤ (q + (1 - q % 2)) * u = mul-le-mul_right u (omega arith) in
    inr (omega arith, omega (arith, a, e, n), omega (arith, b, e, l))

pub cut_near : (x u : ℕ) → x % u ≡ 0 → Near x (x / u) u
cut_near x u e = inl (sym (div-add-mod' x u) ∙ (omega arith))

-- an even number of units more
pub near_more : (x w u k : ℕ) → Near x w u → Near (2 * k * u + x) (2 * k + w) u
near_more x w u k (inl e) = inl (ap (λ (z : ℕ). 2 * k * u + z) e ∙ sym (add-mul (2 * k) w u))
near_more x w u k (inr n) =
    let e : (2 * k + w) * u ≡ 2 * k * u + w * u = add-mul (2 * k) w u in
    inr (omega (arith, n.0), omega (arith, n.1, e), omega (arith, n.2, e))

-- and an even number of units less
pub near_less : (x w u k : ℕ) → Near x w u → w ≤ 2 * k → x ≤ 2 * k * u → Near (2 * k * u - x) (2 * k - w) u
near_less x w u k (inl e) l m = inl (go (2 * k) l)
  where
    go : (j : ℕ) → w ≤ j → j * u - x ≡ (j - w) * u
    go j h = let s : (j - w) * u + w * u ≡ j * u = sym (add-mul (j - w) w u) ∙ ap (λ (z : ℕ). z * u) (omega arith) in omega (arith, s, e)
near_less x w u k (inr n) l m = go (2 * k) l (omega arith) m
  where
    go : (j : ℕ) → w ≤ j → j % 2 ≡ 0 → x ≤ j * u → Near (j * u - x) (j - w) u
    go j h p y =
        let s : (j - w) * u + w * u ≡ j * u = sym (add-mul (j - w) w u) ∙ ap (λ (z : ℕ). z * u) (omega arith) in
        inr (omega (arith, n.0), omega (arith, n.1, n.2, s), omega (arith, n.1, n.2, s))

-- a sticky number cut again
pub near_trans : (x w v u b : ℕ) → 0 < u → Near x w u → Near w v b → 0 < b → Near x v (b * u)
near_trans x w v u b U (inl e) (inl f) B = inl (e ∙ ap (λ (z : ℕ). z * u) f ∙ mul_assoc v b u)
near_trans x w v u b U (inl e) (inr n) B =
    let p : v * b * u < (w + b) * u = mul-lt-mul_of_pos_right n.1 U in
    let q : w * u < (v * b + b) * u = mul-lt-mul_of_pos_right n.2 U in
    inr (n.0, omega (arith, p, e), omega (arith, q, e))
near_trans x w v u b U (inr m) (inl f) B = even-case (v * b) f (b % 2) refl
  where
    even-case : (z : ℕ) → w ≡ z → (r : ℕ) → b % 2 ≡ r → Near x v (b * u)
    even-case z e r h =
        let odd : v % 2 ≡ 1 = odd-left v b (subst (λ (y : ℕ). y % 2 ≡ 1) f m.0) in
        let g : w * u ≡ v * b * u = ap (λ (y : ℕ). y * u) f in
        let k : u ≤ b * u = le_trans (le_of_eq (sym (native.Mathlib.Nat.one-mul u))) (mul-le-mul_right u B) in
        inr (odd, omega (arith, m.1, g, k), omega (arith, m.2, g, k))
      where
        odd-left : (v b : ℕ) → v * b % 2 ≡ 1 → v % 2 ≡ 1
        odd-left v b h = go (v % 2) refl (mod-lt v {m = 2} (omega arith))
          where
            go : (r : ℕ) → v % 2 ≡ r → r < 2 → v % 2 ≡ 1
            go zero e l =
                let s : v ≡ 2 * (v / 2) = omega (arith, e) in
                let t : v * b ≡ 2 * (v / 2 * b) = ap (λ (y : ℕ). y * b) s ∙ mul_assoc 2 (v / 2) b in
                absurd (no (v * b) (v / 2 * b) t h)
              where
                no : (x y : ℕ) → x ≡ 2 * y → x % 2 ≡ 1 → ⊥
                no x y a c = omega arith
            go (suc r) e l = omega (arith, e, l)
near_trans x w v u b U (inr m) (inr n) B =
    let p : (v * b + 1) * u ≤ (w + b) * u = mul-le-mul_right u (omega (arith, n.1)) in
    let q : (w + 1) * u ≤ (v * b + b) * u = mul-le-mul_right u (omega (arith, n.2)) in
    inr (n.0, omega (arith, p, m.1, m.2), omega (arith, q, m.1, m.2))

pub one_more : (w u : ℕ) → w * u + u ≡ (w + 1) * u
one_more w u = omega arith

-- w is no more than x over the unit, and one
pub near_le : (x w u k : ℕ) → 0 < u → x < k * u → Near x w u → w ≤ k
near_le x w u k U h (inl e) = let a : w < k = lt_of_mul-lt-mul_right u (lt_of_le_of_lt (le_of_eq (sym e)) h) in omega arith
near_le x w u k U h (inr m) =
    let a : w < k + 1 = lt_of_mul-lt-mul_right u (lt_of_lt_of_le m.1 (le_trans (native.Mathlib.Nat.le_of_lt (add-lt-add_of_lt_of_le h (le_refl u))) (le_of_eq (one_more k u)))) in
    omega arith

-- and below k where k is even
pub near_lt : (x w u k : ℕ) → 0 < u → x < 2 * k * u → Near x w u → w < 2 * k
near_lt x w u k U h (inl e) = lt_of_mul-lt-mul_right u (lt_of_le_of_lt (le_of_eq (sym e)) h)
near_lt x w u k U h (inr m) = let a = near_le x w u (2 * k) U h (inr m) in omega (arith, a, m.0)
