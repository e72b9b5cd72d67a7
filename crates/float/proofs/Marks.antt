-- The words of results (`word` of specs/Word): a number's goes by its value alone, a NaN's by the first operand that is one. Assumes nothing.
use mathlib.Core.Path.{◌≡◌, refl, sym, ap, ap₂, ◌∙◌}
use mathlib.Core.Bool.{Bool, true, false, true≢false, cond, beq, ◌&&◌}
use mathlib.Core.List.{List, [], ◌∷◌}
use Prim.Native.Nat.{ℕ, zero, suc, ◌+◌, ◌-◌, ◌*◌, ◌/◌, ◌%◌, ◌^◌, ◌≤◌, compare}
use native.Mathlib.Omega.{arith}
use borrow.Author.Tests.{lt-ltb, ltb-true}
use lib.Dec.{T, ltb}
use lib.Bits.{bit_or, or_mod, or_add_and, and_le_r}
use lib.Ieee.{Float, nan, inf, fin, binary64, size, nearest, odd, units, round, sum, fits, is_nan, of_bits, to_bits}
use lib.Ieee.Bits.{is_false, nan_bits_is, nan_bits_above, of_bits-to_bits}
use lib.Ieee.Fits.{round_is}
use Rattle.float.specs.Word.{value, mark, word, flag}
use Rattle.float.proofs.Nan.{only_nan, not_nan}

-- ---- numbers
pub number_word : (ws : List ℕ) (x : Float) → is_nan x ≡ false → to_bits binary64 x ≡ word ws x
unfolding is_nan
number_word ws nan e = absurd (true≢false e)
number_word ws (inf s) e = refl
number_word ws (fin s m d) e = refl

-- a word that is no NaN's
pub number : (a : ℕ) → a % 2 ^ 63 ≤ 2047 * 2 ^ 52 → is_nan (value a) ≡ false
number a h = is_false (is_nan (value a)) (not_nan a h)

-- a value that was rounded, or is a sum of two finite ones
odd_number : (d : ℕ) (s : Bool) (q k l : ℕ) → is_nan (odd d s q k l) ≡ false
unfolding odd is_nan
odd_number d s zero k l = refl
odd_number d s (suc q) k l = refl

either_number : (b : Bool) (x y : Float) → is_nan x ≡ false → is_nan y ≡ false → is_nan (cond b x y) ≡ false
either_number true x y p q = p
either_number false x y p q = q

pub units_number : (s : Bool) (q k : ℕ) → is_nan (units binary64 s q k) ≡ false
unfolding units is_nan
units_number s q k = either_number (ltb (q * 2 ^ k) (2 ^ 2098)) (odd 54 s q k 1074) (inf s) (odd_number 54 s q k 1074) refl

pub round_number : (s : Bool) (n d : ℕ) → is_nan (round binary64 s n d) ≡ false
round_number s n d =
    let m = n * 2 ^ 1074 in
    let k = size (m / d) - 53 in
    let u = d * 2 ^ k in
    ap is_nan (round_is binary64 s n d) ∙ units_number s (nearest (m / u) (compare (m % u * 2) u)) k

pub sum_number : (s : Bool) (a : ℕ) (t : Bool) (b c : ℕ) → is_nan (sum binary64 s a t b c) ≡ false
unfolding sum
sum_number s a t b c =
    either_number (beq s t) (round binary64 s (a + b) c) (cond (ltb a b) (round binary64 t (b - a) c) (round binary64 (s && ltb b a) (a - b) c)) (round_number s (a + b) c)
    (either_number (ltb a b) (round binary64 t (b - a) c) (round binary64 (s && ltb b a) (a - b) c) (round_number t (b - a) c) (round_number (s && ltb b a) (a - b) c))

-- ---- NaNs
pub nan_word : (ws : List ℕ) (x : Float) → is_nan x ≡ true → mark ws ≡ word ws x
nan_word ws x e = ap (word ws) (sym (only_nan x e))

-- the first operand, where it is a NaN, and where it is none
pub marked : (a : ℕ) (ws : List ℕ) → is_nan (value a) ≡ true → bit_or a (2 ^ 51) ≡ mark (a ∷ ws)
marked a ws e = sym (ap (λ (b : Bool). cond b (bit_or a (2 ^ 51)) (mark ws)) e)

pub passed : (a : ℕ) (ws : List ℕ) → is_nan (value a) ≡ false → mark ws ≡ mark (a ∷ ws)
passed a ws e = sym (ap (λ (b : Bool). cond b (bit_or a (2 ^ 51)) (mark ws)) e)

-- an operand that is 0 adds nothing
pub padded : (a b : ℕ) (x : Float) → word (a ∷ b ∷ 0 ∷ []) x ≡ word (a ∷ b ∷ []) x
unfolding of_bits is_nan
padded a b nan = refl
padded a b (inf s) = refl
padded a b (fin s m e) = refl

-- an operation, and a comparison, on values that were read
pub computed : (op : Float → Float → Float) (a b : ℕ) {x y : Float} {r : ℕ} → r ≡ word (a ∷ b ∷ 0 ∷ []) (op x y) → x ≡ value a → y ≡ value b → r ≡ word (a ∷ b ∷ []) (op (value a) (value b))
computed op a b e p q = e ∙ ap₂ (λ (x y : Float). word (a ∷ b ∷ 0 ∷ []) (op x y)) p q ∙ padded a b (op (value a) (value b))

pub compared : (test : Float → Float → Bool) {x y u v : Float} {r : ℕ} → r ≡ flag (test x y) → x ≡ u → y ≡ v → r ≡ flag (test u v)
compared test e p q = e ∙ ap₂ (λ (x y : Float). flag (test x y)) p q

-- a NaN's pattern with bit 51 set is one
still_nan : (a : ℕ) → is_nan (value a) ≡ true → is_nan (value (bit_or a (2 ^ 51))) ≡ true
still_nan a e =
    let above = ltb-true (2047 * 2 ^ 52) (a % 2 ^ 63) (sym (nan_bits_above binary64 a) ∙ nan_bits_is binary64 a ∙ e) in
    let r = a % 2 ^ 63 in
    sym (nan_bits_is binary64 (bit_or a (2 ^ 51)))
    ∙ nan_bits_above binary64 (bit_or a (2 ^ 51))
    ∙ ap (ltb (2047 * 2 ^ 52)) (or_mod a (2 ^ 51) 63)
    ∙ lt-ltb (2047 * 2 ^ 52) (bit_or r (2 ^ 51)) (omega (arith, above, or_add_and r (2 ^ 51), and_le_r r (2 ^ 51)))

mark_nan : (ws : List ℕ) → is_nan (value (mark ws)) ≡ true
mark_nan [] = unfold of_bits is_nan in refl
mark_nan (a ∷ ws) = go (is_nan (value a)) refl (mark_nan ws)
  where
    go : (b : Bool) → is_nan (value a) ≡ b → is_nan (value (mark ws)) ≡ true → is_nan (value (cond b (bit_or a (2 ^ 51)) (mark ws))) ≡ true
    go true e ih = still_nan a e
    go false e ih = ih

-- a result's value is read back from its word, whatever its operands
pub value_word : (ws : List ℕ) (x : Float) → T (fits binary64 x) → value (word ws x) ≡ x
value_word ws nan h = only_nan (value (mark ws)) (mark_nan ws)
value_word ws (inf s) h = of_bits-to_bits binary64 (inf s) h
value_word ws (fin s m e) h = of_bits-to_bits binary64 (fin s m e) h
