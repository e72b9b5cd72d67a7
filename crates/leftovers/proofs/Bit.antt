-- A bit cleared in the bytes of realness: it is clear, and every other bit is as before.
use mathlib.Core.Path.{◌≡◌, refl, sym, ap, ◌∙◌}
use mathlib.Core.Bool.{Bool, true, false, cond}
use mathlib.Core.Logic.{◌≢◌}
use mathlib.Core.List.{List}
use Prim.Native.Nat.{ℕ, zero, suc, ◌-◌, ◌*◌, ◌/◌, ◌%◌, ◌^◌, ◌≤◌, ◌<◌}
use native.Mathlib.Nat.{div-div-eq-div-mul, pow-suc, mul_comm}
use native.Mathlib.Omega.{arith}
use native.Mathlib.Decide.{ℕ_discrete, dec_lt}
use lib.ListN.{length, get_or, set, get_or-eq_default}
use lib.Seq.{get_or-set_same, get_or-set_other, set_out}
use lib.Dec.{eqb, eqb→eq}
use borrow.Author.Tests.{eqb-true, ne_eqb}
use Rattle.lowering.specs.Realness.{bit_at, clear_at}

-- one bit of a byte, and the byte without it
unfoldable bit : ℕ → ℕ → Bool
bit b k = eqb (b / 2 ^ k % 2) 1

unfoldable without : ℕ → ℕ → ℕ
without b k = cond (bit b k) (b - 2 ^ k) b

doubled : (k : ℕ) → 2 ^ suc k ≡ 2 * 2 ^ k
doubled k = pow-suc 2 k ∙ mul_comm (2 ^ k) 2

halved : (b k : ℕ) → b / 2 ^ suc k ≡ b / 2 / 2 ^ k
halved b k = rw (doubled k) (sym (div-div-eq-div-mul b 2 (2 ^ k)))

bit_half : (b k : ℕ) → bit b (suc k) ≡ bit (b / 2) k
unfolding bit
bit_half b k = ap (λ (n : ℕ). eqb (n % 2) 1) (halved b k)

bit_one : (b k : ℕ) → bit b k ≡ true → b / 2 ^ k % 2 ≡ 1
unfolding bit
bit_one b k e = eqb→eq (b / 2 ^ k % 2) 1 (rw e tt)

-- a byte with the bit is no less than its power
reaches : (k b : ℕ) → b / 2 ^ k % 2 ≡ 1 → 2 ^ k ≤ b
reaches zero b e = omega arith
reaches (suc k) b e =
    let h = reaches k (b / 2) (rw halved at e) in
    omega (arith, doubled k)

-- without a bit, the byte halved is that of the half without the bit below
without_half : (b k : ℕ) → without b (suc k) / 2 ≡ without (b / 2) k
unfolding without
without_half b k = rw (bit_half b k) (go (bit (b / 2) k))
  where
    go : (q : Bool) → cond q (b - 2 ^ suc k) b / 2 ≡ cond q (b / 2 - 2 ^ k) (b / 2)
    go true = omega (arith, doubled k)
    go false = refl

without_low : (b k : ℕ) → without b (suc k) % 2 ≡ b % 2
unfolding without
without_low b k = go (bit b (suc k)) refl
  where
    go : (q : Bool) → bit b (suc k) ≡ q → cond q (b - 2 ^ suc k) b % 2 ≡ b % 2
    go true e =
        let h = reaches (suc k) b (bit_one b (suc k) e) in
        omega (arith, doubled k)
    go false e = refl

without_lowest : (b : ℕ) → without b 0 / 2 ≡ b / 2
unfolding without
without_lowest b = go (bit b 0) refl
  where
    go : (q : Bool) → bit b 0 ≡ q → cond q (b - 2 ^ 0) b / 2 ≡ b / 2
    go true e =
        let h = bit_one b 0 e in
        omega arith
    go false e = refl

bit_lowest : (a b : ℕ) → a % 2 ≡ b % 2 → bit a 0 ≡ bit b 0
unfolding bit
bit_lowest a b e =
    let h : a / 1 % 2 ≡ b / 1 % 2 = omega arith in
    ap (λ (x : ℕ). eqb x 1) h

bit_other : (k j b : ℕ) → j ≢ k → bit (without b k) j ≡ bit b j
bit_other zero zero b n = absurd (n refl)
bit_other zero (suc j) b n = bit_half (without b 0) j ∙ ap (λ (x : ℕ). bit x j) (without_lowest b) ∙ sym (bit_half b j)
bit_other (suc k) zero b n = bit_lowest (without b (suc k)) b (without_low b k)
bit_other (suc k) (suc j) b n =
    bit_half (without b (suc k)) j ∙ ap (λ (x : ℕ). bit x j) (without_half b k) ∙ bit_other k j (b / 2) (λ e. n (ap suc e)) ∙ sym (bit_half b j)

-- the bit itself
lowest : (b : ℕ) → bit (without b 0) 0 ≡ false
unfolding bit without
lowest b = go (eqb (b / 2 ^ 0 % 2) 1) refl
  where
    go : (q : Bool) → eqb (b / 2 ^ 0 % 2) 1 ≡ q → eqb (cond q (b - 2 ^ 0) b / 2 ^ 0 % 2) 1 ≡ false
    go true e =
        let h = eqb-true (b / 2 ^ 0 % 2) 1 e in
        ne_eqb ((b - 2 ^ 0) / 2 ^ 0 % 2) 1 (omega arith)
    go false e = e

without_clear : (k b : ℕ) → bit (without b k) k ≡ false
without_clear zero b = lowest b
without_clear (suc k) b = bit_half (without b (suc k)) k ∙ ap (λ (x : ℕ). bit x k) (without_half b k) ∙ without_clear k (b / 2)

zero_clear : (k : ℕ) → bit 0 k ≡ false
unfolding bit
zero_clear zero = refl
zero_clear (suc k) = bit_half 0 k ∙ zero_clear k

pub clear_here : (places : List ℕ) (i : ℕ) → bit_at (clear_at places i) i ≡ false
unfolding bit without
clear_here places i = go (dec_lt (i / 8) (length places))
  where
    b : ℕ
    b = get_or places (i / 8) 0

    go : Dec (i / 8 < length places) → bit (get_or (set places (i / 8) (without b (i % 8))) (i / 8) 0) (i % 8) ≡ false
    go (yes l) = rw (get_or-set_same places (i / 8) (without b (i % 8)) 0 l) (without_clear (i % 8) b)
    go (no l) =
        rw (set_out places (i / 8) (without b (i % 8)) (omega arith), get_or-eq_default places 0 {n = i / 8} (omega arith)) (zero_clear (i % 8))

pub clear_other : (places : List ℕ) (i j : ℕ) → j ≢ i → bit_at (clear_at places i) j ≡ bit_at places j
unfolding bit without
clear_other places i j n = go (ℕ_discrete (j / 8) (i / 8)) (dec_lt (i / 8) (length places))
  where
    b : ℕ
    b = get_or places (i / 8) 0

    go : Dec (j / 8 ≡ i / 8) → Dec (i / 8 < length places)
        → bit (get_or (set places (i / 8) (without b (i % 8))) (j / 8) 0) (j % 8) ≡ bit (get_or places (j / 8) 0) (j % 8)
    go (no e) l = ap (λ (x : ℕ). bit x (j % 8)) (get_or-set_other places (i / 8) (j / 8) (without b (i % 8)) 0 e)
    go (yes e) (no l) = ap (λ (x : List ℕ). bit (get_or x (j / 8) 0) (j % 8)) (set_out places (i / 8) (without b (i % 8)) (omega arith))
    go (yes e) (yes l) = rw (e, get_or-set_same places (i / 8) (without b (i % 8)) 0 l) (bit_other (i % 8) (j % 8) b (λ q. n (omega arith)))
