-- Bits of the bytes of realness: a bit read and cleared within the bytes and past their end.
use Prim.Native.Nat.{ℕ, zero, suc, ◌-◌, ◌*◌, ◌/◌, ◌%◌, ◌^◌, ◌<◌}
use mathlib.Core.Path.{◌≡◌, refl, ap, ◌∙◌}
use mathlib.Core.Bool.{Bool, true, cond, ◌&&◌, and-eq-true_iff}
use mathlib.Core.Logic.{inl, inr}
use native.Mathlib.Nat.{eq-or-lt_of_le}
use native.Mathlib.Omega.{arith}
use borrow.Author.Tests.{eqb-true}
use lib.Bits.{bit_and}
use lib.Dec.{eqb}

-- whether a test holds of every number below n
abbrev pub all_below : ℕ → (ℕ → Bool) → Bool
all_below zero p = true
all_below (suc n) p = p n && all_below n p

pub below : (n : ℕ) (p : ℕ → Bool) → all_below n p ≡ true → (k : ℕ) → k < n → p k ≡ true
below zero p e k h = absurd (omega arith)
below (suc n) p e k h =
    let t = (and-eq-true_iff (p n) (all_below n p)).0 e in
    elim (eq-or-lt_of_le h) [ inl q ↦ (let r : k ≡ n = omega arith in ap p r ∙ t.0) | inr q ↦ below n p t.1 k (omega arith) ]

-- the mask without bit k takes it away where it is set, for every byte
abbrev masked : ℕ → ℕ → Bool
masked k x = eqb (bit_and x (255 - 1 * 2 ^ k % 256)) (cond (eqb (x / 2 ^ k % 2) 1) (x - 2 ^ k) x)

every : all_below 8 (λ k. all_below 256 (masked k)) ≡ true
every = refl

pub mask : (x k : ℕ) → x < 256 → k < 8 → bit_and x (255 - 1 * 2 ^ k % 256) ≡ cond (eqb (x / 2 ^ k % 2) 1) (x - 2 ^ k) x
mask x k h j = eqb-true _ _ (below 256 (masked k) (below 8 (λ k. all_below 256 (masked k)) every k j) x h)
