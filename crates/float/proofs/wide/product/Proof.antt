-- `float::wide::product` meets its contract. With the four products of halves as unknowns, the columns and their carries are linear. Assumes nothing.
use mathlib.Core.Path.{◌≡◌, ap₂, ◌∙◌}
use Prim.Native.Nat.{ℕ, ◌+◌, ◌-◌, ◌*◌, ◌/◌, ◌%◌, ◌^◌, ◌≤◌, ◌<◌}
use native.Mathlib.Nat.{mul-le-mul, div-add-mod'}
use native.Mathlib.Omega.{arith}
use borrow.Author.Rules.{rules}
use Rattle.float.proofs.wide.product.Statement.{statement}
use Rattle.float.proofs.wide.product.Tie as tie

-- k, y, z and x are the products of the upper halves, of an upper and a lower, of a lower and an upper, and of the lower halves
columns : (k y z x : ℕ)
    → (k + (y + x / 2 ^ 32) / 2 ^ 32 + (z + (y + x / 2 ^ 32) % 2 ^ 32) / 2 ^ 32) * 2 ^ 64 + ((z + (y + x / 2 ^ 32) % 2 ^ 32) % 2 ^ 32 * 2 ^ 32 + x % 2 ^ 32) ≡ k * 2 ^ 64 + y * 2 ^ 32 + z * 2 ^ 32 + x
columns k y z x = omega arith

expand : (a1 a0 b1 b0 : ℕ) → a1 * b1 * 2 ^ 64 + a1 * b0 * 2 ^ 32 + a0 * b1 * 2 ^ 32 + a0 * b0 ≡ (a1 * 2 ^ 32 + a0) * (b1 * 2 ^ 32 + b0)
expand a1 a0 b1 b0 = omega arith

bound : (a b : ℕ) → a < 2 ^ 32 → b < 2 ^ 32 → a * b ≤ (2 ^ 32 - 1) * (2 ^ 32 - 1)
bound a b h k = mul-le-mul {n₂ = 2 ^ 32 - 1} {m₂ = 2 ^ 32 - 1} (omega arith) (omega arith)

upper : (a : ℕ) → a < 2 ^ 64 → a / 2 ^ 32 < 2 ^ 32
upper a h = omega arith

lower : (a : ℕ) → a % 2 ^ 32 < 2 ^ 32
lower a = omega arith

module _ (k y z x : ℕ) (K : k ≤ (2 ^ 32 - 1) * (2 ^ 32 - 1)) (Y : y ≤ (2 ^ 32 - 1) * (2 ^ 32 - 1)) (Z : z ≤ (2 ^ 32 - 1) * (2 ^ 32 - 1)) (X : x ≤ (2 ^ 32 - 1) * (2 ^ 32 - 1)) where
  pub middle : y + x / 2 ^ 32 < 2 ^ 64
  middle = omega arith

  pub next : z + (y + x / 2 ^ 32) % 2 ^ 32 < 2 ^ 64
  next = omega arith

  pub high : k + (y + x / 2 ^ 32) / 2 ^ 32 + (z + (y + x / 2 ^ 32) % 2 ^ 32) / 2 ^ 32 < 2 ^ 64
  high = omega arith

mul-w0 : tie.Need-overflow_mul-w0
mul-w0 c = record { fits = omega (arith, bound (c.args.u % 2 ^ 32) (c.args.v % 2 ^ 32) (lower c.args.u) (lower c.args.v)) }

mul-t : tie.Need-overflow_mul-t
mul-t c = record { fits = omega (arith, bound (c.args.u / 2 ^ 32) (c.args.v % 2 ^ 32) (upper c.args.u c.ranges.u.fits) (lower c.args.v)) }

-- the four products of a place's arguments
module _ (c : tie.Start) where
  abbrev u1 : ℕ
  u1 = c.args.u / 2 ^ 32

  abbrev u0 : ℕ
  u0 = c.args.u % 2 ^ 32

  abbrev v1 : ℕ
  v1 = c.args.v / 2 ^ 32

  abbrev v0 : ℕ
  v0 = c.args.v % 2 ^ 32

  U1 : u1 < 2 ^ 32
  U1 = upper c.args.u c.ranges.u.fits

  V1 : v1 < 2 ^ 32
  V1 = upper c.args.v c.ranges.v.fits

  U0 : u0 < 2 ^ 32
  U0 = lower c.args.u

  V0 : v0 < 2 ^ 32
  V0 = lower c.args.v

  pub middle-fits : u1 * v0 + u0 * v0 / 2 ^ 32 < 2 ^ 64
  middle-fits = middle (u1 * v1) (u1 * v0) (u0 * v1) (u0 * v0) (bound u1 v1 U1 V1) (bound u1 v0 U1 V0) (bound u0 v1 U0 V1) (bound u0 v0 U0 V0)

  pub next_fits : u0 * v1 + (u1 * v0 + u0 * v0 / 2 ^ 32) % 2 ^ 32 < 2 ^ 64
  next_fits = next (u1 * v1) (u1 * v0) (u0 * v1) (u0 * v0) (bound u1 v1 U1 V1) (bound u1 v0 U1 V0) (bound u0 v1 U0 V1) (bound u0 v0 U0 V0)

  pub high_fits : u1 * v1 + (u1 * v0 + u0 * v0 / 2 ^ 32) / 2 ^ 32 + (u0 * v1 + (u1 * v0 + u0 * v0 / 2 ^ 32) % 2 ^ 32) / 2 ^ 32 < 2 ^ 64
  high_fits = high (u1 * v1) (u1 * v0) (u0 * v1) (u0 * v0) (bound u1 v1 U1 V1) (bound u1 v0 U1 V0) (bound u0 v1 U0 V1) (bound u0 v0 U0 V0)

add-t : tie.Need-overflow_add-t
add-t c = record { fits = middle-fits c }

mul-w1 : tie.Need-overflow_mul-w1
mul-w1 c = record { fits = omega (arith, bound (c.args.u % 2 ^ 32) (c.args.v / 2 ^ 32) (lower c.args.u) (upper c.args.v c.ranges.v.fits)) }

add-w1 : tie.Need-overflow_add-w1
add-w1 c = record { fits = next_fits c }

mul-hi : tie.Need-overflow_mul-hi
mul-hi c = record { fits = omega (arith, bound (c.args.u / 2 ^ 32) (c.args.v / 2 ^ 32) (upper c.args.u c.ranges.u.fits) (upper c.args.v c.ranges.v.fits)) }

add-hi : tie.Need-overflow_add-hi
add-hi c = record { fits = native.Mathlib.Nat.lt_of_le_of_lt (native.Mathlib.Nat.le-add_right _ _) (high_fits c) }

add-hi-2 : tie.Need-overflow_add-hi-2
add-hi-2 c = record { fits = high_fits c }

mul-lo : tie.Need-overflow_mul-lo
mul-lo c = search rules

add-lo : tie.Need-overflow_add-lo
add-lo c = search rules

returns : tie.Need-returns
returns c =
    let u = c.args.u in
    let v = c.args.v in
    columns (u / 2 ^ 32 * (v / 2 ^ 32)) (u / 2 ^ 32 * (v % 2 ^ 32)) (u % 2 ^ 32 * (v / 2 ^ 32)) (u % 2 ^ 32 * (v % 2 ^ 32))
    ∙ expand (u / 2 ^ 32) (u % 2 ^ 32) (v / 2 ^ 32) (v % 2 ^ 32)
    ∙ ap₂ (λ (x y : ℕ). x * y) (div-add-mod' u (2 ^ 32)) (div-add-mod' v (2 ^ 32))

pub product_spec : {M : Type 1} → statement M
product_spec =
    tie.close
    (tie.spec mul-w0 mul-t add-t mul-w1 add-w1 mul-hi add-hi add-hi-2 mul-lo add-lo returns)
