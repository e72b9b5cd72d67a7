-- `float::sqrt::root_finite` meets its contract, by `RootByMends`. Assumes nothing.
use mathlib.Core.Path.{◌≡◌, sym, ap, ap₂, ◌∙◌, subst}
use mathlib.Core.Bool.{Bool, false}
use Prim.Native.Nat.{ℕ, ◌+◌, ◌-◌, ◌*◌, ◌/◌, ◌%◌, ◌^◌, ◌≤◌, ◌<◌}
use native.Mathlib.Nat.{mod-eq_of_lt}
use native.Mathlib.Omega.{arith}
use lib.IntN.{ℤ}
use lib.Signed.{mag}
use borrow.Author.Rules.{rules}
use Rattle.float.specs.Word as Word
use Rattle.float.specs.Unpacked.{Unpacked}
use Rattle.float.specs.Biased.{biased}
use Rattle.float.specs.Mends.{rounded}
use Rattle.float.proofs.Signed.{read, read_same}
use Rattle.float.proofs.ByMends.{widened, positive, field-hi, by-mends}
use Rattle.float.proofs.sqrt.root_finite.Statement.{statement}
use Rattle.float.proofs.sqrt.root_finite.Tie as tie

-- what the result turns on: m * 2 ^ e in parts, the odd digit o and the field f
module _ (a : ℕ) (neg : Bool) (m : ℕ) (e : ℤ) (t : Unpacked a neg m e) (a_lt : a < 2047 * 2 ^ 52) (o : ℕ) (o-was : o ≡ biased (read e) % 2) where
  abbrev M : ℕ
  M = m * 2 ^ (biased e % 2)

  in-range : (2 ^ 52 ≤ M) × (M < 2 ^ 54)
  in-range = widened m (biased e % 2) t.lo t.hi (omega arith)

  shifted : m * 2 ^ o % 2 ^ 64 ≡ M
  shifted =
      let h = t.small in
      ap (λ (x : ℕ). m * 2 ^ x % 2 ^ 64) (o-was ∙ ap (λ (z : ℤ). biased z % 2) (read_same e (omega (arith, h)))) ∙ mod-eq_of_lt (omega (arith, in-range.1))

  pub asked : (2 ^ 52 ≤ m * 2 ^ o % 2 ^ 64) × (m * 2 ^ o % 2 ^ 64 < 2 ^ 54)
  asked = subst (λ (x : ℕ). (2 ^ 52 ≤ x) × (x < 2 ^ 54)) (sym shifted) in-range

  plus : Unpacked a false m e
  plus = positive a m e t a_lt

  module _ (r : ℕ) (r-is : r ≡ rounded (m * 2 ^ o % 2 ^ 64)) (top : r ≤ 2 ^ 53) (f : ℕ) (f-was : f ≡ biased (read e) / 2 - 3048) where
    f-is : f ≡ biased e / 2 - 3048
    f-is = let h = t.small in f-was ∙ ap (λ (z : ℤ). biased z / 2 - 3048) (read_same e (omega (arith, h)))

    low : f ≤ 1648
    low = subst (λ (x : ℕ). x ≤ 1648) (sym f-is) (field-hi a m e plus)

    pub result : (f * 2 ^ 52 % 2 ^ 64 + r < 2 ^ 64) × (f * 2 ^ 52 % 2 ^ 64 + r ≡ Word.root a)
    result = (
      omega (arith, low),
      ap₂ (λ (x y : ℕ). x + y) (mod-eq_of_lt (omega (arith, low)) ∙ ap (λ (x : ℕ). x * 2 ^ 52) f-is) (r-is ∙ ap rounded shifted)
          ∙ sym (by-mends a m e plus),
    )

odd-digit-requires : tie.Need-odd_digit-requires
odd-digit-requires c κs =
    let u = c.unpack-p in
    let h = u.ensures.small in
    subst (λ (z : ℤ). mag z < 8192) (sym (read_same u.result.e (omega (arith, h)))) (omega (arith, h))

rounded-root-requires : tie.Need-rounded_root-root-requires
rounded-root-requires c κs =
    let u = c.unpack-p in
    let o = c.odd_digit in
    asked c.args.a u.result.neg u.result.m u.result.e u.ensures c.requires.1 o.result o.ensures

both : (c : tie.After-root_field)
    → let x : ℕ = c.root_field.result * 2 ^ 52 % 2 ^ 64 + c.rounded_root-root.result in
    (x < 2 ^ 64) × (x ≡ Word.root c.args.a)
both c =
    let w = c.rounded_root-root in
    let o = c.odd_digit in
    let u = c.unpack-p in
    let s = c.before.before.before.before.before.before.before in
    result s.args.a u.result.neg u.result.m u.result.e u.ensures s.requires.1 o.result o.ensures w.result w.ensures.0 w.ensures.1
    c.root_field.result c.root_field.ensures

pub root_finite_spec : {M : Type 1} → statement M
root_finite_spec =
    tie.close
    (tie.spec
    (λ c κs. search rules)
    odd-digit-requires
    (λ c. search rules) (λ c. search rules)
    rounded-root-requires
    (λ c κs. search rules)
    (λ c. omega (arith, (both c).0))
    (λ c. (both c).1))
