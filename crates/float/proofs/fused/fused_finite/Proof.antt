-- `float::fused::fused_finite` meets its contract (`FusedWords.antt`). Assumes nothing.
use mathlib.Core.Path.{◌≡◌, sym, ap, ap₂, ◌∙◌}
use mathlib.Core.Bool.{false}
use mathlib.Core.List.{[], ◌∷◌}
use mathlib.Core.Logic.{◌⊎◌, inl, inr}
use Prim.Native.Nat.{ℕ, ◌%◌, ◌^◌}
use native.Mathlib.Omega.{arith}
use lib.Bits.{bit_xor}
use lib.Ieee.{Float, binary64, is_nan, to_bits}
use borrow.Author.Rules.{rules}
use Rattle.float.specs.Word.{value, word, mul_add}
use Rattle.float.specs.Fused.{fused_multiply_add}
use Rattle.float.proofs.Marks.{number_word}
use Rattle.float.proofs.FusedWords.{zero_words, fused-number, unpacked_product, unpacked_sum}
use Rattle.float.proofs.fused.fused_finite.Statement.{statement}
use Rattle.float.proofs.fused.fused_finite.Lts.{then-abs-eq0-via-then-abs-eq0, then-abs-eq0-via-else-abs-eq0+then-abs-eq0-2}
use Rattle.float.proofs.fused.fused_finite.Tie as tie

module _ (s : tie.Start) where
  abbrev fused : Float
  fused = fused_multiply_add binary64 (value s.args.a) (value s.args.b) (value s.args.c)

  is_number : is_nan fused ≡ false
  is_number = fused-number s.args.a s.args.b s.args.c s.requires.0 s.requires.1 s.requires.2

  -- a result whose value is the sum
  by_value : {x : Float} {r : ℕ} → r ≡ to_bits binary64 x → fused ≡ x → r ≡ mul_add s.args.a s.args.b s.args.c
  by_value e same = e ∙ sym (ap (to_bits binary64) same) ∙ number_word (s.args.a ∷ s.args.b ∷ s.args.c ∷ []) fused is_number

  -- it is no NaN, whatever its operands were
  by_word : (a b : ℕ) {x : Float} {r : ℕ} → r ≡ word (a ∷ b ∷ []) x → fused ≡ x → r ≡ mul_add s.args.a s.args.b s.args.c
  by_word a b {x} e same = by_value (e ∙ sym (number_word (a ∷ b ∷ []) x (ap is_nan (sym same) ∙ is_number))) same

-- a or b is zero
either : (j : tie.Joined-then-abs-eq0) → (j.args.a % 2 ^ 63 ≡ 0) ⊎ (j.args.b % 2 ^ 63 ≡ 0)
either j = elim j.then-abs-eq0.branch [
  | then-abs-eq0-via-then-abs-eq0 w ↦ inl (sym j.abs.ensures ∙ w.if-abs-eq0.true)
  | then-abs-eq0-via-else-abs-eq0+then-abs-eq0-2 w ↦ inr (sym w.abs-else-abs-eq0.ensures ∙ w.if-abs-eq0-2.true)
]

pub fused_finite_spec : {M : Type 1} → statement M
fused_finite_spec =
    tie.close
    (tie.spec
    (λ c κs. tt)
    (λ c κs. tt)
    (λ c κs. tt)
    (λ c κs. tt)
    (λ c κs. tt)
    (λ c κs. tt)
    (λ c.
    let j = c.before.before.before.before in
    let s = j.before.before in
    let a = s.args in
    let x = c.xor in
    by_word s x.result a.c c.plus.ensures
    (sym (zero_words a.a a.b a.c x.result s.ranges.a.fits s.ranges.b.fits s.requires.0 s.requires.1 s.requires.2 (either j)
    (x.ensures ∙ ap₂ bit_xor c.sign.ensures c.sign-then-abs-eq0.ensures))))
    (λ c κs. search rules)
    (λ c κs.
    let d = c.before in
    (omega (arith, d.abs-else-abs-eq0.ensures, d.if-abs-eq0-2.false), d.requires.1))
    (λ c κs. tt)
    (λ c κs. search rules)
    (λ c.
    let t = c.before in
    let s = t.before.before.before.before.before.before.before.before in
    let a = s.args in
    let u = t.unpack-x in
    let v = t.unpack-y in
    by_value s c.rounded_product.ensures
    (unpacked_product a.a a.b a.c u.result.neg v.result.neg u.result.m v.result.m u.result.e v.result.e u.ensures v.ensures (sym t.abs-2.ensures ∙ t.if-abs-eq0-3.true)))
    (λ c κs. search rules)
    (λ c κs. search rules)
    (λ c.
    let s = c.before.before.before.before.before.before.before.before.before.before in
    let a = s.args in
    let u = c.unpack-x in
    let v = c.unpack-y in
    let w = c.unpack-z in
    by_value s c.fused_parts.ensures
    (unpacked_sum a.a a.b a.c u.result.neg v.result.neg w.result.neg u.result.m v.result.m w.result.m u.result.e v.result.e w.result.e u.ensures v.ensures w.ensures)))
