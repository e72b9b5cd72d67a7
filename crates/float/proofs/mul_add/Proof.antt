-- `float::mul_add` meets its contract (`FusedWords.antt`). Assumes nothing.
use mathlib.Core.Path.{sym, ap, ◌∙◌}
use mathlib.Core.List.{[], ◌∷◌}
use mathlib.Core.Logic.{◌⊎◌, inl, inr}
use Prim.Native.Nat.{◌*◌, ◌%◌, ◌^◌, ◌≤◌, ◌<◌}
use native.Mathlib.Omega.{arith}
use lib.Dec.{leb}
use lib.Ieee.{binary64, of_bits, add, mul}
use Rattle.float.proofs.FusedWords.{Huge, huge_word, exact_product, huge_addend, finite_word}
use Rattle.float.specs.Word.{value, word}
use borrow.Author.Rules.{rules}
use Rattle.float.proofs.mul_add.Statement.{statement}
use Rattle.float.proofs.mul_add.Lts.{then-abs-ge-INFINITY-via-then-abs-ge-INFINITY, then-abs-ge-INFINITY-via-else-abs-ge-INFINITY+then-abs-ge-INFINITY-2}
use Rattle.float.proofs.mul_add.Tie as tie

abs-requires : tie.Need-abs-requires
abs-requires c κs = search rules

abs-requires-2 : tie.Need-abs-requires-else-abs-ge-INFINITY
abs-requires-2 c κs = search rules

-- a or b is infinite or a NaN
either : (j : tie.Joined-then-abs-ge-INFINITY) → Huge (of_bits binary64 j.args.a) ⊎ Huge (of_bits binary64 j.args.b)
either j =
    let a = j.args in
    elim j.then-abs-ge-INFINITY.branch [
      | then-abs-ge-INFINITY-via-then-abs-ge-INFINITY w ↦ inl (huge_word a.a (omega (arith, j.abs.ensures, w.if-abs-ge-INFINITY.true)))
      | then-abs-ge-INFINITY-via-else-abs-ge-INFINITY+then-abs-ge-INFINITY-2 w ↦ inr (huge_word a.b (omega (arith, w.abs-else-abs-ge-INFINITY.ensures, w.if-abs-ge-INFINITY-2.true)))
    ]

returns : tie.Need-returns-then-abs-ge-INFINITY
returns c =
    let j = c.before.before.before.before in
    let a = j.args in
    let x = c.read.ensures in
    let y = c.read-then-abs-ge-INFINITY.ensures in
    let z = c.read-then-abs-ge-INFINITY-2.ensures in
    c.write.ensures
    ∙ (λ i. word (a.a ∷ a.b ∷ a.c ∷ []) (add binary64 (mul binary64 (x i) (y i)) (z i)))
    ∙ ap (word (a.a ∷ a.b ∷ a.c ∷ [])) (sym (exact_product (value a.a) (value a.b) (value a.c) (either j)))

abs-requires-3 : tie.Need-abs-requires-2
abs-requires-3 c κs = search rules

-- a and b are finite
finite : (c : tie.Else-abs-ge-INFINITY-2) → (c.args.a % 2 ^ 63 < 2047 * 2 ^ 52) × (c.args.b % 2 ^ 63 < 2047 * 2 ^ 52)
finite c =
    let d = c.before.before in
    (omega (arith, d.abs.ensures, d.if-abs-ge-INFINITY.false), omega (arith, c.abs-else-abs-ge-INFINITY.ensures, c.if-abs-ge-INFINITY-2.false))

returns-2 : tie.Need-returns-then-abs-ge-INFINITY-3
returns-2 c =
    let d = c.before.before.before.before in
    let a = d.args in
    let u = finite_word a.a (finite d).0 in
    let v = finite_word a.b (finite d).1 in
    let h : 2047 * 2 ^ 52 ≤ a.c % 2 ^ 63 = omega (arith, c.abs-2.ensures, c.if-abs-ge-INFINITY-3.true) in
    c.write-then-abs-ge-INFINITY-3.ensures
    ∙ ap (word (a.a ∷ a.b ∷ a.c ∷ []))
    (c.read-then-abs-ge-INFINITY-3.ensures
    ∙ huge_addend (value a.a) (value a.b) (value a.c) (leb (2 ^ 63) a.a) (leb (2 ^ 63) a.b) u.0 v.0 (2 ^ 1074) (2 ^ 1074) u.1 v.1 (huge_word a.c h))

fused-finite-requires : tie.Need-fused_finite-requires
fused-finite-requires c κs =
    let f = finite c.before.before in
    (f.0, f.1, omega (arith, c.abs-2.ensures, c.if-abs-ge-INFINITY-3.false))

returns-3 : tie.Need-returns
returns-3 c = search rules

pub mul_add_spec : {M : Type 1} → statement M
mul_add_spec =
    tie.close
    (tie.spec
    abs-requires
    abs-requires-2
    (λ c κs. search rules) (λ c κs. search rules) (λ c κs. search rules) (λ c κs. search rules)
    returns
    abs-requires-3
    (λ c κs. search rules) (λ c κs. search rules)
    returns-2
    fused-finite-requires
    returns-3)
