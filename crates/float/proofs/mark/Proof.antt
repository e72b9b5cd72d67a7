-- `float::mark` meets its contract, operand by operand. Assumes nothing.
use mathlib.Core.Path.{◌≡◌, sym, ◌∙◌}
use mathlib.Core.Bool.{Bool, false}
use mathlib.Core.List.{[], ◌∷◌}
use Prim.Native.Nat.{ℕ}
use borrow.Author.Rules.{rules}
use lib.Ieee.{binary64, is_nan, nan_bits}
use lib.Ieee.Bits.{nan_bits_is}
use Rattle.float.specs.Word.{value, mark}
use Rattle.float.proofs.Marks.{marked, passed}
use Rattle.float.proofs.mark.Statement.{statement}
use Rattle.float.proofs.mark.Tie as tie

-- what a test says of its operand
told : {r t : Bool} (a : ℕ) → r ≡ nan_bits binary64 a → r ≡ t → is_nan (value a) ≡ t
told a e f = sym (nan_bits_is binary64 a) ∙ sym e ∙ f

-- the operands, and what the tests say of the first and of the second
first : (c : tie.Else-is_nan) → is_nan (value c.args.a) ≡ false
first c = told c.args.a c.is_nan.ensures c.if-is_nan.false

second : (c : tie.Else-is_nan-2) → is_nan (value c.args.b) ≡ false
second c = told c.args.b c.is_nan-2.ensures c.if-is_nan-2.false

returns : tie.Need-returns-then-is_nan
returns c =
    let a = c.args in
    marked a.a (a.b ∷ a.c ∷ []) (told a.a c.is_nan.ensures c.if-is_nan.true)

returns-2 : tie.Need-returns-then-is_nan-2
returns-2 c =
    let a = c.args in
    marked a.b (a.c ∷ []) (told a.b c.is_nan-2.ensures c.if-is_nan-2.true) ∙ passed a.a (a.b ∷ a.c ∷ []) (first c.before.before)

-- where a and b are none
late : (c : tie.Else-is_nan-2) → let a = c.args in mark (a.c ∷ []) ≡ mark (a.a ∷ a.b ∷ a.c ∷ [])
late c =
    let a = c.args in
    passed a.b (a.c ∷ []) (second c) ∙ passed a.a (a.b ∷ a.c ∷ []) (first c.before.before)

returns-3 : tie.Need-returns-then-is_nan-3
returns-3 c =
    let a = c.args in
    marked a.c [] (told a.c c.is_nan-3.ensures c.if-is_nan-3.true) ∙ late c.before.before

returns-4 : tie.Need-returns
returns-4 c =
    let a = c.args in
    passed a.c [] (told a.c c.is_nan-3.ensures c.if-is_nan-3.false) ∙ late c.before.before

pub mark_spec : {M : Type 1} → statement M
mark_spec = tie.close (tie.spec (λ c κs. search rules) returns (λ c κs. search rules) returns-2 (λ c κs. search rules) returns-3 returns-4)
