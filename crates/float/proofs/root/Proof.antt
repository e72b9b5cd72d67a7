-- `float::root` meets its contract, word by kind of word. Assumes nothing.
use mathlib.Core.Path.{◌≡◌, refl, sym, ap, ◌∙◌, subst}
use mathlib.Core.Bool.{Bool, true, false}
use mathlib.Core.List.{[], ◌∷◌}
use mathlib.Core.Logic.{inl, inr}
use Prim.Native.Nat.{ℕ, ◌*◌, ◌%◌, ◌^◌, ◌≤◌, ◌<◌}
use native.Mathlib.Nat.{eq-or-lt_of_le}
use native.Mathlib.Omega.{arith}
use lib.Dec.{leb, le→leb}
use lib.Pow.{pow_pos}
use lib.Ieee.{nan, inf, binary64, is_nan, of_bits, to_bits}
use lib.Ieee.Bits.{is_true}
use lib.Ieee.Exact.{HasValue}
use borrow.Author.Rules.{rules}
use Rattle.float.specs.Root.{square_root}
use Rattle.float.specs.Word as Word
use Rattle.float.proofs.Nan.{above_nan, kept_word}
use Rattle.float.proofs.Marks.{number_word, number, nan_word, marked, passed}
use Rattle.float.proofs.Fields.{word_zero, word_infinite, word_finite}
use Rattle.float.proofs.SquareRoot.{root_negative}
use Rattle.float.proofs.root.Statement.{statement}
use Rattle.float.proofs.root.Tie as tie

-- where the root is the word itself, or a NaN
same_word : (a : ℕ) → a < 2 ^ 64 → a % 2 ^ 63 ≤ 2047 * 2 ^ 52 → square_root binary64 (of_bits binary64 a) ≡ of_bits binary64 a → a ≡ Word.root a
same_word a h g e = sym (ap (to_bits binary64) e ∙ kept_word a h g) ∙ number_word (a ∷ []) (square_root binary64 (of_bits binary64 a)) (ap is_nan e ∙ number a g)

mark-word : (a : ℕ) → square_root binary64 (of_bits binary64 a) ≡ nan → Word.mark (a ∷ []) ≡ Word.root a
unfolding is_nan
mark-word a e = nan_word (a ∷ []) (square_root binary64 (of_bits binary64 a)) (ap is_nan e)

of_nan : square_root binary64 nan ≡ nan
unfolding square_root
of_nan = refl

of_zero : (a : ℕ) → a % 2 ^ 63 ≡ 0 → square_root binary64 (of_bits binary64 a) ≡ of_bits binary64 a
unfolding square_root
of_zero a e = ap (square_root binary64) (word_zero a e) ∙ sym (word_zero a e)

of-infinite : (a : ℕ) → a < 2 ^ 63 → a % 2 ^ 63 ≡ 2047 * 2 ^ 52 → square_root binary64 (of_bits binary64 a) ≡ of_bits binary64 a
unfolding square_root
of-infinite a h e = ap (square_root binary64) at ∙ sym at
  where
    at : of_bits binary64 a ≡ inf false
    at = word_infinite a e ∙ ap inf (lib.Ieee.Bits.is_false (leb (2 ^ 63) a) (lib.Arith.lt→nleb (2 ^ 63) a h))

of_negative : (a : ℕ) → 2 ^ 63 ≤ a → 0 < a % 2 ^ 63 → a % 2 ^ 63 ≤ 2047 * 2 ^ 52 → square_root binary64 (of_bits binary64 a) ≡ nan
unfolding square_root
of_negative a n p h = elim (eq-or-lt_of_le h) [
  | inl e ↦ ap (square_root binary64) (word_infinite a e ∙ ap inf minus)
  | inr l ↦
      let v = word_finite a p l in
      root_negative (of_bits binary64 a) v.0 (2 ^ 1074) v.1 (pow_pos 1074) (subst (λ (s : Bool). HasValue (of_bits binary64 a) s v.0 (2 ^ 1074)) minus v.2)
]
  where
    minus : leb (2 ^ 63) a ≡ true
    minus = is_true (leb (2 ^ 63) a) (le→leb (2 ^ 63) a n)

abs-requires : tie.Need-abs-size-requires
abs-requires c κs = search rules

returns : tie.Need-returns-then-size-gt-INFINITY
unfolding is_nan
returns c =
    let a = c.args.a in
    let n = above_nan a (omega (arith, c.abs-size.ensures, c.if-size-gt-INFINITY.true)) in
    marked a [] (ap is_nan n) ∙ mark-word a (ap (square_root binary64) n ∙ of_nan)

returns-2 : tie.Need-returns-then-size-eq0
returns-2 c =
    let s = c.before.before.before in
    let z : s.args.a % 2 ^ 63 ≡ 0 = omega (arith, c.abs-size.ensures, c.if-size-eq0.true) in
    same_word s.args.a s.ranges.a.fits (omega (arith, z)) (of_zero s.args.a z)

returns-3 : tie.Need-returns-then-a-ge-SIGN
returns-3 c =
    let s = c.before.before.before.before in
    let e = c.abs-size.ensures in
    let h : s.args.a % 2 ^ 63 ≤ 2047 * 2 ^ 52 = omega (arith, e, c.if-size-gt-INFINITY.false) in
    passed s.args.a [] (number s.args.a h) ∙ mark-word s.args.a (of_negative s.args.a c.if-a-ge-SIGN.true (omega (arith, e, c.if-size-eq0.false)) h)

returns-4 : tie.Need-returns-then-a-eq-INFINITY
returns-4 c =
    let s = c.before.before.before.before.before in
    let e : s.args.a % 2 ^ 63 ≡ 2047 * 2 ^ 52 = omega (arith, c.if-a-eq-INFINITY.true) in
    same_word s.args.a s.ranges.a.fits (omega (arith, e)) (of-infinite s.args.a (omega (arith, c.if-a-eq-INFINITY.true)) e)

root-finite-requires : tie.Need-root_finite-requires
root-finite-requires c κs =
    let e = c.abs-size.ensures in
    let l = c.if-size-gt-INFINITY.false in
    let z = c.if-size-eq0.false in
    (omega (arith, e, z), omega (arith, e, l, c.if-a-eq-INFINITY.false, c.if-a-ge-SIGN.false))

returns-5 : tie.Need-returns
returns-5 c = c.root_finite.ensures

pub root_spec : {M : Type 1} → statement M
root_spec =
    tie.close
    (tie.spec abs-requires returns returns-2 returns-3 returns-4 root-finite-requires returns-5)
