-- `float::wide::jam_wide` meets its contract. Assumes nothing.
use mathlib.Core.Path.{◌≡◌, refl, sym, ap, ◌∙◌, subst₂}
use mathlib.Core.Logic.{inl, inr}
use Prim.Native.Nat.{ℕ, ◌+◌, ◌-◌, ◌*◌, ◌^◌, ◌≤◌, ◌<◌}
use native.Mathlib.Nat.{mul-one, zero-add}
use native.Mathlib.Omega.{arith}
use lib.Arith.{digits_lt}
use lib.Pow.{pow_pos, pow-add, pow_mono}
use borrow.Author.Rules.{rules}
use Rattle.float.specs.Near.{Near, both}
use Rattle.float.proofs.Sticky.{near_trans}
use Rattle.float.proofs.wide.jam_wide.Statement.{statement}
use Rattle.float.proofs.wide.jam_wide.Tie as tie

none : (x d : ℕ) → d ≡ 0 → Near x x (2 ^ d)
none x d e = inl (sym (ap (λ (z : ℕ). x * 2 ^ z) e ∙ mul-one x))

returns : tie.Need-returns-then-d-eq0
returns c = let s = c.before in none (both s.args.v.hi s.args.v.lo) s.args.d c.if-d-eq0.true

jam-short-requires : tie.Need-jam_short-requires
jam-short-requires c κs = search rules

returns-2 : tie.Need-returns-then-d-lt64
returns-2 c = c.jam_short.ensures

jam-word-requires : tie.Need-jam_word-w-requires
jam-word-requires c κs = search rules

jam-requires : tie.Need-jam-requires
jam-requires c κs = search rules

twice : (x w r d : ℕ) → 64 ≤ d → Near x w (2 ^ 64) → Near w r (2 ^ (d - 64)) → Near x (both 0 r) (2 ^ d)
twice x w r d h a b =
    subst₂ (λ (y u : ℕ). Near x y u) (sym (zero-add r)) (sym (pow-add 2 (d - 64) 64) ∙ ap (λ (z : ℕ). 2 ^ z) {x = d - 64 + 64} {y = d} (omega arith))
    (near_trans x w r (2 ^ 64) (2 ^ (d - 64)) (pow_pos 64) a b (pow_pos (d - 64)))

returns-3 : tie.Need-returns-then-d-lt128
returns-3 c =
    let s = c.before.before.before.before.before in
    let v = s.args.v in
    twice (both v.hi v.lo) c.jam_word-w.result c.jam.result s.args.d c.if-d-lt64.false c.jam_word-w.ensures c.jam.ensures

all-lost : (x d : ℕ) → 0 < x → x < 2 ^ 128 → 128 ≤ d → Near x 1 (2 ^ d)
all-lost x d p h l =
    let big : 2 ^ 128 ≤ 2 ^ d = pow_mono {i = 128} {j = d} l in
    inr (refl, lt1 x (2 ^ d) p, lt2 x (2 ^ 128) (2 ^ d) h big)
  where
    lt1 : (x u : ℕ) → 0 < x → 1 * u < x + u
    lt1 x u p = omega arith

    lt2 : (x t u : ℕ) → x < t → t ≤ u → x < 1 * u + u
    lt2 x t u h l = omega arith

returns-4 : tie.Need-returns
returns-4 c =
    let s = c.before.before.before in
    let v = s.args.v in
    let a : v.hi < 2 ^ 64 = omega (arith, s.well_formed) in
    let b : v.lo < 2 ^ 64 = omega (arith, s.well_formed) in
    let h : both v.hi v.lo < 2 ^ 64 * 2 ^ 64 = digits_lt a b in
    all-lost (both v.hi v.lo) s.args.d s.requires h c.if-d-lt128.false

pub jam_wide_spec : {M : Type 1} → statement M
jam_wide_spec =
    tie.close
    (tie.spec returns jam-short-requires returns-2 jam-word-requires jam-requires returns-3 returns-4)
