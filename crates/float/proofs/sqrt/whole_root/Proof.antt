-- `float::sqrt::whole_root` meets its contract: its calls are the mends of `Heron.antt`. Assumes nothing.
use mathlib.Core.Path.{◌≡◌, sym, ap, ap₂, ◌∙◌, subst}
use Prim.Native.Nat.{ℕ, ◌+◌, ◌-◌, ◌*◌, ◌^◌, ◌≤◌}
use native.Mathlib.Omega.{arith}
use borrow.Author.Rules.{rules}
use Rattle.float.specs.Mends.{middle, above, mended}
use Rattle.float.proofs.Heron.{Near, once, twice, thrice, near-once, near-twice, near-thrice, above_is, eight-mends}
use Rattle.float.proofs.sqrt.whole_root.Statement.{statement}
use Rattle.float.proofs.sqrt.whole_root.Tie as tie

-- what each call of `mend` gives
first : (c : tie.After-mend-u) → c.mend-u.result.value ≡ once c.args.m
first c = c.mend-u.ensures.0 ∙ ap (middle c.args.m) c.estimate.ensures

second : (c : tie.After-mend-v) → c.mend-v.result.value ≡ twice c.args.m
second c = c.mend-v.ensures.0 ∙ ap (middle c.args.m) (first c.before)

third : (c : tie.After-mend-w) → c.mend-w.result.value ≡ thrice c.args.m
third c = c.mend-w.ensures.0 ∙ ap (middle c.args.m) (second c.before)

-- and how near it is
at : (m u v d : ℕ) → u ≡ v → Near m v d → Near m u d
at m u v d e h = subst (λ (x : ℕ). Near m x d) (sym e) h

first-near : (c : tie.After-mend-u) → Near c.args.m c.mend-u.result.value (9 * 2 ^ 18)
first-near c = let s = c.before.before in at s.args.m c.mend-u.result.value (once s.args.m) (9 * 2 ^ 18) (first c) (near-once s.args.m s.requires.0 s.requires.1)

second-near : (c : tie.After-mend-v) → Near c.args.m c.mend-v.result.value (81 * 2 ^ 8)
second-near c =
    let s = c.before.before.before in
    at s.args.m c.mend-v.result.value (twice s.args.m) (81 * 2 ^ 8) (second c) (near-twice s.args.m s.requires.0 s.requires.1)

third-near : (c : tie.After-mend-w) → Near c.args.m c.mend-w.result.value 2
third-near c =
    let s = c.before.before.before.before in
    at s.args.m c.mend-w.result.value (thrice s.args.m) 2 (third c) (near-thrice s.args.m s.requires.0 s.requires.1)

-- and how many there were
three : (c : tie.After-mend-w) → c.mend-w.result.mends ≡ 3
three c = omega (arith, c.mend-w.ensures.2, c.mend-v.ensures.2, c.mend-u.ensures.2)

lengthen-requires : tie.Need-lengthen-s-requires
lengthen-requires c κs =
    let h = third-near c in
    (c.requires.1, omega (arith, h.1), omega (arith, h.0.0), omega (arith, h.0.1), omega (arith, three c))

returns : tie.Need-returns
unfolding mended
returns c =
    let l = c.before in
    let s = l.before.before.before.before.before in
    let m = s.args.m in
    let q = l.lengthen-s.result.q in
    let e = l.lengthen-s.ensures in
    let t = c.last_mend.ensures in
    let q-is : q ≡ middle (m * 2 ^ 52) (thrice m * 2 ^ 26) = e.0 ∙ ap (λ (w : ℕ). middle (m * 2 ^ 52) (w * 2 ^ 26)) (third l.before) in
    let unit = above_is (m * 2 ^ 52) q l.lengthen-s.result.under l.lengthen-s.result.over e.1 in
    let four : l.lengthen-s.result.mends ≡ 4 = omega (arith, e.5, three l.before) in
    let mends : c.last_mend.result.mends ≡ (mended m).mends = t.3 ∙ ap₂ (λ (k j : ℕ). k + j) four (unit ∙ ap (above (m * 2 ^ 52)) q-is) in (
      t.0 ∙ ap (λ (k : ℕ). q - k) unit ∙ ap (λ (x : ℕ). x - above (m * 2 ^ 52) x) q-is,
      mends,
      subst (λ (k : ℕ). k ≤ 8) (sym mends) (eight-mends m s.requires.0 s.requires.1).1,
      omega (arith, t.1, e.1),
      t.2,
    )

pub whole_root_spec : {M : Type 1} → statement M
whole_root_spec =
    tie.close
    (tie.spec
    (λ c κs. search rules)
    (λ c κs. let e = c.estimate.ensures in (c.requires.1, omega (arith, e), omega (arith, e), omega arith))
    (λ c κs. let h = first-near c in (c.requires.1, omega (arith, h.1), c.mend-u.ensures.1, omega (arith, c.mend-u.ensures.2)))
    (λ c κs.
    let h = second-near c in
    (c.requires.1, omega (arith, h.1), c.mend-v.ensures.1, omega (arith, c.mend-v.ensures.2, c.mend-u.ensures.2)))
    lengthen-requires
    (λ c κs. let e = c.lengthen-s.ensures in (e.2, e.3, e.4, omega (arith, e.5, three c.before)))
    returns)
