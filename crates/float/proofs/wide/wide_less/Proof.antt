-- `float::wide::wide_less` meets its contract. Assumes nothing.
use mathlib.Core.Path.{◌≡◌}
use Prim.Native.Nat.{ℕ, ◌^◌, ◌≤◌, ◌<◌}
use native.Mathlib.Omega.{arith}
use lib.Dec.{ltb}
use Rattle.float.specs.Near.{both}
use Rattle.float.proofs.Sums.{ltb_agree}
use Rattle.float.proofs.wide.wide_less.Statement.{statement}
use Rattle.float.proofs.wide.wide_less.Tie as tie

level : (h l k m : ℕ) → h ≡ k → ltb l m ≡ ltb (both h l) (both k m)
level h l k m e = ltb_agree l m (both h l) (both k m) (λ (x : l < m). omega arith) (λ (x : m ≤ l). omega arith)

apart : (h l k m : ℕ) → l < 2 ^ 64 → m < 2 ^ 64 → (h ≡ k → ⊥) → ltb h k ≡ ltb (both h l) (both k m)
apart h l k m L M n = ltb_agree h k (both h l) (both k m) (λ (x : h < k). omega arith) (λ (x : k ≤ h). omega (arith, n))

returns : tie.Need-returns-then-a-b
returns c = let s = c.before.before.before.before.before in level s.args.a.hi s.args.a.lo s.args.b.hi s.args.b.lo c.if-a-b.true

returns-2 : tie.Need-returns-else-a-b
returns-2 c =
    let s = c.before.before.before.before.before in
    let l : s.args.a.lo < 2 ^ 64 = omega (arith, s.well_formed) in
    let m : s.args.b.lo < 2 ^ 64 = omega (arith, s.well_formed) in
    apart s.args.a.hi s.args.a.lo s.args.b.hi s.args.b.lo l m c.if-a-b.false

pub wide_less_spec : {M : Type 1} → statement M
wide_less_spec = tie.close (tie.spec returns returns-2)
