-- `float::wide::wide_sub` meets its contract. Assumes nothing.
use mathlib.Core.Path.{◌≡◌}
use Prim.Native.Nat.{ℕ, ◌+◌, ◌-◌, ◌^◌, ◌≤◌, ◌<◌}
use native.Mathlib.Omega.{arith}
use borrow.Author.Rules.{rules}
use Rattle.float.specs.Near.{both}
use Rattle.float.proofs.wide.wide_sub.Statement.{statement}
use Rattle.float.proofs.wide.wide_sub.Tie as tie

-- what is known at the start
b-lo : (s : tie.Start) → s.args.b.lo < 2 ^ 64
b-lo s = omega (arith, s.well_formed)

a-lo : (s : tie.Start) → s.args.a.lo < 2 ^ 64
a-lo s = omega (arith, s.well_formed)

plain : (h l k m : ℕ) → l < 2 ^ 64 → both k m ≤ both h l → m ≤ l → both (h - k) (l - m) + both k m ≡ both h l
plain h l k m L g x = omega arith

carried : (h l k m : ℕ) → m < 2 ^ 64 → both k m ≤ both h l → l < m → both (h - k - 1) (l + (2 ^ 64 - 1 - m) + 1) + both k m ≡ both h l
carried h l k m M g x = omega arith

higher : (h l k m : ℕ) → both k m ≤ both h l → l < m → 1 ≤ h - k
higher h l k m g x = omega arith

sub-hi : tie.Need-overflow_sub-hi
sub-hi c = search rules

returns : tie.Need-returns-then-b-a
returns c = let s = c.before.before.before.before.before.before.before in plain s.args.a.hi s.args.a.lo s.args.b.hi s.args.b.lo (a-lo s) s.requires c.if-b-a.true

sub-room : tie.Need-overflow_sub-room
sub-room c = let s = c.before.before.before.before.before.before in omega (arith, b-lo s)

sub-t7 : tie.Need-overflow_sub-result-2
sub-t7 c = let s = c.before.before.before.before.before.before in higher s.args.a.hi s.args.a.lo s.args.b.hi s.args.b.lo s.requires c.if-b-a.false

add-t8 : tie.Need-overflow_add-result
add-t8 c = let s = c.before.before.before.before.before.before.before in record { fits = omega (arith, b-lo s, c.if-b-a.false) }

add-t9 : tie.Need-overflow_add-result-2
add-t9 c = let s = c.before.before.before.before.before.before.before in record { fits = omega (arith, b-lo s, c.if-b-a.false) }

returns-2 : tie.Need-returns
returns-2 c = let s = c.before.before.before.before.before.before.before in carried s.args.a.hi s.args.a.lo s.args.b.hi s.args.b.lo (b-lo s) s.requires c.if-b-a.false

pub wide_sub_spec : {M : Type 1} → statement M
wide_sub_spec = tie.close (tie.spec sub-hi returns sub-room sub-t7 add-t8 add-t9 returns-2)
