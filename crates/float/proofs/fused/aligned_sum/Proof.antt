-- `float::fused::aligned_sum` meets its contract (`Alignment.antt`). Assumes nothing.
use mathlib.Core.Path.{◌≡◌, ap, ◌∙◌}
use mathlib.Core.Bool.{Bool}
use Prim.Native.Nat.{ℕ, ◌+◌, ◌*◌, ◌^◌, ◌<◌}
use native.Mathlib.Nat.{lt_of_le_of_lt, lt_of_lt_of_le, le-add_right, lt_of_mul-lt-mul_right, mul-le-mul_left}
use native.Mathlib.Omega.{arith}
use lib.IntN.{ℤ}
use lib.Signed.{mag}
use lib.Pow.{pow_pos}
use lib.Ieee.{binary64, to_bits, sum, up, down}
use Rattle.float.specs.Near.{Near, both, Scaled}
use Rattle.float.specs.Biased.{biased}
use Rattle.float.proofs.Signed.{read, same, handed}
use Rattle.float.proofs.Sticky.{near_lt}
use Rattle.float.proofs.Alignment.{pow_sum, aligned_scaled}
use Rattle.float.proofs.fused.aligned_sum.Statement.{statement}
use Rattle.float.proofs.fused.aligned_sum.Tie as tie

-- a number of two words below 2 ^ 127
upper : (h l : ℕ) → both h l < 2 ^ 127 → h < 2 ^ 63
upper h l b = lt_of_mul-lt-mul_right (2 ^ 64) (lt_of_le_of_lt (le-add_right (h * 2 ^ 64) l) b)

jammed : (x h l d : ℕ) → x < 2 ^ 127 → Near x (both h l) (2 ^ d) → h < 2 ^ 63
jammed x h l d b n = upper h l (near_lt x (both h l) (2 ^ d) (2 ^ 126) (pow_pos d) (lt_of_lt_of_le b (mul-le-mul_left (2 * 2 ^ 126) (pow_pos d))) n)

-- b is moved down by d digits
moved : (s t : Bool) (a b m d : ℕ) (x y : ℤ) → Scaled a → Scaled b → mag x < 4000 → mag y < 4000 → Near b m (2 ^ d) → biased (read x) ≡ biased (read y) + d
    → sum binary64 s (a * up (read x)) t (m * up (read x)) (down (read x)) ≡ sum binary64 s (a * 2 ^ biased x) t (b * 2 ^ biased y) (2 ^ 8192)
moved s t a b m d x y A B X Y near e =
    ap (λ (z : ℤ). sum binary64 s (a * up z) t (m * up z) (down z)) (same x 4000 X (omega arith))
    ∙ pow_sum s t a m x (omega (arith, X))
    ∙ aligned_scaled s t a b m (biased x) (biased y) d A B near (omega (arith, e, ap biased (same x 4000 X (omega arith)), ap biased (same y 4000 Y (omega arith))))

pub aligned_sum_spec : {M : Type 1} → statement M
aligned_sum_spec =
    tie.close
    (tie.spec
    (λ c κs.
    let x = same c.args.ea 4000 c.requires.2 (omega arith) in
    let y = same c.args.eb 4000 c.requires.3 (omega arith) in
    (handed c.args.ea 4096 (omega (arith, c.requires.2)) (omega arith), handed c.args.eb 4096 (omega (arith, c.requires.3)) (omega arith), omega (arith, c.requires.4, ap biased x, ap biased y)))
    (λ c κs. lt_of_lt_of_le (pow_pos 125) c.requires.1.lo)
    (λ c κs.
    let s = c.before.before in
    let a = s.args.a in
    let b = s.args.b in
    let w = c.jam_wide.result in
    (lt_of_lt_of_le (pow_pos 125) s.requires.0.lo, upper a.hi a.lo s.requires.0.hi, jammed (both b.hi b.lo) w.hi w.lo c.gap.result s.requires.1.hi c.jam_wide.ensures, handed s.args.ea 4000 s.requires.2 (omega arith)))
    (λ c.
    let s = c.before.before.before in
    let x = s.args in
    let w = c.jam_wide.result in
    c.signed_sum.ensures
    ∙ ap (to_bits binary64) (moved x.s x.t (both x.a.hi x.a.lo) (both x.b.hi x.b.lo) (both w.hi w.lo) c.gap.result x.ea x.eb s.requires.0 s.requires.1 s.requires.2 s.requires.3 c.jam_wide.ensures c.gap.ensures)))
