use Rattle.mir.specs.Writing.{◌▹◌}
use Rattle.mir.specs.Register.{re, im}
use Rattle.lowering.specs.Lines.{stable_exponent, scaled_divide, stable_abs_lines, stable_recip_lines, stable_divisor_scale}
use Rattle.stable_lines.proofs.scaled_divide.Goals as goal

pub returns-then-x : goal.returns-then-x
unfolding re im stable_exponent scaled_divide stable_abs_lines stable_recip_lines stable_divisor_scale
returns-then-x c =
    simp c.if-x.true
    (c.bi.ensures ▹ c.bi-then-x.ensures ▹ c.bi-then-x-2.ensures ▹ c.bi-then-x-3.ensures ▹ c.bi-then-x-4.ensures ▹ c.bi-then-x-5.ensures ▹ c.fused_mul_add.ensures ▹ c.uni.ensures ▹ c.bi-then-x-6.ensures ▹ c.bi-then-x-7.ensures)
