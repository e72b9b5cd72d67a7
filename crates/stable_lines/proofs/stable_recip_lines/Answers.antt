use Rattle.mir.specs.Writing.{◌▹◌}
use Rattle.mir.specs.Register.{re, im}
use Rattle.lowering.specs.Lines.{stable_exponent, scaled_divide, stable_abs_lines, stable_recip_lines, stable_divisor_scale}
use Rattle.stable_lines.proofs.stable_recip_lines.Goals as goal

pub returns : goal.returns
unfolding re im stable_exponent scaled_divide stable_abs_lines stable_recip_lines stable_divisor_scale
returns c =
    c.stable_divisor_scale.ensures ▹ c.bi.ensures ▹ c.bi-2.ensures ▹ c.bi-3.ensures ▹ c.fused_mul_add.ensures ▹ c.bi-4.ensures ▹ c.bi-5.ensures ▹ c.uni.ensures ▹ c.bi-6.ensures ▹ c.bi-7.ensures
