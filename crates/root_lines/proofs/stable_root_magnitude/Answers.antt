use Rattle.mir.specs.Writing.{◌▹◌}
use Rattle.mir.specs.Register.{re, im}
use Rattle.lowering.specs.Lines.{stable_exponent, plain_root_magnitude, stable_root_magnitude}
use Rattle.root_lines.specs.RootBlock.{root_mask, root_halves}
use Rattle.root_lines.proofs.stable_root_magnitude.Goals as goal

pub returns : goal.returns
unfolding re im stable_exponent plain_root_magnitude stable_root_magnitude root_mask root_halves
returns c =
    c.stable_exponent.ensures ▹ c.uni.ensures ▹ c.bi.ensures ▹ c.bi-2.ensures ▹ c.load_const.ensures ▹ c.bi-3.ensures ▹ c.uni-2.ensures ▹ c.bi-4.ensures ▹ c.bi-5.ensures ▹ c.bi-6.ensures ▹ c.fused_mul_add.ensures ▹ c.uni-3.ensures ▹ c.uni-4.ensures ▹ c.bi-7.ensures ▹ c.uni-5.ensures ▹ c.uni-6.ensures ▹ c.bi-8.ensures
