use Rattle.mir.specs.Writing.{◌▹◌}
use Rattle.mir.specs.Register.{re, im}
use Rattle.lowering.specs.Lines.{stable_exponent, plain_root_magnitude, stable_root_magnitude}
use Rattle.root_lines.specs.RootBlock.{root_mask, root_halves}
use Rattle.root_lines.proofs.plain_root_magnitude.Goals as goal

pub returns : goal.returns
unfolding re im stable_exponent plain_root_magnitude stable_root_magnitude root_mask root_halves
returns c =
    c.bi.ensures ▹ c.fused_mul_add.ensures ▹ c.uni.ensures ▹ c.uni-2.ensures ▹ c.bi-2.ensures ▹ c.uni-3.ensures ▹ c.uni-4.ensures
