use Rattle.mir.specs.Writing.{◌▹◌}
use Rattle.mir.specs.Register.{re, im}
use Rattle.lowering.specs.Lines.{stable_exponent, plain_root_magnitude, stable_root_magnitude}
use Rattle.root_lines.specs.RootBlock.{root_mask, root_halves}
use Rattle.root_lines.proofs.root_halves.Goals as goal

pub returns : goal.returns
unfolding re im stable_exponent plain_root_magnitude stable_root_magnitude root_mask root_halves
returns c =
    c.bi.ensures ▹ c.uni.ensures ▹ c.bi-2.ensures ▹ c.bi-3.ensures ▹ c.if_else.ensures ▹ c.if_else-2.ensures ▹ c.uni-2.ensures ▹ c.bi-4.ensures ▹ c.bi-5.ensures
