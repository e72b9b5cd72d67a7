use Rattle.mir.specs.Writing.{◌▹◌}
use Rattle.mir.specs.Register.{re, im}
use Rattle.lowering.specs.Lines.{stable_exponent, plain_root_magnitude, stable_root_magnitude}
use Rattle.root_lines.specs.RootBlock.{root_mask, root_halves}
use Rattle.root_lines.proofs.root_mask.Goals as goal

pub returns : goal.returns
unfolding re im stable_exponent plain_root_magnitude stable_root_magnitude root_mask root_halves
returns c =
    c.bi.ensures ▹ c.bi-2.ensures ▹ c.save.ensures
