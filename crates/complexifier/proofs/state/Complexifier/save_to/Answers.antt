use mathlib.Core.List.{map}
use Rattle.mir.specs.declared.records.Record.{Record}
use Rattle.lowering.specs.Lines.{save_lines}
use Rattle.lowering.specs.Complexifier.{save_to, saved_realness}
use Rattle.complexifier.specs.Does.{listing, ◌▸◌}
use Rattle.complexifier.proofs.state.Complexifier.save_to.Goals as goal

pub returns : goal.returns
unfolding save_to
returns c = c.ensure_complex.ensures ▸ listing (map Record.Work (save_lines _ _)) (saved_realness c.args.loc) c.save_lines.ensures c.saved.ensures
