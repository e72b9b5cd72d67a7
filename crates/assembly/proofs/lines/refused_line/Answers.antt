-- `assembly::lines::refused_line` meets its contract.
use mathlib.Core.Path.{refl}
use Rattle.text.specs.Line.{◌▹◌}
use Rattle.text.specs.Text.{ascii}
use Rattle.text.proofs.Whole.{prints}
use Rattle.text.proofs.Tables.{by_name}
use Rattle.assembly.specs.Lines.{reasons, refused_text}
use Rattle.assembly.proofs.Short.{refused_short}
use Rattle.assembly.proofs.lines.refused_line.Goals as goal

pub returns : goal.returns
unfolding ascii refused_text
returns c = prints c.empty_line.ensures (c.text.ensures ▹ c.number.ensures ▹ (c.byte.ensures ▹ by_name reasons refl c.name_in.ensures) ▹ c.byte-2.ensures) (refused_short c.args.number c.args.why)
