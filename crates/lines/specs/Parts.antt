-- The listing register that a part names.
use Rattle.std.specs.Prelude.{ℕ}
use Rattle.mir.specs.Register.{re, im}
use Rattle.lines.specs.declared.parts.Part.{Part}

abbrev pub part_of : Part → ℕ
part_of (Part.Re r) = re r
part_of (Part.Im r) = im r
part_of (Part.Reg n) = n
