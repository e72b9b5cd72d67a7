-- Places (symbol.rs's `Loc`): "a class byte (0 Stack, 1 Mem, 2 Param) and a two-byte index" (document 01, Sheet).
use Rattle.std.specs.Prelude.{ℕ}
use Rattle.mir.specs.declared.records.Loc.{Loc}

abbrev pub class : Loc → ℕ
class (Loc.Stack i) = 0
class (Loc.Mem i) = 1
class (Loc.Param i) = 2

abbrev pub index : Loc → ℕ
index (Loc.Stack i) = i
index (Loc.Mem i) = i
index (Loc.Param i) = i
