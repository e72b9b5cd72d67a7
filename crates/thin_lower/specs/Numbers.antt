-- The answer of lowering in two parts: the final record of realness, and the rest.
use Rattle.complexify.specs.declared.entry.LowerAnswer.{LowerAnswer}
use Rattle.thin_lower.specs.declared.Held.{Held}
use Rattle.thin_lower.specs.declared.Numbers.{Numbers}

abbrev pub numbers_of : LowerAnswer → Numbers
numbers_of a = record { number = a.number; index = a.index; written = a.written; count = a.count; drawn = a.drawn }

-- document 02, l): "Lowering's realness record gains a mark for each listing register: filled or not yet"
abbrev pub held_of : LowerAnswer → Held
held_of a = record { real = a.real; filled = a.filled }
