-- The code's answer, and the page slice after it, as the definitions have them.
use Rattle.std.specs.Prelude.{ℕ, List}
use Rattle.pages.specs.declared.PagesAnswer.{PagesAnswer}
use Rattle.pages.specs.Printed.{Printed}

abbrev pub whole : PagesAnswer → List ℕ → Printed
whole r out = record { number = r.number; index = r.index; pages = r.pages; out = out }
