-- A table's names in the code are those of its definition.
use Prim.Native.Nat.{ℕ}
use Prim.Native.String.{String, [] as ε}
use mathlib.Core.Path.{◌≡◌, ap, ◌∙◌}
use mathlib.Core.List.{List, [], map}
use lib.ListN.{get_or, get_or-map}
use Rattle.text.specs.declared.line.Line.{Line}
use Rattle.text.specs.Line.{add_all, Adds}
use Rattle.text.specs.Text.{ascii, name_of}

pub by_name : {l r : Line} (names : List String) {m n : ℕ} → m ≡ n → Adds l (get_or (map ascii names) m []) r → Adds l (name_of names n) r
unfolding ascii
by_name {l} {r} names {m} {n} e p = record { same = p.same ∙ ap (add_all l) (get_or-map ascii names m ε ∙ ap (name_of names) e) }
