-- What a row of working records does to any marks is told by what it does from the start: what it draws on before filling it, and what it
-- fills. So a Call is two sets, and not the block again.
use Prim.Native.Nat.{ℕ}
use mathlib.Core.Path.{◌≡◌, refl, sym, ap, ◌∙◌}
use mathlib.Core.Bool.{Bool, true, false, not, ◌&&◌, ◌||◌}
use mathlib.Core.List.{List, [], ◌∷◌}
use Rattle.mir.specs.declared.records.Work.{Work}
use Rattle.player_machine.specs.Draws.{draws, fills}
use Rattle.marks.specs.Marks.{Set, among, Marking, start, working, through}

-- what a row draws on before filling it, and fills, from nothing
abbrev pub block_drawn : List Work → Set
block_drawn ws = (through ws start).drawn

abbrev pub block_filled : List Work → Set
block_filled ws = (through ws start).filled

filled_on : (f a g : Bool) → ((f || a) || g) ≡ (f || (a || g))
filled_on true a g = refl
filled_on false true g = refl
filled_on false false g = refl

drawn-on : (d a f g x : Bool) → ((d || (a && not f)) || (x && not (f || g))) ≡ (d || ((a || (x && not g)) && not f))
drawn-on true a f g x = refl
drawn-on false true true g true = refl
drawn-on false true true g false = refl
drawn-on false true false g x = refl
drawn-on false false true true true = refl
drawn-on false false true false true = refl
drawn-on false false false true true = refl
drawn-on false false false false true = refl
drawn-on false false true g false = refl
drawn-on false false false g false = refl

none_r : (a : Bool) → a ≡ (a || false)
none_r true = refl
none_r false = refl

all_r : (a : Bool) → (a && true) ≡ a
all_r true = refl
all_r false = refl

pub through_filled : (ws : List Work) (s : Marking) (i : ℕ) → (through ws s).filled i ≡ (s.filled i || block_filled ws i)
through_filled [] s i = none_r (s.filled i)
through_filled (w ∷ ws) s i =
    through_filled ws (working w s) i ∙ filled_on (s.filled i) (among (fills w) i) (block_filled ws i)
    ∙ ap (λ (x : Bool). s.filled i || x) (sym (through_filled ws (working w start) i))

pub through_drawn : (ws : List Work) (s : Marking) (i : ℕ) → (through ws s).drawn i ≡ (s.drawn i || (block_drawn ws i && not (s.filled i)))
through_drawn [] s i = none_r (s.drawn i)
through_drawn (w ∷ ws) s i =
    through_drawn ws (working w s) i
    ∙ drawn-on (s.drawn i) (among (draws w) i) (s.filled i) (among (fills w) i) (block_drawn ws i)
    ∙ ap (λ (x : Bool). s.drawn i || (x && not (s.filled i)))
    (sym (through_drawn ws (working w start) i ∙ ap (λ (x : Bool). x || (block_drawn ws i && not (among (fills w) i))) (all_r (among (draws w) i))))
