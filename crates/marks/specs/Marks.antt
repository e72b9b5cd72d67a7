-- Which registers a listing draws on before they are filled (document 02, l), over its records in the order of play from record 0.
use Rattle.std.specs.Prelude.{ℕ, zero, suc, Bool, true, false, not, cond, ◌&&◌, ◌||◌, List, [], ◌∷◌, ltb, eqb}
use Rattle.mir.specs.declared.records.Work.{Work}
use Rattle.mir.specs.declared.records.Record.{Record}
use Rattle.player_machine.specs.Machine.{block}
use Rattle.player_machine.specs.Draws.{draws, fills}

-- some words of the store, by their indices; a register's index is its number
abbrev pub Set : Type 0
Set = ℕ → Bool

-- the words of a list
abbrev pub among : List ℕ → Set
among [] i = false
among (j ∷ js) i = eqb i j || among js i

abbrev pub nothing : Set
nothing i = false

abbrev pub everything : Set
everything i = true

abbrev pub join : Set → Set → Set
join A B i = A i || B i

abbrev pub meet : Set → Set → Set
meet A B i = A i && B i

abbrev pub without : Set → Set → Set
without A B i = A i && not (B i)

-- Before a record: what is filled there, on every way that leads there; what was drawn on before it was filled; and for each label what is
-- filled on every branch to it so far. Where no way leads, everything counts as filled: nothing is drawn on there, and at a label it takes
-- nothing away.
pub record Marking : Type 0 where
  pub filled : Set
  pub drawn : Set
  pub ways : ℕ → Set

-- "a mark for each listing register: filled or not yet"; before record 0 none is
abbrev pub start : Marking
start = record { filled = nothing; drawn = nothing; ways = λ l. everything }

-- "registers drawn on before being filled"
abbrev pub draw_on : List ℕ → Marking → Marking
draw_on is m = record { filled = m.filled; drawn = join m.drawn (without (among is) m.filled); ways = m.ways }

-- "Only a written word fills one"
abbrev pub fill : List ℕ → Marking → Marking
fill is m = record { filled = join m.filled (among is); drawn = m.drawn; ways = m.ways }

-- a working record draws, then fills; "a Xor of one register with itself draws on nothing" (`draws`)
abbrev pub working : Work → Marking → Marking
working w m = fill (fills w) (draw_on (draws w) m)

-- "Each Call goes through the block with its own marks."
abbrev pub through : List Work → Marking → Marking
through [] m = m
through (w ∷ ws) m = through ws (working w m)

-- a branch to label l: what is filled there, on this way too
abbrev pub noted : ℕ → Set → (ℕ → Set) → ℕ → Set
noted l A ways k = cond (eqb k l) (meet (ways k) A) (ways k)

abbrev pub way : ℕ → Marking → Marking
way l m = record { filled = m.filled; drawn = m.drawn; ways = noted l m.filled m.ways }

-- "a register counts as filled at a label [..] only if it is filled on every way in": on each branch to it, and at the record above it
abbrev pub enter : ℕ → Marking → Marking
enter l m = record { filled = meet m.filled (m.ways l); drawn = m.drawn; ways = m.ways }

-- "the record after a Branch to such a label", from 3 up, "is taken as reached from it"; Branch 2 leads to Label 2 alone, Branch 0 to none
abbrev pub branch : ℕ → Marking → Marking
branch l m =
    record { filled = cond (ltb l 3) everything m.filled; drawn = m.drawn; ways = noted l m.filled m.ways }

-- one record, where b is the block; a BranchIf draws on its condition
unfoldable pub step : List Work → Record → Marking → Marking
step b (Record.Work w) m = working w m
step b (Record.Label l) m = enter l m
step b (Record.Branch l) m = branch l m
step b (Record.Call l) m = through b m
step b (Record.BranchIf c l e) m = way l (draw_on (c ∷ []) m)

-- records one after the other
unfoldable pub scan : List Work → List Record → Marking → Marking
unfolding step
scan b [] m = m
scan b (r ∷ rs) m = scan b rs (step b r m)

-- a whole listing's records from record 0
abbrev pub marking : List Record → Marking
marking rs = scan (block rs) rs start

-- what they draw on before it is filled, and what is filled after them
abbrev pub drawn_on : List Record → Set
drawn_on rs = (marking rs).drawn

abbrev pub filled_by : List Record → Set
filled_by rs = (marking rs).filled

-- the first n words of a set, as marks
abbrev pub flags : ℕ → Set → List Bool
flags zero A = []
flags (suc n) A = A 0 ∷ flags n (λ i. A (suc i))

-- a mark for each of the 66 registers
abbrev pub registers : Set → List Bool
registers A = flags 66 A
