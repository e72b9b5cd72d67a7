-- The marks a second time, without a record of what is filled: a register is "drawn on before being filled, over the order of play from
-- record 0", where some way from record 0 leads to a record that draws on it, past none that fills it. The ways are those of `play`, with
-- both sides of a BranchIf, and from a Branch to a label from 3 up also the record after it.
use Rattle.std.specs.Prelude.{ℕ, ◌≡◌, Bool, true, false, not, ◌⊎◌, ◌↔◌, List, [], ◌∷◌, length, T, ltb, eqb}
use Rattle.mir.specs.declared.records.Work.{Work}
use Rattle.mir.specs.declared.records.Record.{Record}
use Rattle.player_machine.specs.Machine.{block, Way, going, seeking}
use Rattle.player_machine.specs.Jumps.{breach}
use Rattle.player_machine.specs.Draws.{draws, fills}
use Rattle.marks.specs.Marks.{among, drawn_on}

-- a working record draws on register i; it does not fill i
abbrev pub DrawsOn : ℕ → Work → Type 0
DrawsOn i w = T (among (draws w) i)

abbrev pub NotFilled : ℕ → Work → Type 0
NotFilled i w = T (not (among (fills w) i))

-- a row of working records draws on i, and none before that fills it; none of a row fills i
abbrev pub DrawnFirst : ℕ → List Work → Type 0
DrawnFirst i [] = ⊥
DrawnFirst i (w ∷ ws) = DrawsOn i w ⊎ (NotFilled i w × DrawnFirst i ws)

abbrev pub NoneFilled : ℕ → List Work → Type 0
NoneFilled i [] = Unit {0}
NoneFilled i (w ∷ ws) = NotFilled i w × NoneFilled i ws

-- the first where a test holds, else the second
abbrev pub Either : Bool → Type 0 → Type 0 → Type 0
Either true A B = A
Either false A B = B

-- Some way leads through these records to one that draws on i: from the first of them, or from the Label that a branch seeks. A Call goes
-- through the block b. A Branch 0 leads to none, since no Label 0 stands.
unfoldable pub Leads : List Work → ℕ → Way → List Record → Type 0
Leads b i going [] = ⊥
Leads b i going (Record.Work w ∷ rs) = DrawsOn i w ⊎ (NotFilled i w × Leads b i going rs)
Leads b i going (Record.Label l ∷ rs) = Leads b i going rs
Leads b i going (Record.Branch l ∷ rs) = Leads b i (seeking l) rs ⊎ (T (not (ltb l 3)) × Leads b i going rs)
Leads b i going (Record.Call l ∷ rs) = DrawnFirst i b ⊎ (NoneFilled i b × Leads b i going rs)
Leads b i going (Record.BranchIf c l e ∷ rs) = T (eqb i c) ⊎ (Leads b i (seeking l) rs ⊎ Leads b i going rs)
Leads b i (seeking l) [] = ⊥
Leads b i (seeking l) (Record.Work w ∷ rs) = Leads b i (seeking l) rs
Leads b i (seeking l) (Record.Label m ∷ rs) = Either (eqb m l) (Leads b i going rs) (Leads b i (seeking l) rs)
Leads b i (seeking l) (Record.Branch m ∷ rs) = Leads b i (seeking l) rs
Leads b i (seeking l) (Record.Call m ∷ rs) = Leads b i (seeking l) rs
Leads b i (seeking l) (Record.BranchIf c m e ∷ rs) = Leads b i (seeking l) rs

-- from record 0
abbrev pub LeadsTo : List Record → ℕ → Type 0
LeadsTo rs i = Leads (block rs) i going rs

-- of records that keep the jump rules a register is marked just where a way leads (theorem `led_to`)
abbrev pub LedTo : Type 0
LedTo = (rs : List Record) (i : ℕ) → breach rs ≡ length rs → T (drawn_on rs i) ↔ LeadsTo rs i
