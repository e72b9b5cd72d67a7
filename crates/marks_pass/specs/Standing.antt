-- How the arrays of the pass stand for a marking, and what its steps do to them. F has the marks filled, D those drawn on, W for each label
-- 66 marks of what is filled on every branch to it so far.
use Rattle.std.specs.Prelude.{ℕ, ◌+◌, ◌*◌, ◌-◌, ◌<◌, ◌≤◌, ◌≡◌, Bool, true, false, cond, ◌&&◌, ◌||◌, Option, None, Some, List, [], ◌∷◌, ◌++◌, length, get_or, drop, leb, ltb}
use Rattle.std.specs.Int.Bits.{bit_or}
use Rattle.mir.specs.declared.records.Work.{Work}
use Rattle.mir.specs.declared.records.Record.{Record}
use Rattle.mir.specs.Encode.{encode, encode_work, encode_all}
use Rattle.player_machine.specs.Machine.{works, seek, block}
use Rattle.player_machine.specs.Draws.{draws, fills}
use Rattle.marks.specs.Marks.{Set, among, everything, join, meet, without, Marking, start, through, noted, step, scan}
use Rattle.marks.specs.Marks as Def
use Rattle.marks_pass.specs.declared.Marks.{Marks}
use Rattle.marks_pass.specs.Pass.{marks_of}

-- an array as a set, and the table of ways as the sets of labels
abbrev pub held : List Bool → Set
held l i = get_or l i false

abbrev pub held_at : List Bool → ℕ → Set
held_at W l i = get_or W (66 * l + i) false

-- the first 66 marks are those of a marking
pub record Stands (F D : List Bool) (m : Marking) : Type 0 where
  pub filled : (i : ℕ) → i < 66 → get_or F i false ≡ m.filled i
  pub drawn : (i : ℕ) → i < 66 → get_or D i false ≡ m.drawn i

-- and those of the labels that the table has
pub record Ways (W : List Bool) (ways : ℕ → Set) : Type 0 where
  pub each : (l i : ℕ) → 66 * l + 66 ≤ length W → i < 66 → get_or W (66 * l + i) false ≡ ways l i

-- registers drawn on, and registers filled
pub record Drawn (F D : List Bool) (is : List ℕ) (D' : List Bool) : Type 0 where
  pub each : (i : ℕ) → i < 66 → get_or D' i false ≡ join (held D) (without (among is) (held F)) i

pub record Filled (F : List Bool) (is : List ℕ) (F' : List Bool) : Type 0 where
  pub each : (i : ℕ) → i < 66 → get_or F' i false ≡ join (held F) (among is) i

-- the n marks from an index on are those of a set, the others as before
pub record Made (from n : ℕ) (A : Set) (before after : List Bool) : Type 0 where
  pub each : (k : ℕ) → get_or after k false ≡ cond (leb from k && ltb k (from + n)) (A k) (get_or before k false)

-- six bytes marked by a row of the table
pub record Marked (rows : List ℕ) (row a b c d x y : ℕ) (F D F' D' : List Bool) : Type 0 where
  pub drawn : Drawn F D
      (bit_or a (get_or rows (row + 2) 0) ∷ bit_or b (get_or rows (row + 3) 0) ∷ bit_or c (get_or rows (row + 4) 0) ∷ bit_or d (get_or rows (row + 5) 0) ∷ []) D'
  pub filled : Filled F (bit_or x (get_or rows (row + 6) 0) ∷ bit_or y (get_or rows (row + 7) 0) ∷ []) F'

-- a working record that bytes begin with, by its length; any other changes nothing
pub record Worked (w : Work) (F D F' D' : List Bool) (n : ℕ) : Type 0 where
  pub long : n ≡ length (encode_work w)
  pub drawn : Drawn F D (draws w) D'
  pub filled : Filled F (fills w) F'

pub record Still (F D F' D' : List Bool) (n : ℕ) : Type 0 where
  pub none : n ≡ 0
  pub drawn : D' ≡ D
  pub filled : F' ≡ F

abbrev pub Done : Record → List Bool → List Bool → List Bool → List Bool → ℕ → Type 0
Done (Record.Work w) F D F' D' n = Worked w F D F' D' n
Done (Record.Label l) F D F' D' n = Still F D F' D' n
Done (Record.Branch l) F D F' D' n = Still F D F' D' n
Done (Record.Call l) F D F' D' n = Still F D F' D' n
Done (Record.BranchIf c l e) F D F' D' n = Still F D F' D' n

pub record Does (s : List ℕ) (F D F' D' : List Bool) (n : ℕ) : Type 0 where
  pub low : n ≤ 65535
  pub does : (r : Record) (rest : List ℕ) → s ≡ encode r ++ rest → Done r F D F' D' n

-- behind the working records that stand first
pub record Led (s : List ℕ) (rest : List Record) (m : Marking) (F D : List Bool) (at : ℕ) : Type 0 where
  pub left : List Record
  pub there : drop at s ≡ encode_all left
  pub stopped : works left ≡ []
  pub behind : Marking
  pub stands : Stands F D behind
  pub scans : (b : List Work) → scan b rest m ≡ scan b left behind
  pub passes : through (works rest) m ≡ behind

pub record Straight (s : List ℕ) (from : ℕ) (F D F' D' : List Bool) (at : ℕ) : Type 0 where
  pub on : from ≤ at
  pub leads : (rest : List Record) (m : Marking) → drop from s ≡ encode_all rest → Stands F D m → Led s rest m F' D' at

-- where the block begins, and its marks from the start
abbrev pub BlockAt : List ℕ → ℕ → Type 0
BlockAt s at = (rs : List Record) → s ≡ encode_all rs → drop at s ≡ encode_all (drop 1 (seek 1 rs))

abbrev pub BlockMarked : List ℕ → List Bool → List Bool → List Bool → List Bool → Type 0
BlockMarked s F D F' D' = (rs : List Record) → s ≡ encode_all rs → Stands F D start → Stands F' D' (through (block rs) start)

-- a Call by the block's marks
pub record Called (F D fills draws F' D' : List Bool) : Type 0 where
  pub filled : Made 0 66 (join (held F) (held fills)) F F'
  pub drawn : Made 0 66 (join (held D) (without (held draws) (held F))) D D'

-- a way noted, where the table has the label
pub record Noted (W : List Bool) (l : ℕ) (F W' : List Bool) (r : Bool) : Type 0 where
  pub has : r ≡ leb (66 * l + 66) (length W)
  pub made : r ≡ true → Made (66 * l) 66 (λ k. get_or W k false && get_or F (k - 66 * l) false) W W'

-- a label entered
pub record Entered (F W : List Bool) (l : ℕ) (F' : List Bool) (r : Bool) : Type 0 where
  pub has : r ≡ leb (66 * l + 66) (length W)
  pub made : r ≡ true → Made 0 66 (meet (held F) (held_at W l)) F F'

-- a Branch
pub record Branched (F W : List Bool) (l : ℕ) (F' W' : List Bool) (r : Bool) : Type 0 where
  pub noted : Noted W l F W' r
  pub filled : (i : ℕ) → i < 66 → get_or F' i false ≡ cond (ltb l 3) true (get_or F i false)

-- a record that directs the play, but for a Call
abbrev pub Directs : Record → Type 0
Directs (Record.Work w) = ⊥
Directs (Record.Label l) = Unit {0}
Directs (Record.Branch l) = Unit {0}
Directs (Record.Call l) = ⊥
Directs (Record.BranchIf c l e) = Unit {0}

pub record Jumped (s : List ℕ) (F D W F' D' W' : List Bool) (r : Bool) : Type 0 where
  pub stands : (rec : Record) (rest : List ℕ) (b : List Work) (m : Marking) → s ≡ encode rec ++ rest → Directs rec → r ≡ true → Stands F D m
      → Ways W m.ways → Stands F' D' (step b rec m)
  pub ways : (rec : Record) (rest : List ℕ) (b : List Work) (m : Marking) → s ≡ encode rec ++ rest → Directs rec → r ≡ true → Stands F D m
      → Ways W m.ways → Ways W' (step b rec m).ways
  pub whole : (rec : Record) (rest : List ℕ) → s ≡ encode rec ++ rest → Directs rec → 16896 ≤ length W → r ≡ true

-- the block's marks, where they are known; those of the start before
abbrev pub Knows : List Record → Bool → List Bool → List Bool → Type 0
Knows rs known F D = Stands F D (cond known (through (block rs) start) start)

pub record CallsBlock (s : List ℕ) (known : Bool) (fills draws F D fills' draws' F' D' : List Bool) : Type 0 where
  pub knows : (rs : List Record) → s ≡ encode_all rs → Knows rs known fills draws → Knows rs true fills' draws'
  pub stands : (rs : List Record) (m : Marking) → s ≡ encode_all rs → Knows rs known fills draws → Stands F D m
      → Stands F' D' (through (block rs) m)

-- a record that is no working record
abbrev pub NoWork : Record → Type 0
NoWork (Record.Work w) = ⊥
NoWork (Record.Label l) = Unit {0}
NoWork (Record.Branch l) = Unit {0}
NoWork (Record.Call l) = Unit {0}
NoWork (Record.BranchIf c l e) = Unit {0}

-- the arrays of the pass stand for a marking
pub record All (rs : List Record) (known : Bool) (fills draws F D W : List Bool) (m : Marking) : Type 0 where
  pub knows : Knows rs known fills draws
  pub stands : Stands F D m
  pub ways : Ways W m.ways

-- whether it was a Call, where the table of ways has its label
abbrev pub was_call : Option Bool → Bool
was_call (Some called) = called
was_call None = false

pub record Directed (listing s : List ℕ) (known : Bool) (fills draws F D W fills' draws' F' D' W' : List Bool) (r : Option Bool) : Type 0 where
  pub all : (rs : List Record) (rec : Record) (rest : List ℕ) (m : Marking) → listing ≡ encode_all rs → s ≡ encode rec ++ rest → NoWork rec
      → (r ≡ None → ⊥) → All rs known fills draws F D W m → All rs (known || was_call r) fills' draws' F' D' W' (step (block rs) rec m)
  pub whole : (rec : Record) (rest : List ℕ) → s ≡ encode rec ++ rest → NoWork rec → 16896 ≤ length W → r ≡ None → ⊥

-- behind the working records that stand first in a listing, and no branch so far
abbrev pub Begun : List ℕ → List Bool → List Bool → ℕ → Type 0
Begun s F D at = (rs : List Record) → s ≡ encode_all rs → Led s rs start F D at

abbrev pub NoWays : List Bool → Type 0
NoWays W = Ways W start.ways

-- all records
pub record Passed (s : List ℕ) (W F' D' : List Bool) (r : Bool) : Type 0 where
  pub marks : (rs : List Record) → s ≡ encode_all rs → r ≡ true → Stands F' D' (Def.marking rs)
  pub whole : (rs : List Record) → s ≡ encode_all rs → 16896 ≤ length W → r ≡ true

abbrev pub Ended : List ℕ → List Bool → List Bool → Bool → Type 0
Ended s F D r = (rs : List Record) → s ≡ encode_all rs → r ≡ true → Stands F D (Def.marking rs)

-- the 66 marks of an array
pub record First (all r : List Bool) : Type 0 where
  pub each : (i : ℕ) → i < 66 → get_or r i false ≡ get_or all i false

-- what two arrays hold, where that are the marks of records
abbrev pub AreMarks : List Bool → List Bool → Marks → Type 0
AreMarks F D r = (rs : List Record) → Stands F D (Def.marking rs) → r ≡ marks_of rs
