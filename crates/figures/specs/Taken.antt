-- What the loop over a sheet's instructions keeps, and what one turn of it does.
use Rattle.std.specs.Prelude.{ℕ, suc, ◌+◌, ◌≤◌, ◌<◌, ◌≡◌, Bool, cond, true, false, List, ◌∷◌, length, take, drop, ltb, eqb}
use Rattle.std.proofs.lemmas.List.Edits.{sets}
use Rattle.mir.specs.declared.records.Instruction.{Instruction}
use Rattle.mir.specs.declared.records.Record.{Record}
use Rattle.mir.specs.Encode.{encode_all}
use Rattle.mir.specs.Read.{Read, got, refused}
use Rattle.mir.specs.Decode.{Item}
use Rattle.sheet.specs.Instruction.{instructions_on}
use Rattle.complexifier.specs.Does.{state}
use Rattle.rerun.specs.declared.output.Output.{Output}
use Rattle.lowering.specs.Labels as Labels
use Rattle.lowering.specs.Labels.{Role, role, Standing, misplaced, unequal, passed}
use Rattle.lowering.specs.Lower.{past}
use Rattle.complexify.specs.Taken.{space}
use Rattle.figures.specs.declared.counting.Count.{Count}
use Rattle.figures.specs.declared.entry.Figures.{Figures}
use Rattle.figures.specs.declared.turn.CountCursor.{CountCursor}
use Rattle.figures.specs.declared.turn.CountNext.{CountNext}
use Rattle.figures.specs.Shelf.{refusal, branch_of, counted, run, shelf_from}
use Rattle.figures.specs.Walk.{StagedBytes, CountWithin}
use Rattle.sheet.specs.declared.setup.Mode.{Mode}

-- the stage and the constants, where the count stands
pub record CountReady (g k : List ℕ) (p : CountCursor) : Type 0 where
  pub stage : length g ≡ 704
  pub words : length k ≡ 256
  pub count : p.constants ≤ 256
  pub space : space (take p.constants k) ≤ 256
  pub taken : CountWithin p.taken

-- the figures where the work ends here with a number, and those of the instructions from here on
abbrev pub figures_at : ℕ → CountCursor → Figures
figures_at number p =
    cond (eqb number 0)
    (record { number = 0; index = p.index; bytes = p.taken.bytes; constants = p.constants; records = run p.taken })
    (refusal number p.index)

abbrev pub goes_on : Mode → List Instruction → ℕ → List ℕ → Standing → List ℕ → CountCursor → Figures
goes_on mode is fault rest b k p = shelf_from mode is fault rest b p.index p.taken (state p.low (take p.constants k))

abbrev pub left : Mode → ℕ → List ℕ → Standing → List ℕ → CountCursor → Figures
left mode own sheet b k p =
    let rest = drop p.at sheet in
    let d = instructions_on p.index own rest in
    goes_on mode d.items d.fault rest b k p

-- where the count stands after a number refused the instruction, and after a finished one with these records
abbrev pub refusing : ℕ → CountCursor → CountNext
refusing number p = record { done = true; number = number; cursor = p }

abbrev pub finished : Output → Count → ℕ → CountCursor → CountNext
finished t c next p =
    record {
      done = false;
      number = 0;
      cursor = record { at = next; index = p.index + 1; constants = p.constants + t.added.count; low = t.low; taken = c };
    }

-- 7, more than 65,536 bytes; else the constants that the turn added stand behind the finished ones
abbrev pub full : CountCursor → Role → List Record → Bool
full p i rs = ltb 65536 (counted p.taken i rs).bytes

pub record CountEnded (t : Output) (i : Role) (rs : List Record) (next : ℕ) (k : List ℕ) (p : CountCursor) (k' : List ℕ) (r : CountNext) : Type 0 where
  pub stands : r ≡ cond (full p i rs) (refusing 7 p) (finished t (counted p.taken i rs) next p)
  pub added : k' ≡ cond (full p i rs) k (sets k p.constants (take t.added.count t.added.words))

abbrev pub CountFinished : Output → List ℕ → ℕ → ℕ → List ℕ → CountCursor → List ℕ → CountNext → Type 0
CountFinished t bytes n next k p k' r = (i : Role) → n ≡ branch_of i → (rs : List Record) → bytes ≡ encode_all rs → CountEnded t i rs next k p k' r

-- what that asks of the turn and of the constants
pub record CountFits (t : Output) (bytes k : List ℕ) (p : CountCursor) : Type 0 where
  pub listed : StagedBytes bytes
  pub taken : CountWithin p.taken
  pub words : length k ≡ 256
  pub few : t.added.count ≤ length t.added.words
  pub count : p.constants + t.added.count ≤ 256
  pub index : p.index < 65536

-- what the constants and the count keep in a turn
pub record CountKept (k : List ℕ) (k' : List ℕ) (r : CountNext) : Type 0 where
  pub words : length k' ≡ length k
  pub count : r.cursor.constants ≤ 256
  pub space : space (take r.cursor.constants k') ≤ 256
  pub taken : CountWithin r.cursor.taken

-- a label of the sheet's own
abbrev pub OwnLabel : Role → Type 0
OwnLabel Labels.works = Unit {0}
OwnLabel (Labels.labels l) = 2 < l
OwnLabel (Labels.branches l) = Unit {0}

-- the instruction i counted, whatever stands before and behind it, where neither 10 nor 11 refuses it
pub record CountedOne (mode : Mode) (i : Instruction) (next : ℕ) (k : List ℕ) (p : CountCursor) (k' : List ℕ) (r : CountNext) : Type 0 where
  pub same : (is : List Instruction) (fault : ℕ) (rest : List ℕ) (b : Standing) → misplaced (role i) b (past rest) ≡ false → unequal (role i) b p.low.real ≡ false
      → goes_on mode (i ∷ is) fault rest b k p
      ≡ cond r.done (figures_at r.number r.cursor) (goes_on mode is fault (past rest) (passed (role i) p.low.real b) k' r.cursor)
  pub at : r.done ≡ false → r.cursor.at ≡ next
  pub index : r.done ≡ false → r.cursor.index ≡ suc p.index
  pub turned : OwnLabel (role i) → CountKept k k' r

-- one turn: an instruction that is read is counted; one that a number refuses as it is read has changed nothing
abbrev pub CountTaken : Mode → List ℕ → CountCursor → List ℕ → CountNext → Read (Item Instruction) → Type 0
CountTaken mode k p k' r (got x) = CountedOne mode x.item x.next k p k' r
CountTaken mode k p k' r (refused n) = (r ≡ refusing n p) × (k' ≡ k)
