-- What the loop over a sheet's instructions keeps, and what one turn of it does.
use Rattle.std.specs.Prelude.{ℕ, suc, ◌+◌, ◌-◌, ◌≤◌, ◌<◌, ◌≡◌, Bool, cond, true, false, List, ◌∷◌, ◌++◌, length, take, drop, ltb}
use Rattle.std.proofs.lemmas.List.Edits.{sets}
use Rattle.mir.specs.declared.records.Instruction.{Instruction}
use Rattle.mir.specs.declared.records.Record.{Record}
use Rattle.mir.specs.Read.{Read, got, refused}
use Rattle.mir.specs.Decode.{Item}
use Rattle.sheet.specs.declared.setup.Mode.{Mode}
use Rattle.sheet.specs.Instruction.{instructions_on}
use Rattle.lowering.specs.Complexifier.{position, MIN_POSITIVE, INFINITY, QUARTER, EXP_MASK_FINITE, FLOOR_FINITE}
use Rattle.lowering.specs.Rerun.{rerun}
use Rattle.lowering.specs.Labels.{Standing, role, misplaced, unequal, passed}
use Rattle.lowering.specs.Lower.{Ended, ended, past, lower_from}
use Rattle.lowering.specs.Origins.{origins_from}
use Rattle.marks.specs.Marks.{drawn_on, filled_by, registers}
use Rattle.complexifier.specs.Does.{state}
use Rattle.rerun.specs.declared.output.Output.{Output}
use Rattle.complexify.specs.declared.entry.LowerAnswer.{LowerAnswer}
use Rattle.complexify.specs.declared.turn.Cursor.{Cursor}
use Rattle.complexify.specs.declared.turn.Next.{Next}
use Rattle.complexify.specs.declared.turn.Stop.{Stop}

-- the constants, with one place for each of the five that stable mode names and that are not there yet
unfoldable pub absent : ℕ → List ℕ → ℕ
absent v k = cond (ltb (position v k) (length k)) 0 1

abbrev pub space : List ℕ → ℕ
space k =
    length k + (absent MIN_POSITIVE k + (absent INFINITY k + (absent QUARTER k + (absent EXP_MASK_FINITE k + absent FLOOR_FINITE k))))

-- the stage, the listing and the constants, where lowering stands
pub record Ready (g l k : List ℕ) (p : Cursor) : Type 0 where
  pub stage : length g ≡ 704
  pub room : length l ≤ 65536
  pub written : p.written ≤ length l
  pub words : length k ≡ 256
  pub count : p.count ≤ 256
  pub space : space (take p.count k) ≤ 256

-- the first n elements grew to the first n', and every later one is as it was
pub record Appended (l : List ℕ) (n : ℕ) (l' : List ℕ) (n' : ℕ) : Type 0 where
  pub more : n ≤ n'
  pub fits : n' ≤ length l
  pub long : length l' ≡ length l
  pub rest : drop n' l' ≡ drop n' l

-- what the work ends with where it ends here, and what it ends with from here on, where b stand before
abbrev pub ended_at : ℕ → List ℕ → List ℕ → Cursor → Ended
ended_at number listing constants p =
    ended number p.index (take p.written listing) (state p.low (take p.count constants))

abbrev pub goes_on : Mode → ℕ → List Instruction → ℕ → List ℕ → Standing → List ℕ → List ℕ → Cursor → Ended
goes_on mode room is fault rest b listing constants p =
    lower_from mode room is fault rest b p.index (take p.written listing) (state p.low (take p.count constants))

abbrev pub left : Mode → ℕ → ℕ → List ℕ → Standing → List ℕ → List ℕ → Cursor → Ended
left mode room own sheet b listing constants p =
    let rest = drop p.at sheet in
    let d = instructions_on p.index own rest in
    goes_on mode room d.items d.fault rest b listing constants p

-- where lowering stands after a number refused the instruction, and after a finished one with these bytes
abbrev pub refusal : ℕ → Cursor → Next
refusal number p = record { done = true; number = number; stand = p }

abbrev pub finished : Output → List ℕ → ℕ → Cursor → Next
finished t bytes next p =
    record {
      done = false;
      number = 0;
      stand = record {
        at = next;
        index = p.index + 1;
        written = p.written + length bytes;
        count = p.count + t.added.count;
        low = t.low;
      };
    }

-- 7, the bytes exceed those left; else they are copied behind the finished ones, and so are the constants that the turn added
abbrev pub full : List ℕ → List ℕ → Cursor → Bool
full bytes listing p = ltb (length listing - p.written) (length bytes)

pub record Finished (t : Output) (bytes : List ℕ) (next : ℕ) (listing constants : List ℕ) (p : Cursor) (listing' constants' : List ℕ) (r : Next) : Type 0 where
  pub stands : r ≡ cond (full bytes listing p) (refusal 7 p) (finished t bytes next p)
  pub listed : listing' ≡ cond (full bytes listing p) listing (sets listing p.written bytes)
  pub added : constants' ≡ cond (full bytes listing p) constants (sets constants p.count (take t.added.count t.added.words))

-- what that asks of the turn and of the slices
pub record Fits (t : Output) (bytes listing constants : List ℕ) (p : Cursor) : Type 0 where
  pub short : length bytes ≤ 704
  pub room : length listing ≤ 65536
  pub written : p.written ≤ length listing
  pub words : length constants ≡ 256
  pub few : t.added.count ≤ length t.added.words
  pub count : p.count + t.added.count ≤ 256
  pub index : p.index < 65536

-- what the slices keep in a turn
pub record Extended (listing constants : List ℕ) (p : Cursor) (listing' constants' : List ℕ) (r : Next) : Type 0 where
  pub bytes : Appended listing p.written listing' r.stand.written
  pub words : Appended constants p.count constants' r.stand.count
  pub space : space (take r.stand.count constants') ≤ 256

-- the instruction i lowered, whatever stands before and behind it, where neither 10 nor 11 refuses it
pub record LoweredOne (mode : Mode) (i : Instruction) (next : ℕ) (listing constants : List ℕ) (p : Cursor) (listing' constants' : List ℕ) (r : Next) : Type 0 where
  pub same : (is : List Instruction) (fault : ℕ) (rest : List ℕ) (b : Standing) → misplaced (role i) b (past rest) ≡ false → unequal (role i) b p.low.real ≡ false
      → goes_on mode (length listing) (i ∷ is) fault rest b listing constants p
      ≡ cond r.done (ended_at r.number listing' constants' r.stand)
      (goes_on mode (length listing) is fault (past rest) (passed (role i) p.low.real b) listing' constants' r.stand)
  pub at : r.done ≡ false → r.stand.at ≡ next
  pub index : r.done ≡ false → r.stand.index ≡ suc p.index
  pub stays : r.done ≡ true → r.stand ≡ p
  pub after : r.done ≡ false → state r.stand.low (take r.stand.count constants') ≡ (rerun mode i (state p.low (take p.count constants))).after
  pub turned : Extended listing constants p listing' constants' r

-- one turn: an instruction that is read is lowered; one that a number refuses as it is read has changed nothing
abbrev pub Taken : Mode → List ℕ → List ℕ → Cursor → List ℕ → List ℕ → Next → Read (Item Instruction) → Type 0
Taken mode listing constants p listing' constants' r (got x) = LoweredOne mode x.item x.next listing constants p listing' constants' r
Taken mode listing constants p listing' constants' r (refused n) = (r ≡ refusal n p) × (listing' ≡ listing) × (constants' ≡ constants)

-- where the loop stops: at a number, and with what the work ends with
abbrev pub stopped_at : ℕ → Cursor → Stop
stopped_at number p = record { number = number; index = p.index; written = p.written; count = p.count; real = p.low.real }

abbrev pub stop_of : Ended → Stop
stop_of e =
    record {
      number = e.number;
      index = e.index;
      written = length e.bytes;
      count = length e.state.consts;
      real = e.state.real;
    }

-- a stop's answer, with the marks of records
abbrev pub with_marks : List Record → Stop → LowerAnswer
with_marks rs s =
    record {
      number = s.number;
      index = s.index;
      written = s.written;
      count = s.count;
      real = s.real;
      filled = registers (filled_by rs);
      drawn = registers (drawn_on rs);
    }

-- the whole loop
pub record Ran (whole : Ended) (l k : List ℕ) (p : Cursor) (l' k' : List ℕ) (r : Stop) : Type 0 where
  pub stopped : r ≡ stop_of whole
  pub bytes : whole.bytes ≡ take r.written l'
  pub consts : whole.state.consts ≡ take r.count k'
  pub listing : Appended l p.written l' r.written
  pub constants : Appended k p.count k' r.count

-- the origins of the constants that the next n instructions append
abbrev pub comes : Mode → ℕ → List ℕ → List ℕ → Cursor → ℕ → List ℕ
comes mode own sheet constants p n =
    origins_from mode p.index (take n (instructions_on p.index own (drop p.at sheet)).items) (state p.low (take p.count constants))

-- the origins after the whole loop: those that stood there, then those of the instructions finished since, and every later one as lent
pub record Dated (whole : Ended) (mode : Mode) (own : ℕ) (sheet constants : List ℕ) (p : Cursor) (o o' : List ℕ) (r : Stop) : Type 0 where
  pub named : take r.count o' ≡ take p.count o ++ comes mode own sheet constants p (whole.index - p.index)
  pub origins : Appended o p.count o' r.count
