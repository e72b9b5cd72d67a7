-- The whole of lowering (document 01, "What the two entries give back"): the answer, and the three lent slices after it.
use Rattle.std.specs.Prelude.{ℕ, Bool, false, not, cond, ◌||◌, List, length, replicate, ltb, eqb}
use Rattle.std.proofs.lemmas.List.Edits.{sets}
use Rattle.mir.specs.declared.records.Record.{Record}
use Rattle.sheet.specs.Setup.{setup}
use Rattle.lowering.specs.Realness.{fresh}
use Rattle.lowering.specs.Lower.{Ended, lower_sheet, listed}
use Rattle.lowering.specs.Origins.{origins_of}
use Rattle.marks.specs.Marks.{drawn_on, filled_by, registers}
use Rattle.complexify.specs.declared.entry.LowerAnswer.{LowerAnswer}

-- 8, "tested first": what the sheet's setup refuses, "a listing slice over 65,536 bytes, or a constants slice of other than 256 words", or
-- for the origins another length than "a lent slice of 256 two-byte numbers"
abbrev pub wrong_setup : List ℕ → List ℕ → List ℕ → List ℕ → Bool
wrong_setup sheet listing constants origins =
    not (eqb (setup sheet).number 0)
    || (ltb 65536 (length listing) || (not (eqb (length constants) 256) || not (eqb (length origins) 256)))

-- "Setup refusals carry index 0, counts 0 and all realness complex"; no mark is set
abbrev pub refused_setup : LowerAnswer
refused_setup =
    record {
      number = 8;
      index = 0;
      written = 0;
      count = 0;
      real = fresh (replicate 64 0);
      filled = replicate 66 false;
      drawn = replicate 66 false;
    }

-- "Lowering returns a number (0: accepted), an instruction's index, listing bytes written, a count of constants and the final record of
-- realness", which has "a mark for each listing register: filled or not yet"; "the answer gains the 66 marks of registers drawn on before
-- being filled, over the order of play from record 0". rs are the records of the finished instructions: "on refusal, those of the
-- instructions before".
abbrev pub answer_of : List Record → Ended → LowerAnswer
answer_of rs e =
    record {
      number = e.number;
      index = e.index;
      written = length e.bytes;
      count = length e.state.consts;
      real = e.state.real;
      filled = registers (filled_by rs);
      drawn = registers (drawn_on rs);
    }

abbrev pub answer : List ℕ → List ℕ → List ℕ → List ℕ → LowerAnswer
answer sheet listing constants origins =
    let e = lower_sheet sheet (length listing) in
    cond (wrong_setup sheet listing constants origins) refused_setup (answer_of (listed sheet e.index) e)

-- "A refusal by 8 changes nothing. Any other refusal of lowering leaves the sheet's constants, the finished instructions' bytes and
-- constants, nothing of the refused one, and every later byte or word as lent"
abbrev pub listing_after : List ℕ → List ℕ → List ℕ → List ℕ → List ℕ
listing_after sheet listing constants origins =
    cond (wrong_setup sheet listing constants origins) listing (sets listing 0 (lower_sheet sheet (length listing)).bytes)

abbrev pub constants_after : List ℕ → List ℕ → List ℕ → List ℕ → List ℕ
constants_after sheet listing constants origins =
    cond (wrong_setup sheet listing constants origins) constants (sets constants 0 (lower_sheet sheet (length listing)).state.consts)

-- "lowering returns, per constant, the instruction that first appended it, or 65,535 for one from the sheet", "those past the count as lent"
abbrev pub origins_after : List ℕ → List ℕ → List ℕ → List ℕ → List ℕ
origins_after sheet listing constants origins =
    cond (wrong_setup sheet listing constants origins) origins (sets origins 0 (origins_of sheet (lower_sheet sheet (length listing)).index))
