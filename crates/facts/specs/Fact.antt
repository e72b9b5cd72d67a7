-- A row of the table of facts: a sheet and what the entry `lower` gives for it, or an operation of the machine on words and what it gives.
use Rattle.std.specs.Prelude.{ℕ, ◌+◌, ◌-◌, Bool, true, false, cond, List, [], ◌∷◌, ◌++◌, length, replicate, drop, set, eqb}
use Rattle.mir.specs.declared.ops.UniOp.{UniOp}
use Rattle.mir.specs.declared.ops.BinOp.{BinOp}
use Rattle.mir.specs.declared.ops.ArithOp.{ArithOp}
use Rattle.mir.specs.declared.ops.FusedOp.{FusedOp}
use Rattle.mir.specs.declared.records.Loc.{Loc}
use Rattle.mir.specs.declared.records.Work.{Work}
use Rattle.mir.specs.Operation.{uni_number, bin_number, arith_number, fused_number}
use Rattle.player_machine.specs.Machine.{Store, Write, ◌≔◌, writes}
use Rattle.complexify.specs.declared.entry.LowerAnswer.{LowerAnswer}
use Rattle.complexify.specs.Entry.{answer, listing_after, constants_after, origins_after}

-- a sheet's bytes, lowered in a listing slice of `room` bytes: "a number (0: accepted), an instruction's index, listing bytes written, a
-- count of constants and the final record of realness" (the registers recorded as real, the 64 bytes of the places, and the listing's
-- registers that are filled), the listing's registers drawn on before being filled, the bytes and constants themselves, and
-- the origin of each constant
pub record LoweredSheet : Type 0 where
  pub sheet : List ℕ
  pub room : ℕ
  pub number : ℕ
  pub index : ℕ
  pub written : ℕ
  pub bytes : List ℕ
  pub count : ℕ
  pub constants : List ℕ
  pub origins : List ℕ
  pub registers : List ℕ
  pub places : List ℕ
  pub filled : List ℕ
  pub drawn : List ℕ

-- the records of a listing that compute
pub data Operation : Type 0 where
  uni : UniOp → Operation
  bi : BinOp → Operation
  fused : FusedOp → Operation
  ifelse : Operation
  complex_bi : ArithOp → Operation

-- an operation, the words that it reads in the order of its record's fields, and those that it gives
pub record Computed : Type 0 where
  pub operation : Operation
  pub words : List ℕ
  pub gives : List ℕ

pub data Fact : Type 0 where
  lowered : LoweredSheet → Fact
  computed : Computed → Fact

-- ---- what the definitions give

-- every byte, word and number lent holds these before
abbrev pub lent_byte : ℕ
lent_byte = 0xaa

abbrev pub lent_word : ℕ
lent_word = 0xaaaa_aaaa_aaaa_aaaa

abbrev pub lent_number : ℕ
lent_number = 0xaaaa

-- what comes of a row: the entry's answer with the three lent slices after it, or words
pub data Outcome : Type 0 where
  left : LowerAnswer → List ℕ → List ℕ → List ℕ → Outcome
  wrote : List ℕ → Outcome

abbrev pub lower : List ℕ → List ℕ → List ℕ → List ℕ → Outcome
lower sheet listing constants origins =
    left (answer sheet listing constants origins) (listing_after sheet listing constants origins) (constants_after sheet listing constants origins)
    (origins_after sheet listing constants origins)

-- an operation's record: its operands are registers 0, 1, 2 and 3, in order, and of IfElse the real word of Stack 0 is the third; what it
-- gives goes to registers 4 and 5
abbrev pub as_work : Operation → Work
as_work (uni op) = Work.Uni op 4 0
as_work (bi op) = Work.Bi op 4 0 1
as_work (fused op) = Work.Fused op 4 0 1 2
as_work ifelse = Work.IfElse 4 0 1 (Loc.Stack 0)
as_work (complex_bi op) = Work.ComplexBi op 4 5 0 1 2 3

-- a store that holds the operands: Stack 0 stands behind the 66 registers
abbrev pub holding : List ℕ → Store
holding words = words ++ (replicate (66 - length words) 0 ++ drop 2 words)

-- the words that a record writes, in order
abbrev pub values : List Write → List ℕ
values [] = []
values (i ≔ v ∷ ws) = v ∷ values ws

abbrev pub given : Fact → Outcome
given (lowered x) = lower x.sheet (replicate x.room lent_byte) (replicate 256 lent_word) (replicate 256 lent_number)
given (computed x) = wrote (values (writes [] (holding x.words) (as_work x.operation)))

-- ---- what the row says

-- these registers, of n, marked
abbrev pub flags : ℕ → List ℕ → List Bool
flags n [] = replicate n false
flags n (r ∷ rs) = set (flags n rs) r true

-- "every later byte or word as lent"; of the origins "those past the count as lent"
abbrev pub stated : Fact → Outcome
stated (lowered x) =
    left
    (record {
      number = x.number;
      index = x.index;
      written = x.written;
      count = x.count;
      real = record { regs = flags 32 x.registers; places = x.places };
      filled = flags 66 x.filled;
      drawn = flags 66 x.drawn;
    })
    (x.bytes ++ replicate (x.room - length x.bytes) lent_byte)
    (x.constants ++ replicate (256 - length x.constants) lent_word)
    (x.origins ++ replicate (256 - length x.origins) lent_number)
stated (computed x) = wrote x.gives

-- ---- which operations have a row

-- an operation by a number of its own: its record's kind, and its number there
abbrev pub numbered : Operation → ℕ
numbered (uni op) = 32 + uni_number op
numbered (bi op) = 64 + bin_number op
numbered (fused op) = 224 + fused_number op
numbered ifelse = 256
numbered (complex_bi op) = 416 + arith_number op

abbrev pub computes : Operation → List Fact → Bool
computes o [] = false
computes o (lowered x ∷ rows) = computes o rows
computes o (computed x ∷ rows) = cond (eqb (numbered x.operation) (numbered o)) true (computes o rows)
