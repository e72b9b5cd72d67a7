-- Short listings played, computed: what `answer` gives, and what documents 01 and 02, d) say that it gives.
use Rattle.std.specs.Prelude.{ℕ, ◌≡◌, refl, Bool, true, false, List, [], ◌∷◌, ◌++◌, replicate}
use Rattle.std.specs.Float.Ieee.{of_bits, to_bits, add, sub, mul}
use Rattle.float.specs.Fused.{fused_multiply_add}
use Rattle.mir.specs.declared.ops.UniOp.{UniOp}
use Rattle.mir.specs.declared.ops.BinOp.{BinOp}
use Rattle.mir.specs.declared.ops.ArithOp.{ArithOp}
use Rattle.mir.specs.declared.ops.FusedOp.{FusedOp}
use Rattle.mir.specs.declared.records.Loc.{Loc}
use Rattle.mir.specs.declared.records.Work.{Work}
use Rattle.mir.specs.declared.records.Record.{Record}
use Rattle.mir.specs.Length.{lengths, length_of}
use Rattle.mir.specs.Operation.{uni_ops, bin_ops, arith_ops, fused_ops}
use Rattle.mir.specs.Field.{u16_at, among, takes_kind, head_from, place_at, save_place, cond_place}
use Rattle.mir.specs.Encode.{record_of, encode_all}
use Rattle.mir.specs.Decode.{decoded_from, decoded}
use Rattle.mir.specs.Kinds.{uni_from, bi_from, mov_from, load_from, save_from, load_const_from, fused_from, if_else_from}
use Rattle.records.specs.Record.{load_complex_from, save_complex_from, complex_bi_from, label_from, branch_from, call_from, branch_if_from, fields_from, record_from}
use Rattle.player_machine.specs.Machine.{Store, at, uni_word, bin_word, fused_word, complex_words, writes, put, exec, execs, works, is_label, seek, block, ticks, play}
use Rattle.player_machine.specs.Jumps.{breach}
use Rattle.player_machine.specs.Answer.{Answer, answer}

-- a store of zeros
abbrev pub blank : Store
blank = replicate 1602 0

-- the answer's three numbers, then the words at some indices
abbrev words : Store → List ℕ → List ℕ
words σ [] = []
words σ (i ∷ is) = at σ i ∷ words σ is

abbrev shown : Answer → List ℕ → List ℕ
shown a is = a.number ∷ a.index ∷ a.played ∷ words a.store is

abbrev played : List Record → List ℕ → ℕ → List ℕ → List ℕ
played rs constants start is = shown (answer (encode_all rs) constants start blank) is

abbrev refused : List ℕ → List ℕ
refused bytes = shown (answer bytes (0 ∷ []) 0 blank) []

-- records
abbrev pub const : ℕ → ℕ → Record
const dst idx = Record.Work (Work.LoadConst dst idx)

abbrev pub neg : ℕ → ℕ → Record
neg dst s1 = Record.Work (Work.Uni UniOp.Neg dst s1)

-- 1, 2, 3, -3 and -0
abbrev pub one : ℕ
one = 0x3ff0_0000_0000_0000

abbrev pub two : ℕ
two = 0x4000_0000_0000_0000

abbrev pub three : ℕ
three = 0x4008_0000_0000_0000

abbrev minus_three : ℕ
minus_three = 0xc008_0000_0000_0000

abbrev pub minus_zero : ℕ
minus_zero = 0x8000_0000_0000_0000

-- the root block, cut short: it negates G4; the play jumps over it
abbrev pub called : List Record
called =
    Record.Branch 2
    ∷ Record.Label 1
    ∷ neg 4 4
    ∷ Record.Branch 0
    ∷ Record.Label 2
    ∷ const 4 0
    ∷ Record.Call 1
    ∷ Record.Call 1
    ∷ Record.Call 1
    ∷ []

-- on the word of G4
abbrev branch_if : ℕ → Record
branch_if l = Record.BranchIf 4 l false

-- one formula or another, by that word
abbrev pub swept : Bool → List Record
swept is_else =
    const 4 0 ∷ Record.BranchIf 4 3 is_else ∷ const 5 1 ∷ Record.Branch 4 ∷ Record.Label 3 ∷ const 5 2 ∷ Record.Label 4 ∷ []

abbrev pub table : List (List ℕ × List ℕ)
table =
    -- LoadConst, Bi, Uni, Mov, Save, Load; the real word of Mem 3 is 66 + 512 + 6
    (
      played
          (const 4 0 ∷ const 5 1
          ∷ Record.Work (Work.Bi BinOp.Plus 6 4 5)
          ∷ neg 7 6
          ∷ Record.Work (Work.Mov 64 7)
          ∷ Record.Work (Work.Save 64 (Loc.Mem 3))
          ∷ Record.Work (Work.Load 65 (Loc.Mem 3))
          ∷ []) (one ∷ two ∷ []) 0 (6 ∷ 7 ∷ 64 ∷ 584 ∷ 65 ∷ 585 ∷ []),
      0 ∷ 7 ∷ 7 ∷ three ∷ minus_three ∷ minus_three ∷ minus_three ∷ minus_three ∷ 0 ∷ [],
    )
    -- Fused into its own operand: 1 times 2 plus 1
    ∷ (
      played (const 4 0 ∷ const 5 1 ∷ Record.Work (Work.Fused FusedOp.MulAdd 4 4 5 4) ∷ []) (one ∷ two ∷ []) 0 (4 ∷ 5 ∷ []),
      0 ∷ 3 ∷ 3 ∷ three ∷ two ∷ [],
    )
    -- IfElse: a bit from true where the real word of Stack 0, index 66, has a one
    ∷ (
      played
          (const 4 0 ∷ const 5 1 ∷ const 6 2
          ∷ Record.Work (Work.Save 4 (Loc.Stack 0))
          ∷ Record.Work (Work.IfElse 5 5 6 (Loc.Stack 0))
          ∷ []) (0x0000_0000_ffff_ffff ∷ 0x1111_1111_1111_1111 ∷ 0x2222_2222_2222_2222 ∷ []) 0 (5 ∷ []),
      0 ∷ 5 ∷ 5 ∷ 0x2222_2222_1111_1111 ∷ [],
    )
    -- SaveComplex, real then imaginary; LoadComplex crossed, and into one register: the second word is written last
    ∷ (
      played
          (const 4 0 ∷ const 5 1
          ∷ Record.Work (Work.SaveComplex 4 5 (Loc.Mem 0))
          ∷ Record.Work (Work.LoadComplex 5 4 (Loc.Mem 0))
          ∷ Record.Work (Work.LoadComplex 6 6 (Loc.Mem 0))
          ∷ []) (one ∷ two ∷ []) 0 (578 ∷ 579 ∷ 4 ∷ 5 ∷ 6 ∷ []),
      0 ∷ 5 ∷ 5 ∷ one ∷ two ∷ two ∷ one ∷ two ∷ [],
    )
    -- ComplexBi reads before it writes: (1 + 2i) squared in place is -3 + 4i
    ∷ (
      played (const 4 0 ∷ const 5 1 ∷ Record.Work (Work.ComplexBi ArithOp.Times 4 5 4 5 4 5) ∷ []) (one ∷ two ∷ []) 0 (4 ∷ 5 ∷ []),
      0 ∷ 3 ∷ 3 ∷ minus_three ∷ 0x4010_0000_0000_0000 ∷ [],
    )
    -- a jump over the block, and three Calls of 4 records each: Branch 2, Label 2, LoadConst and 12 more
    ∷ (played called (one ∷ []) 0 (4 ∷ []), 0 ∷ 9 ∷ 15 ∷ 0xbff0_0000_0000_0000 ∷ [])
    -- a start in the block: Branch 0 ends a play outside a call
    ∷ (played called (one ∷ []) 2 (4 ∷ []), 0 ∷ 9 ∷ 2 ∷ 0x8000_0000_0000_0000 ∷ [])
    -- a start at the count of records plays nothing, one above it is refused by 9
    ∷ (played called (one ∷ []) 9 (4 ∷ []), 0 ∷ 9 ∷ 0 ∷ 0 ∷ [])
    ∷ (played called (one ∷ []) 10 (4 ∷ []), 9 ∷ 10 ∷ 0 ∷ 0 ∷ [])
    -- a Branch passes over a part; a Label alone is reached
    ∷ (played (Record.Branch 255 ∷ neg 4 4 ∷ Record.Label 255 ∷ []) [] 0 (4 ∷ []), 0 ∷ 3 ∷ 2 ∷ 0 ∷ [])
    ∷ (played (Record.Label 3 ∷ []) [] 0 [], 0 ∷ 1 ∷ 1 ∷ [])
    -- BranchIf: on a word that is not all zero, -0 among them, to the formula behind Label 3; else the other one, and over that
    ∷ (played (swept false) (0 ∷ one ∷ two ∷ []) 0 (5 ∷ []), 0 ∷ 7 ∷ 5 ∷ one ∷ [])
    ∷ (played (swept false) (three ∷ one ∷ two ∷ []) 0 (5 ∷ []), 0 ∷ 7 ∷ 5 ∷ two ∷ [])
    ∷ (played (swept false) (minus_zero ∷ one ∷ two ∷ []) 0 (5 ∷ []), 0 ∷ 7 ∷ 5 ∷ two ∷ [])
    -- `is_else`: on a word that is all zero
    ∷ (played (swept true) (0 ∷ one ∷ two ∷ []) 0 (5 ∷ []), 0 ∷ 7 ∷ 5 ∷ two ∷ [])
    ∷ (played (swept true) (three ∷ one ∷ two ∷ []) 0 (5 ∷ []), 0 ∷ 7 ∷ 5 ∷ one ∷ [])
    ∷ (played (swept true) (minus_zero ∷ one ∷ two ∷ []) 0 (5 ∷ []), 0 ∷ 7 ∷ 5 ∷ one ∷ [])
    -- 1: three bytes are left behind a Mov; the length runs past the end; a Mov of 7 bytes
    ∷ (refused (6 ∷ 0 ∷ 3 ∷ 0 ∷ 1 ∷ 2 ∷ 6 ∷ 0 ∷ 3 ∷ []), 1 ∷ 1 ∷ 0 ∷ [])
    ∷ (refused (6 ∷ 0 ∷ 3 ∷ 0 ∷ 1 ∷ []), 1 ∷ 0 ∷ 0 ∷ [])
    ∷ (refused (7 ∷ 0 ∷ 3 ∷ 0 ∷ 1 ∷ 2 ∷ 3 ∷ []), 1 ∷ 0 ∷ 0 ∷ [])
    -- 2: Nop is no record of a listing, nor is Uni RealRoot, nor a BranchIf whose third byte is 2
    ∷ (refused (4 ∷ 0 ∷ 0 ∷ 0 ∷ []), 2 ∷ 0 ∷ 0 ∷ [])
    ∷ (refused (7 ∷ 0 ∷ 1 ∷ 0 ∷ 4 ∷ 0 ∷ 0 ∷ []), 2 ∷ 0 ∷ 0 ∷ [])
    ∷ (refused (7 ∷ 0 ∷ 17 ∷ 0 ∷ 66 ∷ 3 ∷ 2 ∷ []), 2 ∷ 0 ∷ 0 ∷ [])
    -- 3: register 66
    ∷ (refused (6 ∷ 0 ∷ 3 ∷ 0 ∷ 66 ∷ 0 ∷ []), 3 ∷ 0 ∷ 0 ∷ [])
    ∷ (refused (7 ∷ 0 ∷ 17 ∷ 0 ∷ 66 ∷ 3 ∷ 1 ∷ []), 3 ∷ 0 ∷ 0 ∷ [])
    -- 4: a save to Param, behind a Mov
    ∷ (refused (6 ∷ 0 ∷ 3 ∷ 0 ∷ 65 ∷ 0 ∷ 8 ∷ 0 ∷ 5 ∷ 0 ∷ 4 ∷ 2 ∷ 0 ∷ 0 ∷ []), 4 ∷ 1 ∷ 0 ∷ [])
    -- 5: constant 1 of one constant
    ∷ (refused (7 ∷ 0 ∷ 6 ∷ 0 ∷ 4 ∷ 1 ∷ 0 ∷ []), 5 ∷ 0 ∷ 0 ∷ [])
    -- 8: 257 constants; a store of 1,601 words
    ∷ (shown (answer [] (replicate 257 0) 0 blank) [], 8 ∷ 0 ∷ 0 ∷ [])
    ∷ (shown (answer [] [] 0 (replicate 1601 0)) [], 8 ∷ 0 ∷ 0 ∷ [])
    -- 9: a Label 0; a label that stands twice; a Branch 2 with no Label 2 later; a Branch 1; a Call of 2; a Call with no Label 1
    ∷ (played (Record.Label 0 ∷ []) [] 0 [], 9 ∷ 0 ∷ 0 ∷ [])
    ∷ (played (Record.Label 2 ∷ Record.Branch 2 ∷ Record.Label 2 ∷ []) [] 0 [], 9 ∷ 2 ∷ 0 ∷ [])
    ∷ (played (Record.Label 2 ∷ Record.Branch 2 ∷ []) [] 0 [], 9 ∷ 1 ∷ 0 ∷ [])
    ∷ (played (neg 4 4 ∷ Record.Branch 1 ∷ Record.Label 1 ∷ Record.Branch 0 ∷ []) [] 0 [], 9 ∷ 1 ∷ 0 ∷ [])
    ∷ (played (Record.Call 2 ∷ Record.Label 2 ∷ []) [] 0 [], 9 ∷ 0 ∷ 0 ∷ [])
    ∷ (played (neg 4 4 ∷ Record.Call 1 ∷ []) [] 0 (4 ∷ []), 9 ∷ 1 ∷ 0 ∷ 0 ∷ [])
    -- 9: a block without its Branch 0, at Label 1, whatever stands behind it; a Call inside the block
    ∷ (played (neg 4 4 ∷ Record.Label 1 ∷ neg 4 4 ∷ []) [] 0 (4 ∷ []), 9 ∷ 1 ∷ 0 ∷ 0 ∷ [])
    ∷ (played (Record.Label 1 ∷ Record.Call 1 ∷ []) [] 0 [], 9 ∷ 0 ∷ 0 ∷ [])
    ∷ (played (Record.Label 1 ∷ Record.Call 1 ∷ Record.Branch 0 ∷ []) [] 0 [], 9 ∷ 1 ∷ 0 ∷ [])
    -- 9: of labels 3 to 255, at a second standing; at a branch with no such label later, or one before it; at a Call
    ∷ (played (Record.Label 3 ∷ Record.Label 3 ∷ []) [] 0 [], 9 ∷ 1 ∷ 0 ∷ [])
    ∷ (played (Record.Branch 3 ∷ Record.Label 4 ∷ []) [] 0 [], 9 ∷ 0 ∷ 0 ∷ [])
    ∷ (played (Record.Label 3 ∷ branch_if 3 ∷ []) [] 0 [], 9 ∷ 1 ∷ 0 ∷ [])
    ∷ (played (Record.Label 3 ∷ Record.Branch 3 ∷ Record.Label 3 ∷ []) [] 0 [], 9 ∷ 1 ∷ 0 ∷ [])
    ∷ (played (Record.Label 3 ∷ branch_if 3 ∷ Record.Label 3 ∷ []) [] 0 [], 9 ∷ 1 ∷ 0 ∷ [])
    ∷ (played (Record.Call 3 ∷ Record.Label 3 ∷ []) [] 0 [], 9 ∷ 0 ∷ 0 ∷ [])
    -- 9: a BranchIf to 0, 1 or 2
    ∷ (played (branch_if 0 ∷ []) [] 0 [], 9 ∷ 0 ∷ 0 ∷ [])
    ∷ (played (branch_if 1 ∷ Record.Label 1 ∷ Record.Branch 0 ∷ []) [] 0 [], 9 ∷ 0 ∷ 0 ∷ [])
    ∷ (played (branch_if 2 ∷ Record.Label 2 ∷ []) [] 0 [], 9 ∷ 0 ∷ 0 ∷ [])
    -- 9: a Label, Branch or BranchIf inside the block
    ∷ (played (Record.Label 1 ∷ neg 4 4 ∷ Record.Label 3 ∷ Record.Branch 0 ∷ []) [] 0 [], 9 ∷ 2 ∷ 0 ∷ [])
    ∷ (played (Record.Label 1 ∷ neg 4 4 ∷ Record.Branch 3 ∷ Record.Branch 0 ∷ Record.Label 3 ∷ []) [] 0 [], 9 ∷ 2 ∷ 0 ∷ [])
    ∷ (played (Record.Label 1 ∷ neg 4 4 ∷ branch_if 3 ∷ Record.Branch 0 ∷ Record.Label 3 ∷ []) [] 0 [], 9 ∷ 2 ∷ 0 ∷ [])
    ∷ []

abbrev pub given : List (List ℕ × List ℕ) → List (List ℕ)
given [] = []
given (row ∷ rows) = row.0 ∷ given rows

abbrev pub wanted : List (List ℕ × List ℕ) → List (List ℕ)
wanted [] = []
wanted (row ∷ rows) = row.1 ∷ wanted rows

pub holds : given table ≡ wanted table
unfolding of_bits to_bits add sub mul fused_multiply_add lengths length_of uni_ops bin_ops arith_ops fused_ops u16_at among takes_kind head_from place_at save_place cond_place record_of decoded_from decoded uni_from bi_from mov_from load_from save_from load_const_from fused_from if_else_from load_complex_from save_complex_from complex_bi_from label_from branch_from call_from branch_if_from fields_from record_from uni_word bin_word fused_word complex_words writes put exec execs works is_label seek block ticks play breach answer
holds = refl
