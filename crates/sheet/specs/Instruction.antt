-- A sheet's instruction, from the bytes that begin with it (document 01, Sheet, and the numbers 1 to 5 of its table; document 02, d), and all
-- of them up to the limit (document 02, h).
-- `count` is the count of the sheet's own constants. The kinds 1 to 8 are those of mir/specs/Kinds; in the others too, registers are tested
-- before the place or the constant.
use Rattle.std.specs.Prelude.{ℕ, ◌-◌, Bool, cond, false, not, ◌&&◌, ◌||◌, List, length, take, ltb, eqb}
use Rattle.mir.specs.declared.records.Instruction.{Instruction}
use Rattle.mir.specs.Operation.{arith_ops, taken}
use Rattle.mir.specs.Takes.{takes_arith}
use Rattle.mir.specs.Read.{Read, got, refused, refuse, and_then, registers, constant}
use Rattle.mir.specs.Field.{byte_at, bytes_at, u16_at, takes_kind, head_from, place_at}
use Rattle.mir.specs.Kinds.{uni_from, bi_from, mov_from, load_from, save_from, load_const_from, fused_from, if_else_from}
use Rattle.mir.specs.Decode.{Item, read_at, Decoded, decoded}

-- 9 LoadMath: op, dst, s1, place
unfoldable pub load_math_from : List ℕ → Read Instruction
load_math_from s =
    and_then (taken takes_arith arith_ops (byte_at s 4))
    (λ op.
    registers 31 (bytes_at s 5 2)
    (and_then (place_at s 7) (λ loc. got (Instruction.LoadMath op (byte_at s 5) (byte_at s 6) loc))))

-- 10 LoadConstMath: op, dst, s1, constant
unfoldable pub load_const_math_from : ℕ → List ℕ → Read Instruction
load_const_math_from count s =
    and_then (taken takes_arith arith_ops (byte_at s 4))
    (λ op.
    registers 31 (bytes_at s 5 2)
    (constant count (u16_at s 7) (got (Instruction.LoadConstMath op (byte_at s 5) (byte_at s 6) (u16_at s 7)))))

-- document 02, d): "10 [..] for a label outside 3 to 255, or a third byte above 1"
abbrev pub own_label : {A : Type 0} → ℕ → Read A → Read A
own_label l r = refuse (ltb l 3) 10 r

-- 14 Label, 15 Branch: label
unfoldable pub label_from : List ℕ → Read Instruction
label_from s = own_label (byte_at s 4) (got (Instruction.Label (byte_at s 4)))

unfoldable pub branch_from : List ℕ → Read Instruction
branch_from s = own_label (byte_at s 4) (got (Instruction.Branch (byte_at s 4)))

-- 17 BranchIf: condition register, label, is_else
unfoldable pub branch_if_from : List ℕ → Read Instruction
branch_if_from s =
    registers 31 (bytes_at s 4 1)
    (own_label (byte_at s 5)
    (refuse (ltb 1 (byte_at s 6)) 10 (got (Instruction.BranchIf (byte_at s 4) (byte_at s 5) (eqb (byte_at s 6) 1)))))

-- by kind
unfoldable pub fields_from : ℕ → ℕ → List ℕ → Read Instruction
unfolding uni_from bi_from mov_from load_from save_from load_const_from fused_from if_else_from load_math_from load_const_math_from label_from branch_from branch_if_from
fields_from count kind s =
    cond (eqb kind 0) (got Instruction.Nop)
    (cond (eqb kind 1) (uni_from false Instruction.Uni s)
    (cond (eqb kind 2) (bi_from false Instruction.Bi s)
    (cond (eqb kind 3) (mov_from false Instruction.Mov s)
    (cond (eqb kind 4) (load_from false Instruction.Load s)
    (cond (eqb kind 5) (save_from false Instruction.Save s)
    (cond (eqb kind 6) (load_const_from false Instruction.LoadConst count s)
    (cond (eqb kind 7) (fused_from false Instruction.Fused s)
    (cond (eqb kind 8) (if_else_from false Instruction.IfElse s)
    (cond (eqb kind 9) (load_math_from s)
    (cond (eqb kind 10) (load_const_math_from count s)
    (cond (eqb kind 14) (label_from s)
    (cond (eqb kind 15) (branch_from s)
    (cond (eqb kind 17) (branch_if_from s)
    (refused 2))))))))))))))

-- "readable length (1), kind (2), kind's length (1), operation (2), then 3, 4, 5"; 10 is "tested after 4", and no instruction earns both 10
-- and 5
unfoldable pub instruction_from : ℕ → List ℕ → Read Instruction
unfolding head_from fields_from
instruction_from count s = and_then (head_from (takes_kind false) s) (λ kind. fields_from count kind s)

-- the instruction at a position, and the position after it
abbrev pub instruction_at : ℕ → List ℕ → ℕ → Read (Item Instruction)
instruction_at count s at = read_at (instruction_from count) s at

-- does anything stand behind n instructions: one more, or bytes that a number refuses
abbrev pub beyond : ℕ → Decoded Instruction → Bool
beyond n d = ltb n (length d.items) || (eqb (length d.items) n && not (eqb d.fault 0))

-- at most n instructions: where a byte is left behind them, 14 "before any other number that record could earn; what was finished stays"
abbrev pub cut : ℕ → Decoded Instruction → Decoded Instruction
cut n d = cond (beyond n d) (record { items = take n d.items; fault = 14 }) d

-- all instructions, from the bytes that begin with the first: "The longest of its sheets has 612 instructions. Make that the limit [..], and
-- a Nop counts", "14 for the instruction at index 612"
abbrev pub instructions : ℕ → List ℕ → Decoded Instruction
instructions count s = cut 612 (decoded (instruction_from count) s)

-- those from the one with an index on
abbrev pub instructions_on : ℕ → ℕ → List ℕ → Decoded Instruction
instructions_on index count s = cut (612 - index) (decoded (instruction_from count) s)
