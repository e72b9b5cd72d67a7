-- A listing's record, from the bytes that begin with it (document 01, Sheet, and the numbers 1 to 5 of its table). `count` is the count
-- of the table lent with the listing. The kinds 1 to 8 are those of mir/specs/Kinds; in the others too, registers are tested before the place.
use Rattle.std.specs.Prelude.{ℕ, cond, true, List, ltb, eqb}
use Rattle.mir.specs.declared.records.Work.{Work}
use Rattle.mir.specs.declared.records.Record.{Record}
use Rattle.mir.specs.Operation.{arith_ops, taken}
use Rattle.mir.specs.Takes.{takes_arith}
use Rattle.mir.specs.Read.{Read, got, refused, refuse, and_then, registers}
use Rattle.mir.specs.Field.{byte_at, bytes_at, takes_kind, head_from, place_at, save_place}
use Rattle.mir.specs.Kinds.{uni_from, bi_from, mov_from, load_from, save_from, load_const_from, fused_from, if_else_from}
use Rattle.mir.specs.Decode.{Item, read_at, Decoded, decoded}

-- 11 LoadComplex: two registers, place
unfoldable pub load_complex_from : List ℕ → Read Record
load_complex_from s =
    registers 65 (bytes_at s 4 2)
    (and_then (place_at s 6) (λ loc. got (Record.Work (Work.LoadComplex (byte_at s 4) (byte_at s 5) loc))))

-- 12 SaveComplex: two registers, place
unfoldable pub save_complex_from : List ℕ → Read Record
save_complex_from s =
    registers 65 (bytes_at s 4 2)
    (and_then (save_place s 6) (λ loc. got (Record.Work (Work.SaveComplex (byte_at s 4) (byte_at s 5) loc))))

-- 13 ComplexBi: op, xd, yd, x1, y1, x2, y2
unfoldable pub complex_bi_from : List ℕ → Read Record
complex_bi_from s =
    and_then (taken takes_arith arith_ops (byte_at s 4))
    (λ op.
    registers 65 (bytes_at s 5 6)
    (got (Record.Work (Work.ComplexBi op (byte_at s 5) (byte_at s 6) (byte_at s 7) (byte_at s 8) (byte_at s 9) (byte_at s 10)))))

-- 14 Label, 15 Branch, 16 Call: label; "Labels: 0 `.ret`, 1 `@complex_root`, 2 `@jump_over_complex_root`", and with document 02, d) "labels
-- 3 to 255 are no longer refused by 2"
unfoldable pub label_from : List ℕ → Read Record
label_from s = got (Record.Label (byte_at s 4))

unfoldable pub branch_from : List ℕ → Read Record
branch_from s = got (Record.Branch (byte_at s 4))

unfoldable pub call_from : List ℕ → Read Record
call_from s = got (Record.Call (byte_at s 4))

-- 17 BranchIf: condition register, label, is_else; "2 for a third byte above 1", where an operation is tested
unfoldable pub branch_if_from : List ℕ → Read Record
branch_if_from s =
    refuse (ltb 1 (byte_at s 6)) 2
    (registers 65 (bytes_at s 4 1) (got (Record.BranchIf (byte_at s 4) (byte_at s 5) (eqb (byte_at s 6) 1))))

-- by kind
unfoldable pub fields_from : ℕ → ℕ → List ℕ → Read Record
unfolding uni_from bi_from mov_from load_from save_from load_const_from fused_from if_else_from load_complex_from save_complex_from complex_bi_from label_from branch_from call_from branch_if_from
fields_from count kind s =
    cond (eqb kind 1) (uni_from true (λ op dst s1. Record.Work (Work.Uni op dst s1)) s)
    (cond (eqb kind 2) (bi_from true (λ op dst s1 s2. Record.Work (Work.Bi op dst s1 s2)) s)
    (cond (eqb kind 3) (mov_from true (λ dst s1. Record.Work (Work.Mov dst s1)) s)
    (cond (eqb kind 4) (load_from true (λ dst loc. Record.Work (Work.Load dst loc)) s)
    (cond (eqb kind 5) (save_from true (λ src loc. Record.Work (Work.Save src loc)) s)
    (cond (eqb kind 6) (load_const_from true (λ dst idx. Record.Work (Work.LoadConst dst idx)) count s)
    (cond (eqb kind 7) (fused_from true (λ op dst a b c. Record.Work (Work.Fused op dst a b c)) s)
    (cond (eqb kind 8) (if_else_from true (λ dst t f loc. Record.Work (Work.IfElse dst t f loc)) s)
    (cond (eqb kind 11) (load_complex_from s)
    (cond (eqb kind 12) (save_complex_from s)
    (cond (eqb kind 13) (complex_bi_from s)
    (cond (eqb kind 14) (label_from s)
    (cond (eqb kind 15) (branch_from s)
    (cond (eqb kind 16) (call_from s)
    (cond (eqb kind 17) (branch_if_from s)
    (refused 2)))))))))))))))

-- "readable length (1), kind (2), kind's length (1), operation (2), then 3, 4, 5"
unfoldable pub record_from : ℕ → List ℕ → Read Record
unfolding head_from fields_from
record_from count s = and_then (head_from (takes_kind true) s) (λ kind. fields_from count kind s)

-- the record at a position, and the position after it
abbrev pub record_at : ℕ → List ℕ → ℕ → Read (Item Record)
record_at count s at = read_at (record_from count) s at

-- all records of a listing
abbrev pub records : ℕ → List ℕ → Decoded Record
records count s = decoded (record_from count) s
