-- No line is cut: every line of a page has at most 80 bytes. That of a record has at most five for each byte of the record, where its
-- fields fit their widths.
use Prim.Native.Nat.{ℕ, zero, suc, ◌+◌, ◌*◌, ◌/◌, ◌≤◌, ◌<◌}
use mathlib.Core.Path.{◌≡◌, refl}
use Prim.Native.String.{String}
use mathlib.Core.Bool.{Bool, true, false, cond, ◌&&◌}
use mathlib.Core.List.{List, [], ◌∷◌}
use native.Mathlib.Omega.{arith}
use borrow.Author.Tests.{lt-ltb}
use lib.Dec.{T, ltb, leb, eqb, leb→le, lit≤}
use lib.ListN.{length, length-append}
use Rattle.mir.specs.declared.ops.UniOp.{UniOp}
use Rattle.mir.specs.declared.ops.BinOp.{BinOp}
use Rattle.mir.specs.declared.ops.ArithOp.{ArithOp}
use Rattle.mir.specs.declared.ops.FusedOp.{FusedOp}
use Rattle.mir.specs.declared.records.Loc.{Loc}
use Rattle.mir.specs.declared.records.Work.{Work}
use Rattle.mir.specs.declared.records.Record.{Record}
use Rattle.mir.specs.Operation.{uni_number, bin_number, arith_number, fused_number}
use Rattle.mir.specs.Encode.{flag_byte, record_of, encode_work, encode}
use Rattle.mir.proofs.Tables.{and_left, and_right}
use Rattle.text.specs.Sized.{SizedPlace, SizedWork, SizedRecord}
use Rattle.text.specs.Text.{ascii, decimal_in, decimal, hex_in, register, place, name_of, uni_names, uni_name, bin_names, bin_name, fused_names, fused_name, complex_names, complex_name, work_name, record_name, work_operands, record_operands, record_line, constants_heading, constant_line, listing_heading, refused_line}

either : (b : Bool) (x y : List ℕ) (m : ℕ) → length x ≤ m → length y ≤ m → length (cond b x y) ≤ m
either true x y m p q = p
either false x y m p q = q

-- a number has at most as many digits as it is given
decimal_in_short : (d n : ℕ) → length (decimal_in d n) ≤ suc d
unfolding decimal_in
decimal_in_short zero n = omega arith
decimal_in_short (suc d) n =
    let i = decimal_in_short d (n / 10) in
    either (ltb n 10) _ _ (suc (suc d)) (omega arith) (simp length-append (omega arith))

-- ten to the k + 1
abbrev pub ten : ℕ → ℕ
ten zero = 10
ten (suc k) = 10 * ten k

pub digits : (k d n : ℕ) → n < ten k → length (decimal_in d n) ≤ suc k
unfolding decimal_in
digits k zero n h = omega arith
digits zero (suc d) n h = simp (lt-ltb n 10 h) (omega arith)
digits (suc k) (suc d) n h =
    let i = digits k d (n / 10) (omega arith) in
    either (ltb n 10) _ _ (suc (suc k)) (omega arith) (simp length-append (omega arith))

pub hex_in_length : (d n : ℕ) → length (hex_in d n) ≡ d
unfolding hex_in
hex_in_length zero n = refl
hex_in_length (suc d) n = let i = hex_in_length d (n / 16) in simp length-append (omega arith)

pub number_short : (n : ℕ) → length (decimal n) ≤ 20
number_short n = decimal_in_short 19 n

byte_short : (n : ℕ) → n < 256 → length (decimal n) ≤ 3
byte_short n h = digits 2 19 n (omega arith)

index_short : (n : ℕ) → n < 65536 → length (decimal n) ≤ 5
index_short n h = digits 4 19 n (omega arith)

register_short : (r : ℕ) → r < 256 → length (register r) ≤ 4
unfolding ascii register
register_short r h =
    let i = byte_short r h in
    either (eqb r 64) _ _ 4 (lit≤ tt) (either (eqb r 65) _ _ 4 (lit≤ tt) (omega arith))

place_short : (loc : Loc) → SizedPlace loc → length (place loc) ≤ 11
unfolding ascii place
place_short (Loc.Stack i) h = let d = index_short i h in omega arith
place_short (Loc.Mem i) h = let d = index_short i h in omega arith
place_short (Loc.Param i) h = let d = index_short i h in omega arith

-- a table's names have at most m bytes: one test of the table
abbrev pub all_short : ℕ → List String → Bool
all_short m [] = true
all_short m (name ∷ names) = leb (length (ascii name)) m && all_short m names

pub name_short : (m : ℕ) (names : List String) → T (all_short m names) → (n : ℕ) → length (name_of names n) ≤ m
unfolding ascii
name_short m [] t n = omega arith
name_short m (name ∷ names) t zero = leb→le (length (ascii name)) m (and_left (leb (length (ascii name)) m) (all_short m names) t)
name_short m (name ∷ names) t (suc n) = name_short m names (and_right (leb (length (ascii name)) m) (all_short m names) t) n

uni_short : (op : UniOp) → length (uni_name op) ≤ 16
unfolding ascii uni_name
uni_short op = name_short 16 uni_names tt (uni_number op)

bin_short : (op : BinOp) → length (bin_name op) ≤ 16
unfolding ascii bin_name
bin_short op = name_short 16 bin_names tt (bin_number op)

fused_short : (op : FusedOp) → length (fused_name op) ≤ 16
unfolding ascii fused_name
fused_short op = name_short 16 fused_names tt (fused_number op)

complex_short : (op : ArithOp) → length (complex_name op) ≤ 16
unfolding ascii complex_name
complex_short op = name_short 16 complex_names tt (arith_number op)

-- a name of at most 16 bytes and operands of at most 49, on a line of at most five bytes for each of the record's
pub record Short (n o bytes : List ℕ) : Type 0 where
  pub name : length n ≤ 16
  pub operands : length o ≤ 49
  pub both : length n + length o + 2 ≤ 5 * length bytes

work_short : (w : Work) → SizedWork w → Short (work_name w) (work_operands w) (encode_work w)
unfolding ascii work_name work_operands record_of
work_short (Work.Uni op dst s1) h =
    let n = uni_short op in
    let r0 = register_short dst h.0 in
    let r1 = register_short s1 h.1 in
    record { name = n; operands = simp length-append (omega arith); both = simp length-append (omega arith) }
work_short (Work.Bi op dst s1 s2) h =
    let n = bin_short op in
    let r0 = register_short dst h.0 in
    let r1 = register_short s1 h.1 in
    let r2 = register_short s2 h.2 in
    record { name = n; operands = simp length-append (omega arith); both = simp length-append (omega arith) }
work_short (Work.Mov dst s1) h =
    let r0 = register_short dst h.0 in
    let r1 = register_short s1 h.1 in
    record { name = lit≤ tt; operands = simp length-append (omega arith); both = simp length-append (omega arith) }
work_short (Work.Load dst loc) h =
    let r0 = register_short dst h.0 in
    let p = place_short loc h.1 in
    record { name = lit≤ tt; operands = simp length-append (omega arith); both = simp length-append (omega arith) }
work_short (Work.Save src loc) h =
    let r0 = register_short src h.0 in
    let p = place_short loc h.1 in
    record { name = lit≤ tt; operands = simp length-append (omega arith); both = simp length-append (omega arith) }
work_short (Work.LoadConst dst idx) h =
    let r0 = register_short dst h.0 in
    let p = index_short idx h.1 in
    record { name = lit≤ tt; operands = simp length-append (omega arith); both = simp length-append (omega arith) }
work_short (Work.Fused op dst a b c) h =
    let n = fused_short op in
    let r0 = register_short dst h.0 in
    let r1 = register_short a h.1 in
    let r2 = register_short b h.2 in
    let r3 = register_short c h.3 in
    record { name = n; operands = simp length-append (omega arith); both = simp length-append (omega arith) }
work_short (Work.IfElse dst t f loc) h =
    let r0 = register_short dst h.0 in
    let r1 = register_short t h.1 in
    let r2 = register_short f h.2 in
    let p = place_short loc h.3 in
    record { name = lit≤ tt; operands = simp length-append (omega arith); both = simp length-append (omega arith) }
work_short (Work.LoadComplex xd yd loc) h =
    let r0 = register_short xd h.0 in
    let r1 = register_short yd h.1 in
    let p = place_short loc h.2 in
    record { name = lit≤ tt; operands = simp length-append (omega arith); both = simp length-append (omega arith) }
work_short (Work.SaveComplex xs ys loc) h =
    let r0 = register_short xs h.0 in
    let r1 = register_short ys h.1 in
    let p = place_short loc h.2 in
    record { name = lit≤ tt; operands = simp length-append (omega arith); both = simp length-append (omega arith) }
work_short (Work.ComplexBi op xd yd x1 y1 x2 y2) h =
    let n = complex_short op in
    let r0 = register_short xd h.0 in
    let r1 = register_short yd h.1 in
    let r2 = register_short x1 h.2 in
    let r3 = register_short y1 h.3 in
    let r4 = register_short x2 h.4 in
    let r5 = register_short y2 h.5 in
    record { name = n; operands = simp length-append (omega arith); both = simp length-append (omega arith) }

flag_small : (e : Bool) → flag_byte e < 256
flag_small true = lit≤ tt
flag_small false = lit≤ tt

label_short : (name : List ℕ) (l : ℕ) → l < 256 → length name ≤ 6 → {bytes : List ℕ} → 5 ≤ length bytes → Short name (decimal l) bytes
label_short name l h n k = let d = byte_short l h in record { name = omega arith; operands = omega arith; both = omega arith }

pub text_short : (r : Record) → SizedRecord r → Short (record_name r) (record_operands r) (encode r)
unfolding ascii record_name record_operands record_of
text_short (Record.Work w) h = work_short w h
text_short (Record.Label l) h = label_short (ascii "Label") l h (lit≤ tt) (lit≤ tt)
text_short (Record.Branch l) h = label_short (ascii "Branch") l h (lit≤ tt) (lit≤ tt)
text_short (Record.Call l) h = label_short (ascii "Call") l h (lit≤ tt) (lit≤ tt)
text_short (Record.BranchIf c l e) h =
    let r = register_short c h.0 in
    let d = byte_short l h.1 in
    let f = byte_short (flag_byte e) (flag_small e) in
    record { name = lit≤ tt; operands = simp length-append (omega arith); both = simp length-append (omega arith) }

pub record_line_short : (r : Record) → SizedRecord r → length (record_line r) ≤ 5 * length (encode r)
unfolding record_line
record_line_short r h = let i = (text_short r h).both in simp length-append (omega arith)

work_length : (w : Work) → length (encode_work w) ≤ 11
unfolding record_of
work_length (Work.Uni op dst s1) = lit≤ tt
work_length (Work.Bi op dst s1 s2) = lit≤ tt
work_length (Work.Mov dst s1) = lit≤ tt
work_length (Work.Load dst loc) = lit≤ tt
work_length (Work.Save src loc) = lit≤ tt
work_length (Work.LoadConst dst idx) = lit≤ tt
work_length (Work.Fused op dst a b c) = lit≤ tt
work_length (Work.IfElse dst t f loc) = lit≤ tt
work_length (Work.LoadComplex xd yd loc) = lit≤ tt
work_length (Work.SaveComplex xs ys loc) = lit≤ tt
work_length (Work.ComplexBi op xd yd x1 y1 x2 y2) = lit≤ tt

record-length : (r : Record) → length (encode r) ≤ 11
unfolding record_of
record-length (Record.Work w) = work_length w
record-length (Record.Label l) = lit≤ tt
record-length (Record.Branch l) = lit≤ tt
record-length (Record.Call l) = lit≤ tt
record-length (Record.BranchIf c l e) = lit≤ tt

pub record_short : (r : Record) → SizedRecord r → length (record_line r) ≤ 80
record_short r h = let i = record_line_short r h in let k = record-length r in omega (arith, i, k)

pub constants_heading_short : (n : ℕ) → length (constants_heading n) ≤ 80
unfolding ascii constants_heading
constants_heading_short n = let d = number_short n in simp length-append (omega arith)

pub constant_short : (i w : ℕ) → length (constant_line i w) ≤ 80
unfolding constant_line
constant_short i w = let d = number_short i in simp (length-append, hex_in_length) (omega arith)

pub listing_heading_short : (m n : ℕ) → length (listing_heading m n) ≤ 80
unfolding ascii listing_heading
listing_heading_short m n = let d = number_short m in let e = number_short n in simp length-append (omega arith)

pub refused_short : (m n : ℕ) → length (refused_line m n) ≤ 80
unfolding ascii refused_line
refused_short m n = let d = number_short m in let e = number_short n in simp length-append (omega arith)
