-- What the program `listing` prints (document 01, "One sheet on paper"), as bytes.
use Rattle.std.specs.Prelude.{ℕ, zero, suc, ◌+◌, ◌/◌, ◌%◌, cond, List, [], ◌∷◌, ◌++◌, length, get_or, ltb, eqb}
use Prim.Native.String.{String, [] as ε, ◌∷◌ as ◌∷ᶜ◌}
use Prim.Native.Char.{code}
use Rattle.mir.specs.declared.ops.UniOp.{UniOp}
use Rattle.mir.specs.declared.ops.BinOp.{BinOp}
use Rattle.mir.specs.declared.ops.ArithOp.{ArithOp}
use Rattle.mir.specs.declared.ops.FusedOp.{FusedOp}
use Rattle.mir.specs.Operation.{uni_number, bin_number, arith_number, fused_number}
use Rattle.mir.specs.declared.records.Loc.{Loc}
use Rattle.mir.specs.declared.records.Work.{Work}
use Rattle.mir.specs.declared.records.Record.{Record}
use Rattle.mir.specs.Encode.{flag_byte}

-- the bytes of a quoted text
unfoldable pub ascii : String → List ℕ
ascii ε = []
ascii (c ∷ᶜ s) = code c ∷ ascii s

-- a number in decimal, with as many digits as it has, here at most d + 1
unfoldable pub decimal_in : ℕ → ℕ → List ℕ
decimal_in zero n = (48 + n % 10) ∷ []
decimal_in (suc d) n = cond (ltb n 10) ((48 + n) ∷ []) (decimal_in d (n / 10) ++ (48 + n % 10) ∷ [])

abbrev pub decimal : ℕ → List ℕ
decimal n = decimal_in 19 n

-- "16 hexadecimal digits, which are the bits of an f64"
abbrev pub hex_digit : ℕ → ℕ
hex_digit n = cond (ltb n 10) (48 + n) (87 + n)

unfoldable pub hex_in : ℕ → ℕ → List ℕ
hex_in zero n = []
hex_in (suc d) n = hex_in d (n / 16) ++ hex_digit (n % 16) ∷ []

abbrev pub hex : ℕ → List ℕ
hex w = hex_in 16 w

abbrev pub space : List ℕ → List ℕ
space l = 32 ∷ l

-- "Registers print as Ret, Temp or G and a number"
unfoldable pub register : ℕ → List ℕ
unfolding ascii decimal_in
register r = cond (eqb r 64) (ascii "Ret") (cond (eqb r 65) (ascii "Temp") (ascii "G" ++ decimal r))

-- "a place as class and index"
unfoldable pub place : Loc → List ℕ
unfolding ascii decimal_in
place (Loc.Stack i) = ascii "Stack" ++ space (decimal i)
place (Loc.Mem i) = ascii "Mem" ++ space (decimal i)
place (Loc.Param i) = ascii "Param" ++ space (decimal i)

-- the name of a number in a table, from 0; past the last, none
abbrev pub name_of : List String → ℕ → List ℕ
name_of names n = ascii (get_or names n ε)

-- "a kind with operations prints the operation alone": the names in mir.rs, by number
abbrev pub uni_names : List String
uni_names =
    "Neg" ∷ "Not" ∷ "Abs" ∷ "Root" ∷ "RealRoot" ∷ "Recip" ∷ "Round" ∷ "Floor" ∷ "Ceiling" ∷ "Trunc" ∷ "Real" ∷
    "Imaginary" ∷ "Conjugate" ∷ "Half" ∷ "IsZero" ∷ "IsNotZero" ∷ "Sign" ∷ "Abs2" ∷ "TimesI" ∷ "TimesNegI" ∷ []

unfoldable pub uni_name : UniOp → List ℕ
unfolding ascii
uni_name op = name_of uni_names (uni_number op)

abbrev pub bin_names : List String
bin_names =
    "Plus" ∷ "Minus" ∷ "Times" ∷ "Divide" ∷ "GreaterThan" ∷ "GreaterThanEqual" ∷ "LittleThan" ∷ "LittleThanEqual" ∷
    "Equal" ∷ "NotEqual" ∷ "And" ∷ "AndNot" ∷ "Or" ∷ "Xor" ∷ "Complex" ∷ []

unfoldable pub bin_name : BinOp → List ℕ
unfolding ascii
bin_name op = name_of bin_names (bin_number op)

abbrev pub fused_names : List String
fused_names = "MulAdd" ∷ "MulSub" ∷ "NegMulAdd" ∷ "NegMulSub" ∷ []

unfoldable pub fused_name : FusedOp → List ℕ
unfolding ascii
fused_name op = name_of fused_names (fused_number op)

-- "a ComplexBi with Complex added"
abbrev pub complex_names : List String
complex_names = "PlusComplex" ∷ "MinusComplex" ∷ "TimesComplex" ∷ "DivideComplex" ∷ []

unfoldable pub complex_name : ArithOp → List ℕ
unfolding ascii
complex_name op = name_of complex_names (arith_number op)

abbrev pub registers : List ℕ → List ℕ
registers [] = []
registers (r ∷ rs) = space (register r) ++ registers rs

-- a record's name: "a kind with operations prints the operation alone, a ComplexBi with Complex added", another kind its own
unfoldable pub work_name : Work → List ℕ
unfolding ascii uni_name bin_name fused_name complex_name
work_name (Work.Uni op dst s1) = uni_name op
work_name (Work.Bi op dst s1 s2) = bin_name op
work_name (Work.Mov dst s1) = ascii "Mov"
work_name (Work.Load dst loc) = ascii "Load"
work_name (Work.Save src loc) = ascii "Save"
work_name (Work.LoadConst dst idx) = ascii "LoadConst"
work_name (Work.Fused op dst a b c) = fused_name op
work_name (Work.IfElse dst t f loc) = ascii "IfElse"
work_name (Work.LoadComplex xd yd loc) = ascii "LoadComplex"
work_name (Work.SaveComplex xs ys loc) = ascii "SaveComplex"
work_name (Work.ComplexBi op xd yd x1 y1 x2 y2) = complex_name op

unfoldable pub record_name : Record → List ℕ
unfolding work_name ascii
record_name (Record.Work w) = work_name w
record_name (Record.Label l) = ascii "Label"
record_name (Record.Branch l) = ascii "Branch"
record_name (Record.Call l) = ascii "Call"
record_name (Record.BranchIf c l e) = ascii "BranchIf"

-- "labels by number, [..] fields in order": a space between each and the next
unfoldable pub work_operands : Work → List ℕ
unfolding decimal_in register place
work_operands (Work.Uni op dst s1) = register dst ++ registers (s1 ∷ [])
work_operands (Work.Bi op dst s1 s2) = register dst ++ registers (s1 ∷ s2 ∷ [])
work_operands (Work.Mov dst s1) = register dst ++ registers (s1 ∷ [])
work_operands (Work.Load dst loc) = register dst ++ space (place loc)
work_operands (Work.Save src loc) = register src ++ space (place loc)
work_operands (Work.LoadConst dst idx) = register dst ++ space (decimal idx)
work_operands (Work.Fused op dst a b c) = register dst ++ registers (a ∷ b ∷ c ∷ [])
work_operands (Work.IfElse dst t f loc) = register dst ++ registers (t ∷ f ∷ []) ++ space (place loc)
work_operands (Work.LoadComplex xd yd loc) = register xd ++ registers (yd ∷ []) ++ space (place loc)
work_operands (Work.SaveComplex xs ys loc) = register xs ++ registers (ys ∷ []) ++ space (place loc)
work_operands (Work.ComplexBi op xd yd x1 y1 x2 y2) = register xd ++ registers (yd ∷ x1 ∷ y1 ∷ x2 ∷ y2 ∷ [])

unfoldable pub record_operands : Record → List ℕ
unfolding work_operands decimal_in register
record_operands (Record.Work w) = work_operands w
record_operands (Record.Label l) = decimal l
record_operands (Record.Branch l) = decimal l
record_operands (Record.Call l) = decimal l
record_operands (Record.BranchIf c l e) = register c ++ space (decimal l) ++ space (decimal (flag_byte e))

-- its name, and its operands behind a space
unfoldable pub record_text : Record → List ℕ
unfolding record_name record_operands
record_text r = record_name r ++ space (record_operands r)

-- a line ends with a line feed
abbrev pub line : List ℕ → List ℕ
line l = l ++ 10 ∷ []

-- "constants (count, then index and bits)"
unfoldable pub constants_heading : ℕ → List ℕ
unfolding ascii decimal_in
constants_heading count = line (ascii "constants" ++ space (decimal count))

unfoldable pub constant_line : ℕ → ℕ → List ℕ
unfolding decimal_in hex_in
constant_line index word = line (decimal index ++ space (hex word))

-- "records and bytes"
unfoldable pub listing_heading : ℕ → ℕ → List ℕ
unfolding ascii decimal_in
listing_heading records bytes = line (ascii "listing" ++ space (decimal records) ++ space (decimal bytes))

unfoldable pub record_line : Record → List ℕ
unfolding record_text
record_line r = line (record_text r)

-- "A refusal prints only `refused`, its number and index."
unfoldable pub refused_line : ℕ → ℕ → List ℕ
unfolding ascii decimal_in
refused_line number index = line (ascii "refused" ++ space (decimal number) ++ space (decimal index))

-- a table of constants from an index on, and records, line by line
unfoldable pub constant_lines : ℕ → List ℕ → List ℕ
unfolding constant_line
constant_lines index [] = []
constant_lines index (w ∷ ws) = constant_line index w ++ constant_lines (suc index) ws

unfoldable pub record_lines : List Record → List ℕ
unfolding record_line
record_lines [] = []
record_lines (r ∷ rs) = record_line r ++ record_lines rs

-- the whole page of an accepted sheet: its constants, and its listing's records and bytes
unfoldable pub page : List ℕ → List Record → ℕ → List ℕ
unfolding constants_heading constant_lines listing_heading record_lines
page constants records bytes =
    constants_heading (length constants)
    ++ constant_lines 0 constants
    ++ listing_heading (length records) bytes
    ++ record_lines records
