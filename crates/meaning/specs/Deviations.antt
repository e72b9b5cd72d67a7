-- Where an instruction does not do its row, or does more (docs/DIFFERENCES.md lists the forms), and what mode 2 mends of it. By the theorem
-- `preserved` what is said to come out is what the listing of the Rust's methods, or of mode 2, leaves in the store. Each value is typed, and
-- not computed.
use Rattle.std.specs.Prelude.{ℕ, ◌≡◌, refl, List, [], ◌∷◌, map}
use Rattle.std.specs.Float.Ieee.{of_bits, to_bits, is_nan, add, sub, mul, div, lt, eq, ne}
use Rattle.mir.specs.declared.ops.UniOp.{UniOp}
use Rattle.mir.specs.declared.ops.BinOp.{BinOp}
use Rattle.mir.specs.declared.ops.ArithOp.{ArithOp}
use Rattle.mir.specs.declared.ops.FusedOp.{FusedOp}
use Rattle.mir.specs.declared.records.Loc.{Loc}
use Rattle.mir.specs.declared.records.Instruction.{Instruction}
use Rattle.sheet.specs.declared.setup.Mode.{Mode}
use Rattle.float.specs.Root.{square_root}
use Rattle.float.specs.Fused.{fused_multiply_add}
use Rattle.meaning.specs.Value as Value
use Rattle.meaning.specs.Value.{Value, R, C}
use Rattle.meaning.specs.Means as Means
use Rattle.meaning.specs.Means.{Values, put, row, means}

-- numbers as words
abbrev half : ℕ
half = 0x3fe0_0000_0000_0000

abbrev one : ℕ
one = 0x3ff0_0000_0000_0000

abbrev two : ℕ
two = 0x4000_0000_0000_0000

abbrev three : ℕ
three = 0x4008_0000_0000_0000

abbrev six : ℕ
six = 0x4018_0000_0000_0000

abbrev minus_one : ℕ
minus_one = 0xbff0_0000_0000_0000

abbrev minus_three : ℕ
minus_three = 0xc008_0000_0000_0000

abbrev ones : ℕ
ones = 0xffff_ffff_ffff_ffff

-- Before the instruction every register holds 6 + 6i and every place 1 + i, but for these registers.
unfoldable before : List (ℕ × Value) → Values
before [] = record { reg = λ r. C six six; place = λ p. C one one }
before (v ∷ vs) = put v.0 v.1 (before vs)

-- where to look after it
pub data Where : Type 0 where
  register : ℕ → Where
  stack2 : Where

unfoldable seen : Where → Values → Value
seen (register r) X = X.reg r
seen stack2 X = X.place (Loc.Stack 2)

-- A form: its mode, the registers before, the instruction, where to look; what comes out there, and what its row would give. The sheet's
-- one constant is 3, and a Half takes the word of 6 for a half that is not there.
pub record Form : Type 0 where
  pub mode : Mode
  pub registers : List (ℕ × Value)
  pub instruction : Instruction
  pub at : Where
  pub comes : Value
  pub wanted : Value

abbrev form : Mode → List (ℕ × Value) → Instruction → Where → Value → Value → Form
form m vs i w c r = record { mode = m; registers = vs; instruction = i; at = w; comes = c; wanted = r }

unfoldable pub forms : List Form
forms =
    -- 1: plain Divide of a real Temp by 1 + i does not read Temp
    form Mode.Plain ((31, R six) ∷ (0, C one one) ∷ []) (Instruction.Bi BinOp.Divide 1 31 0) (register 1) (C one minus_one) (C three minus_three)
    -- 2: plain Divide of a real register by a complex Temp: 6 / (1 + i) is 6 - 3i; so every plain LoadMath Divide of one by a complex place
    ∷ form Mode.Plain ((0, R six) ∷ (31, C one one) ∷ []) (Instruction.Bi BinOp.Divide 1 0 31) (register 1) (C six minus_three) (C three minus_three)
    ∷ form Mode.Plain ((0, R six) ∷ []) (Instruction.LoadMath ArithOp.Divide 1 0 (Loc.Mem 0)) (register 1) (C six minus_three) (C three minus_three)
    -- 3: stable Divide by a complex register into Temp does not read the dividend
    ∷ form Mode.Stable ((1, C one one) ∷ []) (Instruction.Bi BinOp.Divide 31 0 1) (register 31) (C one 0) (C six 0)
    ∷ form Mode.Stable ((0, R six) ∷ (1, C one one) ∷ []) (Instruction.Bi BinOp.Divide 31 0 1) (register 31) (C 0x3fe9_9999_9999_999a 0xbfe9_9999_9999_999a) (C three minus_three)
    -- 4: IsZero and IsNotZero of Temp
    ∷ form Mode.Plain [] (Instruction.Uni UniOp.IsZero 1 31) (register 1) (R ones) (R 0)
    ∷ form Mode.Plain [] (Instruction.Uni UniOp.IsNotZero 1 31) (register 1) (R 0) (R ones)
    -- 5: LoadMath and LoadConstMath of Temp
    ∷ form Mode.Plain ((31, R two) ∷ []) (Instruction.LoadMath ArithOp.Plus 1 31 (Loc.Mem 0)) (register 1) (C two two) (C three one)
    ∷ form Mode.Plain ((31, R two) ∷ []) (Instruction.LoadConstMath ArithOp.Times 1 31 0) (register 1) (R 0x4022_0000_0000_0000) (R six)
    -- 6: Half of a complex register into a real one
    ∷ form Mode.Plain ((1, R one) ∷ []) (Instruction.Uni UniOp.Half 1 0) (register 1) (R three) (C three three)
    -- 7: Half of a real register into a complex one takes a word that is nobody's
    ∷ form Mode.Plain ((0, R six) ∷ []) (Instruction.Uni UniOp.Half 1 0) (register 1) (C three six) (R three)
    -- 8: what is left in Temp, by Root and RealRoot of a complex register,
    ∷ form Mode.Plain ((0, C 0 two) ∷ []) (Instruction.Uni UniOp.Root 1 0) (register 31) (C one one) (C six six)
    ∷ form Mode.Stable ((0, C 0 two) ∷ []) (Instruction.Uni UniOp.RealRoot 1 0) (register 31) (C one one) (C six six)
    -- IsZero, IsNotZero, LoadMath, LoadConstMath,
    ∷ form Mode.Plain [] (Instruction.Uni UniOp.IsZero 1 0) (register 31) (C 0 0) (C six six)
    ∷ form Mode.Plain [] (Instruction.Uni UniOp.IsNotZero 1 0) (register 31) (C 0 0) (C six six)
    ∷ form Mode.Plain [] (Instruction.LoadMath ArithOp.Plus 1 0 (Loc.Mem 0)) (register 31) (C one one) (C six six)
    ∷ form Mode.Plain [] (Instruction.LoadConstMath ArithOp.Plus 1 0 0) (register 31) (R three) (C six six)
    -- stable Divide by a complex register, into a general one and into Ret,
    ∷ form Mode.Stable ((1, C one one) ∷ []) (Instruction.Bi BinOp.Divide 2 0 1) (register 31) (C three three) (C six six)
    ∷ form Mode.Stable ((0, R six) ∷ (1, C one one) ∷ []) (Instruction.Bi BinOp.Divide 2 0 1) (register 31) (C 0x3ff8_0000_0000_0000 0xbff8_0000_0000_0000) (C six six)
    ∷ form Mode.Stable ((1, C one one) ∷ []) (Instruction.Bi BinOp.Divide 30 0 1) (register 31) (C half half) (C six six)
    -- stable Recip of a complex register, and plain Divide of a real by a complex one, which leaves the real half alone
    ∷ form Mode.Stable ((0, C one one) ∷ []) (Instruction.Uni UniOp.Recip 1 0) (register 31) (C one minus_one) (C six six)
    ∷ form Mode.Plain ((0, R six) ∷ (1, C one one) ∷ []) (Instruction.Bi BinOp.Divide 2 0 1) (register 31) (C two six) (C six six)
    -- 9: what is left in Ret, by Root and RealRoot of a complex register, by Fused, in its real half by stable Abs of a complex register, and
    -- by mode 2's Divide by a complex register into Temp
    ∷ form Mode.Plain ((0, C 0 two) ∷ []) (Instruction.Uni UniOp.Root 1 0) (register 30) (C one one) (C six six)
    ∷ form Mode.Plain ((0, C 0 two) ∷ []) (Instruction.Uni UniOp.RealRoot 1 0) (register 30) (C one one) (C six six)
    ∷ form Mode.Plain ((0, R two) ∷ (1, R three) ∷ []) (Instruction.Fused FusedOp.MulAdd 3 0 1 2) (register 30) (R six) (C six six)
    ∷ form Mode.Stable ((0, C three 0x4010_0000_0000_0000) ∷ []) (Instruction.Uni UniOp.Abs 1 0) (register 30) (C 0x4004_0000_0000_0000 six) (C six six)
    ∷ form Mode.Minding ((1, C one one) ∷ []) (Instruction.Bi BinOp.Divide 31 0 1) (register 30) (C six 0) (C six six)
    -- 10: what is left in the real half of Stack 2, by Root and RealRoot of a complex register
    ∷ form Mode.Plain ((0, C 0 two) ∷ []) (Instruction.Uni UniOp.Root 1 0) stack2 (C 0 one) (C one one)
    ∷ form Mode.Stable ((0, C two 0) ∷ []) (Instruction.Uni UniOp.RealRoot 1 0) stack2 (C ones one) (C one one)
    ∷ []

-- In mode 2 the forms 3, 6 and 7 do their rows.
unfoldable pub mended : List Form
mended =
    form Mode.Minding ((1, C one one) ∷ []) (Instruction.Bi BinOp.Divide 31 0 1) (register 31) (C six 0) (C six 0)
    ∷ form Mode.Minding ((0, R six) ∷ (1, C one one) ∷ []) (Instruction.Bi BinOp.Divide 31 0 1) (register 31) (C three minus_three) (C three minus_three)
    ∷ form Mode.Minding ((1, R one) ∷ []) (Instruction.Uni UniOp.Half 1 0) (register 1) (C three three) (C three three)
    ∷ form Mode.Minding ((0, R six) ∷ []) (Instruction.Uni UniOp.Half 1 0) (register 1) (R three) (R three)
    ∷ []

-- what comes out and what the row would give, by the definitions and as typed
unfoldable defined : Form → Value × Value
unfolding before seen
defined f = (
  seen f.at (means f.mode (three ∷ []) six f.instruction (before f.registers)),
  seen f.at (row f.mode (three ∷ []) f.instruction (before f.registers)),
)

all_deviate : map defined forms ≡ map (λ (f : Form). (f.comes, f.wanted)) forms
unfolding forms defined before seen means row Means.uni Means.divide_by Means.halves Means.real_half Means.abs_leaves Means.recip_leaves Means.real_root_leaves Means.halved Means.divide_leaves Means.into_temp Value.of_one Value.of_two Value.fused Value.re_of Value.im_of Value.each Value.plus Value.minus Value.times Value.quotient Value.bits Value.inverse Value.quotient_in Value.inverse_in Value.modulus Value.larger Value.real_root_in of_bits to_bits is_nan add sub mul div lt eq ne square_root fused_multiply_add
all_deviate = refl

all_mended : map defined mended ≡ map (λ (f : Form). (f.comes, f.wanted)) mended
unfolding mended defined before seen means row Means.uni Means.divide_by Means.halves Means.real_half Means.abs_leaves Means.recip_leaves Means.real_root_leaves Means.halved Means.divide_leaves Means.into_temp Value.of_one Value.of_two Value.fused Value.re_of Value.im_of Value.each Value.plus Value.minus Value.times Value.quotient Value.bits Value.inverse Value.quotient_in Value.inverse_in Value.modulus Value.larger Value.real_root_in of_bits to_bits is_nan add sub mul div lt eq ne square_root fused_multiply_add
all_mended = refl
