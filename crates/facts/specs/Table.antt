-- Document 01's facts ("One sheet on paper"), and worked cases of every operation of the machine, over one table. Sheets, listings and
-- words are typed from document 01's record format and from IEEE 754, and none is computed by a definition.
use Rattle.std.specs.Prelude.{ℕ, zero, suc, ◌≡◌, refl, true, List, [], ◌∷◌, ◌++◌, map, length, replicate}
use Rattle.std.specs.Float.Ieee.{of_bits, to_bits, is_nan, add, sub, mul, div, lt, le, eq, ne}
use Rattle.mir.specs.declared.ops.UniOp.{UniOp}
use Rattle.mir.specs.declared.ops.BinOp.{BinOp}
use Rattle.mir.specs.declared.ops.ArithOp.{ArithOp}
use Rattle.mir.specs.declared.ops.FusedOp.{FusedOp}
use Rattle.mir.specs.Register.{re, im}
use Rattle.mir.specs.Operation.{uni_ops, bin_ops, fused_ops}
use Rattle.mir.specs.Field.{takes_kind, place_at, save_place}
use Rattle.mir.specs.Decode.{decoded}
use Rattle.mir.specs.Encode.{record_of}
use Rattle.sheet.specs.Setup.{setup, constant_at}
use Rattle.sheet.specs.Instruction.{instruction_from}
use Rattle.float.specs.Root.{square_root}
use Rattle.float.specs.Fused.{fused_multiply_add}
use Rattle.float.specs.Integral.{round_to_integral}
use Rattle.player_machine.specs.Machine.{uni_word, bin_word, fused_word, complex_words, writes, block}
use Rattle.lowering.specs.Realness.{without_loc}
use Rattle.lowering.specs.Lines.{each_lines, order_lines}
use Rattle.lowering.specs.Complexifier as c
use Rattle.lowering.specs.Rerun.{rerun, rerun_uni, rerun_bin, complexify}
use Rattle.lowering.specs.Lower.{lower_sheet, listed}
use Rattle.lowering.specs.Origins.{origins_of}
use Rattle.marks.specs.Marks.{step, scan}
use Rattle.facts.specs.Fact.{Fact, lowered, computed, Operation, uni, bi, fused, ifelse, complex_bi, given, stated, computes}

-- "a header: kind 32, mode byte (0 plain, 1 stable), 64 bytes of realness"; 2 is document 02's n)
abbrev pub header : ℕ → List ℕ → List ℕ
header mode places = 69 ∷ 0 ∷ 32 ∷ 0 ∷ mode ∷ places

abbrev pub no_places : List ℕ
no_places = replicate 64 0

-- Param 9 alone: bit 1 of byte 1 of "the next 32 bytes"
abbrev pub param_nine : List ℕ
param_nine = replicate 33 0 ++ 2 ∷ replicate 30 0

-- "constants: kind 33, eight bytes each": 4000000000000000
abbrev pub two : List ℕ
two = 12 ∷ 0 ∷ 33 ∷ 0 ∷ 0 ∷ 0 ∷ 0 ∷ 0 ∷ 0 ∷ 0 ∷ 0 ∷ 64 ∷ []

-- "Plain mode, no real places, constant 4000000000000000; LoadConst general 0, constant 0; Load general 1, Mem 3; Times 0, 0, 1; Save 0,
-- Mem 4."
abbrev pub paper : List ℕ
paper =
    header 0 no_places
    ++ two
    ++ (7 ∷ 0 ∷ 6 ∷ 0 ∷ 0 ∷ 0 ∷ 0 ∷ [])
    ++ (8 ∷ 0 ∷ 4 ∷ 0 ∷ 1 ∷ 1 ∷ 3 ∷ 0 ∷ [])
    ++ (8 ∷ 0 ∷ 2 ∷ 0 ∷ 2 ∷ 0 ∷ 0 ∷ 1 ∷ [])
    ++ (8 ∷ 0 ∷ 5 ∷ 0 ∷ 0 ∷ 1 ∷ 4 ∷ 0 ∷ [])

-- LoadConst G4 0, LoadComplex G6 G7 Mem 3, Times G5 G4 G7, Times G4 G4 G6
abbrev pub first_four : List ℕ
first_four =
    (7 ∷ 0 ∷ 6 ∷ 0 ∷ 4 ∷ 0 ∷ 0 ∷ [])
    ++ (9 ∷ 0 ∷ 11 ∷ 0 ∷ 6 ∷ 7 ∷ 1 ∷ 3 ∷ 0 ∷ [])
    ++ (8 ∷ 0 ∷ 2 ∷ 0 ∷ 2 ∷ 5 ∷ 4 ∷ 7 ∷ [])
    ++ (8 ∷ 0 ∷ 2 ∷ 0 ∷ 2 ∷ 4 ∷ 4 ∷ 6 ∷ [])

-- all ones
abbrev pub ones : ℕ
ones = 0xffff_ffff_ffff_ffff

-- 1, 2, 3 and 5
abbrev pub one_two_three_five : List ℕ
one_two_three_five = 0x3ff0_0000_0000_0000 ∷ 0x4000_0000_0000_0000 ∷ 0x4008_0000_0000_0000 ∷ 0x4014_0000_0000_0000 ∷ []

-- four NaNs: 1 has the sign, and bit 51 is set in none
abbrev pub nans : List ℕ
nans = 0xfff0_0000_0000_0001 ∷ 0x7ff0_0000_0000_0002 ∷ 0x7ff0_0000_0000_0003 ∷ 0x7ff0_0000_0000_0004 ∷ []

-- Label, Branch and BranchIf, in sheets and in listings (document 02, d): "condition register, label, and a byte 0 or 1 that is `is_else`;
-- length 7"
abbrev pub label : ℕ → List ℕ
label l = 5 ∷ 0 ∷ 14 ∷ 0 ∷ l ∷ []

abbrev pub branch : ℕ → List ℕ
branch l = 5 ∷ 0 ∷ 15 ∷ 0 ∷ l ∷ []

abbrev pub branch_if : ℕ → ℕ → ℕ → List ℕ
branch_if register l is_else = 7 ∷ 0 ∷ 17 ∷ 0 ∷ register ∷ l ∷ is_else ∷ []

-- so many Nops
abbrev pub nops : ℕ → List ℕ
nops zero = []
nops (suc n) = 4 ∷ 0 ∷ 0 ∷ 0 ∷ nops n

-- instructions of a sheet without constants and real places: the number that refuses one, its index, and the bytes of the finished ones,
-- which leave the record as it is
abbrev pub turned_away : List ℕ → ℕ → ℕ → List ℕ → Fact
turned_away instructions number index bytes =
    lowered
    (record {
      sheet = header 0 no_places ++ instructions;
      room = 64;
      number = number;
      index = index;
      written = length bytes;
      bytes = bytes;
      count = 0;
      constants = [];
      origins = [];
      registers = [];
      places = no_places;
      filled = [];
      drawn = [];
    })

-- Branch 3; LoadConst general 0, constant 0, which is real then; Label 3
abbrev pub unequal_register : List ℕ
unequal_register = header 0 no_places ++ two ++ branch 3 ++ (7 ∷ 0 ∷ 6 ∷ 0 ∷ 0 ∷ 0 ∷ 0 ∷ []) ++ label 3

-- an operation on words, and the words that it gives
abbrev pub gives : Operation → List ℕ → List ℕ → Fact
gives operation words result = computed (record { operation = operation; words = words; gives = result })

abbrev pub table : List Fact
table =
    -- ---- document 01
    -- the sheet on paper: its listing ends with SaveComplex G4 G5 Mem 4; general 0 was real, and is complex since general 1 is
    lowered
    (record {
      sheet = paper;
      room = 41;
      number = 0;
      index = 4;
      written = 41;
      bytes = first_four ++ (9 ∷ 0 ∷ 12 ∷ 0 ∷ 4 ∷ 5 ∷ 1 ∷ 4 ∷ 0 ∷ []);
      count = 1;
      constants = 0x4000_0000_0000_0000 ∷ [];
      origins = 65535 ∷ [];
      registers = [];
      places = no_places;
      filled = 4 ∷ 5 ∷ 6 ∷ 7 ∷ [];
      drawn = [];
    })
    -- "With 40 bytes this is 7 at index 3, 32 bytes written."
    ∷ lowered
    (record {
      sheet = paper;
      room = 40;
      number = 7;
      index = 3;
      written = 32;
      bytes = first_four;
      count = 1;
      constants = 0x4000_0000_0000_0000 ∷ [];
      origins = 65535 ∷ [];
      registers = [];
      places = no_places;
      filled = 4 ∷ 5 ∷ 6 ∷ 7 ∷ [];
      drawn = [];
    })
    -- "general 29 becomes 62 and 63": Load general 29, Mem 0 is LoadComplex G62 G63 Mem 0
    ∷ lowered
    (record {
      sheet = header 0 no_places ++ (8 ∷ 0 ∷ 4 ∷ 0 ∷ 29 ∷ 1 ∷ 0 ∷ 0 ∷ []);
      room = 9;
      number = 0;
      index = 1;
      written = 9;
      bytes = 9 ∷ 0 ∷ 11 ∷ 0 ∷ 62 ∷ 63 ∷ 1 ∷ 0 ∷ 0 ∷ [];
      count = 0;
      constants = [];
      origins = [];
      registers = [];
      places = no_places;
      filled = 62 ∷ 63 ∷ [];
      drawn = [];
    })
    -- "Mov of 3 to 3 lists nothing"
    ∷ lowered
    (record {
      sheet = header 0 no_places ++ (6 ∷ 0 ∷ 3 ∷ 0 ∷ 3 ∷ 3 ∷ []);
      room = 0;
      number = 0;
      index = 1;
      written = 0;
      bytes = [];
      count = 0;
      constants = [];
      origins = [];
      registers = [];
      places = no_places;
      filled = [];
      drawn = [];
    })
    -- "real 0 minus complex 1 into 2 is Minus G8 G4 G6, Neg G9 G7": 0 is real by Load general 0, Param 9, listed as Load G4 Param 9
    ∷ lowered
    (record {
      sheet = header 0 param_nine ++ (8 ∷ 0 ∷ 4 ∷ 0 ∷ 0 ∷ 2 ∷ 9 ∷ 0 ∷ []) ++ (8 ∷ 0 ∷ 2 ∷ 0 ∷ 1 ∷ 2 ∷ 0 ∷ 1 ∷ []);
      room = 30;
      number = 0;
      index = 2;
      written = 23;
      bytes = (8 ∷ 0 ∷ 4 ∷ 0 ∷ 4 ∷ 2 ∷ 9 ∷ 0 ∷ []) ++ (8 ∷ 0 ∷ 2 ∷ 0 ∷ 1 ∷ 8 ∷ 4 ∷ 6 ∷ []) ++ (7 ∷ 0 ∷ 1 ∷ 0 ∷ 0 ∷ 9 ∷ 7 ∷ []);
      count = 0;
      constants = [];
      origins = [];
      registers = 0 ∷ [];
      places = param_nine;
      filled = 4 ∷ 8 ∷ 9 ∷ [];
      drawn = 6 ∷ 7 ∷ [];
    })
    -- "Half of real 0 into complex 1 is Half G7 G5, Half G6 G4": 0 is real by LoadConst general 0, constant 0, listed as LoadConst G4 0
    ∷ lowered
    (record {
      sheet = header 0 no_places ++ two ++ (7 ∷ 0 ∷ 6 ∷ 0 ∷ 0 ∷ 0 ∷ 0 ∷ []) ++ (7 ∷ 0 ∷ 1 ∷ 0 ∷ 13 ∷ 1 ∷ 0 ∷ []);
      room = 30;
      number = 0;
      index = 2;
      written = 21;
      bytes = (7 ∷ 0 ∷ 6 ∷ 0 ∷ 4 ∷ 0 ∷ 0 ∷ []) ++ (7 ∷ 0 ∷ 1 ∷ 0 ∷ 13 ∷ 7 ∷ 5 ∷ []) ++ (7 ∷ 0 ∷ 1 ∷ 0 ∷ 13 ∷ 6 ∷ 4 ∷ []);
      count = 1;
      constants = 0x4000_0000_0000_0000 ∷ [];
      origins = 65535 ∷ [];
      registers = 0 ∷ [];
      places = no_places;
      filled = 4 ∷ 6 ∷ 7 ∷ [];
      drawn = 5 ∷ [];
    })
    -- "Fused with c Ret gives 6": MulAdd 0, 1, 2, Ret
    ∷ lowered
    (record {
      sheet = header 0 no_places ++ (9 ∷ 0 ∷ 7 ∷ 0 ∷ 0 ∷ 0 ∷ 1 ∷ 2 ∷ 30 ∷ []);
      room = 30;
      number = 6;
      index = 0;
      written = 0;
      bytes = [];
      count = 0;
      constants = [];
      origins = [];
      registers = [];
      places = no_places;
      filled = [];
      drawn = [];
    })
    -- "stable Abs on empty constants adds 0020000000000000, 7fe0000000000000, 7ff0000000000000": Abs 1, 0, listed line by line as
    -- complexify.rs's `stable_exponent` and `stable_abs` have it
    ∷ lowered
    (record {
      sheet = header 1 no_places ++ (7 ∷ 0 ∷ 1 ∷ 0 ∷ 2 ∷ 1 ∷ 0 ∷ []);
      room = 151;
      number = 0;
      index = 1;
      written = 151;
      bytes =
          -- Abs G2 G4, Half G2 G2, Abs G3 G5, Half G3 G3, Plus G2 G2 G3
          (7 ∷ 0 ∷ 1 ∷ 0 ∷ 2 ∷ 2 ∷ 4 ∷ [])
          ++ (7 ∷ 0 ∷ 1 ∷ 0 ∷ 13 ∷ 2 ∷ 2 ∷ [])
          ++ (7 ∷ 0 ∷ 1 ∷ 0 ∷ 2 ∷ 3 ∷ 5 ∷ [])
          ++ (7 ∷ 0 ∷ 1 ∷ 0 ∷ 13 ∷ 3 ∷ 3 ∷ [])
          ++ (8 ∷ 0 ∷ 2 ∷ 0 ∷ 0 ∷ 2 ∷ 2 ∷ 3 ∷ [])
          -- LoadConst G3 0, Plus G2 G2 G3, LoadConst G3 1, And G2 G2 G3
          ++ (7 ∷ 0 ∷ 6 ∷ 0 ∷ 3 ∷ 0 ∷ 0 ∷ [])
          ++ (8 ∷ 0 ∷ 2 ∷ 0 ∷ 0 ∷ 2 ∷ 2 ∷ 3 ∷ [])
          ++ (7 ∷ 0 ∷ 6 ∷ 0 ∷ 3 ∷ 1 ∷ 0 ∷ [])
          ++ (8 ∷ 0 ∷ 2 ∷ 0 ∷ 10 ∷ 2 ∷ 2 ∷ 3 ∷ [])
          -- LoadConst G3 2, Xor G3 G2 G3, Half G3 G3
          ++ (7 ∷ 0 ∷ 6 ∷ 0 ∷ 3 ∷ 2 ∷ 0 ∷ [])
          ++ (8 ∷ 0 ∷ 2 ∷ 0 ∷ 13 ∷ 3 ∷ 2 ∷ 3 ∷ [])
          ++ (7 ∷ 0 ∷ 1 ∷ 0 ∷ 13 ∷ 3 ∷ 3 ∷ [])
          -- Times Ret G4 G3, Times G3 G5 G3, Times Ret Ret Ret, Times G3 G3 G3, Plus Ret Ret G3, Root Ret Ret
          ++ (8 ∷ 0 ∷ 2 ∷ 0 ∷ 2 ∷ 64 ∷ 4 ∷ 3 ∷ [])
          ++ (8 ∷ 0 ∷ 2 ∷ 0 ∷ 2 ∷ 3 ∷ 5 ∷ 3 ∷ [])
          ++ (8 ∷ 0 ∷ 2 ∷ 0 ∷ 2 ∷ 64 ∷ 64 ∷ 64 ∷ [])
          ++ (8 ∷ 0 ∷ 2 ∷ 0 ∷ 2 ∷ 3 ∷ 3 ∷ 3 ∷ [])
          ++ (8 ∷ 0 ∷ 2 ∷ 0 ∷ 0 ∷ 64 ∷ 64 ∷ 3 ∷ [])
          ++ (7 ∷ 0 ∷ 1 ∷ 0 ∷ 3 ∷ 64 ∷ 64 ∷ [])
          -- Times G6 Ret G2, Xor G7 G7 G7
          ++ (8 ∷ 0 ∷ 2 ∷ 0 ∷ 2 ∷ 6 ∷ 64 ∷ 2 ∷ [])
          ++ (8 ∷ 0 ∷ 2 ∷ 0 ∷ 13 ∷ 7 ∷ 7 ∷ 7 ∷ []);
      count = 3;
      constants = 0x0020_0000_0000_0000 ∷ 0x7fe0_0000_0000_0000 ∷ 0x7ff0_0000_0000_0000 ∷ [];
      origins = 0 ∷ 0 ∷ 0 ∷ [];
      registers = [];
      places = no_places;
      filled = 2 ∷ 3 ∷ 6 ∷ 7 ∷ 64 ∷ [];
      drawn = 4 ∷ 5 ∷ [];
    })
    -- "no instructions list nothing"
    ∷ lowered
    (record {
      sheet = header 0 no_places ++ two;
      room = 4;
      number = 0;
      index = 0;
      written = 0;
      bytes = [];
      count = 1;
      constants = 0x4000_0000_0000_0000 ∷ [];
      origins = 65535 ∷ [];
      registers = [];
      places = no_places;
      filled = [];
      drawn = [];
    })
    -- ---- document 02, a: "listed as complexify.rs and mir.rs list them"
    -- Floor of complex 0 into 1, a half at a time: Floor G6 G4, Floor G7 G5
    ∷ lowered
    (record {
      sheet = header 0 no_places ++ (7 ∷ 0 ∷ 1 ∷ 0 ∷ 7 ∷ 1 ∷ 0 ∷ []);
      room = 14;
      number = 0;
      index = 1;
      written = 14;
      bytes = (7 ∷ 0 ∷ 1 ∷ 0 ∷ 7 ∷ 6 ∷ 4 ∷ []) ++ (7 ∷ 0 ∷ 1 ∷ 0 ∷ 7 ∷ 7 ∷ 5 ∷ []);
      count = 0;
      constants = [];
      origins = [];
      registers = [];
      places = no_places;
      filled = 6 ∷ 7 ∷ [];
      drawn = 4 ∷ 5 ∷ [];
    })
    -- IsZero of complex 0 into 1: Temp is cleared by Xor G1 G1 G1, Xor G0 G0 G0, and then compared with it as by Equal: Equal G7 G5 G1,
    -- Equal G6 G4 G0, And G6 G6 G7; 1 is then real
    ∷ lowered
    (record {
      sheet = header 0 no_places ++ (7 ∷ 0 ∷ 1 ∷ 0 ∷ 14 ∷ 1 ∷ 0 ∷ []);
      room = 45;
      number = 0;
      index = 1;
      written = 40;
      bytes =
          (8 ∷ 0 ∷ 2 ∷ 0 ∷ 13 ∷ 1 ∷ 1 ∷ 1 ∷ [])
          ++ (8 ∷ 0 ∷ 2 ∷ 0 ∷ 13 ∷ 0 ∷ 0 ∷ 0 ∷ [])
          ++ (8 ∷ 0 ∷ 2 ∷ 0 ∷ 8 ∷ 7 ∷ 5 ∷ 1 ∷ [])
          ++ (8 ∷ 0 ∷ 2 ∷ 0 ∷ 8 ∷ 6 ∷ 4 ∷ 0 ∷ [])
          ++ (8 ∷ 0 ∷ 2 ∷ 0 ∷ 10 ∷ 6 ∷ 6 ∷ 7 ∷ []);
      count = 0;
      constants = [];
      origins = [];
      registers = 1 ∷ [];
      places = no_places;
      filled = 0 ∷ 1 ∷ 6 ∷ 7 ∷ [];
      drawn = 4 ∷ 5 ∷ [];
    })
    -- Equal of real 0 and complex 1 into 2: 0 is real by Load general 0, Param 9, listed as Load G4 Param 9; its imaginary half is cleared
    -- by Xor G5 G5 G5, then Equal G9 G5 G7, Equal G8 G4 G6, And G8 G8 G9
    ∷ lowered
    (record {
      sheet = header 0 param_nine ++ (8 ∷ 0 ∷ 4 ∷ 0 ∷ 0 ∷ 2 ∷ 9 ∷ 0 ∷ []) ++ (8 ∷ 0 ∷ 2 ∷ 0 ∷ 8 ∷ 2 ∷ 0 ∷ 1 ∷ []);
      room = 46;
      number = 0;
      index = 2;
      written = 40;
      bytes =
          (8 ∷ 0 ∷ 4 ∷ 0 ∷ 4 ∷ 2 ∷ 9 ∷ 0 ∷ [])
          ++ (8 ∷ 0 ∷ 2 ∷ 0 ∷ 13 ∷ 5 ∷ 5 ∷ 5 ∷ [])
          ++ (8 ∷ 0 ∷ 2 ∷ 0 ∷ 8 ∷ 9 ∷ 5 ∷ 7 ∷ [])
          ++ (8 ∷ 0 ∷ 2 ∷ 0 ∷ 8 ∷ 8 ∷ 4 ∷ 6 ∷ [])
          ++ (8 ∷ 0 ∷ 2 ∷ 0 ∷ 10 ∷ 8 ∷ 8 ∷ 9 ∷ []);
      count = 0;
      constants = [];
      origins = [];
      registers = 2 ∷ [];
      places = param_nine;
      filled = 4 ∷ 5 ∷ 8 ∷ 9 ∷ [];
      drawn = 6 ∷ 7 ∷ [];
    })
    -- LittleThanEqual of complex 0 and 1 into 2, real halves alone: LittleThanEqual G8 G4 G6; 2 is then real
    ∷ lowered
    (record {
      sheet = header 0 no_places ++ (8 ∷ 0 ∷ 2 ∷ 0 ∷ 7 ∷ 2 ∷ 0 ∷ 1 ∷ []);
      room = 8;
      number = 0;
      index = 1;
      written = 8;
      bytes = 8 ∷ 0 ∷ 2 ∷ 0 ∷ 7 ∷ 8 ∷ 4 ∷ 6 ∷ [];
      count = 0;
      constants = [];
      origins = [];
      registers = 2 ∷ [];
      places = no_places;
      filled = 8 ∷ [];
      drawn = 4 ∷ 6 ∷ [];
    })
    -- AndNot stays out: 2
    ∷ lowered
    (record {
      sheet = header 0 no_places ++ (8 ∷ 0 ∷ 2 ∷ 0 ∷ 11 ∷ 2 ∷ 0 ∷ 1 ∷ []);
      room = 8;
      number = 2;
      index = 0;
      written = 0;
      bytes = [];
      count = 0;
      constants = [];
      origins = [];
      registers = [];
      places = no_places;
      filled = [];
      drawn = [];
    })
    -- ---- document 02, n: mode 2. "Half lists its imaginary line only for a register recorded as complex, and for either record copies it":
    -- Half of real 0 into complex 1 is Half G6 G4, and 1 is then real; 0 is real by LoadConst general 0, constant 0
    ∷ lowered
    (record {
      sheet = header 2 no_places ++ two ++ (7 ∷ 0 ∷ 6 ∷ 0 ∷ 0 ∷ 0 ∷ 0 ∷ []) ++ (7 ∷ 0 ∷ 1 ∷ 0 ∷ 13 ∷ 1 ∷ 0 ∷ []);
      room = 14;
      number = 0;
      index = 2;
      written = 14;
      bytes = (7 ∷ 0 ∷ 6 ∷ 0 ∷ 4 ∷ 0 ∷ 0 ∷ []) ++ (7 ∷ 0 ∷ 1 ∷ 0 ∷ 13 ∷ 6 ∷ 4 ∷ []);
      count = 1;
      constants = 0x4000_0000_0000_0000 ∷ [];
      origins = 65535 ∷ [];
      registers = 0 ∷ 1 ∷ [];
      places = no_places;
      filled = 4 ∷ 6 ∷ [];
      drawn = [];
    })
    -- Half of complex 1 into real 0 is Half G5 G7, Half G4 G6, and 0 is then complex
    ∷ lowered
    (record {
      sheet = header 2 no_places ++ two ++ (7 ∷ 0 ∷ 6 ∷ 0 ∷ 0 ∷ 0 ∷ 0 ∷ []) ++ (7 ∷ 0 ∷ 1 ∷ 0 ∷ 13 ∷ 0 ∷ 1 ∷ []);
      room = 21;
      number = 0;
      index = 2;
      written = 21;
      bytes = (7 ∷ 0 ∷ 6 ∷ 0 ∷ 4 ∷ 0 ∷ 0 ∷ []) ++ (7 ∷ 0 ∷ 1 ∷ 0 ∷ 13 ∷ 5 ∷ 7 ∷ []) ++ (7 ∷ 0 ∷ 1 ∷ 0 ∷ 13 ∷ 4 ∷ 6 ∷ []);
      count = 1;
      constants = 0x4000_0000_0000_0000 ∷ [];
      origins = 65535 ∷ [];
      registers = [];
      places = no_places;
      filled = 4 ∷ 5 ∷ [];
      drawn = 6 ∷ 7 ∷ [];
    })
    -- "a Divide by a complex register into Temp is listed as one into Ret followed by a move to Temp [..]; the record of Ret is then complex":
    -- LoadConst Ret, constant 0, makes Ret real; then Divide Temp, 0, 1, line by line as complexify.rs's `stable_divide` into Ret and `fmov`
    -- have it
    ∷ lowered
    (record {
      sheet = header 2 no_places ++ two ++ (7 ∷ 0 ∷ 6 ∷ 0 ∷ 30 ∷ 0 ∷ 0 ∷ []) ++ (8 ∷ 0 ∷ 2 ∷ 0 ∷ 3 ∷ 31 ∷ 0 ∷ 1 ∷ []);
      room = 151;
      number = 0;
      index = 2;
      written = 151;
      bytes =
          -- LoadConst Ret 0
          (7 ∷ 0 ∷ 6 ∷ 0 ∷ 64 ∷ 0 ∷ 0 ∷ [])
          -- Abs G2 G6, Half G2 G2, Abs G3 G7, Half G3 G3, Plus G2 G2 G3
          ++ (7 ∷ 0 ∷ 1 ∷ 0 ∷ 2 ∷ 2 ∷ 6 ∷ [])
          ++ (7 ∷ 0 ∷ 1 ∷ 0 ∷ 13 ∷ 2 ∷ 2 ∷ [])
          ++ (7 ∷ 0 ∷ 1 ∷ 0 ∷ 2 ∷ 3 ∷ 7 ∷ [])
          ++ (7 ∷ 0 ∷ 1 ∷ 0 ∷ 13 ∷ 3 ∷ 3 ∷ [])
          ++ (8 ∷ 0 ∷ 2 ∷ 0 ∷ 0 ∷ 2 ∷ 2 ∷ 3 ∷ [])
          -- LoadConst G3 1, Plus G2 G2 G3, LoadConst G3 2, And G2 G2 G3, Xor G2 G2 G3, LoadConst G3 3, Times G2 G2 G3
          ++ (7 ∷ 0 ∷ 6 ∷ 0 ∷ 3 ∷ 1 ∷ 0 ∷ [])
          ++ (8 ∷ 0 ∷ 2 ∷ 0 ∷ 0 ∷ 2 ∷ 2 ∷ 3 ∷ [])
          ++ (7 ∷ 0 ∷ 6 ∷ 0 ∷ 3 ∷ 2 ∷ 0 ∷ [])
          ++ (8 ∷ 0 ∷ 2 ∷ 0 ∷ 10 ∷ 2 ∷ 2 ∷ 3 ∷ [])
          ++ (8 ∷ 0 ∷ 2 ∷ 0 ∷ 13 ∷ 2 ∷ 2 ∷ 3 ∷ [])
          ++ (7 ∷ 0 ∷ 6 ∷ 0 ∷ 3 ∷ 3 ∷ 0 ∷ [])
          ++ (8 ∷ 0 ∷ 2 ∷ 0 ∷ 2 ∷ 2 ∷ 2 ∷ 3 ∷ [])
          -- Times Ret G4 G2, Times Temp G5 G2, Times G0 G6 G2, Times G1 G7 G2, DivideComplex Ret Temp Ret Temp G0 G1
          ++ (8 ∷ 0 ∷ 2 ∷ 0 ∷ 2 ∷ 64 ∷ 4 ∷ 2 ∷ [])
          ++ (8 ∷ 0 ∷ 2 ∷ 0 ∷ 2 ∷ 65 ∷ 5 ∷ 2 ∷ [])
          ++ (8 ∷ 0 ∷ 2 ∷ 0 ∷ 2 ∷ 0 ∷ 6 ∷ 2 ∷ [])
          ++ (8 ∷ 0 ∷ 2 ∷ 0 ∷ 2 ∷ 1 ∷ 7 ∷ 2 ∷ [])
          ++ (11 ∷ 0 ∷ 13 ∷ 0 ∷ 3 ∷ 64 ∷ 65 ∷ 64 ∷ 65 ∷ 0 ∷ 1 ∷ [])
          -- Mov G0 Ret, Mov G1 Temp
          ++ (6 ∷ 0 ∷ 3 ∷ 0 ∷ 0 ∷ 64 ∷ [])
          ++ (6 ∷ 0 ∷ 3 ∷ 0 ∷ 1 ∷ 65 ∷ []);
      count = 4;
      constants = 0x4000_0000_0000_0000 ∷ 0x0010_0000_0000_0000 ∷ 0x7ff0_0000_0000_0000 ∷ 0x3fd0_0000_0000_0000 ∷ [];
      origins = 65535 ∷ 1 ∷ 1 ∷ 1 ∷ [];
      registers = [];
      places = no_places;
      filled = 0 ∷ 1 ∷ 2 ∷ 3 ∷ 64 ∷ 65 ∷ [];
      drawn = 4 ∷ 5 ∷ 6 ∷ 7 ∷ [];
    })
    -- "A Divide by a real register is listed and recorded as in mode 1": Ret and 1 made real by LoadConst, then Divide Temp, 0, 1 is Divide
    -- G1 G5 G6, Divide G0 G4 G6, and Ret stays real
    ∷ lowered
    (record {
      sheet =
          header 2 no_places
          ++ two
          ++ (7 ∷ 0 ∷ 6 ∷ 0 ∷ 30 ∷ 0 ∷ 0 ∷ [])
          ++ (7 ∷ 0 ∷ 6 ∷ 0 ∷ 1 ∷ 0 ∷ 0 ∷ [])
          ++ (8 ∷ 0 ∷ 2 ∷ 0 ∷ 3 ∷ 31 ∷ 0 ∷ 1 ∷ []);
      room = 30;
      number = 0;
      index = 3;
      written = 30;
      bytes =
          (7 ∷ 0 ∷ 6 ∷ 0 ∷ 64 ∷ 0 ∷ 0 ∷ [])
          ++ (7 ∷ 0 ∷ 6 ∷ 0 ∷ 6 ∷ 0 ∷ 0 ∷ [])
          ++ (8 ∷ 0 ∷ 2 ∷ 0 ∷ 3 ∷ 1 ∷ 5 ∷ 6 ∷ [])
          ++ (8 ∷ 0 ∷ 2 ∷ 0 ∷ 3 ∷ 0 ∷ 4 ∷ 6 ∷ []);
      count = 1;
      constants = 0x4000_0000_0000_0000 ∷ [];
      origins = 65535 ∷ [];
      registers = 1 ∷ 30 ∷ [];
      places = no_places;
      filled = 0 ∷ 1 ∷ 6 ∷ 64 ∷ [];
      drawn = 4 ∷ 5 ∷ [];
    })
    -- 6 as in mode 1, into Temp too: Divide Temp, Ret, 1
    ∷ lowered
    (record {
      sheet = header 2 no_places ++ (8 ∷ 0 ∷ 2 ∷ 0 ∷ 3 ∷ 31 ∷ 30 ∷ 1 ∷ []);
      room = 200;
      number = 6;
      index = 0;
      written = 0;
      bytes = [];
      count = 0;
      constants = [];
      origins = [];
      registers = [];
      places = no_places;
      filled = [];
      drawn = [];
    })
    -- a mode above 2 is 8
    ∷ lowered
    (record {
      sheet = header 3 no_places;
      room = 30;
      number = 8;
      index = 0;
      written = 0;
      bytes = [];
      count = 0;
      constants = [];
      origins = [];
      registers = [];
      places = no_places;
      filled = [];
      drawn = [];
    })
    -- ---- document 02, d: "It lists as the Rust does."
    -- Load general 0, Param 9, which is real then; BranchIf of Temp, whose real half is register 0; BranchIf of general 0; Branch; both
    -- labels. Nothing is cleared, and 0 stays real
    ∷ lowered
    (record {
      sheet =
          header 0 param_nine
          ++ (8 ∷ 0 ∷ 4 ∷ 0 ∷ 0 ∷ 2 ∷ 9 ∷ 0 ∷ [])
          ++ branch_if 31 3 1
          ++ branch_if 0 255 0
          ++ branch 255
          ++ label 3
          ++ label 255;
      room = 37;
      number = 0;
      index = 6;
      written = 37;
      bytes =
          (8 ∷ 0 ∷ 4 ∷ 0 ∷ 4 ∷ 2 ∷ 9 ∷ 0 ∷ []) ++ branch_if 0 3 1 ++ branch_if 4 255 0 ++ branch 255 ++ label 3 ++ label 255;
      count = 0;
      constants = [];
      origins = [];
      registers = 0 ∷ [];
      places = param_nine;
      filled = 4 ∷ [];
      drawn = 0 ∷ [];
    })
    -- "10 at a branch with no such label later or one before it"
    ∷ turned_away (branch 3 ++ label 4) 10 0 []
    ∷ turned_away (label 3 ++ branch 3 ++ label 3) 10 1 (label 3)
    -- "at a label's second standing"; also where its records are unequal, since 11 is tested later: after the first one Load general 0,
    -- Param 9
    ∷ turned_away (label 3 ++ label 3) 10 1 (label 3)
    ∷ lowered
    (record {
      sheet = header 0 param_nine ++ branch 3 ++ label 3 ++ (8 ∷ 0 ∷ 4 ∷ 0 ∷ 0 ∷ 2 ∷ 9 ∷ 0 ∷ []) ++ label 3;
      room = 64;
      number = 10;
      index = 3;
      written = 18;
      bytes = branch 3 ++ label 3 ++ (8 ∷ 0 ∷ 4 ∷ 0 ∷ 4 ∷ 2 ∷ 9 ∷ 0 ∷ []);
      count = 0;
      constants = [];
      origins = [];
      registers = 0 ∷ [];
      places = param_nine;
      filled = 4 ∷ [];
      drawn = [];
    })
    -- "for a label outside 3 to 255, or a third byte above 1"
    ∷ turned_away (label 2) 10 0 []
    ∷ turned_away (branch 2 ++ label 2) 10 0 []
    ∷ turned_away (branch_if 0 3 2 ++ label 3) 10 0 []
    -- "tested after 4", so after 3: BranchIf of register 32
    ∷ turned_away (branch_if 32 3 2 ++ label 3) 3 0 []
    -- looking ahead passes what will be refused by another number than 1: Neg 32, 0, and a kind that sheets do not take
    ∷ turned_away (branch 3 ++ (7 ∷ 0 ∷ 1 ∷ 0 ∷ 0 ∷ 32 ∷ 0 ∷ []) ++ label 3) 3 1 (branch 3)
    ∷ turned_away (branch 3 ++ (5 ∷ 0 ∷ 11 ∷ 0 ∷ 0 ∷ []) ++ label 3) 2 1 (branch 3)
    -- "Looking ahead for a label stops at the first torn record": a Nop of five bytes
    ∷ turned_away (branch 3 ++ (5 ∷ 0 ∷ 0 ∷ 0 ∷ 0 ∷ []) ++ label 3) 10 0 []
    -- ---- document 02, h: "The longest of its sheets has 612 instructions. Make that the limit [..], and a Nop counts"
    ∷ turned_away (nops 612) 0 612 []
    -- "14 for the instruction at index 612, before any other number that record could earn": a single byte, which would be 1
    ∷ turned_away (nops 612 ++ 0 ∷ []) 14 612 []
    -- "what was finished stays, and d)'s looking ahead goes past it": Label 3 at index 613 is seen
    ∷ turned_away (branch 3 ++ nops 612 ++ label 3) 14 612 (branch 3)
    -- "11 for unequal records, given at the label": those of a register
    ∷ lowered
    (record {
      sheet = unequal_register;
      room = 17;
      number = 11;
      index = 2;
      written = 12;
      bytes = branch 3 ++ (7 ∷ 0 ∷ 6 ∷ 0 ∷ 4 ∷ 0 ∷ 0 ∷ []);
      count = 1;
      constants = 0x4000_0000_0000_0000 ∷ [];
      origins = 65535 ∷ [];
      registers = 0 ∷ [];
      places = no_places;
      filled = 4 ∷ [];
      drawn = [];
    })
    -- before 7: no room for the label
    ∷ lowered
    (record {
      sheet = unequal_register;
      room = 12;
      number = 11;
      index = 2;
      written = 12;
      bytes = branch 3 ++ (7 ∷ 0 ∷ 6 ∷ 0 ∷ 4 ∷ 0 ∷ 0 ∷ []);
      count = 1;
      constants = 0x4000_0000_0000_0000 ∷ [];
      origins = 65535 ∷ [];
      registers = 0 ∷ [];
      places = no_places;
      filled = 4 ∷ [];
      drawn = [];
    })
    -- those of a place: Stack 5 is real at BranchIf of general 1, and complex by Save general 0, Stack 5, listed as SaveComplex G4 G5
    -- Stack 5
    ∷ lowered
    (record {
      sheet = header 0 (32 ∷ replicate 63 0) ++ branch_if 1 3 0 ++ (8 ∷ 0 ∷ 5 ∷ 0 ∷ 0 ∷ 0 ∷ 5 ∷ 0 ∷ []) ++ label 3;
      room = 64;
      number = 11;
      index = 2;
      written = 16;
      bytes = branch_if 6 3 0 ++ (9 ∷ 0 ∷ 12 ∷ 0 ∷ 4 ∷ 5 ∷ 0 ∷ 5 ∷ 0 ∷ []);
      count = 0;
      constants = [];
      origins = [];
      registers = [];
      places = no_places;
      filled = [];
      drawn = 4 ∷ 5 ∷ 6 ∷ [];
    })
    -- ---- document 02, l: "the record after a Branch to such a label is taken as reached from it": Branch 3; Save general 0, Mem 1, listed as
    -- SaveComplex G4 G5 Mem 1; Label 3
    ∷ lowered
    (record {
      sheet = header 0 no_places ++ branch 3 ++ (8 ∷ 0 ∷ 5 ∷ 0 ∷ 0 ∷ 1 ∷ 1 ∷ 0 ∷ []) ++ label 3;
      room = 19;
      number = 0;
      index = 3;
      written = 19;
      bytes = branch 3 ++ (9 ∷ 0 ∷ 12 ∷ 0 ∷ 4 ∷ 5 ∷ 1 ∷ 1 ∷ 0 ∷ []) ++ label 3;
      count = 0;
      constants = [];
      origins = [];
      registers = [];
      places = no_places;
      filled = [];
      drawn = 4 ∷ 5 ∷ [];
    })
    -- "filled at a label from 3 up only if it is filled on every way in": BranchIf of general 1 draws on G6; Load general 0, Mem 1, listed as
    -- LoadComplex G4 G5 Mem 1; Label 3; Save general 0, Mem 2, listed as SaveComplex G4 G5 Mem 2, draws on both
    ∷ lowered
    (record {
      sheet =
          header 0 no_places
          ++ branch_if 1 3 0
          ++ (8 ∷ 0 ∷ 4 ∷ 0 ∷ 0 ∷ 1 ∷ 1 ∷ 0 ∷ [])
          ++ label 3
          ++ (8 ∷ 0 ∷ 5 ∷ 0 ∷ 0 ∷ 1 ∷ 2 ∷ 0 ∷ []);
      room = 30;
      number = 0;
      index = 4;
      written = 30;
      bytes =
          branch_if 6 3 0 ++ (9 ∷ 0 ∷ 11 ∷ 0 ∷ 4 ∷ 5 ∷ 1 ∷ 1 ∷ 0 ∷ []) ++ label 3 ++ (9 ∷ 0 ∷ 12 ∷ 0 ∷ 4 ∷ 5 ∷ 1 ∷ 2 ∷ 0 ∷ []);
      count = 0;
      constants = [];
      origins = [];
      registers = [];
      places = no_places;
      filled = [];
      drawn = 4 ∷ 5 ∷ 6 ∷ [];
    })
    -- ---- document 01's words
    -- "Half of 0000000000000003 is 0000000000000002": 3 units of 2 ^ -1074 by 2 is a tie, and 2 units are even
    ∷ gives (uni UniOp.Half) (0x0000_0000_0000_0003 ∷ []) (0x0000_0000_0000_0002 ∷ [])
    -- "Root of -0 is -0" (6.3)
    ∷ gives (uni UniOp.Root) (0x8000_0000_0000_0000 ∷ []) (0x8000_0000_0000_0000 ∷ [])
    -- "MulAdd of 3ff0000000000001 twice and bff0000000000002 is 3970000000000000": with u = 2 ^ -52, (1 + u) * (1 + u) - (1 + 2 * u) is u *
    -- u
    ∷ gives (fused FusedOp.MulAdd)
    (0x3ff0_0000_0000_0001 ∷ 0x3ff0_0000_0000_0001 ∷ 0xbff0_0000_0000_0002 ∷ [])
    (0x3970_0000_0000_0000 ∷ [])
    -- ---- "Arithmetic rounds once, ties to even" (4.3.1); the clauses are IEEE 754's, and u is 2 ^ -52
    -- 4.3.1: 1 + u / 2 is a tie between 1 and 1 + u, and 1 is even
    ∷ gives (bi BinOp.Plus) (0x3ff0_0000_0000_0000 ∷ 0x3ca0_0000_0000_0000 ∷ []) (0x3ff0_0000_0000_0000 ∷ [])
    -- 4.3.1: 1 + u + u / 2 is a tie too, and 1 + 2 * u is even
    ∷ gives (bi BinOp.Plus) (0x3ff0_0000_0000_0001 ∷ 0x3ca0_0000_0000_0000 ∷ []) (0x3ff0_0000_0000_0002 ∷ [])
    -- 7.4: twice the largest value overflows to infinity
    ∷ gives (bi BinOp.Plus) (0x7fef_ffff_ffff_ffff ∷ 0x7fef_ffff_ffff_ffff ∷ []) (0x7ff0_0000_0000_0000 ∷ [])
    -- 6.3: -0 and -0 sum to -0
    ∷ gives (bi BinOp.Plus) (0x8000_0000_0000_0000 ∷ 0x8000_0000_0000_0000 ∷ []) (0x8000_0000_0000_0000 ∷ [])
    -- 7.2: infinity and -infinity sum to a NaN
    ∷ gives (bi BinOp.Plus) (0x7ff0_0000_0000_0000 ∷ 0xfff0_0000_0000_0000 ∷ []) (0x7ff8_0000_0000_0000 ∷ [])
    -- 5.4.1: 1 - 3 is -2
    ∷ gives (bi BinOp.Minus) (0x3ff0_0000_0000_0000 ∷ 0x4008_0000_0000_0000 ∷ []) (0xc000_0000_0000_0000 ∷ [])
    -- 6.3: a difference that is exactly zero is +0
    ∷ gives (bi BinOp.Minus) (0x3ff0_0000_0000_0000 ∷ 0x3ff0_0000_0000_0000 ∷ []) (0x0000_0000_0000_0000 ∷ [])
    -- 4.3.1: (1 + u) * 2 ^ -1023 is a tie between two subnormals
    ∷ gives (bi BinOp.Times) (0x0010_0000_0000_0001 ∷ 0x3fe0_0000_0000_0000 ∷ []) (0x0008_0000_0000_0000 ∷ [])
    -- 7.2: infinity times 0 is a NaN
    ∷ gives (bi BinOp.Times) (0x7ff0_0000_0000_0000 ∷ 0x0000_0000_0000_0000 ∷ []) (0x7ff8_0000_0000_0000 ∷ [])
    -- 4.3.1: 2 ^ 54 by 3 is a third above 6004799503160661, so that 1 by 3 goes down
    ∷ gives (bi BinOp.Divide) (0x3ff0_0000_0000_0000 ∷ 0x4008_0000_0000_0000 ∷ []) (0x3fd5_5555_5555_5555 ∷ [])
    -- 7.2: 0 by 0 is a NaN
    ∷ gives (bi BinOp.Divide) (0x0000_0000_0000_0000 ∷ 0x0000_0000_0000_0000 ∷ []) (0x7ff8_0000_0000_0000 ∷ [])
    -- 7.3: "Recip divides 1 by its operand", and 1 by -0 is -infinity
    ∷ gives (uni UniOp.Recip) (0x8000_0000_0000_0000 ∷ []) (0xfff0_0000_0000_0000 ∷ [])
    -- the smallest value, 2 ^ -1074, is the square of 2 ^ -537
    ∷ gives (uni UniOp.Root) (0x0000_0000_0000_0001 ∷ []) (0x1e60_0000_0000_0000 ∷ [])
    -- 4.3.1: the root of 1 - u / 2 is below 1 - u / 4, the middle between 1 - u / 2 and 1
    ∷ gives (uni UniOp.Root) (0x3fef_ffff_ffff_ffff ∷ []) (0x3fef_ffff_ffff_ffff ∷ [])
    -- 4.3.1: the root of 2 * 2 ^ 104 lies between 6369051672525772 and 6369051672525773, nearer to the second
    ∷ gives (uni UniOp.Root) (0x4000_0000_0000_0000 ∷ []) (0x3ff6_a09e_667f_3bcd ∷ [])
    -- 7.2: the root of -1 is a NaN
    ∷ gives (uni UniOp.Root) (0xbff0_0000_0000_0000 ∷ []) (0x7ff8_0000_0000_0000 ∷ [])
    -- 3 * 3002399751580331 is 2 ^ 53 + 1, a tie between 2 ^ 53 and 2 ^ 53 + 2; adding 2 ^ -1074 decides it
    ∷ gives (fused FusedOp.MulAdd)
    (0x4008_0000_0000_0000 ∷ 0x4325_5555_5555_5556 ∷ 0x0000_0000_0000_0001 ∷ [])
    (0x4340_0000_0000_0001 ∷ [])
    -- 6.3: a fused sum that is exactly zero is +0
    ∷ gives (fused FusedOp.MulAdd)
    (0x3ff0_0000_0000_0000 ∷ 0x3ff0_0000_0000_0000 ∷ 0xbff0_0000_0000_0000 ∷ [])
    (0x0000_0000_0000_0000 ∷ [])
    -- 5.3.1: 2.5 is a tie between 2 and 3
    ∷ gives (uni UniOp.Round) (0x4004_0000_0000_0000 ∷ []) (0x4000_0000_0000_0000 ∷ [])
    -- 6.3: -0.5 goes to a zero of its own sign
    ∷ gives (uni UniOp.Round) (0xbfe0_0000_0000_0000 ∷ []) (0x8000_0000_0000_0000 ∷ [])
    -- ---- document 02, a: "toward minus infinity, plus infinity and zero" (5.3.1)
    -- -0.5 and 2.5 go down to -1 and 2
    ∷ gives (uni UniOp.Floor) (0xbfe0_0000_0000_0000 ∷ []) (0xbff0_0000_0000_0000 ∷ [])
    ∷ gives (uni UniOp.Floor) (0x4004_0000_0000_0000 ∷ []) (0x4000_0000_0000_0000 ∷ [])
    -- 2 ^ -1074 goes up to 1, and -0.5 to a zero of its own sign (6.3)
    ∷ gives (uni UniOp.Ceiling) (0x0000_0000_0000_0001 ∷ []) (0x3ff0_0000_0000_0000 ∷ [])
    ∷ gives (uni UniOp.Ceiling) (0xbfe0_0000_0000_0000 ∷ []) (0x8000_0000_0000_0000 ∷ [])
    -- -2.5 goes to -2, and -0.5 to -0
    ∷ gives (uni UniOp.Trunc) (0xc004_0000_0000_0000 ∷ []) (0xc000_0000_0000_0000 ∷ [])
    ∷ gives (uni UniOp.Trunc) (0xbfe0_0000_0000_0000 ∷ []) (0x8000_0000_0000_0000 ∷ [])
    -- "IsZero, where a listing holds it, gives all ones for either zero, else zero": of 2 ^ -1074 and of a NaN zero
    ∷ gives (uni UniOp.IsZero) (0x0000_0000_0000_0000 ∷ []) (ones ∷ [])
    ∷ gives (uni UniOp.IsZero) (0x8000_0000_0000_0000 ∷ []) (ones ∷ [])
    ∷ gives (uni UniOp.IsZero) (0x0000_0000_0000_0001 ∷ []) (0 ∷ [])
    ∷ gives (uni UniOp.IsZero) (0x7ff8_0000_0000_0000 ∷ []) (0 ∷ [])
    -- "the three new comparisons with a NaN are false"; -0 is not below +0, and -1 is not below -2
    ∷ gives (bi BinOp.GreaterThanEqual) (0x8000_0000_0000_0000 ∷ 0x0000_0000_0000_0000 ∷ []) (ones ∷ [])
    ∷ gives (bi BinOp.GreaterThanEqual) (0xc000_0000_0000_0000 ∷ 0xbff0_0000_0000_0000 ∷ []) (0 ∷ [])
    ∷ gives (bi BinOp.GreaterThanEqual) (0x7ff0_0000_0000_0001 ∷ 0x7ff0_0000_0000_0001 ∷ []) (0 ∷ [])
    ∷ gives (bi BinOp.LittleThanEqual) (0xc000_0000_0000_0000 ∷ 0xbff0_0000_0000_0000 ∷ []) (ones ∷ [])
    ∷ gives (bi BinOp.LittleThanEqual) (0xbff0_0000_0000_0000 ∷ 0xc000_0000_0000_0000 ∷ []) (0 ∷ [])
    ∷ gives (bi BinOp.LittleThanEqual) (0x7ff0_0000_0000_0001 ∷ 0x7ff0_0000_0000_0001 ∷ []) (0 ∷ [])
    -- ---- document 02, c: "the bits of the first NaN operand in listing order, with bit 51 set"
    -- bit 51 is set, and the sign and the low bits stay
    ∷ gives (bi BinOp.Plus) (0xfff0_0000_0000_0001 ∷ 0x3ff0_0000_0000_0000 ∷ []) (0xfff8_0000_0000_0001 ∷ [])
    ∷ gives (bi BinOp.Plus) (0x3ff0_0000_0000_0000 ∷ 0x7ff0_0000_0000_0001 ∷ []) (0x7ff8_0000_0000_0001 ∷ [])
    -- where bit 51 is set already, all bits stay
    ∷ gives (bi BinOp.Minus) (0x3ff0_0000_0000_0000 ∷ 0x7ffc_0000_0000_0005 ∷ []) (0x7ffc_0000_0000_0005 ∷ [])
    ∷ gives (bi BinOp.Minus) (0xffff_ffff_ffff_ffff ∷ 0x7ff0_0000_0000_0001 ∷ []) (0xffff_ffff_ffff_ffff ∷ [])
    -- of two NaNs the first; in Divide that is the numerator, and of 0 by a NaN the NaN is the first
    ∷ gives (bi BinOp.Plus) (0x7ff0_0000_0000_0002 ∷ 0xfff8_0000_0000_0003 ∷ []) (0x7ff8_0000_0000_0002 ∷ [])
    ∷ gives (bi BinOp.Times) (0xfff8_0000_0000_0003 ∷ 0x7ff0_0000_0000_0002 ∷ []) (0xfff8_0000_0000_0003 ∷ [])
    ∷ gives (bi BinOp.Divide) (0x7ff0_0000_0000_0004 ∷ 0x7ff0_0000_0000_0005 ∷ []) (0x7ff8_0000_0000_0004 ∷ [])
    ∷ gives (bi BinOp.Divide) (0x0000_0000_0000_0000 ∷ 0x7ff0_0000_0000_0005 ∷ []) (0x7ff8_0000_0000_0005 ∷ [])
    -- one operand: "or one of Root, Round, Floor, Ceiling, Trunc"; a NaN with a sign is no negative number
    ∷ gives (uni UniOp.Half) (0xfff0_0000_0000_0006 ∷ []) (0xfff8_0000_0000_0006 ∷ [])
    ∷ gives (uni UniOp.Recip) (0x7ff0_0000_0000_0006 ∷ []) (0x7ff8_0000_0000_0006 ∷ [])
    ∷ gives (uni UniOp.Root) (0xfff0_0000_0000_0002 ∷ []) (0xfff8_0000_0000_0002 ∷ [])
    ∷ gives (uni UniOp.Round) (0x7ff0_0000_0000_0007 ∷ []) (0x7ff8_0000_0000_0007 ∷ [])
    ∷ gives (uni UniOp.Floor) (0xfff0_0000_0000_0007 ∷ []) (0xfff8_0000_0000_0007 ∷ [])
    ∷ gives (uni UniOp.Ceiling) (0x7ff8_0000_0000_0007 ∷ []) (0x7ff8_0000_0000_0007 ∷ [])
    ∷ gives (uni UniOp.Trunc) (0xfff0_0000_0000_0001 ∷ []) (0xfff8_0000_0000_0001 ∷ [])
    -- MulAdd: a, b, then c
    ∷ gives (fused FusedOp.MulAdd)
    (0x7ff0_0000_0000_0001 ∷ 0x7ff0_0000_0000_0002 ∷ 0x7ff0_0000_0000_0003 ∷ [])
    (0x7ff8_0000_0000_0001 ∷ [])
    ∷ gives (fused FusedOp.MulAdd)
    (0x3ff0_0000_0000_0000 ∷ 0xfff0_0000_0000_0002 ∷ 0x7ff0_0000_0000_0003 ∷ [])
    (0xfff8_0000_0000_0002 ∷ [])
    ∷ gives (fused FusedOp.MulAdd)
    (0x3ff0_0000_0000_0000 ∷ 0x4000_0000_0000_0000 ∷ 0x7ff0_0000_0000_0003 ∷ [])
    (0x7ff8_0000_0000_0003 ∷ [])
    -- infinity times 0 plus a NaN: one operand is a NaN; plus 1 none is, "7ff8000000000000 as before"
    ∷ gives (fused FusedOp.MulAdd)
    (0x7ff0_0000_0000_0000 ∷ 0x0000_0000_0000_0000 ∷ 0xfff0_0000_0000_0004 ∷ [])
    (0xfff8_0000_0000_0004 ∷ [])
    ∷ gives (fused FusedOp.MulAdd)
    (0x7ff0_0000_0000_0000 ∷ 0x0000_0000_0000_0000 ∷ 0x3ff0_0000_0000_0000 ∷ [])
    (0x7ff8_0000_0000_0000 ∷ [])
    -- ---- "comparisons give all ones or zero, and with a NaN only NotEqual holds" (5.11)
    -- -1 is above -2, and infinity is not above a NaN
    ∷ gives (bi BinOp.GreaterThan) (0xbff0_0000_0000_0000 ∷ 0xc000_0000_0000_0000 ∷ []) (ones ∷ [])
    ∷ gives (bi BinOp.GreaterThan) (0x7ff0_0000_0000_0000 ∷ 0x7ff8_0000_0000_0000 ∷ []) (0 ∷ [])
    -- -2 is below -1, and a NaN is not below infinity
    ∷ gives (bi BinOp.LittleThan) (0xc000_0000_0000_0000 ∷ 0xbff0_0000_0000_0000 ∷ []) (ones ∷ [])
    ∷ gives (bi BinOp.LittleThan) (0x7ff8_0000_0000_0000 ∷ 0x7ff0_0000_0000_0000 ∷ []) (0 ∷ [])
    -- -0 equals +0, and a NaN, here with a mark, does not equal itself
    ∷ gives (bi BinOp.Equal) (0x8000_0000_0000_0000 ∷ 0x0000_0000_0000_0000 ∷ []) (ones ∷ [])
    ∷ gives (bi BinOp.Equal) (0x7ff0_0000_0000_0001 ∷ 0x7ff0_0000_0000_0001 ∷ []) (0 ∷ [])
    ∷ gives (bi BinOp.NotEqual) (0x8000_0000_0000_0000 ∷ 0x0000_0000_0000_0000 ∷ []) (0 ∷ [])
    ∷ gives (bi BinOp.NotEqual) (0x7ff0_0000_0000_0001 ∷ 0x7ff0_0000_0000_0001 ∷ []) (ones ∷ [])
    -- ---- "Neg, Abs, Not, And, Or, Xor act on bits": a NaN's mark stays, and bit 51 is not set
    -- 5.5.1: the sign's bit is turned, or cleared
    ∷ gives (uni UniOp.Neg) (0x3ff0_0000_0000_0000 ∷ []) (0xbff0_0000_0000_0000 ∷ [])
    ∷ gives (uni UniOp.Neg) (0xfff0_0000_0000_0001 ∷ []) (0x7ff0_0000_0000_0001 ∷ [])
    ∷ gives (uni UniOp.Abs) (0xfff0_0000_0000_0001 ∷ []) (0x7ff0_0000_0000_0001 ∷ [])
    ∷ gives (uni UniOp.Abs) (0x3ff0_0000_0000_0000 ∷ []) (0x3ff0_0000_0000_0000 ∷ [])
    ∷ gives (uni UniOp.Not) (0x0123_4567_89ab_cdef ∷ []) (0xfedc_ba98_7654_3210 ∷ [])
    -- f and f, f and 0, 0 and f, 0 and 0 in turn
    ∷ gives (bi BinOp.And) (0xff00_ff00_ff00_ff00 ∷ 0xf0f0_f0f0_f0f0_f0f0 ∷ []) (0xf000_f000_f000_f000 ∷ [])
    ∷ gives (bi BinOp.Or) (0xff00_ff00_ff00_ff00 ∷ 0xf0f0_f0f0_f0f0_f0f0 ∷ []) (0xfff0_fff0_fff0_fff0 ∷ [])
    ∷ gives (bi BinOp.Xor) (0xff00_ff00_ff00_ff00 ∷ 0xf0f0_f0f0_f0f0_f0f0 ∷ []) (0x0ff0_0ff0_0ff0_0ff0 ∷ [])
    -- "Sign keeps the sign bit alone"
    ∷ gives (uni UniOp.Sign) (0xc008_0000_0000_0001 ∷ []) (0x8000_0000_0000_0000 ∷ [])
    ∷ gives (uni UniOp.Sign) (0x4008_0000_0000_0001 ∷ []) (0x0000_0000_0000_0000 ∷ [])
    -- "IfElse takes a bit from true where the place's real word has a one, else from false"
    ∷ gives ifelse (0x1111_1111_1111_1111 ∷ 0x2222_2222_2222_2222 ∷ 0x00ff_00ff_00ff_00ff ∷ []) (0x2211_2211_2211_2211 ∷ [])
    -- ---- ComplexBi, of 1 + 2i and 3 + 5i
    -- "Plus and Minus work half by half": 4 + 7i, and -2 - 3i
    ∷ gives (complex_bi ArithOp.Plus) one_two_three_five (0x4010_0000_0000_0000 ∷ 0x401c_0000_0000_0000 ∷ [])
    ∷ gives (complex_bi ArithOp.Minus) one_two_three_five (0xc000_0000_0000_0000 ∷ 0xc008_0000_0000_0000 ∷ [])
    -- "x1 times x2 minus y1 times y2, and y1 times x2 plus x1 times y2": 3 - 10, and 6 + 5
    ∷ gives (complex_bi ArithOp.Times) one_two_three_five (0xc01c_0000_0000_0000 ∷ 0x4026_0000_0000_0000 ∷ [])
    -- "x1 times x2 plus y1 times y2, and y1 times x2 minus x1 times y2, each divided by x2 squared plus y2 squared": 13 by 34, and 1 by 34
    ∷ gives (complex_bi ArithOp.Divide) one_two_three_five (0x3fd8_7878_7878_7878 ∷ 0x3f9e_1e1e_1e1e_1e1e ∷ [])
    -- "rounding each operation": (1 + u) * (1 + u) is rounded to 1 + 2 * u and (1 + u) * (1 + 2 * u) to 1 + 3 * u; the product's halves are
    -- then 1 + 2 * u minus 1 + 2 * u, and 1 + u plus 1 + 3 * u
    ∷ gives (complex_bi ArithOp.Times)
    (0x3ff0_0000_0000_0001 ∷ 0x3ff0_0000_0000_0000 ∷ 0x3ff0_0000_0000_0001 ∷ 0x3ff0_0000_0000_0002 ∷ [])
    (0x0000_0000_0000_0000 ∷ 0x4000_0000_0000_0002 ∷ [])
    -- likewise 0 by 2 + 6 * u, and 2 + 4 * u by 2 + 6 * u, which lies just above 1 - u
    ∷ gives (complex_bi ArithOp.Divide)
    (0x3ff0_0000_0000_0001 ∷ 0x3ff0_0000_0000_0000 ∷ 0x3ff0_0000_0000_0001 ∷ 0xbff0_0000_0000_0002 ∷ [])
    (0x0000_0000_0000_0000 ∷ 0x3fef_ffff_ffff_fffe ∷ [])
    -- document 02, c: "For a ComplexBi this holds in each of its single operations, operands as document 01 writes them". Of NaNs 1, 2, 3
    -- and 4 x1 times x2 leaves 1, y1 times y2 and y1 times x2 leave 2, x1 times y2 leaves 1, and the denominator 3
    ∷ gives (complex_bi ArithOp.Minus) nans (0xfff8_0000_0000_0001 ∷ 0x7ff8_0000_0000_0002 ∷ [])
    ∷ gives (complex_bi ArithOp.Times) nans (0xfff8_0000_0000_0001 ∷ 0x7ff8_0000_0000_0002 ∷ [])
    ∷ gives (complex_bi ArithOp.Divide) nans (0xfff8_0000_0000_0001 ∷ 0x7ff8_0000_0000_0002 ∷ [])
    -- infinity + NaN 2 i times 0 + 1i: infinity times 0 is 7ff8000000000000, and the first operand of Minus; NaN 2 times 0 is that of Plus
    ∷ gives (complex_bi ArithOp.Times)
    (0x7ff0_0000_0000_0000 ∷ 0x7ff0_0000_0000_0002 ∷ 0x0000_0000_0000_0000 ∷ 0x3ff0_0000_0000_0000 ∷ [])
    (0x7ff8_0000_0000_0000 ∷ 0x7ff8_0000_0000_0002 ∷ [])
    -- NaN 1 + 2i by 1 + NaN 4 i: NaN 1 in both numerators, NaN 4 in the denominator
    ∷ gives (complex_bi ArithOp.Divide)
    (0xfff0_0000_0000_0001 ∷ 0x4000_0000_0000_0000 ∷ 0x3ff0_0000_0000_0000 ∷ 0x7ff0_0000_0000_0004 ∷ [])
    (0xfff8_0000_0000_0001 ∷ 0xfff8_0000_0000_0001 ∷ [])
    -- 1 + 2i by NaN 3 + NaN 4 i: 3 in y1 times x2 comes before 4 in x1 times y2
    ∷ gives (complex_bi ArithOp.Divide)
    (0x3ff0_0000_0000_0000 ∷ 0x4000_0000_0000_0000 ∷ 0x7ff0_0000_0000_0003 ∷ 0x7ff0_0000_0000_0004 ∷ [])
    (0x7ff8_0000_0000_0003 ∷ 0x7ff8_0000_0000_0003 ∷ [])
    ∷ []

-- in each row what the definitions give is what the row says
pub facts : map given table ≡ map stated table
unfolding lower_sheet origins_of listed complexify block step scan setup constant_at decoded instruction_from takes_kind place_at save_place uni_ops bin_ops fused_ops rerun rerun_uni rerun_bin without_loc c.unlisted c.directed c.load_const c.load_from c.save_to c.times c.minus c.half c.divide c.abs c.one_by_one c.by_two c.bits c.compare each_lines order_lines re im record_of writes uni_word bin_word fused_word complex_words of_bits to_bits is_nan add sub mul div lt le eq ne square_root fused_multiply_add round_to_integral
facts = refl

-- what a listing's records compute with (document 01, Sheet): "Uni Neg, Not, Abs, Root, Recip, Round, Half, Sign; Bi Plus, Minus, Times,
-- Divide, GreaterThan, LittleThan, Equal, NotEqual, And, Or, Xor; ArithOp Plus, Minus, Times, Divide; Fused MulAdd"; with document 02, a,
-- Uni Floor, Ceiling, Trunc, IsZero and Bi GreaterThanEqual, LittleThanEqual; and IfElse
abbrev pub operations : List Operation
operations =
    uni UniOp.Neg
    ∷ uni UniOp.Not
    ∷ uni UniOp.Abs
    ∷ uni UniOp.Root
    ∷ uni UniOp.Recip
    ∷ uni UniOp.Round
    ∷ uni UniOp.Floor
    ∷ uni UniOp.Ceiling
    ∷ uni UniOp.Trunc
    ∷ uni UniOp.Half
    ∷ uni UniOp.IsZero
    ∷ uni UniOp.Sign
    ∷ bi BinOp.Plus
    ∷ bi BinOp.Minus
    ∷ bi BinOp.Times
    ∷ bi BinOp.Divide
    ∷ bi BinOp.GreaterThan
    ∷ bi BinOp.GreaterThanEqual
    ∷ bi BinOp.LittleThan
    ∷ bi BinOp.LittleThanEqual
    ∷ bi BinOp.Equal
    ∷ bi BinOp.NotEqual
    ∷ bi BinOp.And
    ∷ bi BinOp.Or
    ∷ bi BinOp.Xor
    ∷ complex_bi ArithOp.Plus
    ∷ complex_bi ArithOp.Minus
    ∷ complex_bi ArithOp.Times
    ∷ complex_bi ArithOp.Divide
    ∷ fused FusedOp.MulAdd
    ∷ ifelse
    ∷ []

-- each has a row
pub covered : map (λ o. computes o table) operations ≡ map (λ o. true) operations
covered = refl
