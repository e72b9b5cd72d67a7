-- The whole of lowering (document 01, "What the two entries give back" and Lowering), from a sheet's decoded instructions and from its
-- bytes.
use Rattle.std.specs.Prelude.{ℕ, suc, ◌+◌, Bool, true, false, not, cond, ◌&&◌, List, [], ◌∷◌, ◌++◌, length, take, drop, ltb, eqb}
use Rattle.mir.specs.declared.ops.UniOp.{UniOp}
use Rattle.mir.specs.declared.ops.BinOp.{BinOp}
use Rattle.mir.specs.declared.ops.ArithOp.{ArithOp}
use Rattle.mir.specs.declared.records.Instruction.{Instruction}
use Rattle.mir.specs.declared.records.Record.{Record}
use Rattle.mir.specs.Operation.{uni_number, bin_number}
use Rattle.mir.specs.Takes.{one_of}
use Rattle.mir.specs.Register.{Ret, Temp}
use Rattle.mir.specs.Encode.{encode_all}
use Rattle.mir.specs.Field.{u16_at}
use Rattle.sheet.specs.declared.setup.Mode.{Mode}
use Rattle.sheet.specs.Setup.{is_stable, setup, constants_of}
use Rattle.sheet.specs.Instruction.{instructions}
use Rattle.lowering.specs.declared.realness.Realness.{Realness}
use Rattle.lowering.specs.Realness.{is_real_reg, is_real_loc, fresh}
use Rattle.lowering.specs.Complexifier.{State}
use Rattle.lowering.specs.Rerun.{rerun, complexify}
use Rattle.lowering.specs.Labels.{role, Standing, none_standing, misplaced, unequal, passed}

-- 6, "barred operand: where the Rust asserts": "in stable mode, Divide by a complex register with either operand Ret or Temp"
abbrev pub is_general : ℕ → Bool
is_general r = ltb r 30

abbrev pub barred_divide : Bool → ℕ → ℕ → Bool → Bool
barred_divide stable a b real = stable && (not real && not (is_general a && is_general b))

-- "or Abs of a complex Ret"
abbrev pub barred_uni : Bool → UniOp → ℕ → Realness → Bool
barred_uni stable op a ρ = one_of uni_number op (UniOp.Abs ∷ []) && (stable && (eqb a Ret && not (is_real_reg ρ a)))

-- of the binary operations Divide alone
abbrev pub barred_bin : Bool → BinOp → ℕ → ℕ → Realness → Bool
barred_bin stable op a b ρ = one_of bin_number op (BinOp.Divide ∷ []) && barred_divide stable a b (is_real_reg ρ b)

-- and of LoadMath's
abbrev pub is_divide : ArithOp → Bool
is_divide ArithOp.Plus = false
is_divide ArithOp.Minus = false
is_divide ArithOp.Times = false
is_divide ArithOp.Divide = true

-- "a Fused whose c is Ret"; "(so a LoadMath that divides by a complex place)": its divisor is Temp, with the realness of the place, where
-- that of LoadConstMath is real
unfoldable pub barred : Bool → Instruction → Realness → Bool
unfolding is_real_loc
barred stable Instruction.Nop ρ = false
barred stable (Instruction.Uni op d a) ρ = barred_uni stable op a ρ
barred stable (Instruction.Bi op d a b) ρ = barred_bin stable op a b ρ
barred stable (Instruction.Mov d a) ρ = false
barred stable (Instruction.Load d p) ρ = false
barred stable (Instruction.Save a p) ρ = false
barred stable (Instruction.LoadConst d idx) ρ = false
barred stable (Instruction.Fused op d a b k) ρ = eqb k Ret
barred stable (Instruction.IfElse d a b p) ρ = false
barred stable (Instruction.LoadMath op d a p) ρ = is_divide op && barred_divide stable a Temp (is_real_loc ρ.places p)
barred stable (Instruction.LoadConstMath op d a idx) ρ = false
barred stable (Instruction.Label l) ρ = false
barred stable (Instruction.Branch l) ρ = false
barred stable (Instruction.BranchIf c l e) ρ = false

-- where lowering ends: the number, the index, the bytes of the finished instructions, and the state after them
pub record Ended : Type 0 where
  pub number : ℕ
  pub index : ℕ
  pub bytes : List ℕ
  pub state : State

abbrev pub ended : ℕ → ℕ → List ℕ → State → Ended
ended number index bytes s = record { number = number; index = index; bytes = bytes; state = s }

-- what refuses a decoded instruction, in document 01's and 02's order, each test with its number: 10 is "tested after 4", 11 "tested after
-- 6", 7 is "the instruction's whole listing exceeds the bytes left"; b are the labels and branches before the instruction, `behind` the
-- sheet's bytes behind it, `written` the bytes of the finished ones
abbrev pub tests : Mode → ℕ → Instruction → Standing → List ℕ → ℕ → State → List (Bool × ℕ)
tests mode room i b behind written s =
    (misplaced (role i) b behind, 10)
    ∷ (barred (is_stable mode) i s.real, 6)
    ∷ (unequal (role i) b s.real, 11)
    ∷ (ltb room (written + length (encode_all (rerun mode i s).records)), 7)
    ∷ []

-- the first test that holds gives the number; where none holds the work goes on
abbrev pub by_first : {A : Type 0} → List (Bool × ℕ) → (ℕ → A) → A → A
by_first [] refused on = on
by_first (t ∷ ts) refused on = cond t.0 (refused t.1) (by_first ts refused on)

-- the bytes behind the record that stands first
abbrev pub past : List ℕ → List ℕ
past rest = drop (u16_at rest 0) rest

-- "The first refused record ends the work." `rest` are the sheet's bytes from the first instruction on, b the labels and branches before
-- it, and `fault` refuses what stands behind the decoded ones (0: nothing does). A refused instruction leaves nothing: "the counts and
-- realness are those before it".
unfoldable pub lower_from : Mode → ℕ → List Instruction → ℕ → List ℕ → Standing → ℕ → List ℕ → State → Ended
unfolding role misplaced barred unequal passed
lower_from mode room [] fault rest b index bytes s = ended fault index bytes s
lower_from mode room (i ∷ is) fault rest b index bytes s =
    by_first (tests mode room i b (past rest) (length bytes) s) (λ number. ended number index bytes s)
    (lower_from mode room is fault (past rest) (passed (role i) s.real b) (suc index) (bytes ++ encode_all (rerun mode i s).records)
    (rerun mode i s).after)

-- "`complexify` on a fresh `Complexifier`": the constants are the sheet's, "Every register starts recorded as complex"
abbrev pub start_state : List ℕ → List ℕ → State
start_state places consts = record { real = fresh places; is_root_defined = false; consts = consts }

-- a sheet's instructions lowered one after the other, in the room that a listing slice has; of a sheet with more than 612 the first 612, and
-- "d)'s looking ahead goes past" them, over all bytes of the sheet
unfoldable pub lower_sheet : List ℕ → ℕ → Ended
unfolding lower_from
lower_sheet sheet room =
    let s = setup sheet in
    let rest = drop s.start sheet in
    let d = instructions s.count rest in
    lower_from s.mode room d.items d.fault rest none_standing 0 [] (start_state s.places (constants_of sheet s.count))

-- the records that a sheet's first n instructions list
unfoldable pub listed : List ℕ → ℕ → List Record
listed sheet n =
    let s = setup sheet in
    let d = instructions s.count (drop s.start sheet) in
    (complexify s.mode (take n d.items) (start_state s.places (constants_of sheet s.count))).records
