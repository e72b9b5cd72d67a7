-- Leftovers (document 01): demand 3, one claim about the bytes that lowering writes and that playing reads.
use Rattle.std.specs.Prelude.{ℕ, suc, ◌-◌, ◌≤◌, ◌<◌, ◌≡◌, true, false, ◌⊎◌, List, length, take, drop, get_or}
use Rattle.std.proofs.Math.Option.{Option, none, some}
use Rattle.mir.specs.declared.ops.UniOp.{UniOp}
use Rattle.mir.specs.declared.records.Loc.{Loc}
use Rattle.mir.specs.declared.records.Instruction.{Instruction}
use Rattle.mir.specs.declared.records.Record.{Record}
use Rattle.mir.specs.Register.{re, im, T0, T1}
use Rattle.mir.specs.Place.{index}
use Rattle.sheet.specs.declared.setup.Mode.{Mode}
use Rattle.sheet.specs.Setup.{is_minding, setup, constants_of}
use Rattle.sheet.specs.Instruction.{instructions}
use Rattle.records.specs.Record.{records}
use Rattle.player_machine.specs.Machine.{Store, at, place, going, block, reach}
use Rattle.player_machine.specs.Answer.{Answer, answer}
use Rattle.lowering.specs.declared.realness.Realness.{Realness}
use Rattle.lowering.specs.Realness.{is_real_reg, is_real_loc}
use Rattle.lowering.specs.Complexifier.{Out}
use Rattle.lowering.specs.Rerun.{complexify}
use Rattle.lowering.specs.Lower.{start_state, lower_sheet}

-- ---- leftovers

-- "scratch registers 2 and 3, the imaginary half of every register then recorded as real, and the imaginary word of every place then
-- recorded as real", by their index in the store
pub data Leftover (ρ : Realness) : ℕ → Type 0 where
  scratch0 : Leftover ρ T0
  scratch1 : Leftover ρ T1
  half : (r : ℕ) → r < 32 → is_real_reg ρ r ≡ true → Leftover ρ (im r)
  word : (p : Loc) → index p < 256 → is_real_loc ρ.places p ≡ true → Leftover ρ (suc (place p))

-- two stores of 1,602 words that differ at most in leftovers
pub record Alike (ρ : Realness) (σ τ : Store) : Type 0 where
  pub words : length σ ≡ 1602
  pub same : length σ ≡ length τ
  pub outside : (w : ℕ) → (Leftover ρ w → ⊥) → at σ w ≡ at τ w

-- ---- a sheet, and its lowering

-- what a sheet holds: its mode, its header's bytes of realness, its own constants and its instructions
pub record Sheet : Type 0 where
  pub mode : Mode
  pub places : List ℕ
  pub constants : List ℕ
  pub instructions : List Instruction

-- as it is read from its bytes
abbrev pub sheet_of : List ℕ → Sheet
sheet_of bytes =
    let u = setup bytes in
    record {
      mode = u.mode;
      places = u.places;
      constants = constants_of bytes u.count;
      instructions = (instructions u.count (drop u.start bytes)).items;
    }

-- "any accepted sheet": no 8, and the number is 0
pub record Accepted (bytes : List ℕ) (room : ℕ) : Type 0 where
  pub right : (setup bytes).number ≡ 0
  pub slice : room ≤ 65536
  pub number : (lower_sheet bytes room).number ≡ 0

-- a sheet, and what lowering gave: the listing's bytes, the constants and the final record of realness
pub record Lowered : Type 0 where
  pub sheet : Sheet
  pub listing : List ℕ
  pub constants : List ℕ
  pub last : Realness

-- a sheet's bytes, lowered into a slice with this room
abbrev pub lowered : List ℕ → ℕ → Lowered
lowered bytes room =
    let e = lower_sheet bytes room in
    record { sheet = sheet_of bytes; listing = e.bytes; constants = e.state.consts; last = e.state.real }

-- ---- points

-- the lowering of the first i instructions
abbrev pub up_to : Sheet → ℕ → Out
up_to s i = complexify s.mode (take i s.instructions) (start_state s.places s.constants)

-- "the record index where the listing of the first i instructions ends; the realness then is the one held after those i"
abbrev pub point : Sheet → ℕ → ℕ
point s i = length (up_to s i).records

abbrev pub real_at : Sheet → ℕ → Realness
real_at s i = (up_to s i).after.real

-- "Playing on starts at that index": from point i, with σ
abbrev pub play_on : Lowered → ℕ → Store → Answer
play_on l i σ = answer l.listing l.constants (point l.sheet i) σ

-- the listing's records, as the player reads them
abbrev pub records_of : Lowered → List Record
records_of l = (records (length l.constants) l.listing).items

-- "A play stands at point j when it is outside a call at" its index: the store with which playing on from point i, with σ, stands at
-- point j, where it does
abbrev pub standing : Lowered → ℕ → Store → ℕ → Option Store
standing l i σ j =
    reach l.constants (block (records_of l)) going (point l.sheet j - point l.sheet i) (drop (point l.sheet i) (records_of l)) σ

-- ---- Half

-- A Half "still to be played", for "playing on unchanged reaches it", from point i with σ; "judged by the realness before" it, it "reads
-- a register recorded as real into one recorded as complex". In mode 2 none counts: "Here a user may change leftovers at any point without
-- any condition on Half" (document 02, n).
pub record Mixing (l : Lowered) (i : ℕ) (σ : Store) : Type 0 where
  pub j : ℕ
  pub d : ℕ
  pub a : ℕ
  pub α : Store
  pub not_minding : is_minding l.sheet.mode ≡ false
  pub later : i ≤ j
  pub is_half : get_or l.sheet.instructions j Instruction.Nop ≡ Instruction.Uni UniOp.Half d a
  pub reached : standing l i σ j ≡ some α
  pub from_real : is_real_reg (real_at l.sheet j) a ≡ true
  pub into_complex : is_real_reg (real_at l.sheet j) d ≡ false

-- ---- what an instruction may change

-- "Its destination is its dst, or a Load's register; its other registers are operands."
abbrev pub IsDestination : Instruction → ℕ → Type 0
IsDestination Instruction.Nop r = ⊥
IsDestination (Instruction.Uni op d a) r = r ≡ d
IsDestination (Instruction.Bi op d a b) r = r ≡ d
IsDestination (Instruction.Mov d a) r = r ≡ d
IsDestination (Instruction.Load d p) r = r ≡ d
IsDestination (Instruction.Save a p) r = ⊥
IsDestination (Instruction.LoadConst d idx) r = r ≡ d
IsDestination (Instruction.Fused op d a b c) r = r ≡ d
IsDestination (Instruction.IfElse d a b p) r = r ≡ d
IsDestination (Instruction.LoadMath op d a p) r = r ≡ d
IsDestination (Instruction.LoadConstMath op d a idx) r = r ≡ d
IsDestination (Instruction.Label l) r = ⊥
IsDestination (Instruction.Branch l) r = ⊥
IsDestination (Instruction.BranchIf c l e) r = ⊥

abbrev pub IsOperand : Instruction → ℕ → Type 0
IsOperand Instruction.Nop r = ⊥
IsOperand (Instruction.Uni op d a) r = r ≡ a
IsOperand (Instruction.Bi op d a b) r = (r ≡ a) ⊎ (r ≡ b)
IsOperand (Instruction.Mov d a) r = r ≡ a
IsOperand (Instruction.Load d p) r = ⊥
IsOperand (Instruction.Save a p) r = r ≡ a
IsOperand (Instruction.LoadConst d idx) r = ⊥
IsOperand (Instruction.Fused op d a b c) r = (r ≡ a) ⊎ (r ≡ b) ⊎ (r ≡ c)
IsOperand (Instruction.IfElse d a b p) r = (r ≡ a) ⊎ (r ≡ b)
IsOperand (Instruction.LoadMath op d a p) r = r ≡ a
IsOperand (Instruction.LoadConstMath op d a idx) r = r ≡ a
IsOperand (Instruction.Label l) r = ⊥
IsOperand (Instruction.Branch l) r = ⊥
IsOperand (Instruction.BranchIf c l e) r = r ≡ c

-- from α to β it does not "change the pair of a general register that is not its destination, save to clear the imaginary half of an
-- operand recorded as real", by the realness before it
abbrev pub Spares : Realness → Instruction → Store → Store → Type 0
Spares ρ i α β =
    (r : ℕ) → r < 30 → (IsDestination i r → ⊥)
    → (at β (re r) ≡ at α (re r))
    × ((at β (im r) ≡ at α (im r)) ⊎ ((IsOperand i r × (is_real_reg ρ r ≡ true)) × (at β (im r) ≡ 0)))

-- "The changes of the instruction with index j run from point j to the next higher point reached": from α to β, in playing on from point i
pub record Changes (l : Lowered) (i : ℕ) (σ : Store) (j : ℕ) (α β : Store) : Type 0 where
  pub next : ℕ
  pub from : i ≤ j
  pub higher : j < next
  pub within : next ≤ length l.sheet.instructions
  pub before : standing l i σ j ≡ some α
  pub after : standing l i σ next ≡ some β
  pub first : (x : ℕ) → j < x → x < next → standing l i σ x ≡ none

-- so does every instruction, in playing on from point i with σ
abbrev pub AllSpare : Lowered → ℕ → Store → Type 0
AllSpare l i σ =
    (j : ℕ) (α β : Store) → Changes l i σ j α β
    → Spares (real_at l.sheet j) (get_or l.sheet.instructions j Instruction.Nop) α β

-- ---- the claim

-- "playing on with and without the change ends after equally many records", and the endings differ at most in leftovers
pub record EndAlike (l : Lowered) (i : ℕ) (σ τ : Store) : Type 0 where
  pub played : (play_on l i σ).played ≡ (play_on l i τ).played
  pub stores : Alike l.last (play_on l i σ).store (play_on l i τ).store

-- The player accepts the play from record 0 on σ₀ and playing on with σ and with τ; if no Half stands in the way, playing on ends alike;
-- and in none of the three does an instruction change another's pair.
pub record Claim (l : Lowered) (σ₀ : Store) (i : ℕ) (σ τ : Store) : Type 0 where
  pub accepted : (play_on l 0 σ₀).number ≡ 0
  pub accepted_on : (play_on l i σ).number ≡ 0
  pub accepted_changed : (play_on l i τ).number ≡ 0
  pub ending : (Mixing l i σ → ⊥) → EndAlike l i σ τ
  pub spared : AllSpare l 0 σ₀
  pub spared_on : AllSpare l i σ
  pub spared_changed : AllSpare l i τ

-- "Take any accepted sheet and play its listing, with its constants, from record 0 on any store whatever", σ₀. It stands at point i with σ;
-- τ is σ changed at will.
pub record Given (bytes : List ℕ) (room : ℕ) (σ₀ : Store) (i : ℕ) (σ τ : Store) : Type 0 where
  pub accepted : Accepted bytes room
  pub words : length σ₀ ≡ 1602
  pub upper : i ≤ length (sheet_of bytes).instructions
  pub stands : standing (lowered bytes room) 0 σ₀ i ≡ some σ
  pub changed : Alike (real_at (sheet_of bytes) i) σ τ

-- "one claim about a whole play, for every sheet, store, point and change together"; of what the two entries do it is stated in `entries`
abbrev pub Demand3 : Type 0
Demand3 =
    (bytes : List ℕ) (room : ℕ) (σ₀ : Store) (i : ℕ) (σ τ : Store)
    → Given bytes room σ₀ i σ τ → Claim (lowered bytes room) σ₀ i σ τ
