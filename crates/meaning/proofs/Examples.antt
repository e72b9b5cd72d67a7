-- The sheets of specs/Examples.antt, computed.
use Prim.Native.Nat.{ℕ, zero, suc}
use mathlib.Core.Path.{◌≡◌, refl, sym, ap, ◌∙◌, subst}
use mathlib.Core.Bool.{Bool, true, false, not, ◌&&◌, ◌||◌}
use mathlib.Core.List.{List}
use native.Mathlib.Omega.{arith}
use lib.ListN.{get_or}
use lib.Dec.{T, eqb, lit≤}
use lib.Ieee.{of_bits, to_bits, is_nan, add, mul, div}
use Rattle.mir.specs.declared.ops.UniOp.{UniOp}
use Rattle.mir.specs.declared.records.Instruction.{Instruction}
use Rattle.mir.specs.Register.{re, im}
use Rattle.mir.specs.Length.{length_of}
use Rattle.mir.specs.Operation.{uni_ops, bin_ops, fused_ops, uni_number}
use Rattle.mir.specs.Field.{u16_at, takes_kind, place_at, save_place}
use Rattle.mir.specs.Decode.{decoded}
use Rattle.mir.specs.Encode.{record_of}
use Rattle.float.specs.Fused.{fused_multiply_add}
use Rattle.sheet.specs.Setup.{setup, constant_at}
use Rattle.sheet.specs.Instruction.{instruction_from}
use Rattle.records.specs.Record.{record_from}
use Rattle.player_machine.specs.Machine.{at, uni_word, bin_word, fused_word, complex_words, writes, put, exec, ticks, play}
use Rattle.player_machine.specs.Jumps.{breach}
use Rattle.player_machine.specs.Answer.{answer}
use Rattle.lowering.specs.declared.realness.Realness.{Realness}
use Rattle.lowering.specs.Realness.{is_real_reg, without_loc}
use Rattle.lowering.specs.Lines.{real_lines, timesILines, plus_lines, divide_lines, ensure_lines, save_lines}
use Rattle.lowering.specs.Complexifier as c
use Rattle.lowering.specs.Rerun.{rerun_uni, rerun_bin, rerun, complexify}
use Rattle.lowering.specs.Labels.{role, later, misplaced, unequal, passed}
use Rattle.lowering.specs.Lower.{barred, lower_from, lower_sheet}
use Rattle.leftovers.specs.Leftovers.{Lowered, sheet_of, Accepted, lowered, real_at, play_on}
use Rattle.leftovers.specs.Examples.{room, zeros, clean}
use Rattle.entries.specs.Examples.{left_of}
use Rattle.leftovers.proofs.Examples.{clean_given}
use Rattle.entries.proofs.Examples.{accepts, as_left}
use Rattle.meaning.specs.Settled.{Unmixed}
use Rattle.meaning.specs.Tidy.{tidiness, TidySheet}
use Rattle.meaning.specs.Examples.{dividing, TidyMet, SettledMet}

-- what is opened to lower a sheet, and to play it
unfoldable lower : List ℕ → Lowered
unfolding lower_sheet setup constant_at u16_at lower_from role later misplaced unequal passed barred decoded instruction_from takes_kind length_of place_at save_place uni_ops bin_ops rerun rerun_uni rerun_bin without_loc real_lines timesILines plus_lines divide_lines ensure_lines save_lines record_of c.directed c.emit c.one_by_one c.by_two c.half c.plus c.divide c.divide_by c.load_const c.ensure_complex c.save_to c.then c.unlisted re im complexify
lower sheet = lowered sheet room

unfoldable ended : List ℕ → ℕ → ℕ
unfolding lower zeros answer record_from fused_ops play ticks exec put writes uni_word bin_word fused_word complex_words breach of_bits to_bits is_nan add mul div fused_multiply_add
ended sheet w = at (play_on (lower sheet) 0 zeros).store w

dividing_accepted : Accepted dividing room
unfolding dividing lower
dividing_accepted = record { right = refl; slice = lit≤ tt; number = refl }

dividing_tidy : TidySheet false (sheet_of dividing)
unfolding dividing lower tidiness
dividing_tidy zero h = refl
dividing_tidy (suc zero) h = refl
dividing_tidy (suc (suc zero)) h = refl
dividing_tidy (suc (suc (suc zero))) h = refl
dividing_tidy (suc (suc (suc (suc zero)))) h = refl
dividing_tidy (suc (suc (suc (suc (suc zero))))) h = refl
dividing_tidy (suc (suc (suc (suc (suc (suc j)))))) h = absurd (omega arith)

dividing_real : ended dividing 578 ≡ 0x4008_0000_0000_0000
unfolding dividing ended
dividing_real = refl

dividing_imaginary : ended dividing 579 ≡ 0xc008_0000_0000_0000
unfolding dividing ended
dividing_imaginary = refl

-- at the end of what the entry left
at-end : (sheet : List ℕ) → Accepted sheet room → (w : ℕ) → at (play_on (left_of sheet) 0 zeros).store w ≡ ended sheet w
unfolding ended lower
at-end sheet a w = sym (ap (λ (l : Lowered). at (play_on l 0 zeros).store w) (as_left sheet a))

pub tidy-met : TidyMet dividing 0x4008_0000_0000_0000 0xc008_0000_0000_0000
tidy-met =
    record {
      accepted = accepts dividing dividing_accepted;
      tidy = dividing_tidy;
      real = at-end dividing dividing_accepted 578 ∙ dividing_real;
      imaginary = at-end dividing dividing_accepted 579 ∙ dividing_imaginary;
    }

-- ---- no Half loses a word

-- an instruction is no Half, or not of a real register into a complex one
abbrev spares : Realness → Instruction → Bool
spares ρ Instruction.Nop = true
spares ρ (Instruction.Uni op d a) = not (eqb (uni_number op) 13 && is_real_reg ρ a) || is_real_reg ρ d
spares ρ (Instruction.Bi op d a b) = true
spares ρ (Instruction.Mov d a) = true
spares ρ (Instruction.Load d p) = true
spares ρ (Instruction.Save a p) = true
spares ρ (Instruction.LoadConst d idx) = true
spares ρ (Instruction.Fused op d a b c) = true
spares ρ (Instruction.IfElse d a b p) = true
spares ρ (Instruction.LoadMath op d a p) = true
spares ρ (Instruction.LoadConstMath op d a idx) = true
spares ρ (Instruction.Label l) = true
spares ρ (Instruction.Branch l) = true
spares ρ (Instruction.BranchIf c l e) = true

spared : (ρ : Realness) (i : Instruction) → T (spares ρ i) → (d a : ℕ) → i ≡ Instruction.Uni UniOp.Half d a → is_real_reg ρ a ≡ true → is_real_reg ρ d ≡ true
spared ρ i t d a e r = go (is_real_reg ρ d) (subst (λ x. T (not x || is_real_reg ρ d)) r (subst (λ i. T (spares ρ i)) e t))
  where
    go : (x : Bool) → T x → x ≡ true
    go true t = refl
    go false t = elim t [ ]

clean_unmixed : Unmixed (sheet_of clean)
unfolding clean lower
clean_unmixed t zero h d a e r = spared (real_at (sheet_of clean) 0) (get_or (sheet_of clean).instructions 0 Instruction.Nop) tt d a e r
clean_unmixed t (suc zero) h d a e r = spared (real_at (sheet_of clean) 1) (get_or (sheet_of clean).instructions 1 Instruction.Nop) tt d a e r
clean_unmixed t (suc (suc zero)) h d a e r = spared (real_at (sheet_of clean) 2) (get_or (sheet_of clean).instructions 2 Instruction.Nop) tt d a e r
clean_unmixed t (suc (suc (suc j))) h d a e r = absurd (omega arith)

pub settled-met : SettledMet clean
settled-met = record { accepted = accepts clean clean_given.accepted; unmixed = clean_unmixed }
