-- The sheets of specs/DrawnExamples.antt, computed.
use Prim.Native.Nat.{ℕ, zero, suc, ◌≤◌, ◌<◌}
use native.Mathlib.Omega.{arith}
use mathlib.Core.Path.{◌≡◌, refl, sym, ap, ◌∙◌, subst}
use mathlib.Core.Bool.{Bool, false}
use mathlib.Core.List.{List, [], ◌∷◌, ◌++◌}
use lib.ListN.{length, replicate}
use lib.Dec.{lit≤}
use Rattle.mir.specs.Register.{re, im}
use Rattle.mir.specs.Length.{length_of}
use Rattle.mir.specs.Operation.{uni_ops, bin_ops, fused_ops}
use Rattle.mir.specs.Field.{u16_at, takes_kind, place_at, save_place, cond_place}
use Rattle.mir.specs.Decode.{decoded}
use Rattle.mir.specs.Encode.{record_of}
use Rattle.sheet.specs.Setup.{setup}
use Rattle.sheet.specs.Instruction.{instruction_from}
use Rattle.records.specs.Record.{record_from}
use Rattle.player_machine.specs.Machine.{Store, at, writes, put, exec, works, is_label, seek, block, ticks, play}
use Rattle.player_machine.specs.Jumps.{breach}
use Rattle.player_machine.specs.Answer as Player
use Rattle.lowering.specs.Realness.{is_real_loc, without_loc}
use Rattle.lowering.specs.Lines as lines
use Rattle.lowering.specs.Complexifier as c
use Rattle.lowering.specs.Rerun.{rerun_uni, rerun, complexify}
use Rattle.lowering.specs.Labels.{role, later, misplaced, unequal, passed}
use Rattle.lowering.specs.Lower.{barred, lower_from, lower_sheet, listed}
use Rattle.complexify.specs.Entry.{answer}
use Rattle.leftovers.specs.Leftovers.{Accepted, Lowered, lowered, records_of}
use Rattle.leftovers.specs.Examples.{room}
use Rattle.marks.specs.Marks.{step, scan, drawn_on, registers}
use Rattle.marks.specs.Claims.{SamePlaces}
use Rattle.marks.specs.Examples.{numbers}
use Rattle.entries.specs.Examples.{bytes, words, names}
use Rattle.entries.specs.Drawn.{play_left}
use Rattle.entries.specs.DrawnExamples.{filling, drawing, filled_with, Undrawn, DrawnApart}
use Rattle.entries.proofs.Examples.{accepts, as_left}
use Rattle.entries.proofs.Drawn.{drawn-as}

-- ---- stores

at_first : (n v i : ℕ) (σ : Store) → i < n → at (replicate n v ++ σ) i ≡ v
at_first zero v i σ h = absurd (omega arith)
at_first (suc n) v zero σ h = refl
at_first (suc n) v (suc i) σ h = at_first n v i σ (omega arith)

at_rest : (n v w i : ℕ) (σ : Store) → n ≤ i → at (replicate n v ++ σ) i ≡ at (replicate n w ++ σ) i
at_rest zero v w i σ h = refl
at_rest (suc n) v w zero σ h = absurd (omega arith)
at_rest (suc n) v w (suc i) σ h = at_rest n v w i σ (omega arith)

same_places : (v w : ℕ) → SamePlaces (filled_with v) (filled_with w)
unfolding filled_with
same_places v w = record { length = refl; places = λ i h. at_rest 66 v w i (replicate 1536 0) h }

-- ---- lowering, computed

-- the lowering of a sheet, the marks of the records that the player reads again, and a word at the end of a play of these
unfoldable lower : List ℕ → Lowered
unfolding lower_sheet setup u16_at lower_from role later misplaced unequal passed barred decoded instruction_from takes_kind length_of place_at save_place cond_place uni_ops bin_ops fused_ops rerun rerun_uni complexify record_of re im is_real_loc without_loc c.then c.unlisted c.directed c.emit c.one_by_one c.by_two c.fmov c.load_from c.save_to c.call_root c.block_of c.block_consts c.define_root c.root lines.fmov_lines lines.load_lines lines.save_lines lines.plain_root_magnitude lines.root_block
lower sheet = lowered sheet room

unfoldable marks : List ℕ → List Bool
unfolding lower record_from step scan block seek is_label works
marks sheet = registers (drawn_on (records_of (lower sheet)))

unfoldable ending : List ℕ → Store → ℕ → ℕ
unfolding lower record_from Player.answer play ticks exec put writes breach block seek is_label works
ending sheet σ i = at (Player.answer (lower sheet).listing (lower sheet).constants 0 σ).store i

marks_answered : (sheet : List ℕ) → Accepted sheet room → (answer sheet bytes words names).drawn ≡ marks sheet
unfolding marks lower
marks_answered sheet a =
    drawn-as sheet bytes words names (accepts sheet a) ∙ ap (λ l. registers (drawn_on (records_of l))) (sym (as_left sheet a))

filling_accepted : Accepted filling room
unfolding filling lower
filling_accepted = record { right = refl; slice = lit≤ tt; number = refl }

filling_marks : marks filling ≡ replicate 66 false
unfolding filling marks
filling_marks = refl

pub undrawn : Undrawn filling (filled_with 0) (filled_with 1)
unfolding filled_with
undrawn =
    record {
      accepted = accepts filling filling_accepted;
      unmarked = marks_answered filling filling_accepted ∙ filling_marks;
      places = same_places 0 1;
      registers = λ i h e.
          let z : ◌≡◌ {A = ℕ} 0 1 = sym (at_first 66 0 i (replicate 1536 0) h) ∙ e ∙ at_first 66 1 i (replicate 1536 0) h in
          absurd (omega (arith, z));
    }

drawing_accepted : Accepted drawing room
unfolding drawing lower
drawing_accepted = record { right = refl; slice = lit≤ tt; number = refl }

drawing_marks : numbers 0 (marks drawing) ≡ 4 ∷ 5 ∷ []
unfolding drawing marks
drawing_marks = refl

-- a Save fills no register
drawing-fills : (answer drawing bytes words names).filled ≡ replicate 66 false
unfolding drawing bytes words names lower listed step scan block seek is_label works
drawing-fills = refl

drawing_ends : (v : ℕ) → ending drawing (filled_with v) 578 ≡ v
unfolding drawing ending filled_with
drawing_ends v = refl

pub drawn-apart : DrawnApart drawing (filled_with 0) (filled_with 1) 578
unfolding ending lower
drawn-apart =
    let a = drawing_accepted in
    let ends : (v : ℕ) → at (play_left drawing bytes words names (filled_with v)).store 578 ≡ v =
    λ v. subst (λ (l : Lowered). at (Player.answer l.listing l.constants 0 (filled_with v)).store 578 ≡ v) (as_left drawing a) (drawing_ends v) in
    record {
      accepted = accepts drawing a;
      unfilled = drawing-fills;
      marked = ap (numbers 0) (marks_answered drawing a) ∙ drawing_marks;
      places = same_places 0 1;
      place = lit≤ tt;
      apart = λ e. let z : ◌≡◌ {A = ℕ} 0 1 = sym (ends 0) ∙ e ∙ ends 1 in absurd (omega (arith, z));
    }
