-- The sheets of specs/Examples.antt, computed.
use mathlib.Core.Path.{◌≡◌, refl, sym, ap, ◌∙◌, subst₂}
use mathlib.Core.Bool.{true, false, true≢false}
use mathlib.Core.List.{List}
use mathlib.Core.Option.{Option, none, some}
use Prim.Native.Nat.{ℕ, zero, suc, ◌≤◌}
use native.Mathlib.Omega.{arith}
use native.Mathlib.Decide.{ℕ_discrete}
use lib.ListN.{length, get_or, length-set}
use lib.Seq.{get_or-set_other}
use lib.Dec.{lit<, lit≤}
use lib.Ieee.{of_bits, to_bits, mul, eq}
use Rattle.mir.specs.declared.ops.UniOp.{UniOp}
use Rattle.mir.specs.declared.ops.BinOp.{BinOp}
use Rattle.mir.specs.declared.records.Instruction.{Instruction}
use Rattle.mir.specs.Register.{re, im}
use Rattle.mir.specs.Length.{length_of}
use Rattle.mir.specs.Operation.{uni_ops, bin_ops}
use Rattle.mir.specs.Field.{u16_at, takes_kind}
use Rattle.mir.specs.Decode.{decoded}
use Rattle.mir.specs.Encode.{record_of}
use Rattle.sheet.specs.Setup.{setup}
use Rattle.sheet.specs.Instruction.{instruction_from}
use Rattle.records.specs.Record.{record_from}
use Rattle.player_machine.specs.Machine.{Store, at, uni_word, bin_word, writes, put, exec, is_label, ticks, play, reach}
use Rattle.player_machine.specs.Jumps.{breach}
use Rattle.player_machine.specs.Answer.{Answer, answer}
use Rattle.lowering.specs.declared.realness.Realness.{Realness}
use Rattle.lowering.specs.Realness.{is_real_reg}
use Rattle.lowering.specs.Lines.{minding_half_lines, real_lines, ensure_lines, compare_lines}
use Rattle.lowering.specs.Complexifier as c
use Rattle.lowering.specs.Complexifier.{then, unlisted, one_by_one}
use Rattle.lowering.specs.Rerun.{rerun_uni, rerun_bin, rerun, complexify}
use Rattle.lowering.specs.Labels.{role, later, misplaced, unequal, passed}
use Rattle.lowering.specs.Lower.{lower_from, lower_sheet}
use Rattle.leftovers.specs.Leftovers.{Leftover, half, Alike, sheet_of, Accepted, Lowered, lowered, real_at, play_on, standing, Mixing, Changes, EndAlike, Given}
use Rattle.leftovers.specs.Kept.{kept_im}
use Rattle.leftovers.specs.Examples.{room, zeros, mixing, stable_mixing, minding_mixing, clean, jumping, clearing, touched, marked, compared}
use Rattle.leftovers.proofs.Words.{not-both}
use Rattle.leftovers.proofs.Sought.{none≢some}

-- what is opened to lower a sheet, to stand at its points and to play on
unfoldable lower : List ℕ → Lowered
unfolding lower_sheet setup u16_at lower_from role later misplaced unequal passed decoded instruction_from takes_kind length_of uni_ops bin_ops rerun rerun_uni rerun_bin one_by_one real_lines minding_half_lines ensure_lines compare_lines record_of c.directed c.emit c.half c.ensure_complex c.compare re im complexify then unlisted
lower bytes = lowered bytes room

unfoldable stood : List ℕ → ℕ → Option Store
unfolding lower zeros reach record_from bin_ops exec put writes bin_word
stood bytes i = standing (lower bytes) 0 zeros i

unfoldable seventh : List ℕ → Store → ℕ
unfolding lower answer record_from bin_ops play ticks exec put writes uni_word breach of_bits to_bits mul
seventh bytes σ = at (play_on (lower bytes) 1 σ).store 7

-- a change of the imaginary half of general 0, where it is recorded as real
touches : (ρ : Realness) → is_real_reg ρ 0 ≡ true → Alike ρ zeros touched
unfolding touched im
touches ρ e =
    record {
      words = unfold zeros in refl;
      same = sym (length-set zeros 5 0x4000_0000_0000_0000);
      outside = λ w n. go w n (ℕ_discrete w 5);
    }
  where
    go : (w : ℕ) → (Leftover ρ w → ⊥) → Dec (w ≡ 5) → at zeros w ≡ at touched w
    go w n (yes q) = absurd (n (rw q (half 0 (lit< tt) e)))
    go w n (no q) = sym (get_or-set_other zeros 5 w 0x4000_0000_0000_0000 0 q)

-- ---- the first

mixing_accepted : Accepted mixing room
unfolding mixing lower
mixing_accepted = record { right = refl; slice = lit≤ tt; number = refl }

mixing_stands : stood mixing 1 ≡ some zeros
unfolding mixing stood
mixing_stands = refl

mixing_real : is_real_reg (real_at (sheet_of mixing) 1) 0 ≡ true
unfolding mixing lower
mixing_real = refl

mixing_last : is_real_reg (lower mixing).last 1 ≡ false
unfolding mixing lower
mixing_last = refl

without : seventh mixing zeros ≡ 0
unfolding mixing zeros seventh
without = refl

with_it : seventh mixing touched ≡ 0x3ff0_0000_0000_0000
unfolding mixing touched seventh
with_it = refl

-- all that the claim takes is given at point 1 of a sheet that has stood there with zeros, general 0 recorded as real
given_there : (sheet : List ℕ) → Accepted sheet room → 1 ≤ length (sheet_of sheet).instructions → stood sheet 1 ≡ some zeros
    → is_real_reg (real_at (sheet_of sheet) 1) 0 ≡ true
    → Given sheet room zeros 1 zeros touched
unfolding lower stood
given_there sheet a h e r =
    record { accepted = a; words = unfold zeros in refl; upper = h; stands = e; changed = touches (real_at (sheet_of sheet) 1) r }

-- the imaginary half of general 1, complex at the end, differs
differs_there : (sheet : List ℕ) → is_real_reg (lower sheet).last 1 ≡ false → seventh sheet zeros ≡ 0 → seventh sheet touched ≡ 0x3ff0_0000_0000_0000
    → EndAlike (lowered sheet room) 1 zeros touched → ⊥
unfolding lower seventh im
differs_there sheet l x y e = differ (sym x ∙ e.stores.outside 7 (not-both (lower sheet).last 7 (kept_im 1 (lit< tt) l)) ∙ y)
  where
    differ : ◌≡◌ {A = ℕ} 0 0x3ff0_0000_0000_0000 → ⊥
    differ q = omega arith

pub mixing_given : Given mixing room zeros 1 zeros touched
mixing_given = given_there mixing mixing_accepted (unfold mixing lower in lit≤ tt) mixing_stands mixing_real

pub mixing_differs : EndAlike (lowered mixing room) 1 zeros touched → ⊥
mixing_differs = differs_there mixing mixing_last without with_it

-- ---- the first in stable mode

pub stable_given : Given stable_mixing room zeros 1 zeros touched
unfolding stable_mixing lower stood
stable_given =
    given_there stable_mixing (record { right = refl; slice = lit≤ tt; number = refl }) (lit≤ tt) refl refl

stable_without : seventh stable_mixing zeros ≡ 0
unfolding stable_mixing zeros seventh
stable_without = refl

stable_with_it : seventh stable_mixing touched ≡ 0x3ff0_0000_0000_0000
unfolding stable_mixing touched seventh
stable_with_it = refl

stable_last : is_real_reg (lower stable_mixing).last 1 ≡ false
unfolding stable_mixing lower
stable_last = refl

pub stable_differs : EndAlike (lowered stable_mixing room) 1 zeros touched → ⊥
stable_differs = differs_there stable_mixing stable_last stable_without stable_with_it

-- ---- the first in mode 2

pub minding_given : Given minding_mixing room zeros 1 zeros touched
unfolding minding_mixing lower stood
minding_given =
    given_there minding_mixing (record { right = refl; slice = lit≤ tt; number = refl }) (lit≤ tt) refl refl

pub minding-half : get_or (sheet_of minding_mixing).instructions 1 Instruction.Nop ≡ Instruction.Uni UniOp.Half 1 0
unfolding minding_mixing lower
minding-half = refl

pub minding_from : is_real_reg (real_at (sheet_of minding_mixing) 1) 0 ≡ true
unfolding minding_mixing lower
minding_from = refl

pub minding_into : is_real_reg (real_at (sheet_of minding_mixing) 1) 1 ≡ false
unfolding minding_mixing lower
minding_into = refl

pub minding_reached : standing (lowered minding_mixing room) 1 zeros 1 ≡ some zeros
unfolding minding_mixing lower stood
minding_reached = refl

-- how playing on from point 1 ends
unfoldable ended : List ℕ → Store → Answer
unfolding lower answer record_from bin_ops play ticks exec put writes uni_word breach of_bits to_bits mul
ended bytes σ = play_on (lower bytes) 1 σ

ends_zeros : (ended minding_mixing zeros).store ≡ zeros
unfolding minding_mixing zeros ended
ends_zeros = refl

ends_touched : (ended minding_mixing touched).store ≡ touched
unfolding minding_mixing touched ended
ends_touched = refl

ends_equally : (ended minding_mixing zeros).played ≡ (ended minding_mixing touched).played
unfolding minding_mixing touched ended
ends_equally = refl

minding_last : is_real_reg (lower minding_mixing).last 0 ≡ true
unfolding minding_mixing lower
minding_last = refl

pub minding_alike : EndAlike (lowered minding_mixing room) 1 zeros touched
unfolding lower ended
minding_alike =
    record {
      played = ends_equally;
      stores = subst₂ (Alike (lower minding_mixing).last) (sym ends_zeros) (sym ends_touched) (touches (lower minding_mixing).last minding_last);
    }

-- mode 2 asks nothing of Halves
pub minding_unmixed : Mixing (lowered minding_mixing room) 1 zeros → ⊥
unfolding minding_mixing lower
minding_unmixed m = true≢false m.not_minding

pub other : zeros ≡ touched → ⊥
unfolding zeros touched
other e = differ (ap (λ (σ : Store). at σ 5) e)
  where
    differ : ◌≡◌ {A = ℕ} 0 0x4000_0000_0000_0000 → ⊥
    differ q = omega arith

-- ---- the second

clean_accepted : Accepted clean room
unfolding clean lower
clean_accepted = record { right = refl; slice = lit≤ tt; number = refl }

clean_stands : stood clean 2 ≡ some zeros
unfolding clean stood
clean_stands = refl

clean_real : is_real_reg (real_at (sheet_of clean) 2) 0 ≡ true
unfolding clean lower
clean_real = refl

clean_half : get_or (sheet_of clean).instructions 2 Instruction.Nop ≡ Instruction.Uni UniOp.Half 1 0
unfolding clean lower
clean_half = refl

clean_after : (j : ℕ) → get_or (sheet_of clean).instructions (suc (suc (suc j))) Instruction.Nop ≡ Instruction.Nop
unfolding clean lower
clean_after j = refl

clean_into : is_real_reg (real_at (sheet_of clean) 2) 1 ≡ true
unfolding clean lower
clean_into = refl

same_destination : (d a e b : ℕ) → Instruction.Uni UniOp.Half d a ≡ Instruction.Uni UniOp.Half e b → d ≡ e
same_destination d a e b q = cc

no_half : (d a : ℕ) → Instruction.Nop ≡ Instruction.Uni UniOp.Half d a → ⊥
no_half d a q = let z : ◌≡◌ {A = ℕ} 0 1 = cc in omega arith

clean_no_half : (j d a : ℕ) → 2 ≤ j → get_or (sheet_of clean).instructions j Instruction.Nop ≡ Instruction.Uni UniOp.Half d a
    → is_real_reg (real_at (sheet_of clean) j) d ≡ false → ⊥
clean_no_half zero d a h e q = omega arith
clean_no_half (suc zero) d a h e q = omega arith
clean_no_half (suc (suc zero)) d a h e q =
    let x = same_destination 1 0 d a (sym clean_half ∙ e) in
    true≢false (sym clean_into ∙ ap (is_real_reg (real_at (sheet_of clean) 2)) x ∙ q)
clean_no_half (suc (suc (suc j))) d a h e q = no_half d a (sym (clean_after j) ∙ e)

pub clean_given : Given clean room zeros 2 zeros touched
unfolding lower stood
clean_given =
    record {
      accepted = clean_accepted;
      words = unfold zeros in refl;
      upper = unfold clean in lit≤ tt;
      stands = clean_stands;
      changed = touches (real_at (sheet_of clean) 2) clean_real;
    }

pub clean_unmixed : Mixing (lowered clean room) 2 zeros → ⊥
clean_unmixed m = clean_no_half m.j m.d m.a m.later m.is_half m.into_complex

-- ---- the third

jumping_accepted : Accepted jumping room
unfolding jumping lower
jumping_accepted = record { right = refl; slice = lit≤ tt; number = refl }

jumping_stands : stood jumping 1 ≡ some zeros
unfolding jumping stood
jumping_stands = refl

jumping_real : is_real_reg (real_at (sheet_of jumping) 1) 0 ≡ true
unfolding jumping lower
jumping_real = refl

-- the play does not stand at the Half's point
jumping_over : standing (lower jumping) 1 zeros 2 ≡ none
unfolding jumping lower stood is_label
jumping_over = refl

jumping-1 : get_or (sheet_of jumping).instructions 1 Instruction.Nop ≡ Instruction.Branch 3
unfolding jumping lower
jumping-1 = refl

jumping-3 : get_or (sheet_of jumping).instructions 3 Instruction.Nop ≡ Instruction.Label 3
unfolding jumping lower
jumping-3 = refl

jumping_after : (j : ℕ) → get_or (sheet_of jumping).instructions (suc (suc (suc (suc j)))) Instruction.Nop ≡ Instruction.Nop
unfolding jumping lower
jumping_after j = refl

branch_no_half : (d a : ℕ) → Instruction.Branch 3 ≡ Instruction.Uni UniOp.Half d a → ⊥
branch_no_half d a q = let z : ◌≡◌ {A = ℕ} 0 1 = cc in omega arith

label_no_half : (d a : ℕ) → Instruction.Label 3 ≡ Instruction.Uni UniOp.Half d a → ⊥
label_no_half d a q = let z : ◌≡◌ {A = ℕ} 0 1 = cc in omega arith

jumping_no_half : (j d a : ℕ) (α : Store) → 1 ≤ j → get_or (sheet_of jumping).instructions j Instruction.Nop ≡ Instruction.Uni UniOp.Half d a
    → standing (lower jumping) 1 zeros j ≡ some α → ⊥
jumping_no_half zero d a α h e q = omega arith
jumping_no_half (suc zero) d a α h e q = branch_no_half d a (sym jumping-1 ∙ e)
jumping_no_half (suc (suc zero)) d a α h e q = none≢some (sym jumping_over ∙ q)
jumping_no_half (suc (suc (suc zero))) d a α h e q = label_no_half d a (sym jumping-3 ∙ e)
jumping_no_half (suc (suc (suc (suc j)))) d a α h e q = no_half d a (sym (jumping_after j) ∙ e)

pub jumping_given : Given jumping room zeros 1 zeros touched
unfolding lower stood
jumping_given =
    record {
      accepted = jumping_accepted;
      words = unfold zeros in refl;
      upper = unfold jumping in lit≤ tt;
      stands = jumping_stands;
      changed = touches (real_at (sheet_of jumping) 1) jumping_real;
    }

pub jumping_unmixed : Mixing (lowered jumping room) 1 zeros → ⊥
unfolding lower
jumping_unmixed m = jumping_no_half m.j m.d m.a m.α m.later m.is_half m.reached

pub jumping_half : get_or (sheet_of jumping).instructions 2 Instruction.Nop ≡ Instruction.Uni UniOp.Half 1 0
unfolding jumping lower
jumping_half = refl

pub jumping_from : is_real_reg (real_at (sheet_of jumping) 2) 0 ≡ true
unfolding jumping lower
jumping_from = refl

pub jumping_into : is_real_reg (real_at (sheet_of jumping) 2) 1 ≡ false
unfolding jumping lower
jumping_into = refl

-- ---- the fourth

pub clearing_accepted : Accepted clearing room
unfolding clearing lower
clearing_accepted = record { right = refl; slice = lit≤ tt; number = refl }

pub clearing_equal : get_or (sheet_of clearing).instructions 1 Instruction.Nop ≡ Instruction.Bi BinOp.Equal 2 0 1
unfolding clearing lower
clearing_equal = refl

pub clearing_real : is_real_reg (real_at (sheet_of clearing) 1) 0 ≡ true
unfolding clearing lower
clearing_real = refl

pub clearing_changes : Changes (lowered clearing room) 1 marked 1 marked compared
unfolding clearing marked compared stood of_bits eq
clearing_changes =
    record {
      next = 2;
      from = lit≤ tt;
      higher = lit< tt;
      within = lit≤ tt;
      before = refl;
      after = refl;
      first = λ x h k. absurd (omega arith);
    }

pub clearing_clears : (at marked (im 0) ≡ 0 → ⊥) × (at compared (im 0) ≡ 0)
unfolding marked compared im
clearing_clears = (λ q. omega arith, refl)

pub clearing_writes : at marked (re 2) ≡ at compared (re 2) → ⊥
unfolding marked compared re
clearing_writes q = omega arith

pub clearing_keeps : (at marked (re 3) ≡ 0 → ⊥) × (at compared (re 3) ≡ at marked (re 3))
unfolding marked compared re
clearing_keeps = (λ q. omega arith, refl)
