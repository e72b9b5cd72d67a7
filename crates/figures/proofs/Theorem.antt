-- The figures equal what lowering and playing report.
use Prim.Native.Nat.{ℕ}
use mathlib.Core.Path.{◌≡◌, refl, sym, ap, ◌∙◌, subst}
use mathlib.Core.Bool.{Bool, true, false, true≢false, cond, not, ◌||◌}
use mathlib.Core.List.{List, []}
use native.Mathlib.Omega.{arith}
use native.Mathlib.Nat.{zero-add}
use lib.ListN.{length, drop}
use lib.Dec.{ltb, eqb}
use borrow.Author.Tests.{eqb-true, eqb-false, eq-eqb, ne_eqb, le-ltb, not-false}
use Rattle.records.specs.Record.{records}
use Rattle.sheet.specs.Setup.{setup, constants_of}
use Rattle.sheet.specs.Instruction.{instructions}
use Rattle.player_machine.specs.Machine.{Store, block, going, play}
use Rattle.player_machine.specs.Jumps.{tally}
use Rattle.player_machine.specs.Count.{is_call, most}
use Rattle.player_machine.specs.Answer as Playing
use Rattle.lowering.specs.Complexifier.{State, then, unlisted}
use Rattle.lowering.specs.Rerun.{complexify}
use Rattle.lowering.specs.Labels.{none_standing}
use Rattle.lowering.specs.Lower.{Ended, start_state, lower_from, lower_sheet}
use Rattle.complexify.specs.Entry as Lowering
use Rattle.complexify.proofs.Finished.{right_answer}
use Rattle.leftovers.specs.Leftovers.{Sheet, sheet_of, Accepted, Lowered, lowered}
use Rattle.leftovers.proofs.Instructions.{AllIn}
use Rattle.leftovers.proofs.Points.{whole}
use Rattle.leftovers.proofs.Sheets.{as_lowered, read_back, sound, answers}
use Rattle.entries.specs.Entries.{left}
use Rattle.entries.proofs.Entered.{entered}
use Rattle.figures.specs.declared.counting.Count.{Count}
use Rattle.figures.specs.declared.entry.Figures.{Figures}
use Rattle.figures.specs.Shelf.{refusal, nothing, block_in, run, shelf_from, shelf}
use Rattle.figures.specs.Told.{branches_in, Reported, FiguresReported}
use Rattle.figures.proofs.Counts.{runs, lowered-runs, lowered-most}
use Rattle.figures.proofs.Totals.{total, total_records, total_calls, total_block, total_branches}
use Rattle.figures.proofs.Reports.{figures_of, same}

-- ---- a sheet's count

abbrev start : Sheet → State
start s = start_state s.places s.constants

-- all its instructions, counted
abbrev all : Sheet → Count
all s = total s.mode s.instructions nothing (start s)

module _ (s : Sheet) (v : AllIn (length s.constants) s.instructions) where
  counts : all s ≡ record {
    bytes = (all s).bytes;
    records = length (whole s).records;
    calls = tally is_call (whole s).records;
    block = block_in (whole s).records;
    branches = branches_in s.instructions;
  }
  counts =
      let a = total_records s.mode s.instructions nothing (start s) ∙ zero-add (length (whole s).records) in
      let b = total_calls s.mode s.instructions nothing (start s) ∙ zero-add (tally is_call (whole s).records) in
      let c = total_block s.mode (length s.constants) s.instructions nothing (start s) v refl ∙ zero-add (block_in (whole s).records) in
      let d = total_branches s.mode s.instructions nothing (start s) ∙ zero-add (branches_in s.instructions) in
      λ j. record { bytes = (all s).bytes; records = a j; calls = b j; block = c j; branches = d j }

  all_runs : branches_in s.instructions ≡ 0 → run (all s) ≡ runs (whole s).records
  all_runs e = ap run counts ∙ rw (eq-eqb (branches_in s.instructions) 0 e) refl

  all_most : (branches_in s.instructions ≡ 0 → ⊥) → run (all s) ≡ most (whole s).records
  unfolding complexify
  all_most e =
      ap run counts ∙ rw (ne_eqb (branches_in s.instructions) 0 e) (lowered-most s.mode (length s.constants) s.instructions (start s) v refl)

-- ---- playing

played : (sheet : List ℕ) (room : ℕ) → Accepted sheet room → branches_in (sheet_of sheet).instructions ≡ 0 → (σ : Store) → length σ ≡ 1602
    → (Playing.answer (lowered sheet room).listing (lowered sheet room).constants 0 σ).played ≡ run (all (sheet_of sheet))
unfolding complexify then unlisted
played sheet room a n σ h =
    let s = sheet_of sheet in
    let o = sound sheet room a in
    subst (λ (l : Lowered). (Playing.answer l.listing l.constants 0 σ).played ≡ run (all s)) (sym o.same)
    (ap (λ a. a.played) (answers s o.in-range o.few o.fair o.fits 0 σ h)
    ∙ lowered-runs s.mode (length s.constants) s.instructions (start s) o.in-range refl n (whole s).after.consts σ
    ∙ sym (all_runs s o.in-range n))

bounded : (sheet : List ℕ) (room : ℕ) → Accepted sheet room → (branches_in (sheet_of sheet).instructions ≡ 0 → ⊥)
    → most (records (length (lowered sheet room).constants) (lowered sheet room).listing).items ≡ run (all (sheet_of sheet))
bounded sheet room a n =
    let s = sheet_of sheet in
    let o = sound sheet room a in
    subst (λ (l : Lowered). most (records (length l.constants) l.listing).items ≡ run (all s)) (sym o.same)
    (ap (λ d. most d.items) (read_back s o.in-range o.few) ∙ sym (all_most s o.in-range n))

-- ---- the theorem

module _ (sheet listing constants origins : List ℕ) (long : length listing ≡ 65536) (words : length constants ≡ 256) (names : length origins ≡ 256) where
  -- a wrong setup is the sheet's
  wrong : (x : Bool) → not (eqb (setup sheet).number 0) ≡ x → Lowering.wrong_setup sheet listing constants origins ≡ x
  wrong true e = rw e refl
  wrong false e = rw (e, long, words, names) refl

  abbrev whole-end : Ended
  whole-end = lower_sheet sheet 65536

  ends : (setup sheet).number ≡ 0 → shelf sheet ≡ figures_of whole-end (all (sheet_of sheet))
  unfolding shelf lower_sheet
  ends e =
      rw (eq-eqb (setup sheet).number 0 e)
      (same (sheet_of sheet).mode (sheet_of sheet).instructions (instructions (setup sheet).count (drop (setup sheet).start sheet)).fault
      (drop (setup sheet).start sheet) none_standing 0 [] nothing (start (sheet_of sheet)) refl)

  answered : (setup sheet).number ≡ 0 → Lowering.answer sheet listing constants origins ≡ right_answer sheet 65536
  answered e = rw (wrong false (rw (eq-eqb (setup sheet).number 0 e) refl), long) refl

  -- accepted, and refused
  accepting : (setup sheet).number ≡ 0 → whole-end.number ≡ 0
      → Reported
      (record {
        number = 0;
        index = whole-end.index;
        bytes = length whole-end.bytes;
        constants = length whole-end.state.consts;
        records = run (all (sheet_of sheet));
      }) sheet listing constants origins
  accepting e n =
      let a = answered e in
      let l = entered sheet listing constants origins (ap (λ a. a.number) a ∙ n) in
      record {
        number = ap (λ a. a.number) a ∙ n;
        index = ap (λ a. a.index) a;
        bytes = λ _. ap (λ a. a.written) a;
        count = λ _. ap (λ a. a.count) a;
        played = λ _ n σ h. rw (l.bytes, l.words) (played sheet (length listing) l.accepted n σ h);
        bound = λ _ n. rw (l.bytes, l.words) (bounded sheet (length listing) l.accepted n);
        none = λ c. absurd (c refl);
      }

  refusing : (setup sheet).number ≡ 0 → (whole-end.number ≡ 0 → ⊥) → Reported (refusal whole-end.number whole-end.index) sheet listing constants origins
  refusing e n =
      let a = answered e in
      record {
        number = ap (λ a. a.number) a;
        index = ap (λ a. a.index) a;
        bytes = λ z. absurd (n z);
        count = λ z. absurd (n z);
        played = λ z. absurd (n z);
        bound = λ z. absurd (n z);
        none = λ _. refl;
      }

  by_number : (setup sheet).number ≡ 0 → (x : Bool) → eqb whole-end.number 0 ≡ x → Reported (shelf sheet) sheet listing constants origins
  by_number e true h =
      subst (λ (f : Figures). Reported f sheet listing constants origins) (sym (ends e ∙ rw h refl)) (accepting e (eqb-true whole-end.number 0 h))
  by_number e false h =
      subst (λ (f : Figures). Reported f sheet listing constants origins) (sym (ends e ∙ rw h refl)) (refusing e (eqb-false whole-end.number 0 h))

  -- 8
  wrong-setup : not (eqb (setup sheet).number 0) ≡ true → Reported (shelf sheet) sheet listing constants origins
  unfolding shelf
  wrong-setup e =
      let w = wrong true e in
      let f : shelf sheet ≡ refusal 8 0 = rw e refl in
      subst (λ (f : Figures). Reported f sheet listing constants origins) (sym f)
      (record {
        number = rw w refl;
        index = rw w refl;
        bytes = λ z. absurd (omega (arith, z));
        count = λ z. absurd (omega (arith, z));
        played = λ z. absurd (omega (arith, z));
        bound = λ z. absurd (omega (arith, z));
        none = λ _. refl;
      })

  reported : (x : Bool) → not (eqb (setup sheet).number 0) ≡ x → Reported (shelf sheet) sheet listing constants origins
  reported true e = wrong-setup e
  reported false e = by_number (eqb-true (setup sheet).number 0 (not-false _ e)) (eqb whole-end.number 0) refl

pub figures : FiguresReported shelf
figures sheet listing constants origins long words names = reported sheet listing constants origins long words names (not (eqb (setup sheet).number 0)) refl
