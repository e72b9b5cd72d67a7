-- Playing a sheet's listing computes what the sheet means.
use mathlib.Core.Path.{◌≡◌, refl, sym, ap, ◌∙◌, subst}
use mathlib.Core.List.{List, [], ◌∷◌, ◌++◌}
use Prim.Native.Nat.{ℕ, suc, ◌-◌, ◌≤◌}
use native.Mathlib.Omega.{arith}
use lib.ListN.{length, drop}
use Rattle.mir.specs.declared.records.Record.{Record}
use Rattle.mir.specs.declared.records.Instruction.{Instruction}
use Rattle.mir.specs.Encode.{encode_all}
use Rattle.sheet.specs.declared.setup.Mode.{Mode}
use Rattle.sheet.specs.Setup.{setup}
use Rattle.sheet.specs.Instruction.{instructions}
use Rattle.player_machine.specs.Machine.{Store, block, going, reach}
use Rattle.player_machine.specs.Answer.{Answer}
use Rattle.lowering.specs.Complexifier.{State, unlisted}
use Rattle.lowering.specs.Rerun.{rerun, complexify}
use Rattle.lowering.specs.Labels.{Standing, role, passed, none_standing}
use Rattle.lowering.specs.Lower.{Ended, ended, past, lower_from, start_state, lower_sheet}
use Rattle.lowering.proofs.Tests.{by_tests}
use Rattle.leftovers.specs.Leftovers.{Sheet, sheet_of, Accepted, Lowered, lowered, point, real_at, standing}
use Rattle.leftovers.proofs.Instructions.{AllIn}
use Rattle.leftovers.proofs.Listing.{grows}
use Rattle.leftovers.proofs.Points.{whole, all_kinds}
use Rattle.leftovers.proofs.Branches.{Sound}
use Rattle.leftovers.proofs.Jumping.{Fair}
use Rattle.leftovers.proofs.Sheets.{as_lowered, all_in, read_back, answers, sound}
use Rattle.meaning.specs.Means.{Values}
use Rattle.entries.proofs.Entered.{entered}
use Rattle.entries.proofs.Demand.{same}
use Rattle.meaning.specs.Preserved.{values_of, Holds, Every, Preserves, Preserved}
use Rattle.meaning.proofs.Leaf.{Ready}
use Rattle.meaning.proofs.Table.{Begins, begins_same, begins_grown}
use Rattle.meaning.proofs.Branches.{Free, Goes, walks}
use Rattle.meaning.proofs.Found.{finds_root}

-- an accepted lowering met no barred operand
free_of : (mode : Mode) (room : ℕ) (is : List Instruction) (fault : ℕ) (rest : List ℕ) (b : Standing) (index : ℕ) (bytes : List ℕ) (s : State)
    → (lower_from mode room is fault rest b index bytes s).number ≡ 0 → Free mode is s
unfolding lower_from
free_of mode room [] fault rest b index bytes s e = tt
free_of mode room (i ∷ is) fault rest b index bytes s e =
    by_tests mode room i b (past rest) (length bytes) s
    (λ by. (by Ended (λ number. ended number index bytes s) on).number ≡ 0 → Free mode (i ∷ is) s) (λ n z e. absurd (z e))
    (λ a e. (a.allowed, free_of mode room is fault (past rest) (passed (role i) s.real b) (suc index) (bytes ++ encode_all (rerun mode i s).records) (rerun mode i s).after e))
    e
  where
    on : Ended
    on =
        lower_from mode room is fault (past rest) (passed (role i) s.real b) (suc index) (bytes ++ encode_all (rerun mode i s).records) (rerun mode i s).after

module _ (s : Sheet) (v : AllIn (length s.constants) s.instructions) (f : length s.constants ≤ 251)
    (w : Free s.mode s.instructions (start_state s.places s.constants))
    (f₀ : Fair [] (whole s).records)
    (d : Sound (whole s).after.consts (block (whole s).records) s.mode s.instructions (start_state s.places s.constants))
    (room : length (encode_all (whole s).records) ≤ 65536) (σ₀ : Store) (h : length σ₀ ≡ 1602) where
  front : Begins s.constants (whole s).after.consts
  front = begins_grown (grows s.mode s.instructions (start_state s.places s.constants))

  X₀ : Values
  X₀ = values_of (real_at s 0) σ₀

  at-start : Ready X₀ (start_state s.places s.constants).real σ₀
  unfolding X₀ complexify unlisted
  at-start = record { holds = record { regs = λ r hr. refl; places = λ p hp. refl }; words = h; records = refl }

  G : Goes (whole s).after.consts (block (whole s).records) s.mode s.constants front going s.instructions (start_state s.places s.constants) X₀ σ₀
  G =
      walks (whole s).after.consts (block (whole s).records) s.mode s.constants front s.instructions (start_state s.places s.constants)
      (all_kinds s (all_in s v f)) v w
      (λ e. finds_root s.mode (length s.constants) s.instructions (start_state s.places s.constants) v refl e (begins_same (whole s).after.consts))
      (begins_same (whole s).after.consts) going X₀ σ₀ tt d at-start

  stands_at : (j : ℕ) → standing (as_lowered s) 0 σ₀ j
      ≡ reach (whole s).after.consts (block (whole s).records) going (point s j) (whole s).records σ₀
  unfolding complexify unlisted
  stands_at j =
      ap (λ (rs : List Record). reach (whole s).after.consts (block rs) going (point s j - 0) rs σ₀) (ap (λ d. d.items) (read_back s v f))
      ∙ ap (λ (n : ℕ). reach (whole s).after.consts (block (whole s).records) going n (whole s).records σ₀) (omega arith)

  pub preserves : Preserves (as_lowered s) σ₀
  unfolding X₀ complexify unlisted
  preserves = record {
    lost = G.lost;
    points =
        λ j X e. let r = G.points j X e in
        record { store = r.store; reached = stands_at j ∙ r.reached; holds = r.ready.holds };
    last = G.last;
    ends = G.ends;
    ending =
        subst (λ (τ : Store). Holds 32 Every G.last (whole s).after.real τ) (sym (ap (λ (a : Answer). a.store) (answers s v f f₀ room 0 σ₀ h)))
        G.ending.holds;
  }

-- of a sheet's bytes and the room of a slice
lowered_preserves : (bytes : List ℕ) (room : ℕ) (σ₀ : Store) → Accepted bytes room → length σ₀ ≡ 1602 → Preserves (lowered bytes room) σ₀
unfolding lower_sheet
lowered_preserves bytes room σ₀ a h =
    let r = sound bytes room a in
    let s = sheet_of bytes in
    subst (λ (l : Lowered). Preserves l σ₀) (sym r.same)
    (preserves s r.in-range r.few
    (free_of s.mode room s.instructions (instructions (setup bytes).count (drop (setup bytes).start bytes)).fault (drop (setup bytes).start bytes) none_standing 0 []
    (start_state s.places s.constants) a.number)
    r.fair r.meets r.fits σ₀ h)

-- what `lower` left is what is lowered
pub preserved : Preserved
preserved sheet listing constants origins σ₀ a h =
    let f = entered sheet listing constants origins a in
    subst (λ (l : Lowered). Preserves l σ₀) (same sheet listing constants origins f) (lowered_preserves sheet (length listing) σ₀ f.accepted h)
