-- Lowering and the lent slices: what is given back lies within them, no more bytes than the listing has room for and at most 256 constants.
use Prim.Native.Nat.{ℕ, suc, ◌≤◌}
use mathlib.Core.Path.{◌≡◌, sym, subst}
use mathlib.Core.Bool.{true}
use mathlib.Core.List.{List, [], ◌∷◌, ◌++◌}
use native.Mathlib.Omega.{arith}
use borrow.Author.Tests.{eqb-true}
use lib.Dec.{eqb}
use lib.ListN.{length, drop, length-append}
use Rattle.mir.specs.declared.records.Instruction.{Instruction}
use Rattle.mir.specs.Encode.{encode_all}
use Rattle.mir.proofs.Passing.{either}
use Rattle.sheet.specs.declared.setup.Mode.{Mode}
use Rattle.sheet.specs.Setup.{setup, constants_of}
use Rattle.sheet.specs.Instruction.{instructions}
use Rattle.sheet.proofs.Setting.{right, length_constants}
use Rattle.lowering.specs.Complexifier.{State}
use Rattle.lowering.specs.Labels.{role, Standing, none_standing, passed}
use Rattle.lowering.specs.Lower.{Ended, ended, past, lower_from, start_state, lower_sheet}
use Rattle.lowering.specs.Rerun.{rerun}
use Rattle.lowering.proofs.Tests.{by_tests}
use Rattle.complexify.specs.declared.entry.LowerAnswer.{LowerAnswer}
use Rattle.complexify.specs.Entry.{wrong_setup, answer}
use Rattle.complexify.specs.Taken.{space}
use Rattle.complexify.proofs.Grown.{space_start}
use Rattle.complexify.proofs.Bounds.{spaced}

record Held (room : ℕ) (e : Ended) : Type 0 where
  bytes : length e.bytes ≤ room
  words : space e.state.consts ≤ 256

held : (m : Mode) (room : ℕ) (is : List Instruction) (fault : ℕ) (rest : List ℕ) (b : Standing) (index : ℕ) (bytes : List ℕ) (s : State)
    → length bytes ≤ room → space s.consts ≤ 256 → Held room (lower_from m room is fault rest b index bytes s)
unfolding lower_from
held m room [] fault rest b index bytes s h k = record { bytes = h; words = k }
held m room (i ∷ is) fault rest b index bytes s h k =
    by_tests m room i b (past rest) (length bytes) s (λ by. Held room (by Ended (λ number. ended number index bytes s) on))
    (λ n z. record { bytes = h; words = k })
    (λ a.
    let f = a.fits in
    let n = length-append bytes new in
    let r = spaced m i s in
    held m room is fault (past rest) (passed (role i) s.real b) (suc index) (bytes ++ new) (rerun m i s).after (omega (arith, f, n)) (omega (arith, r, k)))
  where
    new : List ℕ
    new = encode_all (rerun m i s).records

    on : Ended
    on = lower_from m room is fault (past rest) (passed (role i) s.real b) (suc index) (bytes ++ new) (rerun m i s).after

held_sheet : (sheet : List ℕ) (room : ℕ) → (setup sheet).number ≡ 0 → Held room (lower_sheet sheet room)
unfolding lower_sheet
held_sheet sheet room e =
    let x = setup sheet in
    let rest = drop x.start sheet in
    let d = instructions x.count rest in
    let own = constants_of sheet x.count in
    let c = (right sheet e).few in
    let n = length_constants sheet x.count 0 in
    held x.mode room d.items d.fault rest none_standing 0 [] (start_state x.places own) (omega arith) (space_start own (omega (arith, c, n)))

pub record Within (listing : List ℕ) (a : LowerAnswer) : Type 0 where
  pub written : a.written ≤ length listing
  pub count : a.count ≤ 256

refused : (sheet listing constants origins : List ℕ) → wrong_setup sheet listing constants origins ≡ true → Within listing (answer sheet listing constants origins)
refused sheet listing constants origins w = record { written = simp w (omega arith); count = simp w (omega arith) }

answered : (sheet listing constants origins : List ℕ) → Within listing (answer sheet listing constants origins)
answered sheet listing constants origins =
    either (eqb (setup sheet).number 0)
    (λ e.
    let h = held_sheet sheet (length listing) (eqb-true _ _ e) in
    let k = h.words in
    either (wrong_setup sheet listing constants origins) (refused sheet listing constants origins)
    (λ w. record { written = simp w h.bytes; count = simp w (omega (arith, k)) }))
    (λ e. refused sheet listing constants origins (simp e))

pub within : (sheet listing constants origins : List ℕ) {a : LowerAnswer} → a ≡ answer sheet listing constants origins → Within listing a
within sheet listing constants origins e = subst (Within listing) (sym e) (answered sheet listing constants origins)
