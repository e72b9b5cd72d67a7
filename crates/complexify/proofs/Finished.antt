-- Lowering ends after some of the instructions with what `complexify` gives for these.
use Prim.Native.Nat.{ℕ, suc, ◌+◌, ◌≤◌}
use mathlib.Core.Path.{◌≡◌, refl, sym, ap, ◌∙◌}
use mathlib.Core.List.{List, [], ◌∷◌, ◌++◌, append_assoc, append-nil}
use native.Mathlib.Omega.{arith}
use lib.ListN.{length, take, drop, length-append}
use Rattle.mir.specs.declared.records.Instruction.{Instruction}
use Rattle.mir.specs.Encode.{encode_all}
use Rattle.records.proofs.Round.{encode_all_append}
use Rattle.sheet.specs.declared.setup.Mode.{Mode}
use Rattle.sheet.specs.Setup.{setup, constants_of}
use Rattle.sheet.specs.Instruction.{instructions}
use Rattle.lowering.specs.Complexifier.{State, Out, then, unlisted}
use Rattle.lowering.specs.Rerun.{rerun, complexify}
use Rattle.lowering.specs.Labels.{role, Standing, none_standing, passed}
use Rattle.lowering.specs.Lower.{Ended, ended, past, lower_from, start_state, lower_sheet, listed}
use Rattle.lowering.proofs.Tests.{by_tests}
use Rattle.complexify.specs.declared.entry.LowerAnswer.{LowerAnswer}
use Rattle.complexify.specs.Entry.{answer_of}

-- the first `count` are finished
pub record Finished (mode : Mode) (room : ℕ) (is : List Instruction) (index : ℕ) (bytes : List ℕ) (s : State) (e : Ended) : Type 0 where
  pub count : ℕ
  pub at : e.index ≡ index + count
  pub listing : e.bytes ≡ bytes ++ encode_all (complexify mode (take count is) s).records
  pub state : e.state ≡ (complexify mode (take count is) s).after
  pub fits : length e.bytes ≤ room
  pub all : e.number ≡ 0 → count ≡ length is

-- none is
none : (mode : Mode) (room : ℕ) (is : List Instruction) (index : ℕ) (bytes : List ℕ) (s : State) (n : ℕ) → length bytes ≤ room
    → (n ≡ 0 → 0 ≡ length is) → Finished mode room is index bytes s (ended n index bytes s)
unfolding complexify unlisted
none mode room is index bytes s n h a = record { count = 0; at = omega arith; listing = sym (append-nil bytes); state = refl; fits = h; all = a }

pub finished : (mode : Mode) (room : ℕ) (is : List Instruction) (fault : ℕ) (rest : List ℕ) (b : Standing) (index : ℕ) (bytes : List ℕ) (s : State)
    → length bytes ≤ room → Finished mode room is index bytes s (lower_from mode room is fault rest b index bytes s)
unfolding lower_from complexify then
finished mode room [] fault rest b index bytes s h = none mode room [] index bytes s fault h (λ e. refl)
finished mode room (i ∷ is) fault rest b index bytes s h =
    by_tests mode room i b (past rest) (length bytes) s
    (λ by. Finished mode room (i ∷ is) index bytes s (by Ended (λ number. ended number index bytes s) on))
    (λ n z. none mode room (i ∷ is) index bytes s n h (λ e. absurd (z e)))
    (λ a.
    let l = length-append bytes new in
    let f = a.fits in
    let w = finished mode room is fault (past rest) (passed (role i) s.real b) (suc index) (bytes ++ new) o.after (omega (arith, l, f)) in
    record {
      count = suc w.count;
      at = w.at ∙ omega arith;
      listing =
          w.listing ∙ append_assoc bytes new (encode_all (complexify mode (take w.count is) o.after).records)
          ∙ ap (λ (l : List ℕ). bytes ++ l) (sym (encode_all_append o.records (complexify mode (take w.count is) o.after).records));
      state = w.state;
      fits = w.fits;
      all = λ e. ap suc (w.all e);
    })
  where
    o : Out
    o = rerun mode i s

    new : List ℕ
    new = encode_all o.records

    on : Ended
    on = lower_from mode room is fault (past rest) (passed (role i) s.real b) (suc index) (bytes ++ new) o.after

-- the answer where the setup is right
abbrev pub right_answer : List ℕ → ℕ → LowerAnswer
right_answer sheet room = let e = lower_sheet sheet room in answer_of (listed sheet e.index) e

-- a sheet's lowering, after as many instructions as its index says
module _ (sheet : List ℕ) (room : ℕ) where
  pub ends :
      let u = setup sheet in
      Finished u.mode room (instructions u.count (drop u.start sheet)).items 0 [] (start_state u.places (constants_of sheet u.count))
      (lower_sheet sheet room)
  unfolding lower_sheet
  ends =
      let u = setup sheet in
      let rest = drop u.start sheet in
      let d = instructions u.count rest in
      finished u.mode room d.items d.fault rest none_standing 0 [] (start_state u.places (constants_of sheet u.count)) (omega arith)

  pub counted : ends.count ≡ (lower_sheet sheet room).index
  counted = let e = ends.at in omega (arith, e)

  -- its bytes are those of the records that these list
  pub listed-bytes : (lower_sheet sheet room).bytes ≡ encode_all (listed sheet (lower_sheet sheet room).index)
  unfolding listed
  listed-bytes = ends.listing ∙ ap (λ n. encode_all (listed sheet n)) counted
