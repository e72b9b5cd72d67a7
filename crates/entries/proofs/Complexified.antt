-- Demand 2 of the entry `lower`, from what lowering ends with and what a listing is read as.
use Prim.Native.Nat.{ℕ, ◌≤◌}
use mathlib.Core.Path.{◌≡◌, refl, sym, ap, ap₂, ◌∙◌, subst}
use mathlib.Core.Bool.{Bool, true, false, cond, not}
use mathlib.Core.List.{List}
use native.Mathlib.Omega.{arith}
use lib.ListN.{length, take}
use lib.Seq.{sets, take-length}
use lib.Dec.{ltb, eqb}
use borrow.Author.Tests.{eqb-true, not-false}
use Rattle.mir.specs.Encode.{encode_all}
use Rattle.sheet.specs.Setup.{setup}
use Rattle.sheet.proofs.Setting.{right, length_constants}
use Rattle.records.specs.Record.{records}
use Rattle.lowering.specs.Rerun.{complexify}
use Rattle.lowering.specs.Lower.{start_state, lower_sheet}
use Rattle.complexify.specs.Entry.{wrong_setup, refused_setup, answer}
use Rattle.complexify.proofs.Copies.{taken_first}
use Rattle.complexify.proofs.Finished.{right_answer, ends, counted}
use Rattle.leftovers.specs.Leftovers.{sheet_of, up_to}
use Rattle.leftovers.proofs.Constants.{grown_few}
use Rattle.leftovers.proofs.Listing.{grows}
use Rattle.leftovers.proofs.Sheets.{sound, read_back}
use Rattle.entries.specs.Entries.{left}
use Rattle.entries.specs.Complexified.{Listed, All, Complexified}
use Rattle.entries.proofs.Entered.{rightly, entered}

module _ (sheet listing constants origins : List ℕ) where
  abbrev room : ℕ
  room = length listing

  few : (setup sheet).number ≡ 0 → (n : ℕ) → length (up_to (sheet_of sheet) n).after.consts ≤ 256
  few h n =
      let s = sheet_of sheet in
      let g = grown_few (grows s.mode (take n s.instructions) (start_state s.places s.constants)) in
      let c = length_constants sheet (setup sheet).count 0 in
      omega (arith, g, c, (right sheet h).few)

  listed : wrong_setup sheet listing constants origins ≡ false → Listed sheet listing constants origins (answer sheet listing constants origins).index
  listed w =
      let o = lower_sheet sheet room in
      let n = rightly sheet listing constants origins w in
      let c = n.words in
      let state = (ends sheet room).state ∙ ap (λ k. (up_to (sheet_of sheet) k).after) (counted sheet room) in
      let f = few n.right o.index in
      let at : o.index ≡ (answer sheet listing constants origins).index = sym (ap (λ b. (cond b refused_setup (right_answer sheet room)).index) w) in
      subst (λ k. Listed sheet listing constants origins k) at
      (record {
        bytes =
            ap (λ b. take (cond b refused_setup (right_answer sheet room)).written (cond b listing (sets listing 0 o.bytes))) w
            ∙ taken_first listing o.bytes _ refl (ends sheet room).fits
            ∙ (ends sheet room).listing
            ∙ ap (λ k. encode_all (up_to (sheet_of sheet) k).records) (counted sheet room);
        words =
            ap (λ b. take (cond b refused_setup (right_answer sheet room)).count (cond b constants (sets constants 0 o.state.consts))) w
            ∙ taken_first constants o.state.consts _ refl (omega (arith, c, f, ap (λ s. length s.consts) state))
            ∙ ap (λ s. s.consts) state;
        real = ap (λ b. (cond b refused_setup (right_answer sheet room)).real) w ∙ ap (λ s. s.real) state;
      })

  -- all of them, where no number is given
  all : wrong_setup sheet listing constants origins ≡ false → (answer sheet listing constants origins).number ≡ 0
      → All sheet listing constants origins (answer sheet listing constants origins).index
  all w e =
      let s = sheet_of sheet in
      let o = lower_sheet sheet room in
      let is : answer sheet listing constants origins ≡ right_answer sheet room = ap (λ b. cond b refused_setup (right_answer sheet room)) w in
      let l = listed w in
      let n : (answer sheet listing constants origins).index ≡ length s.instructions = ap (λ a. a.index) is ∙ sym (counted sheet room) ∙ (ends sheet room).all (sym (ap (λ a. a.number) is) ∙ e) in
      let every : take (answer sheet listing constants origins).index s.instructions ≡ s.instructions =
      ap (λ k. take k s.instructions) n ∙ take-length s.instructions in
      let a = sound sheet room (entered sheet listing constants origins e).accepted in
      record {
        count = n;
        read =
            ap₂ (λ k b. records (length k) b) l.words l.bytes
            ∙ subst
            (λ i.
            let x = complexify s.mode i (start_state s.places s.constants) in
            records (length x.after.consts) (encode_all x.records) ≡ record { items = x.records; fault = 0 })
            (sym every) (read_back s a.in-range a.few);
      }

pub complexified : Complexified
complexified sheet listing constants origins h = go (wrong_setup sheet listing constants origins) refl
  where
    go : (b : Bool) → wrong_setup sheet listing constants origins ≡ b
        → Listed sheet listing constants origins (answer sheet listing constants origins).index
        × ((answer sheet listing constants origins).number ≡ 0 → All sheet listing constants origins (answer sheet listing constants origins).index)
    go true w = absurd (h (ap (λ b. (cond b refused_setup (right_answer sheet (length listing))).number) w))
    go false w = (listed sheet listing constants origins w, all sheet listing constants origins w)
