-- What the entry `lower` leaves is what `Leftovers` calls lowered.
use Prim.Native.Nat.{ℕ, ◌≤◌}
use mathlib.Core.Path.{◌≡◌, refl, ap, ◌∙◌}
use mathlib.Core.Bool.{Bool, true, false, cond, not, ◌||◌}
use mathlib.Core.List.{List}
use native.Mathlib.Omega.{arith}
use lib.ListN.{length, take}
use lib.Seq.{sets}
use lib.Dec.{ltb, eqb}
use borrow.Author.Tests.{ltb-false, eqb-true, not-false, le-ltb}
use Rattle.mir.proofs.Passing.{or_left, or_right}
use Rattle.sheet.specs.Setup.{setup}
use Rattle.lowering.specs.Lower.{lower_sheet}
use Rattle.complexify.specs.Entry.{wrong_setup, refused_setup, answer}
use Rattle.complexify.proofs.Copies.{taken_first}
use Rattle.complexify.proofs.Finished.{right_answer}
use Rattle.leftovers.specs.Leftovers.{sheet_of, Accepted, lowered}
use Rattle.entries.specs.Entries.{left}
use Rattle.leftovers.proofs.Sheets.{sound, table}

-- what `lower` leaves, part by part
pub record Left (sheet listing constants origins : List ℕ) : Type 0 where
  pub accepted : Accepted sheet (length listing)
  pub bytes : (left sheet listing constants origins).listing ≡ (lowered sheet (length listing)).listing
  pub words : (left sheet listing constants origins).constants ≡ (lowered sheet (length listing)).constants
  pub last : (left sheet listing constants origins).last ≡ (lowered sheet (length listing)).last

-- no test of a setup holds
pub record Rightly (sheet listing constants origins : List ℕ) : Type 0 where
  pub right : (setup sheet).number ≡ 0
  pub slice : length listing ≤ 65536
  pub words : length constants ≡ 256
  pub names : length origins ≡ 256

pub rightly : (sheet listing constants origins : List ℕ) → wrong_setup sheet listing constants origins ≡ false → Rightly sheet listing constants origins
rightly sheet listing constants origins w =
    let a = not (eqb (setup sheet).number 0) in
    let b = ltb 65536 (length listing) in
    let c = not (eqb (length constants) 256) in
    let d = not (eqb (length origins) 256) in
    let x = or_right a (b || (c || d)) w in
    let y = or_right b (c || d) x in
    record {
      right = eqb-true _ _ (not-false _ (or_left a (b || (c || d)) w));
      slice = ltb-false _ _ (or_left b (c || d) x);
      words = eqb-true _ _ (not-false _ (or_left c d y));
      names = eqb-true _ _ (not-false _ (or_right c d y));
    }

module _ (sheet listing constants origins : List ℕ) where
  abbrev room : ℕ
  room = length listing

  accepts : (b : Bool) → wrong_setup sheet listing constants origins ≡ b → (cond b refused_setup (right_answer sheet room)).number ≡ 0
      → Left sheet listing constants origins
  accepts true w e = absurd (omega arith)
  accepts false w e =
      let n = rightly sheet listing constants origins w in
      let a : Accepted sheet room = record { right = n.right; slice = n.slice; number = e } in
      let o = lower_sheet sheet room in
      let c = n.words in
      let s = sound sheet room a in
      let t = table (sheet_of sheet) s.in-range s.few in
      record {
        accepted = a;
        bytes =
            ap (λ b. take (cond b refused_setup (right_answer sheet room)).written (cond b listing (sets listing 0 o.bytes))) w
            ∙ taken_first listing o.bytes _ refl s.within;
        words =
            ap (λ b. take (cond b refused_setup (right_answer sheet room)).count (cond b constants (sets constants 0 o.state.consts))) w
            ∙ taken_first constants o.state.consts _ refl (omega (arith, c, t, ap (λ l. length l.constants) s.same));
        last = ap (λ b. (cond b refused_setup (right_answer sheet room)).real) w;
      }

pub entered : (sheet listing constants origins : List ℕ) → (answer sheet listing constants origins).number ≡ 0 → Left sheet listing constants origins
entered sheet listing constants origins e = accepts sheet listing constants origins (wrong_setup sheet listing constants origins) refl e

-- and what lowering accepts, the entry does
accepts_setup : (n r c o : ℕ) → n ≡ 0 → r ≤ 65536 → c ≡ 256 → o ≡ 256
    → (not (eqb n 0) || (ltb 65536 r || (not (eqb c 256) || not (eqb o 256)))) ≡ false
accepts_setup n r c o e h f g = rw (e, le-ltb 65536 r h, f, g)

pub answered : (sheet listing constants origins : List ℕ) → Accepted sheet (length listing) → length constants ≡ 256 → length origins ≡ 256
    → (answer sheet listing constants origins).number ≡ 0
answered sheet listing constants origins a c o =
    ap (λ b. (cond b refused_setup (right_answer sheet (length listing))).number)
    (accepts_setup (setup sheet).number (length listing) (length constants) (length origins) a.right a.slice c o)
    ∙ a.number
