-- From a sheet's setup to its first instruction.
use Prim.Native.Nat.{ℕ, ◌≤◌}
use mathlib.Core.Path.{◌≡◌, refl, sym, ap, ◌∙◌}
use mathlib.Core.Bool.{Bool, true, false}
use mathlib.Core.List.{List, []}
use native.Mathlib.Omega.{arith}
use borrow.Author.Tests.{eq-eqb, ne_eqb}
use lib.ListN.{length, take, drop, replicate, length-replicate}
use lib.Seq.{sets, length-sets}
use Rattle.sheet.specs.Setup.{Setup, setup, constants_of}
use Rattle.sheet.specs.Instruction.{instructions}
use Rattle.sheet.proofs.Setting.{length_constants}
use Rattle.lowering.specs.Realness.{fresh}
use Rattle.lowering.specs.Labels.{none_standing}
use Rattle.complexifier.specs.declared.state.Complexifier.{Complexifier}
use Rattle.words.specs.Bytes.{stored}
use Rattle.words.proofs.Stored.{stored_fits}
use Rattle.complexify.proofs.Copies.{taken_first}
use Rattle.complexify.proofs.Grown.{space_start}
use Rattle.sheet.proofs.Setting.{Right, right}
use Rattle.figures.specs.declared.turn.CountCursor.{CountCursor}
use Rattle.figures.specs.Shelf.{refusal, nothing, shelf_from, shelf}
use Rattle.figures.specs.Taken.{CountReady, left}

-- the table before the sheet's constants
abbrev zeros : List ℕ
zeros = replicate 256 0

module _ (sheet : List ℕ) (x : Setup) (e : x ≡ setup sheet) where
  pub wrong : (x.number ≡ 0 → ⊥) → shelf sheet ≡ refusal 8 0
  unfolding shelf
  wrong n = simp (← e, ne_eqb _ _ n)

  module _ (n : x.number ≡ 0) where
    known : Right sheet (setup sheet)
    known = right sheet (ap (λ x. x.number) (sym e) ∙ n)

    own-few : x.count ≤ 251
    own-few = let k = known.few in let f = ap (λ x. x.count) e in omega (arith, k, f)

    own-length : length (constants_of sheet x.count) ≡ x.count
    own-length = length_constants sheet x.count 0

    pub placed : {k : List ℕ} → k ≡ stored zeros 0 (constants_of sheet x.count) → k ≡ sets zeros 0 (constants_of sheet x.count)
    placed h =
        let l = length-replicate {A = ℕ} 256 0 in
        h ∙ stored_fits zeros 0 (constants_of sheet x.count) (omega (arith, l, own-few, own-length))

    abbrev start : Complexifier → CountCursor
    start low = record { at = x.start; index = 0; constants = x.count; low = low; taken = nothing }

    first : {k : List ℕ} → k ≡ sets zeros 0 (constants_of sheet x.count) → take x.count k ≡ constants_of sheet x.count
    first h =
        let l = length-replicate {A = ℕ} 256 0 in
        ap (take x.count) h ∙ taken_first zeros (constants_of sheet x.count) x.count own-length (omega (arith, own-few, l))

    pub begin-ready : {g k : List ℕ} {low : Complexifier} → length g ≡ 704 → k ≡ sets zeros 0 (constants_of sheet x.count) → CountReady g k (start low)
    begin-ready {g} {k} l h =
        record {
          stage = l;
          words = ap length h ∙ length-sets zeros 0 (constants_of sheet x.count) ∙ length-replicate {A = ℕ} 256 0;
          count = omega (arith, own-few);
          space = space_start (take x.count k) (let z = ap length (first h) ∙ own-length in omega (arith, own-few, z));
          taken = record { bytes = omega arith; records = omega arith; calls = omega arith; block = omega arith; branches = omega arith };
        }

    pub whole : {k : List ℕ} {low : Complexifier} → k ≡ sets zeros 0 (constants_of sheet x.count)
        → low ≡ record { real = fresh x.places; root_defined = false }
        → left x.mode x.count sheet none_standing k (start low) ≡ shelf sheet
    unfolding shelf
    whole {k} {low} h l =
        ap (λ low. left x.mode x.count sheet none_standing k (start low)) l
        ∙ ap
        (λ k.
        let rest = drop x.start sheet in
        let d = instructions x.count rest in
        shelf_from x.mode d.items d.fault rest none_standing 0 nothing (record { real = fresh x.places; is_root_defined = false; consts = k }))
        (first h)
        ∙ ap
        (λ y.
        let rest = drop y.start sheet in
        let d = instructions y.count rest in
        shelf_from y.mode d.items d.fault rest none_standing 0 nothing
        (record { real = fresh y.places; is_root_defined = false; consts = constants_of sheet y.count }))
        e
        ∙ sym (rw (eq-eqb (setup sheet).number 0 (ap (λ x. x.number) (sym e) ∙ n)) refl)
