-- What is known of a sheet whose setup is right.
use Prim.Native.Nat.{ℕ, zero, suc, ◌+◌, ◌*◌, ◌≤◌}
use mathlib.Core.Path.{◌≡◌, refl, sym, ap, ◌∙◌}
use mathlib.Core.List.{List}
use native.Mathlib.Omega.{arith}
use lib.ListN.{length, take, drop, length-take, length-drop}
use Rattle.std.specs.Prelude.{Ok, Err, Result}
use Rattle.mir.specs.declared.refusal.Refusal.{Refusal}
use Rattle.mir.specs.Refusal.{number}
use Rattle.mir.specs.Read.{Read, got, refused}
use Rattle.sheet.specs.declared.setup.Mode.{Mode}
use Rattle.sheet.specs.declared.setup.Setup as Code
use Rattle.sheet.specs.Setup.{Setup, header_from, constants_from, constants_from_on, setup_with, setup_from, setup, as_setup}
use Rattle.sheet.proofs.Heading.{Headed, headed}
use Rattle.sheet.proofs.Counting.{few}

pub record Right (s : List ℕ) (u : Setup) : Type 0 where
  pub few : u.count ≤ 251
  pub start : u.start ≡ 69 + 12 * u.count
  pub inside : u.start ≤ length s
  pub places : length u.places ≡ 64

by_count : (s : List ℕ) (mode : Mode) (y : Read ℕ) → Headed s → constants_from 251 (drop 69 s) ≡ y → (setup_with s mode y).number ≡ 0
    → Right s (setup_with s mode y)
by_count s mode (got n) h e z =
    let f = few 251 (drop 69 s) n e in
    let d = length-drop 69 s in
    let g = length-drop 5 s in
    let p : length (take 64 (drop 5 s)) ≡ 64 = simp length-take (omega (arith, h.least)) in
    record {
      few = f.most;
      start = refl;
      inside = omega (arith, f.fits, h.least);
      places = p;
    }
by_count s mode (refused n) h e z = absurd (omega arith)

by-header : (s : List ℕ) (x : Read Mode) → header_from s ≡ x → (setup_from s x).number ≡ 0 → Right s (setup_from s x)
by-header s (got mode) e z = by_count s mode (constants_from 251 (drop 69 s)) (headed s mode e) refl z
by-header s (refused n) e z = absurd (omega arith)

pub right : (s : List ℕ) → (setup s).number ≡ 0 → Right s (setup s)
unfolding setup
right s z = by-header s (header_from s) refl z

-- as many constants as were counted
pub length_constants : (s : List ℕ) (n i : ℕ) → length (constants_from_on s n i) ≡ n
length_constants s zero i = refl
length_constants s (suc n) i = ap suc (length_constants s n (suc i))

-- as the code answers: no refusal has the number 0
numbered : (e : Refusal) → number e ≡ 0 → ⊥
numbered Refusal.TornRecord h = omega arith
numbered Refusal.UnknownWork h = omega arith
numbered Refusal.BadRegister h = omega arith
numbered Refusal.BadPlace h = omega arith
numbered Refusal.MissingConstant h = omega arith
numbered Refusal.BarredOperand h = omega arith
numbered Refusal.ListingFull h = omega arith
numbered Refusal.WrongSetup h = omega arith
numbered Refusal.StrayJump h = omega arith
numbered Refusal.MisplacedLabel h = omega arith
numbered Refusal.UnequalRecords h = omega arith
numbered Refusal.SheetTooLong h = omega arith

module _ (s : List ℕ) {r : Result Code.Setup Refusal} (e : as_setup r ≡ setup s) where
  pub set-up : {u : Code.Setup} → r ≡ Ok u → as_setup (Ok u) ≡ setup s
  set-up f = sym (ap as_setup f) ∙ e

  pub unset : {k : Refusal} → r ≡ Err k → (as_setup r).number ≡ 0 → ⊥
  unset {k} f h = numbered k (sym (ap (λ r. (as_setup r).number) f) ∙ h)
