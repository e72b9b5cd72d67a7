-- Demand 3 of what the two entries do: of every call of `lower` that answers 0, with nothing but what it left, played as `play` promises.
use Rattle.std.specs.Prelude.{ℕ, ◌≤◌, ◌≡◌, List, length, take}
use Rattle.std.proofs.Math.Option.{some}
use Rattle.player_machine.specs.Machine.{Store}
use Rattle.complexify.specs.Entry.{answer, listing_after, constants_after}
use Rattle.leftovers.specs.Leftovers.{Alike, Lowered, sheet_of, real_at, standing, Claim}

-- what `lower` leaves when these slices are lent: the listing's bytes written, the constants counted and the realness answered
abbrev pub left : List ℕ → List ℕ → List ℕ → List ℕ → Lowered
left sheet listing constants origins =
    let a = answer sheet listing constants origins in
    record {
      sheet = sheet_of sheet;
      listing = take a.written (listing_after sheet listing constants origins);
      constants = take a.count (constants_after sheet listing constants origins);
      last = a.real;
    }

-- "Take any accepted sheet and play its listing, with its constants, from record 0 on any store whatever", σ₀: `lower` answers 0, and the
-- play of what it left stands at point i with σ; τ is σ changed at will.
pub record Given (sheet listing constants origins : List ℕ) (σ₀ : Store) (i : ℕ) (σ τ : Store) : Type 0 where
  pub accepted : (answer sheet listing constants origins).number ≡ 0
  pub words : length σ₀ ≡ 1602
  pub upper : i ≤ length (sheet_of sheet).instructions
  pub stands : standing (left sheet listing constants origins) 0 σ₀ i ≡ some σ
  pub changed : Alike (real_at (sheet_of sheet) i) σ τ

-- "one claim about a whole play, for every sheet, store, point and change together", and for every slice lent (theorem `demand3`)
abbrev pub EntriesDemand3 : Type 0
EntriesDemand3 =
    (sheet listing constants origins : List ℕ) (σ₀ : Store) (i : ℕ) (σ τ : Store)
    → Given sheet listing constants origins σ₀ i σ τ → Claim (left sheet listing constants origins) σ₀ i σ τ
