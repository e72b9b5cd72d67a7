-- Playing a sheet's listing computes what the sheet means.
use Rattle.std.specs.Prelude.{ℕ, suc, ◌<◌, ◌≡◌, Bool, true, false, List, length}
use Rattle.std.proofs.Math.Option.{Option, some}
use Rattle.mir.specs.declared.records.Loc.{Loc}
use Rattle.mir.specs.Register.{re, im}
use Rattle.mir.specs.Place.{index}
use Rattle.player_machine.specs.Machine.{Store, at, place, going}
use Rattle.lowering.specs.declared.realness.Realness.{Realness}
use Rattle.lowering.specs.Realness.{is_real_reg, is_real_loc}
use Rattle.complexify.specs.Entry.{answer}
use Rattle.leftovers.specs.Leftovers.{Sheet, Lowered, real_at, play_on, standing}
use Rattle.entries.specs.Entries.{left}
use Rattle.meaning.specs.Value.{Value, R, C}
use Rattle.meaning.specs.Means.{Values, stands}

-- Two words as a value: one that is recorded as real has its real half alone. So what is recorded is the kind of the value.
abbrev pub value_of : Bool → ℕ → ℕ → Value
value_of true x y = R x
value_of false x y = C x y

-- the values whose words a store holds
abbrev pub values_of : Realness → Store → Values
values_of ρ σ =
    record {
      reg = λ r. value_of (is_real_reg ρ r) (at σ (re r)) (at σ (im r));
      place = λ p. value_of (is_real_loc ρ.places p) (at σ (place p)) (at σ (suc (place p)));
    }

-- A store holds the words of the registers below n and of the places in P, and what is recorded is whether they are real.
pub record Holds (n : ℕ) (P : Loc → Type 0) (X : Values) (ρ : Realness) (σ : Store) : Type 0 where
  pub regs : (r : ℕ) → r < n → (values_of ρ σ).reg r ≡ X.reg r
  pub places : (p : Loc) → P p → (values_of ρ σ).place p ≡ X.place p

-- every place
abbrev pub Every : Loc → Type 0
Every p = index p < 256

-- The values with which a sheet, begun with a store, stands before instruction j; h are the words that Halves lose. At the start every
-- value is the store's, by what the header says of it.
abbrev pub meaning : Sheet → (ℕ → ℕ) → Store → ℕ → Option Values
meaning s h σ₀ j = stands s.mode s.constants h going j s.instructions (values_of (real_at s 0) σ₀)

-- the play from record 0 stands at point j too, and holds the values
pub record StandsWith (n : ℕ) (P : Loc → Type 0) (l : Lowered) (σ₀ : Store) (j : ℕ) (X : Values) : Type 0 where
  pub store : Store
  pub reached : standing l 0 σ₀ j ≡ some store
  pub holds : Holds n P X (real_at l.sheet j) store

-- Wherever the sheet stands, the play of its listing stands, with the words of every register and place; so does it end.
pub record Preserves (l : Lowered) (σ₀ : Store) : Type 0 where
  -- what each Half of a real register into a complex one takes for an imaginary half: the one word that the meaning leaves open, and in mode
  -- 2 none is
  pub lost : ℕ → ℕ
  pub points : (j : ℕ) (X : Values) → meaning l.sheet lost σ₀ j ≡ some X → StandsWith 32 Every l σ₀ j X
  pub last : Values
  pub ends : meaning l.sheet lost σ₀ (length l.sheet.instructions) ≡ some last
  pub ending : Holds 32 Every last l.last (play_on l 0 σ₀).store

-- for every call of `lower` that answers 0 and every store on which `play` plays what it left (theorem `preserved`)
abbrev pub Preserved : Type 0
Preserved =
    (sheet listing constants origins : List ℕ) (σ₀ : Store) → (answer sheet listing constants origins).number ≡ 0 → length σ₀ ≡ 1602
    → Preserves (left sheet listing constants origins) σ₀
