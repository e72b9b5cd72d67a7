-- What the ending of a play must have in common with the ending of another (demand 3), said positively.
use Rattle.std.specs.Prelude.{ℕ, suc, ◌<◌, ◌≡◌, false, ◌⊎◌}
use Rattle.mir.specs.declared.records.Loc.{Loc}
use Rattle.mir.specs.Register.{re, im}
use Rattle.mir.specs.Place.{index}
use Rattle.player_machine.specs.Machine.{place}
use Rattle.lowering.specs.declared.realness.Realness.{Realness}
use Rattle.lowering.specs.Realness.{is_real_reg, is_real_loc}

-- "the same real halves, the same imaginary halves of registers recorded as complex, and the same words in every place, save imaginary
-- words of places still recorded as real"
pub data Kept (ρ : Realness) : ℕ → Type 0 where
  kept_re : (r : ℕ) → r < 32 → Kept ρ (re r)
  kept_im : (r : ℕ) → r < 32 → is_real_reg ρ r ≡ false → Kept ρ (im r)
  kept_word : (p : Loc) → index p < 256 → Kept ρ (place p)
  kept_next : (p : Loc) → index p < 256 → is_real_loc ρ.places p ≡ false → Kept ρ (suc (place p))

-- every word of the store is the one or the other, and none is both (theorem `parted`, of kept words and leftovers)
pub record Parted (One Other : ℕ → Type 0) : Type 0 where
  pub each : (w : ℕ) → w < 1602 → One w ⊎ Other w
  pub not_both : (w : ℕ) → One w → Other w → ⊥
  pub within : (w : ℕ) → One w ⊎ Other w → w < 1602
