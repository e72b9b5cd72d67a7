-- Seeking a Label is going on from the first such Label.
use Prim.Native.Nat.{ℕ}
use mathlib.Core.Path.{◌≡◌, refl}
use mathlib.Core.Bool.{Bool, true, false}
use mathlib.Core.List.{List, [], ◌∷◌}
use lib.Dec.{eqb}
use Rattle.mir.specs.declared.records.Work.{Work}
use Rattle.mir.specs.declared.records.Record.{Record}
use Rattle.player_machine.specs.Machine.{Store, is_label, seek, Way, going, seeking, play}

module _ (constants : List ℕ) (b : List Work) (l : ℕ) where
  seek-at : (m : ℕ) (rs : List Record) (σ : Store) (x : Bool) → eqb m l ≡ x
      → play constants b (seeking l) rs σ ≡ play constants b going (seek l rs) σ
      → play constants b (seeking l) (Record.Label m ∷ rs) σ ≡ play constants b going (seek l (Record.Label m ∷ rs)) σ
  unfolding play seek is_label
  seek-at m rs σ true e h = simp e
  seek-at m rs σ false e h = simp e h

  pub seek-play : (rs : List Record) (σ : Store) → play constants b (seeking l) rs σ ≡ play constants b going (seek l rs) σ
  unfolding play seek is_label
  seek-play [] σ = refl
  seek-play (Record.Work w ∷ rs) σ = seek-play rs σ
  seek-play (Record.Label m ∷ rs) σ = seek-at m rs σ (eqb m l) refl (seek-play rs σ)
  seek-play (Record.Branch m ∷ rs) σ = seek-play rs σ
  seek-play (Record.Call m ∷ rs) σ = seek-play rs σ
  seek-play (Record.BranchIf c m e ∷ rs) σ = seek-play rs σ
