-- Seeking a label: records among which it does not stand are passed over.
use Prim.Native.Nat.{ℕ, ◌+◌}
use mathlib.Core.Path.{◌≡◌, refl, sym, subst}
use mathlib.Core.Bool.{false}
use mathlib.Core.List.{List, [], ◌∷◌, ◌++◌}
use mathlib.Core.Option.{Option, none, some}
use native.Mathlib.Nat.{suc-add, zero-add}
use lib.ListN.{length}
use Rattle.mir.specs.declared.records.Work.{Work}
use Rattle.mir.specs.declared.records.Record.{Record}
use Rattle.player_machine.specs.Machine.{Store, is_label, seeking, play, reach}

-- Label l is none of the records
abbrev pub Without : ℕ → List Record → Type 0
Without l [] = Unit {0}
Without l (r ∷ rs) = (is_label l r ≡ false) × Without l rs

module _ (k : List ℕ) (B : List Work) (l : ℕ) where
  pub seek-play : (rs rest : List Record) (σ : Store) → Without l rs → play k B (seeking l) (rs ++ rest) σ ≡ play k B (seeking l) rest σ
  unfolding play is_label
  seek-play [] rest σ w = refl
  seek-play (Record.Work x ∷ rs) rest σ w = seek-play rs rest σ w.1
  seek-play (Record.Label n ∷ rs) rest σ w = rw w.0 (seek-play rs rest σ w.1)
  seek-play (Record.Branch n ∷ rs) rest σ w = seek-play rs rest σ w.1
  seek-play (Record.Call n ∷ rs) rest σ w = seek-play rs rest σ w.1
  seek-play (Record.BranchIf c n e ∷ rs) rest σ w = seek-play rs rest σ w.1

  pub seek-reach : (rs : List Record) (j : ℕ) (rest : List Record) (σ : Store) → Without l rs
      → reach k B (seeking l) (length rs + j) (rs ++ rest) σ ≡ reach k B (seeking l) j rest σ
  unfolding reach is_label
  seek-reach [] j rest σ w = rw zero-add
  seek-reach (Record.Work x ∷ rs) j rest σ w = rw suc-add (seek-reach rs j rest σ w.1)
  seek-reach (Record.Label n ∷ rs) j rest σ w = rw (suc-add, w.0) (seek-reach rs j rest σ w.1)
  seek-reach (Record.Branch n ∷ rs) j rest σ w = rw suc-add (seek-reach rs j rest σ w.1)
  seek-reach (Record.Call n ∷ rs) j rest σ w = rw suc-add (seek-reach rs j rest σ w.1)
  seek-reach (Record.BranchIf c n e ∷ rs) j rest σ w = rw suc-add (seek-reach rs j rest σ w.1)

-- ---- a play stands somewhere, or it does not

is_some : Option Store → Type 0
is_some none = ⊥
is_some (some σ) = Unit {0}

pub none≢some : {σ : Store} → none ≡ some σ → ⊥
unfolding is_some
none≢some e = subst is_some (sym e) tt

pub some_inj : {A : Type 0} {x y : A} → some x ≡ some y → x ≡ y
some_inj e = cc
