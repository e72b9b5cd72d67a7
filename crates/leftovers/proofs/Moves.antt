-- What the records of one instruction do to a play, on whichever way it comes: going, or seeking a label of the sheet's own.
use Prim.Native.Nat.{ℕ, ◌+◌, ◌<◌}
use mathlib.Core.Path.{◌≡◌, refl, sym, ap, ◌∙◌}
use mathlib.Core.Bool.{Bool, true, false, cond}
use mathlib.Core.Logic.{inl}
use mathlib.Core.List.{List, [], ◌∷◌, ◌++◌}
use native.Mathlib.Nat.{zero-add, suc-add}
use native.Mathlib.Omega.{arith}
use borrow.Author.Tests.{ne_eqb}
use lib.ListN.{length}
use lib.Dec.{eqb}
use Rattle.mir.specs.declared.records.Work.{Work}
use Rattle.mir.specs.declared.records.Record.{Record}
use Rattle.player_machine.specs.Machine.{Store, at, branches, End, ticks, Way, going, seeking, play, reach}
use Rattle.lowering.specs.declared.realness.Realness.{Realness}
use Rattle.leftovers.proofs.Names.{Frame}
use Rattle.leftovers.proofs.Stretch.{Safe}
use Rattle.leftovers.proofs.Sought.{Without, seek-play, seek-reach}

-- seeking, the label is one of the sheet's own
abbrev pub OwnWay : Way → Type 0
OwnWay going = Unit {0}
OwnWay (seeking l) = 2 < l

-- Records rs, played on a way from a store: the way on which the play goes on behind them, the store then, and the records reached.
pub record Moves (k : List ℕ) (b : List Work) (X Z : ℕ → Type 0) (rs : List Record) : Type 0 where
  pub W : Way → Store → Way
  pub F : Way → Store → Store
  pub n : Way → Store → ℕ
  pub own : (way : Way) (σ : Store) → OwnWay way → OwnWay (W way σ)
  pub plays : (way : Way) → OwnWay way → (rest : List Record) (σ : Store)
      → play k b way (rs ++ rest) σ ≡ ticks (n way σ) (play k b (W way σ) rest (F way σ))
  pub stands : (way : Way) → OwnWay way → (j : ℕ) (rest : List Record) (σ : Store)
      → reach k b way (length rs + j) (rs ++ rest) σ ≡ reach k b (W way σ) j rest (F way σ)
  pub frame : (σ : Store) → Frame X Z σ (F going σ)

pub no_ticks : (e : End) → e ≡ ticks 0 e
unfolding ticks
no_ticks e = λ i. record { store = e.store; played = sym (zero-add e.played) i }

-- a pair that is not touched is spared
pub untouched : (X Z : ℕ → Type 0) (σ : Store) → Frame X Z σ σ
untouched X Z σ r h x = (refl, inl refl)

-- by the way
abbrev pub on_way : {A : Type 0} → A → A → Way → A
on_way a b going = a
on_way a b (seeking l) = b

module _ (k : List ℕ) (B : List Work) (X Z : ℕ → Type 0) where
  -- a stretch without the sheet's own labels is played, or passed over
  unfoldable pub working : {H : Type 0} {ρ ρ' : Realness} {rs : List Record} → Safe k B X Z H ρ rs ρ' → ((l : ℕ) → 2 < l → Without l rs) → Moves k B X Z rs
  working {rs} s w = record {
    W = λ way σ. way;
    F = λ way σ. on_way (s.F σ) σ way;
    n = λ way σ. on_way s.n 0 way;
    own = λ way σ o. o;
    plays = by-play;
    stands = by-reach;
    frame = s.frame;
  }
    where
      by-play : (way : Way) → OwnWay way → (rest : List Record) (σ : Store)
          → play k B way (rs ++ rest) σ ≡ ticks (on_way s.n 0 way) (play k B way rest (on_way (s.F σ) σ way))
      by-play going o rest σ = s.plays rest σ
      by-play (seeking l) o rest σ = seek-play k B l rs rest σ (w l o) ∙ no_ticks (play k B (seeking l) rest σ)

      by-reach : (way : Way) → OwnWay way → (j : ℕ) (rest : List Record) (σ : Store)
          → reach k B way (length rs + j) (rs ++ rest) σ ≡ reach k B way j rest (on_way (s.F σ) σ way)
      by-reach going o j rest σ = s.stands j rest σ
      by-reach (seeking l) o j rest σ = seek-reach k B l rs j rest σ (w l o)

  -- ---- Label

  abbrev pub at_label : ℕ → Way → Way
  at_label m going = going
  at_label m (seeking l) = cond (eqb m l) going (seeking l)

  abbrev pub label_ticks : ℕ → Way → ℕ
  label_ticks m going = 1
  label_ticks m (seeking l) = cond (eqb m l) 1 0

  pub label-own : (m l : ℕ) → 2 < l → (q : Bool) → OwnWay (cond q going (seeking l))
  label-own m l o true = tt
  label-own m l o false = o

  pub label-plays : (m l : ℕ) (rest : List Record) (σ : Store) (q : Bool)
      → cond q (ticks 1 (play k B going rest σ)) (play k B (seeking l) rest σ) ≡ ticks (cond q 1 0) (play k B (cond q going (seeking l)) rest σ)
  label-plays m l rest σ true = refl
  label-plays m l rest σ false = no_ticks (play k B (seeking l) rest σ)

  pub label-stands : (m l j : ℕ) (rest : List Record) (σ : Store) (q : Bool)
      → cond q (reach k B going j rest σ) (reach k B (seeking l) j rest σ) ≡ reach k B (cond q going (seeking l)) j rest σ
  label-stands m l j rest σ true = refl
  label-stands m l j rest σ false = refl

  unfoldable pub labelled : (m : ℕ) → Moves k B X Z (Record.Label m ∷ [])
  unfolding play reach
  labelled m = record {
    W = λ way σ. at_label m way;
    F = λ way σ. σ;
    n = λ way σ. label_ticks m way;
    own = owned;
    plays = by-play;
    stands = by-reach;
    frame = untouched X Z;
  }
    where
      owned : (way : Way) (σ : Store) → OwnWay way → OwnWay (at_label m way)
      owned going σ o = tt
      owned (seeking l) σ o = label-own m l o (eqb m l)

      by-play : (way : Way) → OwnWay way → (rest : List Record) (σ : Store)
          → play k B way (Record.Label m ∷ rest) σ ≡ ticks (label_ticks m way) (play k B (at_label m way) rest σ)
      by-play going o rest σ = refl
      by-play (seeking l) o rest σ = label-plays m l rest σ (eqb m l)

      by-reach : (way : Way) → OwnWay way → (j : ℕ) (rest : List Record) (σ : Store)
          → reach k B way (1 + j) (Record.Label m ∷ rest) σ ≡ reach k B (at_label m way) j rest σ
      by-reach going o j rest σ = rw (suc-add, zero-add) refl
      by-reach (seeking l) o j rest σ = rw (suc-add, zero-add) (label-stands m l j rest σ (eqb m l))

  -- ---- Branch

  abbrev pub at_branch : ℕ → Way → Way
  at_branch m going = seeking m
  at_branch m (seeking l) = seeking l

  unfoldable pub branched : (m : ℕ) → 2 < m → Moves k B X Z (Record.Branch m ∷ [])
  unfolding play reach
  branched m h = record {
    W = λ way σ. at_branch m way;
    F = λ way σ. σ;
    n = λ way σ. on_way 1 0 way;
    own = owned;
    plays = by-play;
    stands = by-reach;
    frame = untouched X Z;
  }
    where
      owned : (way : Way) (σ : Store) → OwnWay way → OwnWay (at_branch m way)
      owned going σ o = h
      owned (seeking l) σ o = o

      not-0 : eqb m 0 ≡ false
      not-0 = ne_eqb m 0 (λ e. omega (arith, e, h))

      by-play : (way : Way) → OwnWay way → (rest : List Record) (σ : Store)
          → play k B way (Record.Branch m ∷ rest) σ ≡ ticks (on_way 1 0 way) (play k B (at_branch m way) rest σ)
      by-play going o rest σ = rw not-0 refl
      by-play (seeking l) o rest σ = no_ticks (play k B (seeking l) rest σ)

      by-reach : (way : Way) → OwnWay way → (j : ℕ) (rest : List Record) (σ : Store)
          → reach k B way (1 + j) (Record.Branch m ∷ rest) σ ≡ reach k B (at_branch m way) j rest σ
      by-reach going o j rest σ = rw (suc-add, zero-add, not-0) refl
      by-reach (seeking l) o j rest σ = rw (suc-add, zero-add) refl

  -- ---- BranchIf

  abbrev pub at_branch_if : ℕ → ℕ → Bool → Way → Store → Way
  at_branch_if c m e going σ = cond (branches e (at σ c)) (seeking m) going
  at_branch_if c m e (seeking l) σ = seeking l

  pub if-own : (m : ℕ) → 2 < m → (q : Bool) → OwnWay (cond q (seeking m) going)
  if-own m h true = h
  if-own m h false = tt

  pub if-plays : (m : ℕ) (rest : List Record) (σ : Store) (q : Bool)
      → ticks 1 (cond q (play k B (seeking m) rest σ) (play k B going rest σ)) ≡ ticks 1 (play k B (cond q (seeking m) going) rest σ)
  if-plays m rest σ true = refl
  if-plays m rest σ false = refl

  pub if-stands : (m j : ℕ) (rest : List Record) (σ : Store) (q : Bool)
      → cond q (reach k B (seeking m) j rest σ) (reach k B going j rest σ) ≡ reach k B (cond q (seeking m) going) j rest σ
  if-stands m j rest σ true = refl
  if-stands m j rest σ false = refl

  unfoldable pub decided : (c m : ℕ) (e : Bool) → 2 < m → Moves k B X Z (Record.BranchIf c m e ∷ [])
  unfolding play reach
  decided c m e h = record {
    W = λ way σ. at_branch_if c m e way σ;
    F = λ way σ. σ;
    n = λ way σ. on_way 1 0 way;
    own = owned;
    plays = by-play;
    stands = by-reach;
    frame = untouched X Z;
  }
    where
      owned : (way : Way) (σ : Store) → OwnWay way → OwnWay (at_branch_if c m e way σ)
      owned going σ o = if-own m h (branches e (at σ c))
      owned (seeking l) σ o = o

      by-play : (way : Way) → OwnWay way → (rest : List Record) (σ : Store)
          → play k B way (Record.BranchIf c m e ∷ rest) σ ≡ ticks (on_way 1 0 way) (play k B (at_branch_if c m e way σ) rest σ)
      by-play going o rest σ = if-plays m rest σ (branches e (at σ c))
      by-play (seeking l) o rest σ = no_ticks (play k B (seeking l) rest σ)

      by-reach : (way : Way) → OwnWay way → (j : ℕ) (rest : List Record) (σ : Store)
          → reach k B way (1 + j) (Record.BranchIf c m e ∷ rest) σ ≡ reach k B (at_branch_if c m e way σ) j rest σ
      by-reach going o j rest σ = rw (suc-add, zero-add) (if-stands m j rest σ (branches e (at σ c)))
      by-reach (seeking l) o j rest σ = rw (suc-add, zero-add) refl
