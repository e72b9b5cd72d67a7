-- Stretches of a listing that keep the agreement of two stores and spare general registers, and how they join.
use mathlib.Core.Path.{◌≡◌, refl, sym, ap, ◌∙◌}
use mathlib.Core.Bool.{Bool, false}
use mathlib.Core.Logic.{◌⊎◌, ⊎_map, inl, inr}
use mathlib.Core.List.{List, [], ◌∷◌, ◌++◌, map, append_assoc}
use Prim.Native.Nat.{ℕ, ◌+◌, ◌≤◌, ◌<◌}
use native.Mathlib.Nat.{add_assoc, suc-add, zero-add}
use native.Mathlib.Omega.{arith}
use lib.ListN.{length, length-append}
use lib.Dec.{T, lit<}
use Rattle.mir.specs.declared.records.Loc.{Loc}
use Rattle.mir.specs.declared.records.Work.{Work}
use Rattle.mir.specs.declared.records.Record.{Record}
use Rattle.mir.specs.Place.{index}
use Rattle.records.proofs.Holding.{AllHold}
use Rattle.player_machine.specs.Machine.{Store, exec, execs, End, ticks, going, play, reach}
use Rattle.lowering.specs.declared.realness.Realness.{Realness}
use Rattle.lowering.specs.Realness.{is_real_reg, is_real_loc, set_reg}
use Rattle.leftovers.specs.Kept.{Kept}
use Rattle.player_machine.proofs.Agreeing.{Agree}
use Rattle.leftovers.proofs.Held.{Asks, held_append}
use Rattle.leftovers.proofs.Names.{Frame, Scratch, rename, good, good_parts, leaf-agree, leaf_undrawn, lines_frame, rename_held}
use Rattle.marks.specs.Leads.{DrawnFirst}
use Rattle.marks.proofs.Quiet.{Quiet, quiet_append, quiet-works}

-- The records rs, played where the realness is ρ, do F to the store and count n, whatever follows; after them the realness is ρ'.
-- The frame holds in any case, the agreement under H (about Half). A listing can hold the records, and they set no mark of scratch.
pub record Safe (k : List ℕ) (b : List Work) (X Z : ℕ → Type 0) (H : Type 0) (ρ : Realness) (rs : List Record) (ρ' : Realness) : Type 0 where
  pub F : Store → Store
  pub n : ℕ
  pub plays : (rest : List Record) (σ : Store) → play k b going (rs ++ rest) σ ≡ ticks n (play k b going rest (F σ))
  pub stands : (j : ℕ) (rest : List Record) (σ : Store) → reach k b going (length rs + j) (rs ++ rest) σ ≡ reach k b going j rest (F σ)
  pub agree : {σ τ : Store} → H → Agree (Kept ρ) σ τ → Agree (Kept ρ') (F σ) (F τ)
  pub frame : (σ : Store) → Frame X Z σ (F σ)
  pub held : length k ≤ 65536 → AllHold (length k) rs
  pub quiet : (i : ℕ) → Scratch i → Quiet b i rs

pub ticks-ticks : (m n : ℕ) (e : End) → ticks m (ticks n e) ≡ ticks (m + n) e
unfolding ticks
ticks-ticks m n e = λ i. record { store = e.store; played = sym (add_assoc m n e.played) i }

-- a pair spared twice is spared
both_spare : {A : Type 0} {u v w x y z : ℕ} → (v ≡ u) × ((y ≡ x) ⊎ (A × (y ≡ 0))) → (w ≡ v) × ((z ≡ y) ⊎ (A × (z ≡ 0)))
    → (w ≡ u) × ((z ≡ x) ⊎ (A × (z ≡ 0)))
both_spare {A} {x} {y} {z} p q = (q.0 ∙ p.0, pair p.1 q.1)
  where
    pair : (y ≡ x) ⊎ (A × (y ≡ 0)) → (z ≡ y) ⊎ (A × (z ≡ 0)) → (z ≡ x) ⊎ (A × (z ≡ 0))
    pair p (inr c) = inr c
    pair (inl e) (inl e') = inl (e' ∙ e)
    pair (inr c) (inl e') = inr (c.0, e' ∙ c.1)

pub join : {k : List ℕ} {b : List Work} {X Z : ℕ → Type 0} {H : Type 0} {ρ ρ' ρ'' : Realness} {rs rs' : List Record}
    → Safe k b X Z H ρ rs ρ' → Safe k b X Z H ρ' rs' ρ'' → Safe k b X Z H ρ (rs ++ rs') ρ''
join {k} {b} {rs} {rs'} s t =
    record {
      F = λ σ. t.F (s.F σ);
      n = s.n + t.n;
      plays =
          λ rest σ. rw (append_assoc rs rs' rest, s.plays (rs' ++ rest) σ, t.plays rest (s.F σ))
          (ticks-ticks s.n t.n (play k b going rest (t.F (s.F σ))));
      stands =
          λ j rest σ. rw (append_assoc rs rs' rest, length-append rs rs', add_assoc (length rs) (length rs') j)
          (s.stands (length rs' + j) (rs' ++ rest) σ ∙ t.stands j rest (s.F σ));
      agree = λ h g. t.agree h (s.agree h g);
      frame = λ σ r h x. both_spare (s.frame σ r h x) (t.frame (s.F σ) r h x);
      held = λ few. held_append (s.held few) (t.held few);
      quiet = λ i h. quiet_append (s.quiet i h) (t.quiet i h);
    }

-- more may be changed and cleared, under what asks more
pub loosen : {k : List ℕ} {b : List Work} {X X' Z Z' : ℕ → Type 0} {H H' : Type 0} {ρ ρ' : Realness} {rs : List Record}
    → (H' → H) → ((r : ℕ) → r < 30 → (X' r → ⊥) → (X r → ⊥) × (Z r → Z' r))
    → Safe k b X Z H ρ rs ρ' → Safe k b X' Z' H' ρ rs ρ'
loosen f g s = record {
  F = s.F;
  n = s.n;
  plays = s.plays;
  stands = s.stands;
  agree = λ h a. s.agree (f h) a;
  frame =
      λ σ r h n. let p = s.frame σ r h (g r h n).0 in (p.0, ⊎_map (λ e. e) (λ z. ((g r h n).1 z.0, z.1)) p.1);
  held = s.held;
  quiet = s.quiet;
}

-- ---- working records in a row

pub works_play : (k : List ℕ) (b : List Work) (l : List Work) (rest : List Record) (σ : Store)
    → play k b going (map Record.Work l ++ rest) σ ≡ ticks (length l) (play k b going rest (execs k l σ))
unfolding play execs ticks
works_play k b [] rest σ =
    λ i. record { store = (play k b going rest σ).store; played = sym (zero-add (play k b going rest σ).played) i }
works_play k b (a ∷ l) rest σ =
    let e = play k b going rest (execs k l (exec k a σ)) in
    ap (ticks 1) (works_play k b l rest (exec k a σ)) ∙ ticks-ticks 1 (length l) e ∙ ap (λ (m : ℕ). ticks m e) (omega arith)

pub works_reach : (k : List ℕ) (b : List Work) (l : List Work) (j : ℕ) (rest : List Record) (σ : Store)
    → reach k b going (length (map Record.Work l) + j) (map Record.Work l ++ rest) σ ≡ reach k b going j rest (execs k l σ)
unfolding reach execs
works_reach k b [] j rest σ = rw zero-add
works_reach k b (a ∷ l) j rest σ = rw suc-add (works_reach k b l j rest (exec k a σ))

-- those that keep the agreement and the frame
pub works_safe : {k : List ℕ} {b : List Work} {X Z : ℕ → Type 0} {H : Type 0} {ρ ρ' : Realness} (l : List Work)
    → ((σ τ : Store) → H → Agree (Kept ρ) σ τ → Agree (Kept ρ') (execs k l σ) (execs k l τ)) → ((σ : Store) → Frame X Z σ (execs k l σ))
    → (length k ≤ 65536 → AllHold (length k) (map Record.Work l)) → ((i : ℕ) → Scratch i → DrawnFirst i l → ⊥)
    → Safe k b X Z H ρ (map Record.Work l) ρ'
works_safe {k} {b} l ag fr hd un = record {
  F = execs k l;
  n = length l;
  plays = works_play k b l;
  stands = works_reach k b l;
  agree = λ {σ} {τ} h g. ag σ τ h g;
  frame = fr;
  held = hd;
  quiet = λ i h. quiet-works b i l (un i h);
}

-- the lines of a method, checked at registers 0, 1 and 2
module _ (k : List ℕ) (B : List Work) (Z : ℕ → Type 0) (H : Type 0) (ρ : Realness)
    (d a b : ℕ) (p : Loc) (hd : d < 32) (ha : a < 32) (hb : b < 32) (hp : index p < 256) where
  pub leaf : (x y z g : Bool) → is_real_reg ρ a ≡ x → is_real_reg ρ b ≡ y → is_real_loc ρ.places p ≡ z → (l l' : List Work)
      → T (good x y z g l) → rename d a b p l ≡ l' → Asks (length k) p l
      → Safe k B (λ r. r ≡ d) Z H ρ (map Record.Work l') (set_reg ρ d g)
  leaf x y z g ex ey ez l l' t e q =
      let s = good_parts x y z g l t in
      rw (← e)
      (works_safe (rename d a b p l)
      (λ σ τ _ h. leaf-agree ρ d a b p hd ha hb hp x y z ex ey ez k g l t h)
      (lines_frame (λ r. r ≡ d) Z d a b p k l s.2 (λ r h n. n))
      (λ few. rename_held d a b p k l few hp s.3 q)
      (leaf_undrawn d a b p x y z g l t))

-- without a place
module _ (k : List ℕ) (B : List Work) (Z : ℕ → Type 0) (H : Type 0) (ρ : Realness)
    (d a b : ℕ) (hd : d < 32) (ha : a < 32) (hb : b < 32) where
  pub leaf₂ : (x y g : Bool) → is_real_reg ρ a ≡ x → is_real_reg ρ b ≡ y → (l l' : List Work)
      → T (good x y false g l) → rename d a b (Loc.Mem 0) l ≡ l' → Asks (length k) (Loc.Mem 0) l
      → Safe k B (λ r. r ≡ d) Z H ρ (map Record.Work l') (set_reg ρ d g)
  unfolding is_real_loc
  leaf₂ x y g ex ey l l' t e q = leaf k B Z H ρ d a b (Loc.Mem 0) hd ha hb (lit< tt) x y false g ex ey refl l l' t e q
