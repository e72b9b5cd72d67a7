-- One play beside another: going, the stores agree on what is filled; seeking a label, on what is filled on every branch to it; and always
-- on D, which holds every mark that is set. No jump rule is needed.
use Prim.Native.Nat.{ℕ, ◌+◌}
use mathlib.Core.Path.{◌≡◌, refl, ap}
use mathlib.Core.Bool.{Bool, true, false, not, cond, ◌&&◌}
use mathlib.Core.Logic.{◌⊎◌, ⊎_elim, inl, inr}
use mathlib.Core.List.{List, [], ◌∷◌}
use lib.Dec.{T, eqb, eqb→eq, eqb_refl}
use Rattle.mir.specs.declared.records.Work.{Work}
use Rattle.mir.specs.declared.records.Record.{Record}
use Rattle.player_machine.specs.Machine.{Store, at, exec, execs, branches, Way, going, seeking, End, ticks, play}
use Rattle.player_machine.specs.Draws.{draws, fills}
use Rattle.mir.proofs.Tables.{and_left, and_right}
use Rattle.player_machine.proofs.Agreeing.{Agree, weaken, or_cases, or_l, or_r}
use Rattle.marks.specs.Marks.{Set, among, join, Marking, draw_on, working, through, enter, branch, way, step, scan}
use Rattle.marks.proofs.Stores.{exec_agree}
use Rattle.marks.proofs.Growing.{through_more, scan_more, noted_own, step_ways}

module _ (D : ℕ → Type 0) where
  -- what is filled, or given from drawn_on
  pub data Known (F : Set) (i : ℕ) : Type 0 where
    held : T (F i) → Known F i
    given : D i → Known F i

  abbrev pub Below : Set → Type 0
  Below A = (i : ℕ) → T (A i) → D i

  pub less : {F G : Set} {σ τ : Store} → ((i : ℕ) → T (G i) → T (F i)) → Agree (Known F) σ τ → Agree (Known G) σ τ
  less {F} {G} f g = weaken (λ i. go i) g
    where
      go : (i : ℕ) → Known G i → Known F i
      go i (held h) = held (f i h)
      go i (given d) = given d

  -- what is drawn on is filled or marked
  drawn-known : (is : List ℕ) (s : Marking) → Below (draw_on is s).drawn → (i : ℕ) → T (among is i) → Known s.filled i
  drawn-known is s k i h = go (s.filled i) refl
    where
      go : (q : Bool) → s.filled i ≡ q → Known s.filled i
      go true e = held (rw e tt)
      go false e = given (k i (or_r (s.drawn i) (among is i && not (s.filled i)) (rw e (both (among is i) h))))
        where
          both : (a : Bool) → T a → T (a && true)
          both true t = tt
          both false t = elim t [ ]

  module _ (constants : List ℕ) where
    working-agree : (w : Work) (s : Marking) {σ τ : Store} → Below (working w s).drawn → Agree (Known s.filled) σ τ
        → Agree (Known (working w s).filled) (exec constants w σ) (exec constants w τ)
    working-agree w s k g = weaken (λ i. go i) (exec_agree constants w (drawn-known (draws w) s k) g)
      where
        go : (i : ℕ) → Known (join s.filled (among (fills w))) i → Known s.filled i ⊎ T (among (fills w) i)
        go i (held h) = ⊎_elim (λ a. inl (held a)) (λ a. inr a) (or_cases (s.filled i) (among (fills w) i) h)
        go i (given d) = inl (given d)

    through-agree : (ws : List Work) (s : Marking) {σ τ : Store} → Below (through ws s).drawn → Agree (Known s.filled) σ τ
        → Agree (Known (through ws s).filled) (execs constants ws σ) (execs constants ws τ)
    unfolding execs
    through-agree [] s k g = g
    through-agree (w ∷ ws) s k g =
        through-agree ws (working w s) k (working-agree w s (λ i h. k i (through_more ws (working w s) i h)) g)

    -- the invariant
    abbrev pub Ready : Way → Marking → Store → Store → Type 0
    Ready going s σ τ = Agree (Known s.filled) σ τ
    Ready (seeking l) s σ τ = Agree (Known (s.ways l)) σ τ

    pub record Same (e f : End) : Type 0 where
      pub played : e.played ≡ f.played
      pub on : Agree D e.store f.store

    same-ticks : (n : ℕ) {e f : End} → Same e f → Same (ticks n e) (ticks n f)
    unfolding ticks
    same-ticks n h = record { played = ap (λ (m : ℕ). n + m) h.played; on = h.on }

    ended : {F : Set} {σ τ : Store} (n : ℕ) → Agree (Known F) σ τ → Same (record { store = σ; played = n }) (record { store = τ; played = n })
    ended n g = record { played = refl; on = weaken (λ i d. given d) g }

    Either : (q : Bool) {e e' f f' : End} → Same e e' → Same f f' → Same (cond q e f) (cond q e' f')
    Either true h k = h
    Either false h k = k

    -- at a label: the one sought, or another
    at_label : (l m : ℕ) (s : Marking) {σ τ : Store} (q : Bool) → eqb m l ≡ q → {e e' f f' : End} → Agree (Known (s.ways l)) σ τ
        → (Agree (Known (enter m s).filled) σ τ → Same e e') → Same f f' → Same (cond q e f) (cond q e' f')
    at_label l m s true q g on past =
        let e = eqb→eq m l (rw q tt) in
        on (less (λ i h. rw e at (and_right (s.filled i) (s.ways m i) h)) g)
    at_label l m s false q g on past = past

    pub plays : (b : List Work) (way : Way) (rs : List Record) (s : Marking) (σ τ : Store) → Below (scan b rs s).drawn → Ready way s σ τ
        → Same (play constants b way rs σ) (play constants b way rs τ)
    unfolding play step scan
    plays b going [] s σ τ k g = ended 0 g
    plays b going (Record.Work w ∷ rs) s σ τ k g =
        same-ticks 1 (plays b going rs (working w s) (exec constants w σ) (exec constants w τ) k
        (working-agree w s (λ i h. k i (scan_more b rs (working w s) i h)) g))
    plays b going (Record.Label l ∷ rs) s σ τ k g =
        same-ticks 1 (plays b going rs (enter l s) σ τ k (less (λ i h. and_left (s.filled i) (s.ways l i) h) g))
    plays b going (Record.Branch l ∷ rs) s σ τ k g =
        Either (eqb l 0) (ended 1 g)
        (same-ticks 1 (plays b (seeking l) rs (branch l s) σ τ k (less (λ i h. noted_own l s.filled s.ways i h) g)))
    plays b going (Record.Call l ∷ rs) s σ τ k g =
        same-ticks _ (plays b going rs (through b s) (execs constants b σ) (execs constants b τ) k
        (through-agree b s (λ i h. k i (scan_more b rs (through b s) i h)) g))
    plays b going (Record.BranchIf c l e ∷ rs) s σ τ k g =
        let t = way l (draw_on (c ∷ []) s) in
        let q = g.on c (drawn-known (c ∷ []) s (λ i h. k i (scan_more b rs t i h)) c (or_l (eqb c c) false (eqb_refl c))) in
        rw q (same-ticks 1 (Either (branches e (at τ c))
        (plays b (seeking l) rs t σ τ k (less (λ i h. noted_own l s.filled s.ways i h) g)) (plays b going rs t σ τ k g)))
    plays b (seeking l) [] s σ τ k g = ended 0 g
    plays b (seeking l) (Record.Work w ∷ rs) s σ τ k g = plays b (seeking l) rs (working w s) σ τ k g
    plays b (seeking l) (Record.Label m ∷ rs) s σ τ k g =
        at_label l m s (eqb m l) refl g (λ h. same-ticks 1 (plays b going rs (enter m s) σ τ k h)) (plays b (seeking l) rs (enter m s) σ τ k g)
    plays b (seeking l) (Record.Branch m ∷ rs) s σ τ k g =
        plays b (seeking l) rs (branch m s) σ τ k (less (λ i h. step_ways b (Record.Branch m) s l i h) g)
    plays b (seeking l) (Record.Call m ∷ rs) s σ τ k g =
        plays b (seeking l) rs (through b s) σ τ k (less (λ i h. step_ways b (Record.Call m) s l i h) g)
    plays b (seeking l) (Record.BranchIf c m e ∷ rs) s σ τ k g =
        plays b (seeking l) rs (way m (draw_on (c ∷ []) s)) σ τ k (less (λ i h. step_ways b (Record.BranchIf c m e) s l i h) g)
