-- One instruction after the other, on whichever way the play takes: it goes by the instructions that the meaning goes by, and holds its values.
use Prim.Native.Nat.{ℕ, zero, suc, ◌+◌}
use mathlib.Core.Path.{◌≡◌, refl, sym, ap, ◌∙◌, subst}
use mathlib.Core.Bool.{Bool, true, false, cond}
use mathlib.Core.List.{List, [], ◌∷◌, ◌++◌}
use mathlib.Core.Option.{Option, none, some}
use lib.ListN.{length, take}
use lib.Dec.{eqb}
use Rattle.mir.specs.declared.records.Work.{Work}
use Rattle.mir.specs.declared.records.Record.{Record}
use Rattle.mir.specs.declared.records.Instruction.{Instruction}
use Rattle.mir.specs.Register.{re, im}
use Rattle.sheet.specs.declared.setup.Mode.{Mode}
use Rattle.sheet.specs.Setup.{is_stable}
use Rattle.player_machine.specs.Machine.{Store, at, is_label, branches, End, ticks, Way, going, seeking, play, reach}
use Rattle.lowering.specs.declared.realness.Realness.{Realness}
use Rattle.lowering.specs.Realness.{is_real_reg}
use Rattle.lowering.specs.Complexifier as c
use Rattle.lowering.specs.Complexifier.{State, then, unlisted}
use Rattle.lowering.specs.Rerun.{rerun, complexify}
use Rattle.lowering.specs.Labels.{role}
use Rattle.lowering.specs.Lower.{barred}
use Rattle.leftovers.proofs.Sought.{some_inj}
use Rattle.leftovers.proofs.Moves.{OwnWay, working, labelled, branched, decided}
use Rattle.leftovers.proofs.Instructions.{AllIn, Works}
use Rattle.leftovers.proofs.Listing.{grows, stays}
use Rattle.leftovers.proofs.Branches.{Kind, works, label, branch, branch_if, moves, Kinds, Meets, MeetsBy, either, Sound, stands_at, stands-suc, works_role}
use Rattle.meaning.specs.Value.{re_of}
use Rattle.meaning.specs.Means as Means
use Rattle.meaning.specs.Means.{Values, means, goes, is_label_by, walked, stands}
use Rattle.meaning.proofs.Leaf.{Ready}
use Rattle.meaning.proofs.Stretch.{real-word}
use Rattle.meaning.proofs.Table.{Begins, begins_then, begins_grown}
use Rattle.meaning.proofs.Rooting.{RootBlock}
use Rattle.meaning.proofs.Instructions.{Gives, rerun-tells}

is_some : Option Values → Type 0
is_some none = ⊥
is_some (some X) = Unit {0}

pub none≢some : {X : Values} → none ≡ some X → ⊥
unfolding is_some
none≢some e = subst is_some (sym e) tt

-- no operand is barred
abbrev pub Free : Mode → List Instruction → State → Type 0
Free m [] s = Unit {0}
Free m (i ∷ is) s = (barred (is_stable m) i s.real ≡ false) × Free m is (rerun m i s).after

works_goes : (i : Instruction) (X : Values) → Works i → goes i X ≡ going
unfolding goes
works_goes Instruction.Nop X z = refl
works_goes (Instruction.Uni op d a) X z = refl
works_goes (Instruction.Bi op d a b) X z = refl
works_goes (Instruction.Mov d a) X z = refl
works_goes (Instruction.Load d p) X z = refl
works_goes (Instruction.Save a p) X z = refl
works_goes (Instruction.LoadConst d i) X z = refl
works_goes (Instruction.Fused op d a b c) X z = refl
works_goes (Instruction.IfElse d a b p) X z = refl
works_goes (Instruction.LoadMath op d a p) X z = refl
works_goes (Instruction.LoadConstMath op d a i) X z = refl
works_goes (Instruction.Label l) X z = absurd z
works_goes (Instruction.Branch l) X z = absurd z
works_goes (Instruction.BranchIf c l e) X z = absurd z

works_label : (i : Instruction) (l : ℕ) → Works i → Means.is_label l i ≡ false
works_label i l z = ap (is_label_by l) (works_role i z)

-- a word in front of others
consed : ℕ → (ℕ → ℕ) → ℕ → ℕ
consed h f zero = h
consed h f (suc n) = f n

module _ (k : List ℕ) (B : List Work) (m : Mode) (κ : List ℕ) (front : Begins κ k) where
  -- The invariant: going, the store holds the values by what is recorded here; seeking, by what is recorded at the label.
  abbrev pub ReadyOn : Way → List Instruction → State → Values → Store → Type 0
  ReadyOn going is s X σ = Ready X s.real σ
  ReadyOn (seeking l) is s X σ = (ρ : Realness) × Meets k B m l ρ is s × Ready X ρ σ

  -- the way and the values behind an instruction
  abbrev pub way_on : Way → Instruction → Values → Way
  way_on going i X = goes i X
  way_on (seeking l) i X = cond (Means.is_label l i) going (seeking l)

  abbrev pub values_on : ℕ → Way → Instruction → Values → Values
  values_on h going i X = means m κ h i X
  values_on h (seeking l) i X = X

  pub record Turned {s : State} {i : Instruction} (q : Kind k B m s i) (is : List Instruction) (way : Way) (X : Values) (σ : Store) : Type 0 where
    pub lost : ℕ
    pub way' : (moves k B m q).W way σ ≡ way_on way i X
    pub ready : ReadyOn (way_on way i X) is (rerun m i s).after (values_on lost way i X) ((moves k B m q).F way σ)

  at_label : (q : Bool) (l : ℕ) (is : List Instruction) (s : State) (X : Values) (σ : Store) (ρ : Realness) → either q (ρ ≡ s.real) (Meets k B m l ρ is s)
      → Ready X ρ σ → ReadyOn (cond q going (seeking l)) is s X σ
  at_label true l is s X σ ρ e g = subst (λ ρ. Ready X ρ σ) e g
  at_label false l is s X σ ρ e g = (ρ, e, g)

  at-branch : (q : Bool) (l : ℕ) (is : List Instruction) (s : State) (X : Values) (σ : Store) → Meets k B m l s.real is s → Ready X s.real σ
      → ReadyOn (cond q (seeking l) going) is s X σ
  at-branch true l is s X σ h g = (s.real, h, g)
  at-branch false l is s X σ h g = g

  -- what two laws say that a stretch does to a store is one
  one_store : (rs : List Record) (F G : Store → Store)
      → ((j : ℕ) (rest : List Record) (σ : Store) → reach k B going (length rs + j) (rs ++ rest) σ ≡ reach k B going j rest (F σ))
      → ((j : ℕ) (rest : List Record) (σ : Store) → reach k B going (length rs + j) (rs ++ rest) σ ≡ reach k B going j rest (G σ))
      → (σ : Store) → F σ ≡ G σ
  unfolding reach
  one_store rs F G f g σ = some_inj (sym (f 0 [] σ) ∙ g 0 [] σ)

  -- a working instruction that is reached
  Tells : State → Instruction → Type 0
  Tells s i = Gives k B (λ h. means m κ h i) s.real (rerun m i s).records (rerun m i s).after.real

  turned : {s : State} {i : Instruction} (q : Kind k B m s i) (is : List Instruction) (way : Way) (X : Values) (σ : Store)
      → (Works i → length s.real.regs ≡ 32 → Tells s i) → Sound k B m (i ∷ is) s → ReadyOn way (i ∷ is) s X σ → Turned q is way X σ
  unfolding moves working labelled branched decided rerun c.directed role goes means Tells
  turned {s} {i} (works z t) is going X σ f d g =
      let T = f z g.records in
      record {
        lost = T.lost σ;
        way' = sym (works_goes i X z);
        ready =
            subst (λ w. ReadyOn w is (rerun m i s).after (means m κ (T.lost σ) i X) (t.F σ)) (sym (works_goes i X z))
            (subst (λ τ. Ready (means m κ (T.lost σ) i X) (rerun m i s).after.real τ)
            (one_store (rerun m i s).records T.F t.F T.stands t.stands σ) (T.ready X σ g));
      }
  turned {s} {i} (works z t) is (seeking l) X σ f d g =
      record {
        lost = 0;
        way' = ap (λ q. cond q going (seeking l)) (sym (works_label i l z));
        ready =
            subst (λ q. ReadyOn (cond q going (seeking l)) is (rerun m i s).after X σ) (sym (works_label i l z))
            (g.0, subst (λ r. MeetsBy r l g.0 s.real (Meets k B m l g.0 is (rerun m i s).after)) (works_role i z) g.1, g.2);
      }
  turned (label n) is going X σ f d g = record { lost = 0; way' = refl; ready = g }
  turned {s} (label n) is (seeking l) X σ f d g =
      record { lost = 0; way' = refl; ready = at_label (eqb n l) l is s X σ g.0 g.1 g.2 }
  turned {s} (branch n v) is going X σ f d g = record { lost = 0; way' = refl; ready = (s.real, d.0, g) }
  turned (branch n v) is (seeking l) X σ f d g = record { lost = 0; way' = refl; ready = g }
  turned {s} (branch_if r n e v w) is going X σ f d g =
      record {
        lost = 0;
        way' =
            ap (λ x. cond (branches e x) (seeking n) going)
            (sym (real-word (is_real_reg s.real r) (at σ (re r)) (at σ (im r))) ∙ ap re_of (g.holds.regs r v));
        ready = at-branch (branches e (re_of (X.reg r))) n is s X σ d.0 g;
      }
  turned (branch_if r n e v w) is (seeking l) X σ f d g = record { lost = 0; way' = refl; ready = g }

  -- ---- one instruction after the other

  stands_on : (h : ℕ → ℕ) (way : Way) (n : ℕ) (i : Instruction) (is : List Instruction) (X : Values)
      → stands m κ h way (suc n) (i ∷ is) X ≡ stands m κ (λ j. h (suc j)) (way_on way i X) n is (values_on (h 0) way i X)
  unfolding walked
  stands_on h going n i is X = refl
  stands_on h (seeking l) n i is X = refl

  -- the play stands at a point with the values of the meaning
  pub record Holding (way : Way) (is : List Instruction) (s : State) (σ : Store) (n : ℕ) (Y : Values) : Type 0 where
    pub store : Store
    pub reached : stands_at k B m way is s σ n ≡ some store
    pub ready : Ready Y (complexify m (take n is) s).after.real store

  pub record Goes (way : Way) (is : List Instruction) (s : State) (X : Values) (σ : Store) : Type 0 where
    pub lost : ℕ → ℕ
    pub points : (n : ℕ) (Y : Values) → stands m κ lost way n is X ≡ some Y → Holding way is s σ n Y
    pub last : Values
    pub ends : stands m κ lost way (length is) is X ≡ some last
    pub ending : Ready last (complexify m is s).after.real (play k B way (complexify m is s).records σ).store

  -- where the first instruction stands
  at_first : {s : State} {i : Instruction} (q : Kind k B m s i) (is : List Instruction) (way : Way) (h : ℕ → ℕ) (X : Values) (σ : Store) (Y : Values)
      → ReadyOn way (i ∷ is) s X σ → stands m κ h way 0 (i ∷ is) X ≡ some Y → Holding way (i ∷ is) s σ 0 Y
  unfolding walked complexify then unlisted reach is_label rerun c.directed role
  at_first {s} q is going h X σ Y g e = record { store = σ; reached = refl; ready = subst (λ Y. Ready Y s.real σ) (some_inj e) g }
  at_first {s} {i} (works z t) is (seeking l) h X σ Y g e =
      absurd (none≢some (ap (λ q. cond q (some X) none) (sym (works_label i l z)) ∙ e))
  at_first {s} (label n) is (seeking l) h X σ Y g e = go (eqb n l) refl e g.1
    where
      go : (q : Bool) → eqb n l ≡ q → cond q (some X) none ≡ some Y → either q (g.0 ≡ s.real) (Meets k B m l g.0 is s)
          → Holding (seeking l) (Instruction.Label n ∷ is) s σ 0 Y
      go true f e r =
          record {
            store = σ;
            reached = ap (λ q. cond q (some σ) none) f;
            ready = subst (λ Y. Ready Y s.real σ) (some_inj e) (subst (λ ρ. Ready X ρ σ) r g.2);
          }
      go false f e r = absurd (none≢some e)
  at_first (branch n v) is (seeking l) h X σ Y g e = absurd (none≢some e)
  at_first (branch_if r n f v w) is (seeking l) h X σ Y g e = absurd (none≢some e)

  -- an instruction in front
  onward : {s : State} {i : Instruction} (q : Kind k B m s i) (is : List Instruction) (way : Way) (X : Values) (σ : Store) → OwnWay way
      → ReadyOn way (i ∷ is) s X σ → (T : Turned q is way X σ)
      → Goes (way_on way i X) is (rerun m i s).after (values_on T.lost way i X) ((moves k B m q).F way σ) → Goes way (i ∷ is) s X σ
  unfolding complexify then ticks consed
  onward {s} {i} q is way X σ o g T r = record {
    lost = consed T.lost r.lost;
    points = at;
    last = r.last;
    ends = stands_on (consed T.lost r.lost) way (length is) i is X ∙ r.ends;
    ending =
        subst (λ (e : End). Ready r.last (complexify m is (rerun m i s).after).after.real e.store)
        (sym ((moves k B m q).plays way o (complexify m is (rerun m i s).after).records σ
        ∙ ap (λ (w : Way). ticks ((moves k B m q).n way σ) (play k B w (complexify m is (rerun m i s).after).records ((moves k B m q).F way σ))) T.way'))
        r.ending;
  }
    where
      at : (n : ℕ) (Y : Values) → stands m κ (consed T.lost r.lost) way n (i ∷ is) X ≡ some Y → Holding way (i ∷ is) s σ n Y
      at zero Y e = at_first q is way (consed T.lost r.lost) X σ Y g e
      at (suc n) Y e =
          let h = r.points n Y (sym (stands_on (consed T.lost r.lost) way n i is X) ∙ e) in
          record {
            store = h.store;
            reached =
                stands-suc k B m i is s q way o σ n
                ∙ ap (λ (w : Way). stands_at k B m w is (rerun m i s).after ((moves k B m q).F way σ) n) T.way' ∙ h.reached;
            ready = h.ready;
          }

  pub walks : (is : List Instruction) (s : State) → Kinds k B m is s → AllIn (length κ) is → Free m is s
      → ((complexify m is s).after.is_root_defined ≡ true → RootBlock (is_stable m) k B) → Begins (complexify m is s).after.consts k
      → (way : Way) (X : Values) (σ : Store) → OwnWay way → Sound k B m is s → ReadyOn way is s X σ → Goes way is s X σ
  unfolding complexify then unlisted walked play reach consed ticks
  walks [] s q v w b c going X σ o d g = record {
    lost = λ n. 0;
    points = none_left;
    last = X;
    ends = refl;
    ending = g;
  }
    where
      none_left : (n : ℕ) (Y : Values) → stands m κ (λ n. 0) going n [] X ≡ some Y → Holding going [] s σ n Y
      none_left zero Y e = record { store = σ; reached = refl; ready = subst (λ Y. Ready Y s.real σ) (some_inj e) g }
      none_left (suc n) Y e = absurd (none≢some e)
  walks [] s q v w b c (seeking l) X σ o d g = absurd g.1
  walks (i ∷ is) s q v w b c way X σ o d g =
      let s' = (rerun m i s).after in
      let M = moves k B m q.0 in
      let T = turned q.0 is way X σ
      (λ z n. unfold Tells in rerun-tells k B m κ front i s z v.0 n w.0 (λ e. b (stays m (length κ) is s' v.1 e).0)
      (begins_then (begins_grown (grows m is s')) c)) d g in
      let R = walks is s' q.1 v.1 w.1 b c (way_on way i X) (values_on T.lost way i X) (M.F way σ)
      (subst OwnWay T.way' (M.own way σ o)) d.1 T.ready in
      onward q.0 is way X σ o g T R
