-- One instruction after the other, on whichever way the play takes: two plays whose stores agree end alike, and a play stands at the points
-- that the moves of the instructions say.
use Prim.Native.Nat.{ℕ, zero, suc, ◌+◌, ◌≤◌, ◌<◌}
use mathlib.Core.Path.{◌≡◌, refl, sym, ap, ◌∙◌, subst}
use mathlib.Core.Bool.{Bool, true, false, cond}
use mathlib.Core.List.{List, [], ◌∷◌, ◌++◌, map}
use mathlib.Core.Option.{Option, none, some}
use native.Mathlib.Omega.{arith}
use borrow.Author.Tests.{ne_eqb}
use native.Mathlib.Nat.{zero-add, suc-add}
use lib.ListN.{length, take, drop, get_or, length-append}
use lib.Dec.{eqb}
use Rattle.mir.specs.declared.records.Work.{Work}
use Rattle.mir.specs.declared.records.Record.{Record}
use Rattle.mir.specs.declared.records.Instruction.{Instruction}
use Rattle.mir.specs.Register.{re}
use Rattle.player_machine.specs.Machine.{Store, at, is_label, branches, End, ticks, Way, going, seeking, play, reach}
use Rattle.sheet.specs.declared.setup.Mode.{Mode}
use Rattle.sheet.specs.Setup.{is_stable}
use Rattle.lowering.specs.declared.realness.Realness.{Realness}
use Rattle.lowering.specs.Complexifier as c
use Rattle.lowering.specs.Complexifier.{State, Out, then, unlisted, around_block}
use Rattle.lowering.specs.Rerun.{rerun, complexify}
use Rattle.lowering.specs.Labels as Labels
use Rattle.lowering.specs.Labels.{Role, role}
use Rattle.leftovers.specs.Leftovers.{IsDestination}
use Rattle.leftovers.specs.Kept.{Kept, kept_re}
use Rattle.player_machine.proofs.Agreeing.{Agree}
use Rattle.leftovers.proofs.Names.{Frame}
use Rattle.leftovers.proofs.Sought.{Without, none≢some, some_inj}
use Rattle.leftovers.proofs.Moves.{OwnWay, Moves, working, labelled, branched, decided, untouched}
use Rattle.leftovers.proofs.Methods.{Keeps}
use Rattle.leftovers.proofs.Root.{Block}
use Rattle.sheet.proofs.Ranges.{InRange}
use Rattle.leftovers.proofs.Instructions.{AllIn, Works, Cleared, HalfOk, rerun_keeps}
use Rattle.leftovers.proofs.Listing.{Said, quiet, directs, calls, opens, InSome, AllOutside, rerun_said}

-- ---- the labels and branches among a working instruction's records are Root's

abbrev pub Tame : Record → Type 0
Tame (Record.Work w) = Unit {0}
Tame (Record.Label l) = l < 3
Tame (Record.Branch l) = l < 3
Tame (Record.Call l) = Unit {0}
Tame (Record.BranchIf c l e) = ⊥

abbrev pub AllTame : List Record → Type 0
AllTame [] = Unit {0}
AllTame (r ∷ rs) = Tame r × AllTame rs

tame_append : (rs rs' : List Record) → AllTame rs → AllTame rs' → AllTame (rs ++ rs')
tame_append [] rs' p q = q
tame_append (r ∷ rs) rs' p q = (p.0, tame_append rs rs' p.1 q)

tame_works : (ws : List Work) → AllTame (map Record.Work ws)
tame_works [] = tt
tame_works (w ∷ ws) = (tt, tame_works ws)

tame_straight : (rs : List Record) → AllOutside false true rs → AllTame rs
tame_straight [] p = tt
tame_straight (Record.Work w ∷ rs) p = (tt, tame_straight rs p.1)
tame_straight (Record.Label m ∷ rs) p = absurd p.0
tame_straight (Record.Branch m ∷ rs) p = absurd p.0
tame_straight (Record.Call m ∷ rs) p = (tt, tame_straight rs p.1)
tame_straight (Record.BranchIf c m e ∷ rs) p = absurd p.0

pub works_tame : (m : Mode) (i : Instruction) (s : State) → Works i → AllTame (rerun m i s).records
works_tame m i s z = go (rerun_said m i s)
  where
    go : Said (is_stable m) (Works i) (InSome i) s (rerun m i s) → AllTame (rerun m i s).records
    go (quiet q) = rw q.listed (tame_works q.lines)
    go (directs n a r q g) = absurd (n z)
    go (calls e r q g) = tame_straight (rerun m i s).records q
    go (opens n r first q t b g e) =
        rw g (tame_append first (around_block t) (tame_straight first q)
        (omega arith, (omega arith, tame_append (map Record.Work t) (Record.Branch 0 ∷ Record.Label 2 ∷ []) (tame_works t) (omega arith, (omega arith, tt)))))

pub tame_without : (l : ℕ) → 2 < l → (rs : List Record) → AllTame rs → Without l rs
unfolding is_label
tame_without l h [] p = tt
tame_without l h (Record.Work w ∷ rs) p = (refl, tame_without l h rs p.1)
tame_without l h (Record.Label n ∷ rs) p = (ne_eqb n l (λ e. let q = p.0 in omega (arith, e, h, q)), tame_without l h rs p.1)
tame_without l h (Record.Branch n ∷ rs) p = (refl, tame_without l h rs p.1)
tame_without l h (Record.Call n ∷ rs) p = (refl, tame_without l h rs p.1)
tame_without l h (Record.BranchIf c n e ∷ rs) p = absurd p.0

pub works_role : (i : Instruction) → Works i → role i ≡ Labels.works
unfolding role
works_role Instruction.Nop z = refl
works_role (Instruction.Uni op d a) z = refl
works_role (Instruction.Bi op d a b) z = refl
works_role (Instruction.Mov d a) z = refl
works_role (Instruction.Load d p) z = refl
works_role (Instruction.Save a p) z = refl
works_role (Instruction.LoadConst d i) z = refl
works_role (Instruction.Fused op d a b c) z = refl
works_role (Instruction.IfElse d a b p) z = refl
works_role (Instruction.LoadMath op d a p) z = refl
works_role (Instruction.LoadConstMath op d a i) z = refl
works_role (Instruction.Label l) z = absurd z
works_role (Instruction.Branch l) z = absurd z
works_role (Instruction.BranchIf c l e) z = absurd z

-- an instruction works, is a label, or branches
pub data View : Instruction → Type 0 where
  working-one : {i : Instruction} → Works i → View i
  label-one : (l : ℕ) → View (Instruction.Label l)
  branch_one : (l : ℕ) → View (Instruction.Branch l)
  branch-if-one : (r l : ℕ) (e : Bool) → View (Instruction.BranchIf r l e)

pub view : (i : Instruction) → View i
view Instruction.Nop = working-one tt
view (Instruction.Uni op d a) = working-one tt
view (Instruction.Bi op d a b) = working-one tt
view (Instruction.Mov d a) = working-one tt
view (Instruction.Load d p) = working-one tt
view (Instruction.Save a p) = working-one tt
view (Instruction.LoadConst d i) = working-one tt
view (Instruction.Fused op d a b c) = working-one tt
view (Instruction.IfElse d a b p) = working-one tt
view (Instruction.LoadMath op d a p) = working-one tt
view (Instruction.LoadConstMath op d a i) = working-one tt
view (Instruction.Label l) = label-one l
view (Instruction.Branch l) = branch_one l
view (Instruction.BranchIf r l e) = branch-if-one r l e

abbrev pub either : Bool → Type 0 → Type 0 → Type 0
either true A B = A
either false A B = B

-- behind an instruction of a role, or at it where it is Label l
abbrev pub MeetsBy : Role → ℕ → Realness → Realness → Type 0 → Type 0
MeetsBy Labels.works l ρ ρ' on = on
MeetsBy (Labels.labels n) l ρ ρ' on = either (eqb n l) (ρ ≡ ρ') on
MeetsBy (Labels.branches n) l ρ ρ' on = on

-- of a branch
abbrev pub SendsBy : Role → (ℕ → Type 0) → Type 0
SendsBy Labels.works f = Unit {0}
SendsBy (Labels.labels n) f = Unit {0}
SendsBy (Labels.branches n) f = f n

-- ---- what an instruction is to a play

module _ (k : List ℕ) (B : List Work) (m : Mode) where
  pub data Kind (s : State) : Instruction → Type 0 where
    works : {i : Instruction} → Works i → Keeps k B (IsDestination i) (Cleared s.real i) (HalfOk m s.real i) s (rerun m i s) → Kind s i
    label : (l : ℕ) → Kind s (Instruction.Label l)
    branch : (l : ℕ) → 2 < l → Kind s (Instruction.Branch l)
    branch_if : (r l : ℕ) (e : Bool) → r < 32 → 2 < l → Kind s (Instruction.BranchIf r l e)

  pub kind : (i : Instruction) (s : State) → InRange (length k) i → ((rerun m i s).after.is_root_defined ≡ true → Block k B)
      → length (rerun m i s).after.consts ≤ length k → Kind s i
  kind i s v b h = go (view i) v b h
    where
      go : {i : Instruction} → View i → InRange (length k) i → ((rerun m i s).after.is_root_defined ≡ true → Block k B)
          → length (rerun m i s).after.consts ≤ length k → Kind s i
      go (working-one {i} z) v b h = works z (rerun_keeps k B m i s z v b h)
      go (label-one l) v b h = label l
      go (branch_one l) v b h = branch l v
      go (branch-if-one r l e) v b h = branch_if r l e v.0 v.1

  unfoldable pub moves : {s : State} {i : Instruction} → Kind s i → Moves k B (IsDestination i) (Cleared s.real i) (rerun m i s).records
  unfolding rerun c.directed
  moves {s} {i} (works z t) = working k B _ _ t (λ l h. tame_without l h (rerun m i s).records (works_tame m i s z))
  moves (label l) = labelled k B _ _ l
  moves (branch l h) = branched k B _ _ l h
  moves (branch_if r l e v h) = decided k B _ _ (re r) l e h

  -- ---- where a branch leads

  -- the first Label l stands later, and lowering holds ρ there
  abbrev pub Meets : ℕ → Realness → List Instruction → State → Type 0
  Meets l ρ [] s = ⊥
  Meets l ρ (i ∷ is) s = MeetsBy (role i) l ρ s.real (Meets l ρ is (rerun m i s).after)

  -- each branch meets its label
  abbrev pub Sound : List Instruction → State → Type 0
  Sound [] s = Unit {0}
  Sound (i ∷ is) s = SendsBy (role i) (λ l. Meets l s.real is (rerun m i s).after) × Sound is (rerun m i s).after

  -- The invariant: going, the stores agree by what is recorded here; seeking, by what is recorded at the label.
  abbrev pub Ready : Way → List Instruction → State → Store → Store → Type 0
  Ready going is s σ τ = Agree (Kept s.real) σ τ
  Ready (seeking l) is s σ τ = (ρ : Realness) × Meets l ρ is s × Agree (Kept ρ) σ τ

  -- what is asked of an instruction that is reached
  abbrev pub HalfIf : Way → Realness → Instruction → Type 0
  HalfIf going ρ i = HalfOk m ρ i
  HalfIf (seeking l) ρ i = Unit {0}

  -- two plays go the same way by one instruction, and are ready for what follows
  pub record Turned {s : State} {i : Instruction} (κ : Kind s i) (is : List Instruction) (way : Way) (σ τ : Store) : Type 0 where
    pub way' : (moves κ).W way σ ≡ (moves κ).W way τ
    pub count : (moves κ).n way σ ≡ (moves κ).n way τ
    pub ready : Ready ((moves κ).W way σ) is (rerun m i s).after ((moves κ).F way σ) ((moves κ).F way τ)

  at_label : (q : Bool) (l : ℕ) (is : List Instruction) (s : State) (σ τ : Store) (ρ : Realness) → either q (ρ ≡ s.real) (Meets l ρ is s)
      → Agree (Kept ρ) σ τ → Ready (cond q going (seeking l)) is s σ τ
  at_label true l is s σ τ ρ e g = subst (λ ρ. Agree (Kept ρ) σ τ) e g
  at_label false l is s σ τ ρ e g = (ρ, e, g)

  at-branch : (q : Bool) (l : ℕ) (is : List Instruction) (s : State) (σ τ : Store) → Meets l s.real is s → Agree (Kept s.real) σ τ
      → Ready (cond q (seeking l) going) is s σ τ
  at-branch true l is s σ τ h g = (s.real, h, g)
  at-branch false l is s σ τ h g = g

  pub turned : {s : State} {i : Instruction} (κ : Kind s i) (is : List Instruction) (way : Way) (σ τ : Store) → Sound (i ∷ is) s
      → Ready way (i ∷ is) s σ τ → HalfIf way s.real i → Turned κ is way σ τ
  unfolding moves working labelled branched decided rerun c.directed role
  turned (works z t) is going σ τ d g h = record { way' = refl; count = refl; ready = t.agree h g }
  turned {s} {i} (works z t) is (seeking l) σ τ d g h =
      record {
        way' = refl;
        count = refl;
        ready = (g.0, subst (λ r. MeetsBy r l g.0 s.real (Meets l g.0 is (rerun m i s).after)) (works_role i z) g.1, g.2);
      }
  turned (label n) is going σ τ d g h = record { way' = refl; count = refl; ready = g }
  turned {s} (label n) is (seeking l) σ τ d g h =
      record { way' = refl; count = refl; ready = at_label (eqb n l) l is s σ τ g.0 g.1 g.2 }
  turned {s} (branch n v) is going σ τ d g h = record { way' = refl; count = refl; ready = (s.real, d.0, g) }
  turned (branch n v) is (seeking l) σ τ d g h = record { way' = refl; count = refl; ready = g }
  turned {s} (branch_if r n e v w) is going σ τ d g h =
      record {
        way' = ap (λ x. cond (branches e x) (seeking n) going) (g.on (re r) (kept_re r v));
        count = refl;
        ready = at-branch (branches e (at σ (re r))) n is s σ τ d.0 g;
      }
  turned (branch_if r n e v w) is (seeking l) σ τ d g h = record { way' = refl; count = refl; ready = g }

  -- ---- one instruction after the other

  -- what each instruction is to a play
  abbrev pub Kinds : List Instruction → State → Type 0
  Kinds [] s = Unit {0}
  Kinds (i ∷ is) s = Kind s i × Kinds is (rerun m i s).after

  -- the records of the first n instructions are so many, and the store with which a play of all of them stands there
  abbrev pub point_of : List Instruction → State → ℕ → ℕ
  point_of is s n = length (complexify m (take n is) s).records

  abbrev pub stands_at : Way → List Instruction → State → Store → ℕ → Option Store
  stands_at way is s σ n = reach k B way (point_of is s n) (complexify m is s).records σ

  pub stands-suc : (i : Instruction) (is : List Instruction) (s : State) (κ : Kind s i) (way : Way) → OwnWay way → (σ : Store) (n : ℕ)
      → stands_at way (i ∷ is) s σ (suc n) ≡ stands_at ((moves κ).W way σ) is (rerun m i s).after ((moves κ).F way σ) n
  unfolding complexify then
  stands-suc i is s κ way o σ n =
      let o' = rerun m i s in
      ap (λ (x : ℕ). reach k B way x (o'.records ++ (complexify m is o'.after).records) σ)
      (length-append o'.records (complexify m (take n is) o'.after).records)
      ∙ (moves κ).stands way o (point_of is o'.after n) (complexify m is o'.after).records σ

  at-start : (is : List Instruction) (s : State) (σ : Store) → stands_at going is s σ 0 ≡ some σ
  unfolding complexify unlisted reach
  at-start is s σ = refl

  -- no Half that is reached stands in the way
  abbrev pub Fine : Way → List Instruction → State → Store → Type 0
  Fine way is s σ =
      (n : ℕ) (α : Store) → n < length is → stands_at way is s σ n ≡ some α
      → HalfOk m (complexify m (take n is) s).after.real (get_or is n Instruction.Nop)

  half-first : (way : Way) (i : Instruction) (is : List Instruction) (s : State) (σ : Store) → Fine way (i ∷ is) s σ → HalfIf way s.real i
  unfolding complexify unlisted
  half-first going i is s σ u = u 0 σ (omega arith) (at-start (i ∷ is) s σ)
  half-first (seeking l) i is s σ u = tt

  -- two plays end alike
  pub record Same (ρ : Realness) (a b : End) : Type 0 where
    pub played : a.played ≡ b.played
    pub agree : Agree (Kept ρ) a.store b.store

  more-ticks : {ρ : Realness} {a b : End} (x y : ℕ) → x ≡ y → Same ρ a b → Same ρ (ticks x a) (ticks y b)
  unfolding ticks
  more-ticks x y e h = let p = h.played in record { played = omega (arith, e, p); agree = h.agree }

  pub alike : (is : List Instruction) (s : State) → Kinds is s → (way : Way) (σ τ : Store) → OwnWay way → Sound is s → Ready way is s σ τ
      → Fine way is s σ
      → Same (complexify m is s).after.real (play k B way (complexify m is s).records σ) (play k B way (complexify m is s).records τ)
  unfolding complexify then unlisted play
  alike [] s κ going σ τ o d g u = record { played = refl; agree = g }
  alike [] s κ (seeking l) σ τ o d g u = absurd g.1
  alike (i ∷ is) s κ way σ τ o d g u =
      let M = moves κ.0 in
      let t = turned κ.0 is way σ τ d g (half-first way i is s σ u) in
      let s' = (rerun m i s).after in
      let rs = (complexify m is s').records in
      let h = alike is s' κ.1 (M.W way σ) (M.F way σ) (M.F way τ) (M.own way σ o) d.1 t.ready
      (λ n α x e. u (suc n) α (omega arith) (stands-suc i is s κ.0 way o σ n ∙ e)) in
      subst (λ (a : End). Same (complexify m is s').after.real a (play k B way ((rerun m i s).records ++ rs) τ)) (sym (M.plays way o rs σ))
      (subst (λ (b : End). Same (complexify m is s').after.real (ticks (M.n way σ) (play k B (M.W way σ) rs (M.F way σ))) b)
      (ap (λ (w : Way). ticks (M.n way τ) (play k B w rs (M.F way τ))) t.way' ∙ sym (M.plays way o rs τ))
      (more-ticks (M.n way σ) (M.n way τ) t.count h))

  -- ---- the next higher point reached: the store is the one behind the instruction

  at_once : (way : Way) (rs : List Record) (σ β : Store) → reach k B way 0 rs σ ≡ some β → β ≡ σ
  unfolding reach
  at_once going rs σ β e = some_inj (sym e)
  at_once (seeking l) [] σ β e = absurd (none≢some e)
  at_once (seeking l) (r ∷ rs) σ β e = go (is_label l r) e
    where
      go : (q : Bool) → cond q (some σ) none ≡ some β → β ≡ σ
      go true e = some_inj (sym e)
      go false e = absurd (none≢some e)

  -- seeking, an instruction is passed over, or the play stands at it
  passes : {s : State} {i : Instruction} (κ : Kind s i) (is : List Instruction) (l : ℕ) (σ : Store)
      → stands_at (seeking l) (i ∷ is) s σ 0 ≡ none → ((moves κ).W (seeking l) σ ≡ seeking l) × ((moves κ).F (seeking l) σ ≡ σ)
  unfolding moves working labelled branched decided rerun c.directed complexify then unlisted reach is_label
  passes (works z t) is l σ e = (refl, refl)
  passes (label n) is l σ e = (go (eqb n l) e, refl)
    where
      go : (q : Bool) → cond q (some σ) none ≡ none → cond q going (seeking l) ≡ seeking l
      go true e = absurd (none≢some (sym e))
      go false e = refl
  passes (branch n v) is l σ e = (refl, refl)
  passes (branch_if r n f v w) is l σ e = (refl, refl)

  pub first-higher : (is : List Instruction) (s : State) → Kinds is s → (way : Way) → OwnWay way → (σ β : Store) (x : ℕ)
      → stands_at way is s σ x ≡ some β → ((y : ℕ) → y < x → stands_at way is s σ y ≡ none) → β ≡ σ
  unfolding complexify unlisted
  first-higher is s κ way o σ β zero e f = at_once way (complexify m is s).records σ β e
  first-higher is s κ going o σ β (suc x) e f = absurd (none≢some (sym (f 0 (omega arith)) ∙ at-start is s σ))
  first-higher [] s κ (seeking l) o σ β (suc x) e f = absurd (none≢some (sym (f 0 (omega arith)) ∙ e))
  first-higher (i ∷ is) s κ (seeking l) o σ β (suc x) e f =
      let p = passes κ.0 is l σ (f 0 (omega arith)) in
      let go : (n : ℕ) → stands_at (seeking l) (i ∷ is) s σ (suc n) ≡ stands_at (seeking l) is (rerun m i s).after σ n =
      λ n. stands-suc i is s κ.0 (seeking l) o σ n
      ∙ ap (λ (w : Way). stands_at w is (rerun m i s).after ((moves κ.0).F (seeking l) σ) n) p.0
      ∙ ap (λ (σ : Store). stands_at (seeking l) is (rerun m i s).after σ n) p.1 in
      first-higher is (rerun m i s).after κ.1 (seeking l) o σ β x (sym (go x) ∙ e) (λ y h. sym (go y) ∙ f (suc y) (omega arith))

  -- ---- what an instruction changes, to the next higher point reached

  still : {s : State} {i : Instruction} (κ : Kind s i) (l : ℕ) (σ : Store) → (moves κ).F (seeking l) σ ≡ σ
  unfolding moves working labelled branched decided
  still (works z t) l σ = refl
  still (label n) l σ = refl
  still (branch n v) l σ = refl
  still (branch_if r n e v w) l σ = refl

  -- from the first instruction's point
  spares-first : (i : Instruction) (is : List Instruction) (s : State) (κ : Kind s i) → Kinds is (rerun m i s).after → (way : Way) → OwnWay way
      → (σ α β : Store) → stands_at way (i ∷ is) s σ 0 ≡ some α → β ≡ (moves κ).F way σ → Frame (IsDestination i) (Cleared s.real i) α β
  unfolding complexify unlisted
  spares-first i is s κ κs going o σ α β a e =
      let f : α ≡ σ = some_inj (sym a ∙ at-start (i ∷ is) s σ) in
      rw (f, e) ((moves κ).frame σ)
  spares-first i is s κ κs (seeking l) o σ α β a e =
      let f : α ≡ σ = at_once (seeking l) (complexify m (i ∷ is) s).records σ α a in
      rw (f, e, still κ l σ) (untouched (IsDestination i) (Cleared s.real i) σ)

  pub spares-at : (is : List Instruction) (s : State) → Kinds is s → (way : Way) → OwnWay way → (σ α β : Store) (n x : ℕ) → n < length is
      → stands_at way is s σ n ≡ some α → stands_at way is s σ (n + suc x) ≡ some β
      → ((y : ℕ) → y < x → stands_at way is s σ (n + suc y) ≡ none)
      → Frame (IsDestination (get_or is n Instruction.Nop)) (Cleared (complexify m (take n is) s).after.real (get_or is n Instruction.Nop)) α β
  unfolding complexify then unlisted
  spares-at [] s κ way o σ α β n x h a b f = absurd (omega arith)
  spares-at (i ∷ is) s κ way o σ α β zero x h a b f =
      spares-first i is s κ.0 κ.1 way o σ α β a
      (first-higher is (rerun m i s).after κ.1 ((moves κ.0).W way σ) ((moves κ.0).own way σ o) ((moves κ.0).F way σ) β x
      (sym (next x) ∙ b) (λ y g. sym (next y) ∙ f y g))
    where
      next : (y : ℕ) → stands_at way (i ∷ is) s σ (0 + suc y)
          ≡ stands_at ((moves κ.0).W way σ) is (rerun m i s).after ((moves κ.0).F way σ) y
      next y = ap (λ (z : ℕ). stands_at way (i ∷ is) s σ z) (zero-add (suc y)) ∙ stands-suc i is s κ.0 way o σ y
  spares-at (i ∷ is) s κ way o σ α β (suc n) x h a b f =
      spares-at is (rerun m i s).after κ.1 ((moves κ.0).W way σ) ((moves κ.0).own way σ o) ((moves κ.0).F way σ) α β n x (omega arith)
      (sym (stands-suc i is s κ.0 way o σ n) ∙ a) (sym (next x) ∙ b) (λ y g. sym (next y) ∙ f y g)
    where
      next : (y : ℕ) → stands_at way (i ∷ is) s σ (suc n + suc y)
          ≡ stands_at ((moves κ.0).W way σ) is (rerun m i s).after ((moves κ.0).F way σ) (n + suc y)
      next y = ap (λ (z : ℕ). stands_at way (i ∷ is) s σ z) (suc-add n (suc y)) ∙ stands-suc i is s κ.0 way o σ (n + suc y)

  -- ---- from a point on

  pub kinds-drop : (n : ℕ) (is : List Instruction) (s : State) → Kinds is s → Kinds (drop n is) (complexify m (take n is) s).after
  unfolding complexify then unlisted
  kinds-drop zero is s κ = κ
  kinds-drop (suc n) [] s κ = tt
  kinds-drop (suc n) (i ∷ is) s κ = kinds-drop n is (rerun m i s).after κ.1

  pub sound-drop : (n : ℕ) (is : List Instruction) (s : State) → Sound is s → Sound (drop n is) (complexify m (take n is) s).after
  unfolding complexify then unlisted
  sound-drop zero is s d = d
  sound-drop (suc n) [] s d = tt
  sound-drop (suc n) (i ∷ is) s d = sound-drop n is (rerun m i s).after d.1
