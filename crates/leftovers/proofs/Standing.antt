-- What 10 and 11 leave: each branch meets its label with the records held there, and the listing's own labels and branches are fair.
use Prim.Native.Nat.{ℕ, ◌+◌, ◌<◌}
use mathlib.Core.Path.{◌≡◌, refl, sym, ap, ◌∙◌, subst}
use mathlib.Core.Bool.{Bool, true, false, not, cond, ◌&&◌, ◌||◌, true≢false, or_assoc, or-false}
use mathlib.Core.List.{List, [], ◌∷◌, ◌++◌, reverse_aux}
use mathlib.Core.Option.{Option, none, some}
use native.Mathlib.Omega.{arith}
use native.Mathlib.Nat.{zero-add}
use borrow.Author.Tests.{eqb-true, eq-eqb, lt-ltb, not-false}
use lib.Dec.{ltb, eqb}
use Rattle.mir.specs.declared.records.Work.{Work}
use Rattle.mir.specs.declared.records.Record.{Record}
use Rattle.mir.specs.declared.records.Instruction.{Instruction}
use Rattle.mir.specs.Register.{re}
use Rattle.mir.proofs.Passing.{or_left, or_right}
use Rattle.sheet.specs.declared.setup.Mode.{Mode}
use Rattle.lowering.specs.declared.realness.Realness.{Realness}
use Rattle.player_machine.specs.Machine.{is_label}
use Rattle.player_machine.specs.Jumps.{bit, tally, has}
use Rattle.lowering.specs.Complexifier as c
use Rattle.lowering.specs.Complexifier.{State, then, unlisted}
use Rattle.lowering.specs.Rerun.{rerun, complexify}
use Rattle.lowering.specs.Labels as Labels
use Rattle.lowering.specs.Labels.{Role, role, Sent, Standing, later, misplaced, same_records, differs, unequal, passed, sees}
use Rattle.lowering.specs.Lower.{past}
use Rattle.lowering.proofs.Ahead.{label_in}
use Rattle.lowering.proofs.Same.{same-records}
use Rattle.leftovers.proofs.Ahead.{Reads, next, stands, later_stands}
use Rattle.leftovers.proofs.Accepting.{Accepts}
use Rattle.leftovers.proofs.Branches.{either, MeetsBy, SendsBy, Meets, Sound, AllTame, works_tame, tame_without, works_role, View, working-one, label-one, branch_one, branch-if-one, view}
use Rattle.leftovers.proofs.Sought.{Without}
use Rattle.leftovers.proofs.Jumping.{Fair}
use Rattle.leftovers.proofs.Instructions.{Works}

-- ---- a branch and its label

-- a branch to l among those before
pub data Among (x : Sent) : List Sent → Type 0 where
  here : {xs : List Sent} → Among x (x ∷ xs)
  there : {y : Sent} {xs : List Sent} → Among x xs → Among x (y ∷ xs)

equal_at : (l : ℕ) (ρ : Realness) (x : Sent) (xs : List Sent) → x.label ≡ l → differs l ρ xs ≡ false → Among x xs → x.real ≡ ρ
equal_at l ρ x (_ ∷ xs) e d here =
    let f = or_left (eqb x.label l && not (same_records x.real ρ)) (differs l ρ xs) d in
    same-records x.real ρ (not-false (same_records x.real ρ) (rw (eq-eqb x.label l e) at f))
equal_at l ρ x (y ∷ xs) e d (there a) =
    equal_at l ρ x xs e (or_right (eqb y.label l && not (same_records y.real ρ)) (differs l ρ xs) d) a
equal_at l ρ x [] e d x4 = elim x4 [ ]

-- ---- each branch meets its label

module _ (k : List ℕ) (B : List Work) (m : Mode) where
  -- a branch so far whose label stands later
  pub meets : (x : Sent) (is : List Instruction) (rest : List ℕ) (b : Standing) (s : State) → Among x b.branches
      → stands x.label is ≡ true → Accepts m is rest b s → Meets k B m x.label x.real is s
  unfolding unequal passed
  meets x [] rest b s a l c = absurd (true≢false (sym l))
  meets x (i ∷ is) rest b s a l c =
      go (role i) l c.1 (λ l. meets x is (past rest) (passed (role i) s.real b) (rerun m i s).after (still (role i)) l c.2)
    where
      still : (r : Role) → Among x (passed r s.real b).branches
      still Labels.works = a
      still (Labels.labels n) = a
      still (Labels.branches n) = there a

      on : Type 0
      on = Meets k B m x.label x.real is (rerun m i s).after

      go : (r : Role) → (sees x.label (label_in r) || stands x.label is) ≡ true → unequal r b s.real ≡ false
          → (stands x.label is ≡ true → on) → MeetsBy r x.label x.real s.real on
      go Labels.works l u f = f l
      go (Labels.branches n) l u f = f l
      go (Labels.labels n) l u f = at (eqb n x.label) refl l
        where
          at : (q : Bool) → eqb n x.label ≡ q → (q || stands x.label is) ≡ true → either q (x.real ≡ s.real) on
          at true t l = equal_at n s.real x b.branches (sym (eqb-true n x.label t)) u a
          at false t l = f l

  pub sound : (count : ℕ) (is : List Instruction) (rest : List ℕ) (b : Standing) (s : State) → Reads count rest is → Accepts m is rest b s
      → Sound k B m is s
  unfolding misplaced passed
  sound count [] rest b s r c = tt
  sound count (i ∷ is) rest b s (next e r) c =
      (go (role i) c.0 c.2, sound count is (past rest) (passed (role i) s.real b) (rerun m i s).after r c.2)
    where
      go : (q : Role) → misplaced q b (past rest) ≡ false → Accepts m is (past rest) (passed q s.real b) (rerun m i s).after
          → SendsBy q (λ l. Meets k B m l s.real is (rerun m i s).after)
      go Labels.works p c = tt
      go (Labels.labels n) p c = tt
      go (Labels.branches n) p c =
          meets (record { label = n; real = s.real }) is (past rest) (passed (Labels.branches n) s.real b) (rerun m i s).after here
          (sym (later_stands count n r) ∙ not-false (later n (past rest)) (or_left (not (later n (past rest))) (Labels.stands n b.labels) p)) c

-- ---- the listing is fair

has_cons : (p : Record → Bool) (r : Record) (rs : List Record) → has p (r ∷ rs) ≡ (p r || has p rs)
unfolding tally
has_cons p r rs = go (p r)
  where
    go : (q : Bool) → ltb 0 (bit q + tally p rs) ≡ (q || ltb 0 (tally p rs))
    go true = lt-ltb 0 (1 + tally p rs) (omega arith)
    go false = ap (ltb 0) (zero-add (tally p rs))

has_append : (p : Record → Bool) (rs rs' : List Record) → has p (rs ++ rs') ≡ (has p rs || has p rs')
unfolding tally
has_append p [] rs' = refl
has_append p (r ∷ rs) rs' =
    has_cons p r (rs ++ rs') ∙ ap (λ (q : Bool). p r || q) (has_append p rs rs') ∙ sym (or_assoc (p r) (has p rs) (has p rs'))
    ∙ ap (λ (q : Bool). q || has p rs') (sym (has_cons p r rs))

has_without : (l : ℕ) (rs : List Record) → Without l rs → has (is_label l) rs ≡ false
unfolding tally
has_without l [] w = refl
has_without l (r ∷ rs) w = has_cons (is_label l) r rs ∙ rw w.0 (has_without l rs w.1)

-- passed over in reverse
has_before : (l : ℕ) (rs before : List Record) → Without l rs → has (is_label l) (reverse_aux rs before) ≡ has (is_label l) before
has_before l [] before w = refl
has_before l (r ∷ rs) before w = has_before l rs (r ∷ before) w.1 ∙ has_cons (is_label l) r before ∙ rw w.0 refl

fair_tame : (before rs rest : List Record) → AllTame rs → Fair (reverse_aux rs before) rest → Fair before (rs ++ rest)
fair_tame before [] rest t f = f
fair_tame before (Record.Work w ∷ rs) rest t f = (tt, fair_tame (Record.Work w ∷ before) rs rest t.1 f)
fair_tame before (Record.Label l ∷ rs) rest t f =
    (λ h. absurd (let q = t.0 in omega (arith, h, q)), fair_tame (Record.Label l ∷ before) rs rest t.1 f)
fair_tame before (Record.Branch l ∷ rs) rest t f =
    (λ h. absurd (let q = t.0 in omega (arith, h, q)), fair_tame (Record.Branch l ∷ before) rs rest t.1 f)
fair_tame before (Record.Call l ∷ rs) rest t f = (tt, fair_tame (Record.Call l ∷ before) rs rest t.1 f)
fair_tame before (Record.BranchIf c l e ∷ rs) rest t f = absurd t.0

module _ (m : Mode) where
  -- the sheet's own labels in the listing are those of the instructions
  one_label : (l : ℕ) → 2 < l → {i : Instruction} → View i → (s : State) → has (is_label l) (rerun m i s).records ≡ sees l (label_in (role i))
  unfolding rerun c.directed is_label tally role
  one_label l h (working-one {i} z) s =
      has_without l (rerun m i s).records (tame_without l h (rerun m i s).records (works_tame m i s z))
      ∙ sym (ap (λ (r : Role). sees l (label_in r)) (works_role i z))
  one_label l h (label-one n) s = has_cons (is_label l) (Record.Label n) [] ∙ or-false (eqb n l)
  one_label l h (branch_one n) s = refl
  one_label l h (branch-if-one r n e) s = refl

  listed-labels : (l : ℕ) → 2 < l → (is : List Instruction) (s : State) → has (is_label l) (complexify m is s).records ≡ stands l is
  unfolding complexify then unlisted tally
  listed-labels l h [] s = refl
  listed-labels l h (i ∷ is) s =
      has_append (is_label l) (rerun m i s).records (complexify m is (rerun m i s).after).records
      ∙ ap (λ (q : Bool). has (is_label l) (rerun m i s).records || q) (listed-labels l h is (rerun m i s).after)
      ∙ ap (λ (q : Bool). q || stands l is) (one_label l h (view i) s)

  -- the labels before are those that stood
  abbrev Stood : List Record → Standing → Type 0
  Stood before b = (l : ℕ) → 2 < l → has (is_label l) before ≡ Labels.stands l b.labels

  -- of a branch to l
  branch-fair : (count l : ℕ) (is : List Instruction) (rest : List ℕ) (before : List Record) (b : Standing) (s : State) → Reads count rest is
      → misplaced (Labels.branches l) b rest ≡ false → Stood before b
      → 2 < l → (has (is_label l) (complexify m is s).records ≡ true) × (has (is_label l) before ≡ false)
  unfolding misplaced
  branch-fair count l is rest before b s r p h q = (
    listed-labels l q is s ∙ sym (later_stands count l r)
        ∙ not-false (later l rest) (or_left (not (later l rest)) (Labels.stands l b.labels) p),
    h l q ∙ or_right (not (later l rest)) (Labels.stands l b.labels) p,
  )

  -- a record that is no label leaves what stood
  stood_on : (r : Record) (before : List Record) (b : Standing) → ((l : ℕ) → is_label l r ≡ false) → Stood before b → Stood (r ∷ before) b
  stood_on r before b n h l q = has_cons (is_label l) r before ∙ rw (n l) (h l q)

  pub fair : (count : ℕ) (is : List Instruction) (rest : List ℕ) (before : List Record) (b : Standing) (s : State) → Reads count rest is
      → Accepts m is rest b s → Stood before b → Fair before (complexify m is s).records
  unfolding complexify then unlisted passed rerun c.directed role misplaced is_label
  fair count [] rest before b s r c h = tt
  fair count (i ∷ is) rest before b s (next e r) c h =
      go (view i) c (fair count is (past rest))
    where
      go : {i : Instruction} → View i → Accepts m (i ∷ is) rest b s
          → ((before : List Record) (b : Standing) (s : State) → Reads count (past rest) is → Accepts m is (past rest) b s → Stood before b
          → Fair before (complexify m is s).records)
          → Fair before ((rerun m i s).records ++ (complexify m is (rerun m i s).after).records)
      go (working-one {i} z) c ih =
          let rs = (rerun m i s).records in
          let t = works_tame m i s z in
          fair_tame before rs (complexify m is (rerun m i s).after).records t
          (ih (reverse_aux rs before) b (rerun m i s).after r
          (subst (λ (x : Role). Accepts m is (past rest) (passed x s.real b) (rerun m i s).after) (works_role i z) c.2)
          (λ l q. has_before l rs before (tame_without l q rs t) ∙ h l q))
      go (label-one l) c ih = (
        λ q. h l q ∙ c.0,
        ih (Record.Label l ∷ before) (record { labels = l ∷ b.labels; branches = b.branches }) s r c.2
            (λ n q. has_cons (is_label n) (Record.Label l) before ∙ ap (λ (x : Bool). eqb l n || x) (h n q)),
      )
      go (branch_one l) c ih = (
        branch-fair count l is (past rest) before b s r c.0 h,
        ih (Record.Branch l ∷ before) (record { labels = b.labels; branches = record { label = l; real = s.real } ∷ b.branches }) s r c.2
            (stood_on (Record.Branch l) before b (λ n. refl) h),
      )
      go (branch-if-one x l f) c ih = (
        branch-fair count l is (past rest) before b s r c.0 h,
        ih (Record.BranchIf (re x) l f ∷ before) (record { labels = b.labels; branches = record { label = l; real = s.real } ∷ b.branches }) s r c.2
            (stood_on (Record.BranchIf (re x) l f) before b (λ n. refl) h),
      )
