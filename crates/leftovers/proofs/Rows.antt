-- What two stores agree on after a row of working records, by one computed check over names of words.
use mathlib.Core.Path.{◌≡◌, refl, sym, ap, ◌∙◌}
use mathlib.Core.Bool.{Bool, true, false, cond, ◌&&◌, true≢false}
use mathlib.Core.Logic.{◌≢◌, ◌⊎◌, ⊎_elim, inl, inr}
use mathlib.Core.List.{List, [], ◌∷◌, ◌++◌, map}
use Prim.Native.Nat.{ℕ, zero, suc}
use native.Mathlib.Omega.{arith}
use lib.Dec.{T, eqb, eqb→eq, eqb_refl}
use Rattle.mir.specs.declared.records.Loc.{Loc}
use Rattle.mir.specs.declared.records.Work.{Work}
use Rattle.mir.proofs.Tables.{and_left, and_right}
use Rattle.player_machine.specs.Machine.{Store, at, place, writes, exec, execs}
use Rattle.player_machine.specs.Draws.{is_xor, draws, fills, target, AgreeAt, done, same, Off, clear, other}
use Rattle.player_machine.proofs.Drawing.{depends, written, stays}
use Rattle.player_machine.proofs.Agreeing.{Agree, weaken, has, or_cases, or_l, or_r, put_agree}
use Rattle.marks.specs.Marks.{among}
use Rattle.marks.specs.Leads.{DrawnFirst}
use Rattle.marks.proofs.Stores.{among_has}
use Rattle.marks.proofs.Leading.{clash}

-- ---- names in a list

pub has_split : (n : ℕ) (xs ys : List ℕ) → T (has n (xs ++ ys)) → T (has n xs) ⊎ T (has n ys)
has_split n [] ys h = inr h
has_split n (x ∷ xs) ys h =
    ⊎_elim (λ e. inl (or_l (eqb n x) (has n xs) e)) (λ h'. ⊎_elim (λ a. inl (or_r (eqb n x) (has n xs) a)) (λ b. inr b) (has_split n xs ys h'))
    (or_cases (eqb n x) (has n (xs ++ ys)) h)

pub eq→eqb : {a b : ℕ} → a ≡ b → T (eqb a b)
eq→eqb {a} e = rw (← e) (eqb_refl a)

pub has_map : (f : ℕ → ℕ) (n : ℕ) (xs : List ℕ) → T (has n xs) → T (has (f n) (map f xs))
has_map f n [] h = h
has_map f n (x ∷ xs) h =
    ⊎_elim (λ e. or_l (eqb (f n) (f x)) (has (f n) (map f xs)) (eq→eqb (ap f (eqb→eq n x e))))
    (λ t. or_r (eqb (f n) (f x)) (has (f n) (map f xs)) (has_map f n xs t))
    (or_cases (eqb n x) (has n xs) h)

-- ---- the check at names of words: a name is an index in the store, and a renaming says which word it means

unfoldable pub all_in : List ℕ → List ℕ → Bool
all_in [] cl = true
all_in (x ∷ xs) cl = has x cl && all_in xs cl

-- every line draws only on names that are known when it is played
unfoldable pub check : List ℕ → List Work → Bool
check cl [] = true
check cl (a ∷ rest) = all_in (draws a) cl && check (fills a ++ cl) rest

unfoldable pub known : List ℕ → List Work → List ℕ
known cl [] = cl
known cl (a ∷ rest) = known (fills a ++ cl) rest

-- all that the lines fill
unfoldable pub given : List Work → List ℕ
given [] = []
given (a ∷ l) = fills a ++ given l

-- registers and words renamed by f, places by g
unfoldable pub ren : (ℕ → ℕ) → (Loc → Loc) → Work → Work
ren f g (Work.Uni op d a) = Work.Uni op (f d) (f a)
ren f g (Work.Bi op d a b) = Work.Bi op (f d) (f a) (f b)
ren f g (Work.Mov d a) = Work.Mov (f d) (f a)
ren f g (Work.Load d q) = Work.Load (f d) (g q)
ren f g (Work.Save a q) = Work.Save (f a) (g q)
ren f g (Work.LoadConst d i) = Work.LoadConst (f d) i
ren f g (Work.Fused op d a b c) = Work.Fused op (f d) (f a) (f b) (f c)
ren f g (Work.IfElse d a b q) = Work.IfElse (f d) (f a) (f b) (g q)
ren f g (Work.LoadComplex x y q) = Work.LoadComplex (f x) (f y) (g q)
ren f g (Work.SaveComplex x y q) = Work.SaveComplex (f x) (f y) (g q)
ren f g (Work.ComplexBi op x y x1 y1 x2 y2) = Work.ComplexBi op (f x) (f y) (f x1) (f y1) (f x2) (f y2)

pub T→true : (b : Bool) → T b → b ≡ true
T→true true h = refl
T→true false h = elim h [ ]

pub has_left : (n : ℕ) (xs ys : List ℕ) → T (has n xs) → T (has n (xs ++ ys))
has_left n (x ∷ xs) ys h =
    ⊎_elim (λ e. or_l (eqb n x) (has n (xs ++ ys)) e) (λ t. or_r (eqb n x) (has n (xs ++ ys)) (has_left n xs ys t)) (or_cases (eqb n x) (has n xs) h)
has_left n [] ys h = elim h [ ]

pub has_right : (n : ℕ) (xs ys : List ℕ) → T (has n ys) → T (has n (xs ++ ys))
has_right n [] ys h = h
has_right n (x ∷ xs) ys h = or_r (eqb n x) (has n (xs ++ ys)) (has_right n xs ys h)

-- ---- two stores that differ at one word

one : ℕ → Store
one zero = 1 ∷ []
one (suc i) = 0 ∷ one i

one_at : (i : ℕ) → at (one i) i ≡ 1
unfolding one
one_at zero = refl
one_at (suc i) = one_at i

one_off : (i j : ℕ) → j ≢ i → at (one i) j ≡ 0
unfolding one
one_off zero zero n = absurd (n refl)
one_off zero (suc j) n = refl
one_off (suc i) zero n = refl
one_off (suc i) (suc j) n = one_off i j (λ e. n (ap suc e))

agree_here : {σ τ : Store} (is : List ℕ) (i : ℕ) → AgreeAt σ τ is → T (among is i) → at σ i ≡ at τ i
agree_here (j ∷ js) i (same e h) t = ⊎_elim (λ q. rw (eqb→eq i j q) e) (λ t. agree_here js i h t) (or_cases (eqb i j) (among js i) t)
agree_here {σ = σ} {τ = τ} [] i _ t = elim t [ ]

-- where f means the words of a place by those of the place that g means
module _ (f : ℕ → ℕ) (g : Loc → Loc) (real : (q : Loc) → f (place q) ≡ place (g q)) (imaginary : (q : Loc) → f (suc (place q)) ≡ suc (place (g q)))
  where
    fills-ren : (a : Work) → fills (ren f g a) ≡ map f (fills a)
    unfolding ren
    fills-ren (Work.Uni op d a) = refl
    fills-ren (Work.Bi op d a b) = refl
    fills-ren (Work.Mov d a) = refl
    fills-ren (Work.Load d q) = refl
    fills-ren (Work.Save a q) = simp (real q)
    fills-ren (Work.LoadConst d i) = refl
    fills-ren (Work.Fused op d a b c) = refl
    fills-ren (Work.IfElse d a b q) = refl
    fills-ren (Work.LoadComplex x y q) = refl
    fills-ren (Work.SaveComplex x y q) = simp (real q, imaginary q)
    fills-ren (Work.ComplexBi op x y x1 y1 x2 y2) = refl

    -- operands that get one name are still equal, and others may become equal
    draws-bi : {σ τ : Store} (a b : ℕ) (x y z : Bool) → eqb a b ≡ x → eqb (f a) (f b) ≡ y
        → AgreeAt σ τ (map f (cond (x && z) [] (a ∷ b ∷ []))) → AgreeAt σ τ (cond (y && z) [] (f a ∷ f b ∷ []))
    draws-bi a b x true true e e' h = done
    draws-bi a b true true false e e' h = h
    draws-bi a b false true false e e' h = h
    draws-bi a b false false z e e' h = h
    draws-bi a b true false z e e' h =
        absurd (true≢false (sym (T→true (eqb (f a) (f b)) (eq→eqb (ap f (eqb→eq a b (rw e tt))))) ∙ e'))

    draws-ren : {σ τ : Store} (a : Work) → AgreeAt σ τ (map f (draws a)) → AgreeAt σ τ (draws (ren f g a))
    unfolding ren
    draws-ren (Work.Uni op d a) h = h
    draws-ren (Work.Bi op d a b) h = draws-bi a b _ _ (is_xor op) refl refl h
    draws-ren (Work.Mov d a) h = h
    draws-ren (Work.Load d q) h = rw (real q) at h
    draws-ren (Work.Save a q) h = h
    draws-ren (Work.LoadConst d i) h = h
    draws-ren (Work.Fused op d a b c) h = h
    draws-ren (Work.IfElse d a b q) h = rw (real q) at h
    draws-ren (Work.LoadComplex x y q) h = rw (real q, imaginary q) at h
    draws-ren (Work.SaveComplex x y q) h = h
    draws-ren (Work.ComplexBi op x y x1 y1 x2 y2) h = h

    agree_at : {σ τ : Store} (xs cl : List ℕ) → ((n : ℕ) → T (has n cl) → at σ (f n) ≡ at τ (f n)) → T (all_in xs cl) → AgreeAt σ τ (map f xs)
    unfolding all_in
    agree_at [] cl s h = done
    agree_at (x ∷ xs) cl s h = same (s x (and_left (has x cl) (all_in xs cl) h)) (agree_at xs cl s (and_right (has x cl) (all_in xs cl) h))

    off-map : (w : ℕ) (xs : List ℕ) → ((n : ℕ) → T (has n xs) → f n ≢ w) → Off w (map f xs)
    off-map w [] h = clear
    off-map w (x ∷ xs) h =
        other (λ e. h x (or_l (eqb x x) (has x xs) (eqb_refl x)) (sym e)) (off-map w xs (λ n m. h n (or_r (eqb n x) (has n xs) m)))

    -- what is agreed on: C, and the words that the names in cl mean
    unfoldable pub Named : (ℕ → Type 0) → List ℕ → ℕ → Type 0
    Named C cl w = C w ⊎ ((n : ℕ) × T (has n cl) × (f n ≡ w))

    module _ (k : List ℕ) (C : ℕ → Type 0) where
      told : (σ : Store) (cl : List ℕ) (a : Work) (w : ℕ) → Named C (fills a ++ cl) w
          → Named C cl w ⊎ T (has w (map target (writes k σ (ren f g a))))
      unfolding Named
      told σ cl a w (inl c) = inl (inl c)
      told σ cl a w (inr m) =
          ⊎_elim (λ x. inr (rw (written k (ren f g a) σ, fills-ren a, ← m.2) (has_map f m.0 (fills a) x))) (λ c. inl (inr (m.0, c, m.2)))
          (has_split m.0 (fills a) cl m.1)

      step-agree : {σ τ : Store} (cl : List ℕ) (a : Work) → T (all_in (draws a) cl) → Agree (Named C cl) σ τ
          → Agree (Named C (fills a ++ cl)) (exec k (ren f g a) σ) (exec k (ren f g a) τ)
      unfolding exec Named
      step-agree {σ} {τ} cl a h ag =
          let e = depends k (ren f g a) σ τ (draws-ren a (agree_at (draws a) cl (λ n c. ag.on (f n) (inr (n, c, refl))) h)) in
          rw (← e) (weaken (told σ cl a) (put_agree (writes k σ (ren f g a)) ag))

      pub steps-agree : {σ τ : Store} (cl : List ℕ) (l : List Work) → T (check cl l) → Agree (Named C cl) σ τ
          → Agree (Named C (known cl l)) (execs k (map (ren f g) l) σ) (execs k (map (ren f g) l) τ)
      unfolding execs check known
      steps-agree cl [] h ag = ag
      steps-agree {σ = σ} {τ = τ} cl (a ∷ l) h ag =
          steps-agree {σ = exec k (ren f g a) σ} {τ = exec k (ren f g a) τ} (fills a ++ cl) l (and_right (all_in (draws a) cl) (check (fills a ++ cl) l) h)
          (step-agree cl a (and_left (all_in (draws a) cl) (check (fills a ++ cl) l) h) ag)

    -- the words that no line fills stay
    step_keeps : (k : List ℕ) (σ : Store) (w : ℕ) (a : Work) → ((n : ℕ) → T (has n (fills a)) → f n ≢ w) → at (exec k (ren f g a) σ) w ≡ at σ w
    step_keeps k σ w a h = stays k (ren f g a) σ w (rw (fills-ren a) (off-map w (fills a) h))

    pub steps-keep : (k : List ℕ) (σ : Store) (w : ℕ) (l : List Work) → ((n : ℕ) → T (has n (given l)) → f n ≢ w)
        → at (execs k (map (ren f g) l) σ) w ≡ at σ w
    unfolding execs given
    steps-keep k σ w [] h = refl
    steps-keep k σ w (a ∷ l) h =
        steps-keep k (exec k (ren f g a) σ) w l (λ n m. h n (has_right n (fills a) (given l) m))
        ∙ step_keeps k σ w a (λ n m. h n (has_left n (fills a) (given l) m))

    -- a word that no known name means is not drawn on before a line fills it
    drawn-name : (i : ℕ) (cl : List ℕ) (a : Work) → ((n : ℕ) → T (has n cl) → f n ≢ i) → T (all_in (draws a) cl)
        → T (among (draws (ren f g a)) i) → ⊥
    drawn-name i cl a out t d =
        let h = draws-ren {σ = []} {τ = one i} a (agree_at (draws a) cl (λ n c. sym (one_off i (f n) (out n c))) t) in
        let z : ◌≡◌ {A = ℕ} 0 1 = agree_here (draws (ren f g a)) i h d ∙ one_at i in
        absurd (omega (arith, z))

    filled-name : (i n : ℕ) (a : Work) → T (has n (fills a)) → f n ≡ i → T (among (fills (ren f g a)) i)
    filled-name i n a x e = rw (among_has (fills (ren f g a)) i, fills-ren a, ← e) (has_map f n (fills a) x)

    pub undrawn : (i : ℕ) (cl : List ℕ) (l : List Work) → ((n : ℕ) → T (has n cl) → f n ≢ i) → T (check cl l)
        → DrawnFirst i (map (ren f g) l) → ⊥
    unfolding check
    undrawn i cl (a ∷ l) out c (inl d) = drawn-name i cl a out (and_left (all_in (draws a) cl) (check (fills a ++ cl) l) c) d
    undrawn i cl (a ∷ l) out c (inr p) =
        undrawn i (fills a ++ cl) l
        (λ n h. ⊎_elim (λ x e. clash (among (fills (ren f g a)) i) (filled-name i n a x e) p.0) (λ x. out n x) (has_split n (fills a) cl h))
        (and_right (all_in (draws a) cl) (check (fills a ++ cl) l) c) p.1
    undrawn i cl [] out c x3 = elim x3 [ ]
