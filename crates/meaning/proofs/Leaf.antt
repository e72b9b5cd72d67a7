-- Lines that pass the test leave a store that holds the values after an instruction: those of d, perhaps of Temp and Ret, are what the lines
-- compute, and the others stay.
use mathlib.Core.Path.{◌≡◌, refl, sym, ap, ap₂, ◌∙◌, subst}
use mathlib.Core.Bool.{Bool, true, false, ◌&&◌, ◌||◌}
use mathlib.Core.Logic.{◌≢◌, ◌⊎◌, inl, inr}
use mathlib.Core.List.{List, [], ◌∷◌, ◌++◌}
use Prim.Native.Nat.{ℕ, suc, ◌<◌, ◌≤◌}
use native.Mathlib.Omega.{arith}
use native.Mathlib.Decide.{ℕ_discrete}
use lib.ListN.{length, length-set}
use lib.Seq.{get_or-set_same, get_or-set_other}
use lib.Dec.{T, lit<}
use borrow.Author.Tests.{ne_eqb, eq-eqb}
use Rattle.mir.specs.declared.records.Loc.{Loc}
use Rattle.mir.specs.declared.records.Work.{Work}
use Rattle.mir.specs.Register.{re, im}
use Rattle.mir.specs.Place.{index}
use Rattle.mir.proofs.Tables.{and_left, and_right}
use Rattle.player_machine.specs.Machine.{Store, at, place, execs}
use Rattle.lowering.specs.declared.realness.Realness.{Realness}
use Rattle.lowering.specs.Realness.{is_real_reg, is_real_loc, set_reg}
use Rattle.player_machine.proofs.Agreeing.{has}
use Rattle.leftovers.proofs.Rows.{all_in, given, steps-keep}
use Rattle.leftovers.proofs.Held.{All}
use Rattle.leftovers.proofs.Names.{name, name-real, name-imaginary, rename, re_in, im_next, im_apart, halves_apart, pick_all, in_all}
use Rattle.meaning.specs.Value.{Value, R, C}
use Rattle.meaning.specs.Means.{Values, put}
use Rattle.meaning.specs.Preserved.{value_of, Holds, Every}
use Rattle.meaning.proofs.Eval.{Words, run, fresh, late, Valid, run-valid}
use Rattle.meaning.proofs.Apart.{Pairs, Apart, apart, apart_far, meant}

-- what stands at every point: the store holds the values, and both have their lengths
pub record Ready (X : Values) (ρ : Realness) (σ : Store) : Type 0 where
  pub holds : Holds 32 Every X ρ σ
  pub words : length σ ≡ 1602
  pub records : length ρ.regs ≡ 32

pub re_apart : (r d : ℕ) → r < 32 → d < 32 → r ≢ d → re r ≢ re d
re_apart r d hr hd n e = im_apart r d hr hd n (im_next r ∙ ap suc e ∙ sym (im_next d))

-- what lines may write beside scratch: d, and Temp and Ret where t and u say so
abbrev pub only : Bool → List ℕ → List ℕ
only true l = l
only false l = []

abbrev pub written : Bool → Bool → List ℕ
written t u = 2 ∷ 3 ∷ 4 ∷ 5 ∷ (only t (0 ∷ 1 ∷ []) ++ only u (64 ∷ 65 ∷ []))

-- a value put where t says so
abbrev pub perhaps : Bool → ℕ → Value → Values → Values
perhaps true r v X = put r v X
perhaps false r v X = X

abbrev pub names : List ℕ
names = 0 ∷ 1 ∷ 2 ∷ 3 ∷ 4 ∷ 5 ∷ 6 ∷ 7 ∷ 8 ∷ 9 ∷ 64 ∷ 65 ∷ 70 ∷ 71 ∷ []

-- both halves are fresh, the imaginary one only where the value is complex (g: it is real)
abbrev pub both : Bool → ℕ → ℕ → List ℕ → Bool
both g n n' G = has n G && (g || has n' G)

set_here : (ρ : Realness) (d : ℕ) (g : Bool) → d < length ρ.regs → is_real_reg (set_reg ρ d g) d ≡ g
set_here ρ d g h = get_or-set_same ρ.regs d g false h

set_other : (ρ : Realness) (d r : ℕ) (g : Bool) → r ≢ d → is_real_reg (set_reg ρ d g) r ≡ is_real_reg ρ r
set_other ρ d r g n = get_or-set_other ρ.regs d r g false n

pub put_here : (X : Values) (d : ℕ) (v : Value) (r : ℕ) → r ≡ d → (put d v X).reg r ≡ v
put_here X d v r e = rw (eq-eqb r d e)

pub put_other : (X : Values) (d : ℕ) (v : Value) (r : ℕ) → r ≢ d → (put d v X).reg r ≡ X.reg r
put_other X d v r n = rw (ne_eqb r d n)

pub value_as : {g g' : Bool} {x x' y y' : ℕ} → g ≡ g' → x ≡ x' → y ≡ y' → value_of g x y ≡ value_of g' x' y'
value_as p q r = λ i. value_of (p i) (q i) (r i)

module _ (k : List ℕ) (d a b : ℕ) (p : Loc) (hd : d < 32) (hp : index p < 256) where
  -- a word that is none of those that may be written
  off : (t u : Bool) (w : ℕ) → w ≢ 2 → w ≢ 3 → w ≢ re d → w ≢ im d → (T t → (w ≢ 0) × (w ≢ 1)) → (T u → (w ≢ 64) × (w ≢ 65))
      → All (λ n. name d a b p n ≢ w) (written t u)
  unfolding name
  off true true w h2 h3 h4 h5 ht hu =
      (λ e. h2 (sym e), (λ e. h3 (sym e), (λ e. h4 (sym e), (λ e. h5 (sym e), (λ e. (ht tt).0 (sym e), (λ e. (ht tt).1 (sym e), (λ e. (hu tt).0 (sym e), (λ e. (hu tt).1 (sym e), tt))))))))
  off true false w h2 h3 h4 h5 ht hu =
      (λ e. h2 (sym e), (λ e. h3 (sym e), (λ e. h4 (sym e), (λ e. h5 (sym e), (λ e. (ht tt).0 (sym e), (λ e. (ht tt).1 (sym e), tt))))))
  off false true w h2 h3 h4 h5 ht hu =
      (λ e. h2 (sym e), (λ e. h3 (sym e), (λ e. h4 (sym e), (λ e. h5 (sym e), (λ e. (hu tt).0 (sym e), (λ e. (hu tt).1 (sym e), tt))))))
  off false false w h2 h3 h4 h5 ht hu = (λ e. h2 (sym e), (λ e. h3 (sym e), (λ e. h4 (sym e), (λ e. h5 (sym e), tt))))

  module _ (t u : Bool) (l : List Work) (wr : T (all_in (given l) (written t u))) (σ : Store) where
    word-stays : (w : ℕ) → All (λ n. name d a b p n ≢ w) (written t u) → at (execs k (rename d a b p l) σ) w ≡ at σ w
    unfolding rename
    word-stays w h =
        steps-keep (name d a b p) (λ q. p) (name-real d a b p) (name-imaginary d a b p) k σ w l
        (λ n m. pick_all (λ n. name d a b p n ≢ w) (written t u) n h (in_all n (given l) (written t u) wr m))

    -- a register that is not written
    re-stays : (r : ℕ) → r < 32 → r ≢ d → (T t → r ≢ 31) → (T u → r ≢ 30) → at (execs k (rename d a b p l) σ) (re r) ≡ at σ (re r)
    unfolding re im
    re-stays r hr n nt nu =
        word-stays (re r)
        (off t u (re r) (re_in r).1 (omega (arith, (re_in r).2)) (re_apart r d hr hd n) (halves_apart r d)
        (λ x. (re_apart r 31 hr (omega arith) (nt x), halves_apart r 31))
        (λ x. (re_apart r 30 hr (omega arith) (nu x), halves_apart r 30)))

    im-stays : (r : ℕ) → r < 32 → r ≢ d → (T t → r ≢ 31) → (T u → r ≢ 30) → at (execs k (rename d a b p l) σ) (im r) ≡ at σ (im r)
    unfolding re im
    im-stays r hr n nt nu =
        word-stays (im r)
        (off t u (im r) (omega (arith, im_next r, (re_in r).2)) (omega (arith, im_next r, (re_in r).1)) (λ e. halves_apart d r (sym e)) (im_apart r d hr hd n)
        (λ x. (λ e. halves_apart 31 r (sym e), im_apart r 31 hr (omega arith) (nt x)))
        (λ x. (λ e. halves_apart 30 r (sym e), im_apart r 30 hr (omega arith) (nu x))))

    place-stays : (w : ℕ) → 66 ≤ w → at (execs k (rename d a b p l) σ) w ≡ at σ w
    place-stays w h =
        word-stays w
        (off t u w (omega arith) (omega arith) (omega (arith, (re_in d).0)) (omega (arith, (re_in d).0, im_next d))
        (λ x. (omega arith, omega arith)) (λ x. (omega arith, omega arith)))

perhaps_here : (x : Bool) (X : Values) (d : ℕ) (v : Value) (r : ℕ) → T x → r ≡ d → (perhaps x d v X).reg r ≡ v
perhaps_here true X d v r t e = put_here X d v r e
perhaps_here false X d v r t e = elim t [ ]

perhaps_other : (x : Bool) (X : Values) (d : ℕ) (v : Value) (r : ℕ) → (T x → r ≢ d) → (perhaps x d v X).reg r ≡ X.reg r
perhaps_other true X d v r n = put_other X d v r (n tt)
perhaps_other false X d v r n = refl

perhaps_place : (x : Bool) (X : Values) (d : ℕ) (v : Value) (q : Loc) → (perhaps x d v X).place q ≡ X.place q
perhaps_place true X d v q = refl
perhaps_place false X d v q = refl

said : (x : Bool) → T x ⊎ (T x → ⊥)
said true = inl tt
said false = inr (λ t. t)

-- a register whose halves are fresh under the names n and n'
pub held : {f : ℕ → ℕ} {N : ℕ} {G : List ℕ} {τ : Store} {ω : Words} → Valid f N G τ ω → (g : Bool) (n n' : ℕ) → T (both g n n' G)
    → value_of g (at τ (f n)) (at τ (f n')) ≡ value_of g (ω n) (ω n')
held {G} h true n n' t = ap R (h.on n (and_left (has n G) true t))
held {G} h false n n' t = ap₂ C (h.on n (and_left (has n G) (has n' G) t)) (h.on n' (and_right (has n G) (has n' G) t))

both_any : (g x y : Bool) → T (x && y) → T (x && (g || y))
both_any true true true t = tt
both_any false true true t = tt
both_any false false y t = elim t [ ]
both_any false true false t = elim t [ ]
both_any true false y t = elim t [ ]
both_any true true false t = elim t [ ]

-- The one computed test: the lines read fresh names, write only what they may, and leave d's halves fresh (g: d becomes real).
unfoldable pub passes : Pairs → Bool → Bool → Bool → List Work → Bool
unfolding late fresh apart all_in given
passes also t u g l = late (apart also) names l && (all_in (given l) (written t u) && both g 4 5 (fresh (apart also) names l))

-- the words that names mean in a store
abbrev pub meaning : ℕ → ℕ → ℕ → Loc → Store → Words
meaning d a b p σ n = at σ (name d a b p n)

-- what is left in a register r beside d, under the names n and n'
abbrev pub Left : Bool → ℕ → ℕ → ℕ → ℕ → Pairs → Realness → Value → List Work → Words → Type 0
Left t d r n n' also ρ v l ω =
    T t → d ≢ r → T (has n (fresh (apart also) names l) && has n' (fresh (apart also) names l)) × (value_of (is_real_reg ρ r) (ω n) (ω n') ≡ v)

module _ (k : List ℕ) (d a b : ℕ) (p : Loc) (hd : d < 32) (hp : index p < 256) (t u : Bool) (also : Pairs) (far : Apart (name d a b p) also)
    (l : List Work) (g : Bool) (ok : T (passes also t u g l)) (X : Values) (ρ : Realness) (σ : Store) (h : Ready X ρ σ) (v tv uv : Value)
    (ev : value_of g (run k l (meaning d a b p σ) 4) (run k l (meaning d a b p σ) 5) ≡ v)
    (et : Left t d 31 0 1 also ρ tv l (run k l (meaning d a b p σ)))
    (eu : Left u d 30 64 65 also ρ uv l (run k l (meaning d a b p σ)))
  where
    τ : Store
    τ = execs k (rename d a b p l) σ

    G : List ℕ
    G = fresh (apart also) names l

    X' : Values
    X' = put d v (perhaps t 31 tv (perhaps u 30 uv X))

    reads-late : T (late (apart also) names l)
    unfolding passes
    reads-late = and_left (late (apart also) names l) (all_in (given l) (written t u) && both g 4 5 (fresh (apart also) names l)) ok

    writes-few : T (all_in (given l) (written t u))
    unfolding passes
    writes-few =
        and_left (all_in (given l) (written t u)) (both g 4 5 (fresh (apart also) names l))
        (and_right (late (apart also) names l) (all_in (given l) (written t u) && both g 4 5 (fresh (apart also) names l)) ok)

    d-fresh : T (both g 4 5 (fresh (apart also) names l))
    unfolding passes
    d-fresh =
        and_right (all_in (given l) (written t u)) (both g 4 5 (fresh (apart also) names l))
        (and_right (late (apart also) names l) (all_in (given l) (written t u) && both g 4 5 (fresh (apart also) names l)) ok)

    valid : Valid (name d a b p) 1602 (fresh (apart also) names l) (execs k (rename d a b p l) σ) (run k l (meaning d a b p σ))
    unfolding rename
    valid =
        run-valid (name d a b p) (λ q. p) (name-real d a b p) (name-imaginary d a b p) (apart also)
        (apart_far (name d a b p) also (λ n. (meant d a b p hp n).0) far) 1602 (λ n. (meant d a b p hp n).1) k l reads-late
        (record { len = h.words; on = λ n m. refl })

    in-d : value_of g (at τ (re d)) (at τ (im d)) ≡ v
    unfolding τ name
    in-d = held valid g 4 5 d-fresh ∙ ev

    in-temp : T t → d ≢ 31 → value_of (is_real_reg ρ 31) (at τ (re 31)) (at τ (im 31)) ≡ tv
    unfolding τ name re im
    in-temp x n = held valid (is_real_reg ρ 31) 0 1 (both_any (is_real_reg ρ 31) (has 0 (fresh (apart also) names l)) (has 1 (fresh (apart also) names l)) (et x n).0) ∙ (et x n).1

    in-ret : T u → d ≢ 30 → value_of (is_real_reg ρ 30) (at τ (re 30)) (at τ (im 30)) ≡ uv
    unfolding τ name re im
    in-ret x n = held valid (is_real_reg ρ 30) 64 65 (both_any (is_real_reg ρ 30) (has 64 (fresh (apart also) names l)) (has 65 (fresh (apart also) names l)) (eu x n).0) ∙ (eu x n).1

    stayed : (r : ℕ) → r < 32 → r ≢ d → (T t → r ≢ 31) → (T u → r ≢ 30)
        → value_of (is_real_reg ρ r) (at τ (re r)) (at τ (im r)) ≡ X.reg r
    unfolding τ
    stayed r hr n nt nu =
        value_as {g = is_real_reg ρ r} refl (re-stays k d a b p hd hp t u l writes-few σ r hr n nt nu) (im-stays k d a b p hd hp t u l writes-few σ r hr n nt nu)
        ∙ h.holds.regs r hr

    -- a register other than d
    in-other : (r : ℕ) → r < 32 → r ≢ d → (T t ⊎ (T t → ⊥)) → (T u ⊎ (T u → ⊥)) → Dec (r ≡ 31) → Dec (r ≡ 30)
        → value_of (is_real_reg ρ r) (at τ (re r)) (at τ (im r)) ≡ (perhaps t 31 tv (perhaps u 30 uv X)).reg r
    in-other r hr n (inl x) y (yes e) q =
        subst (λ r. value_of (is_real_reg ρ r) (at τ (re r)) (at τ (im r)) ≡ tv) (sym e) (in-temp x (λ z. n (e ∙ sym z)))
        ∙ sym (perhaps_here t (perhaps u 30 uv X) 31 tv r x e)
    in-other r hr n (inr x) y (yes e) q =
        stayed r hr n (λ z. absurd (x z)) (λ z. omega arith)
        ∙ sym (perhaps_other t (perhaps u 30 uv X) 31 tv r (λ z. absurd (x z)) ∙ perhaps_other u X 30 uv r (λ z. omega arith))
    in-other r hr n x (inl y) (no m) (yes e) =
        subst (λ r. value_of (is_real_reg ρ r) (at τ (re r)) (at τ (im r)) ≡ uv) (sym e) (in-ret y (λ z. n (e ∙ sym z)))
        ∙ sym (perhaps_other t (perhaps u 30 uv X) 31 tv r (λ z. m) ∙ perhaps_here u X 30 uv r y e)
    in-other r hr n x (inr y) (no m) (yes e) =
        stayed r hr n (λ z. m) (λ z. absurd (y z))
        ∙ sym (perhaps_other t (perhaps u 30 uv X) 31 tv r (λ z. m) ∙ perhaps_other u X 30 uv r (λ z. absurd (y z)))
    in-other r hr n x y (no m) (no o) =
        stayed r hr n (λ z. m) (λ z. o)
        ∙ sym (perhaps_other t (perhaps u 30 uv X) 31 tv r (λ z. m) ∙ perhaps_other u X 30 uv r (λ z. o))

    in-reg : (r : ℕ) → r < 32 → Dec (r ≡ d) → value_of (is_real_reg (set_reg ρ d g) r) (at τ (re r)) (at τ (im r)) ≡ X'.reg r
    unfolding X'
    in-reg r hr (yes e) =
        let hl : d < length ρ.regs = omega (arith, h.records) in
        subst (λ r. value_of (is_real_reg (set_reg ρ d g) r) (at τ (re r)) (at τ (im r)) ≡ v) (sym e)
        (ap (λ g. value_of g (at τ (re d)) (at τ (im d))) (set_here ρ d g hl) ∙ in-d)
        ∙ sym (put_here (perhaps t 31 tv (perhaps u 30 uv X)) d v r e)
    in-reg r hr (no n) =
        ap (λ g. value_of g (at τ (re r)) (at τ (im r))) (set_other ρ d r g n)
        ∙ in-other r hr n (said t) (said u) (ℕ_discrete r 31) (ℕ_discrete r 30)
        ∙ sym (put_other (perhaps t 31 tv (perhaps u 30 uv X)) d v r n)

    in_place : (q : Loc) → index q < 256 → value_of (is_real_loc ρ.places q) (at τ (place q)) (at τ (suc (place q))) ≡ X'.place q
    unfolding X' τ
    in_place q hq =
        value_as {g = is_real_loc ρ.places q} refl (place-stays k d a b p hd hp t u l writes-few σ (place q) (omega arith))
        (place-stays k d a b p hd hp t u l writes-few σ (suc (place q)) (omega arith))
        ∙ h.holds.places q hq
        ∙ sym (perhaps_place t (perhaps u 30 uv X) 31 tv q ∙ perhaps_place u X 30 uv q)

    pub leaf : Ready (put d v (perhaps t 31 tv (perhaps u 30 uv X))) (set_reg ρ d g) (execs k (rename d a b p l) σ)
    unfolding X' τ
    leaf = record {
      holds = record { regs = λ r hr. in-reg r hr (ℕ_discrete r d); places = λ q hq. in_place q hq };
      words = valid.len;
      records = length-set ρ.regs d g ∙ h.records;
    }

-- ---- lines that leave words in Temp, or in Ret: by whether d is that register

-- n and n' are the names of its halves, i and i' those of d
abbrev pub besides : ℕ → ℕ → Pairs → Pairs
besides n n' also = (n, 4) ∷ (n', 5) ∷ also

unfoldable pub leaves : Pairs → Bool → Bool → ℕ → ℕ → Bool → List Work → Bool
unfolding passes fresh
leaves also t u n n' g l =
    passes also t u g l
    && (passes (besides n n' also) t u g l
    && (has n (fresh (apart (besides n n' also)) names l) && has n' (fresh (apart (besides n n' also)) names l)))

module _ (k : List ℕ) (d a b : ℕ) (hd : d < 32) (also : Pairs) (far : Apart (name d a b (Loc.Mem 0)) also) (l l' : List Work)
    (e : rename d a b (Loc.Mem 0) l ≡ l') (g : Bool) (X : Values) (ρ : Realness) (σ : Store) (h : Ready X ρ σ) (v w : Value)
    (ev : value_of g (run k l (meaning d a b (Loc.Mem 0) σ) 4) (run k l (meaning d a b (Loc.Mem 0) σ) 5) ≡ v)
  where
    pub temp-leaf : T (leaves also true false 0 1 g l)
        → value_of (is_real_reg ρ 31) (run k l (meaning d a b (Loc.Mem 0) σ) 0) (run k l (meaning d a b (Loc.Mem 0) σ) 1) ≡ w
        → Ready (put d v (put 31 w X)) (set_reg ρ d g) (execs k l' σ)
    unfolding leaves name re im
    temp-leaf ok ew =
        subst (λ l'. Ready (put d v (put 31 w X)) (set_reg ρ d g) (execs k l' σ)) e (go (ℕ_discrete d 31))
      where
        B1 : Bool
        B1 = passes also true false g l

        B2 : Bool
        B2 = passes (besides 0 1 also) true false g l

        B3 : Bool
        B3 = has 0 (fresh (apart (besides 0 1 also)) names l) && has 1 (fresh (apart (besides 0 1 also)) names l)

        go : Dec (d ≡ 31) → Ready (put d v (put 31 w X)) (set_reg ρ d g) (execs k (rename d a b (Loc.Mem 0) l) σ)
        go (yes q) =
            leaf k d a b (Loc.Mem 0) hd (lit< tt) true false also far l g (and_left B1 (B2 && B3) ok) X ρ σ h v w (R 0) ev (λ t n. absurd (n q)) (λ t. absurd t)
        go (no n) =
            leaf k d a b (Loc.Mem 0) hd (lit< tt) true false (besides 0 1 also)
            (λ q. re_apart 31 d (lit< tt) hd (λ z. n (sym z)) q, (λ q. im_apart 31 d (lit< tt) hd (λ z. n (sym z)) q, far)) l g
            (and_left B2 B3 (and_right B1 (B2 && B3) ok)) X ρ σ h v w (R 0) ev
            (λ t m. (and_right B2 B3 (and_right B1 (B2 && B3) ok), ew)) (λ t. absurd t)

    pub ret-leaf : T (leaves also false true 64 65 g l)
        → value_of (is_real_reg ρ 30) (run k l (meaning d a b (Loc.Mem 0) σ) 64) (run k l (meaning d a b (Loc.Mem 0) σ) 65) ≡ w
        → Ready (put d v (put 30 w X)) (set_reg ρ d g) (execs k l' σ)
    unfolding leaves name re im
    ret-leaf ok ew =
        subst (λ l'. Ready (put d v (put 30 w X)) (set_reg ρ d g) (execs k l' σ)) e (go (ℕ_discrete d 30))
      where
        B1 : Bool
        B1 = passes also false true g l

        B2 : Bool
        B2 = passes (besides 64 65 also) false true g l

        B3 : Bool
        B3 = has 64 (fresh (apart (besides 64 65 also)) names l) && has 65 (fresh (apart (besides 64 65 also)) names l)

        go : Dec (d ≡ 30) → Ready (put d v (put 30 w X)) (set_reg ρ d g) (execs k (rename d a b (Loc.Mem 0) l) σ)
        go (yes q) =
            leaf k d a b (Loc.Mem 0) hd (lit< tt) false true also far l g (and_left B1 (B2 && B3) ok) X ρ σ h v (R 0) w ev (λ t. absurd t) (λ t n. absurd (n q))
        go (no n) =
            leaf k d a b (Loc.Mem 0) hd (lit< tt) false true (besides 64 65 also)
            (λ q. re_apart 30 d (lit< tt) hd (λ z. n (sym z)) q, (λ q. im_apart 30 d (lit< tt) hd (λ z. n (sym z)) q, far)) l g
            (and_left B2 B3 (and_right B1 (B2 && B3) ok)) X ρ σ h v (R 0) w ev
            (λ t. absurd t) (λ t m. (and_right B2 B3 (and_right B1 (B2 && B3) ok), ew))
