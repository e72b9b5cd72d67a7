-- Lines that write a place and scratch, and no register; loads and saves.
use mathlib.Core.Path.{◌≡◌, refl, sym, ap, ◌∙◌, subst}
use mathlib.Core.Bool.{Bool, true, false, ◌&&◌}
use mathlib.Core.Logic.{◌≢◌}
use mathlib.Core.List.{List, [], ◌∷◌, map}
use Prim.Native.Nat.{ℕ, suc, ◌+◌, ◌<◌}
use native.Mathlib.Omega.{arith}
use native.Mathlib.Decide.{ℕ_discrete}
use lib.Dec.{T}
use borrow.Author.Tests.{ne_eqb, eq-eqb}
use Rattle.mir.specs.declared.records.Loc.{Loc}
use Rattle.mir.specs.declared.records.Work.{Work}
use Rattle.mir.specs.declared.records.Record.{Record}
use Rattle.mir.specs.Register.{re, im}
use Rattle.mir.specs.Place.{index}
use Rattle.mir.proofs.Tables.{and_left, and_right}
use Rattle.mir.proofs.IfRead.{Saved}
use Rattle.player_machine.specs.Machine.{Store, at, place, execs}
use Rattle.lowering.specs.declared.realness.Realness.{Realness}
use Rattle.lowering.specs.Realness.{is_real_reg, is_real_loc, set_reg, without_loc}
use Rattle.lowering.specs.Lines.{ensure_lines, load_lines, save_lines}
use Rattle.lowering.specs.Complexifier as c
use Rattle.lowering.specs.Complexifier.{State, then, emit, saved_realness}
use Rattle.leftovers.proofs.Rows.{all_in, given, steps-keep}
use Rattle.leftovers.proofs.Names.{name, name-real, name-imaginary, rename, re_in, im_next, pick_all, in_all}
use Rattle.leftovers.proofs.Bit.{clear_here, clear_other}
use Rattle.leftovers.proofs.Clearing.{complex-set}
use Rattle.meaning.specs.Value.{Value, R, re_of, im_of, wide}
use Rattle.meaning.specs.Means.{Values, put, put_place, widen}
use Rattle.meaning.specs.Preserved.{value_of}
use Rattle.meaning.proofs.Eval.{run, fresh, late, Valid, run-valid}
use Rattle.meaning.proofs.Apart.{apart, apart_far, meant}
use Rattle.meaning.proofs.Leaf.{Ready, names, both, meaning, held, value_as, passes, leaf}
use Rattle.meaning.proofs.Stretch.{Computes, Does, works, join, recast, operand}
use Rattle.meaning.proofs.Modes.{by_one, only-d}

-- places that have one word are one
pub place_inj : (p q : Loc) → index p < 256 → index q < 256 → place p ≡ place q → p ≡ q
place_inj (Loc.Stack i) (Loc.Stack j) hp hq e = ap Loc.Stack (omega arith)
place_inj (Loc.Stack i) (Loc.Mem j) hp hq e = absurd (omega arith)
place_inj (Loc.Stack i) (Loc.Param j) hp hq e = absurd (omega arith)
place_inj (Loc.Mem i) (Loc.Stack j) hp hq e = absurd (omega arith)
place_inj (Loc.Mem i) (Loc.Mem j) hp hq e = ap Loc.Mem (omega arith)
place_inj (Loc.Mem i) (Loc.Param j) hp hq e = absurd (omega arith)
place_inj (Loc.Param i) (Loc.Stack j) hp hq e = absurd (omega arith)
place_inj (Loc.Param i) (Loc.Mem j) hp hq e = absurd (omega arith)
place_inj (Loc.Param i) (Loc.Param j) hp hq e = ap Loc.Param (omega arith)

-- the words of places are apart
place_apart : (p q : Loc) → place p ≢ place q → (place p ≢ place q) × (place p ≢ suc (place q)) × (suc (place p) ≢ place q) × (suc (place p) ≢ suc (place q))
place_apart p q n = (n, omega arith, omega arith, omega arith)

abbrev pub placed : List ℕ
placed = 2 ∷ 3 ∷ 70 ∷ 71 ∷ []

-- the lines read fresh names, write the place and scratch, and leave the place's words fresh (g: it is real)
unfoldable pub stores : Bool → List Work → Bool
unfolding late fresh apart all_in given
stores g l = late (apart []) names l && (all_in (given l) placed && both g 70 71 (fresh (apart []) names l))

module _ (k : List ℕ) (a : ℕ) (p : Loc) (hp : index p < 256) (l : List Work) (g : Bool) (ok : T (stores g l)) (X : Values) (ρ : Realness)
    (places' : List ℕ) (σ : Store) (h : Ready X ρ σ) (v : Value)
    (eg : is_real_loc places' p ≡ g)
    (eo : (q : Loc) → index q < 256 → place q ≢ place p → is_real_loc places' q ≡ is_real_loc ρ.places q)
    (ev : value_of g (run k l (meaning a a a p σ) 70) (run k l (meaning a a a p σ) 71) ≡ v)
  where
    τ : Store
    τ = execs k (rename a a a p l) σ

    reads-late : T (late (apart []) names l)
    unfolding stores
    reads-late = and_left (late (apart []) names l) (all_in (given l) placed && both g 70 71 (fresh (apart []) names l)) ok

    writes-few : T (all_in (given l) placed)
    unfolding stores
    writes-few =
        and_left (all_in (given l) placed) (both g 70 71 (fresh (apart []) names l))
        (and_right (late (apart []) names l) (all_in (given l) placed && both g 70 71 (fresh (apart []) names l)) ok)

    p-fresh : T (both g 70 71 (fresh (apart []) names l))
    unfolding stores
    p-fresh =
        and_right (all_in (given l) placed) (both g 70 71 (fresh (apart []) names l))
        (and_right (late (apart []) names l) (all_in (given l) placed && both g 70 71 (fresh (apart []) names l)) ok)

    valid : Valid (name a a a p) 1602 (fresh (apart []) names l) (execs k (rename a a a p l) σ) (run k l (meaning a a a p σ))
    unfolding rename
    valid =
        run-valid (name a a a p) (λ q. p) (name-real a a a p) (name-imaginary a a a p) (apart [])
        (apart_far (name a a a p) [] (λ n. (meant a a a p hp n).0) tt) 1602 (λ n. (meant a a a p hp n).1) k l reads-late
        (record { len = h.words; on = λ n m. refl })

    word-stays : (w : ℕ) → w ≢ 2 → w ≢ 3 → w ≢ place p → w ≢ suc (place p) → at τ w ≡ at σ w
    unfolding rename τ name
    word-stays w h2 h3 hr hi =
        steps-keep (name a a a p) (λ q. p) (name-real a a a p) (name-imaginary a a a p) k σ w l
        (λ n m. pick_all (λ n. name a a a p n ≢ w) placed n
        (λ e. h2 (sym e), (λ e. h3 (sym e), (λ e. hr (sym e), (λ e. hi (sym e), tt)))) (in_all n (given l) placed writes-few m))

    in-reg : (r : ℕ) → r < 32 → value_of (is_real_reg ρ r) (at τ (re r)) (at τ (im r)) ≡ X.reg r
    in-reg r hr =
        value_as {g = is_real_reg ρ r} refl
        (word-stays (re r) (re_in r).1 (omega (arith, (re_in r).2)) (omega (arith, (re_in r).0)) (omega (arith, (re_in r).0)))
        (word-stays (im r) (omega (arith, im_next r, (re_in r).2)) (omega (arith, im_next r, (re_in r).1)) (omega (arith, im_next r, (re_in r).0))
        (omega (arith, im_next r, (re_in r).0)))
        ∙ h.holds.regs r hr

    in_p : value_of g (at τ (place p)) (at τ (suc (place p))) ≡ v
    unfolding τ name
    in_p = held valid g 70 71 p-fresh ∙ ev

    in_place : (q : Loc) → index q < 256 → Dec (place q ≡ place p)
        → value_of (is_real_loc places' q) (at τ (place q)) (at τ (suc (place q))) ≡ (put_place p v X).place q
    in_place q hq (yes e) =
        subst (λ q. value_of (is_real_loc places' q) (at τ (place q)) (at τ (suc (place q))) ≡ v) (sym (place_inj q p hq hp e))
        (ap (λ g. value_of g (at τ (place p)) (at τ (suc (place p)))) eg ∙ in_p)
        ∙ sym (rw (eq-eqb (place q) (place p) e))
    in_place q hq (no n) =
        let r = place_apart q p n in
        value_as (eo q hq n) (word-stays (place q) (omega arith) (omega arith) r.0 r.1)
        (word-stays (suc (place q)) (omega arith) (omega arith) r.2 r.3)
        ∙ h.holds.places q hq
        ∙ sym (rw (ne_eqb (place q) (place p) n))

    pub place-leaf : Ready (put_place p v X) (record { regs = ρ.regs; places = places' }) (execs k (rename a a a p l) σ)
    unfolding τ
    place-leaf = record {
      holds = record { regs = in-reg; places = λ q hq. in_place q hq (ℕ_discrete (place q) (place p)) };
      words = valid.len;
      records = h.records;
    }

-- ---- loads

module _ (k : List ℕ) (s : State) (d : ℕ) (p : Loc) (hd : d < 32) (hp : index p < 256) (X : Values) (σ : Store) (h : Ready X s.real σ) where
  load-ready : (z : Bool) → is_real_loc s.real.places p ≡ z → Ready (put d (X.place p) X) (set_reg s.real d z) (execs k (load_lines z d p) σ)
  unfolding load_lines passes rename run name
  load-ready true e =
      leaf k d d d p hd hp false false [] tt (load_lines true 0 (Loc.Stack 2)) true tt X s.real σ h _ (R 0) (R 0)
      (ap (λ z. value_of z (at σ (place p)) (at σ (suc (place p)))) (sym e) ∙ h.holds.places p hp) (λ t. absurd t) (λ t. absurd t)
  load-ready false e =
      leaf k d d d p hd hp false false [] tt (load_lines false 0 (Loc.Stack 2)) false tt X s.real σ h _ (R 0) (R 0)
      (ap (λ z. value_of z (at σ (place p)) (at σ (suc (place p)))) (sym e) ∙ h.holds.places p hp) (λ t. absurd t) (λ t. absurd t)

pub load_does : (k : List ℕ) (B : List Work) (s : State) (d : ℕ) (p : Loc) → d < 32 → index p < 256
    → Does k B (λ X. put d (X.place p) X) s (c.load_from d p s)
unfolding c.load_from emit
load_does k B s d p hd hp =
    works (load_lines (is_real_loc s.real.places p) d p) (λ X σ h. load-ready k s d p hd hp X σ h (is_real_loc s.real.places p) refl)

-- ---- `ensure_complex`

module _ (k : List ℕ) (B : List Work) (s : State) (a : ℕ) (ha : a < 32) where
  ensured : (x : Bool) → is_real_reg s.real a ≡ x
      → Computes k B (λ X. put a (wide (X.reg a)) X) s.real (map Record.Work (ensure_lines x a)) (set_reg s.real a false)
  unfolding ensure_lines passes rename run name re_of im_of
  ensured true e =
      by_one k B s.real _ (λ v X. put a (wide v) X) (ensure_lines true a) a ha true e
      (λ X σ h. only-d k a a a ha X s.real σ h (ensure_lines true 0) (ensure_lines true a) false tt refl _ refl)
  ensured false e =
      by_one k B s.real _ (λ v X. put a (wide v) X) (ensure_lines false a) a ha false e
      (λ X σ h. only-d k a a a ha X s.real σ h [] [] false tt refl _ refl)

  pub ensure-does : Does k B (widen a) s (c.ensure_complex a s)
  unfolding c.ensure_complex emit
  ensure-does = ensured (is_real_reg s.real a) refl

-- ---- saves

saved_here : (p : Loc) (ρ : Realness) → Saved p → is_real_loc (saved_realness p ρ).places p ≡ false
unfolding is_real_loc without_loc
saved_here (Loc.Stack i) ρ h = clear_here ρ.places i
saved_here (Loc.Mem i) ρ h = refl
saved_here (Loc.Param i) ρ h = absurd h

saved_other : (p q : Loc) (ρ : Realness) → index p < 256 → index q < 256 → place q ≢ place p
    → is_real_loc (saved_realness p ρ).places q ≡ is_real_loc ρ.places q
unfolding is_real_loc without_loc
saved_other (Loc.Mem i) q ρ hp hq n = refl
saved_other (Loc.Param i) q ρ hp hq n = refl
saved_other (Loc.Stack i) (Loc.Stack j) ρ hp hq n = clear_other ρ.places i j (λ e. n (ap (λ i. place (Loc.Stack i)) e))
saved_other (Loc.Stack i) (Loc.Mem j) ρ hp hq n = refl
saved_other (Loc.Stack i) (Loc.Param j) ρ hp hq n = clear_other ρ.places i (256 + j) (omega arith)

saved_real : (p : Loc) (ρ : Realness) → saved_realness p ρ ≡ record { regs = ρ.regs; places = (saved_realness p ρ).places }
saved_real (Loc.Stack i) ρ = refl
saved_real (Loc.Mem i) ρ = refl
saved_real (Loc.Param i) ρ = refl

module _ (k : List ℕ) (B : List Work) (a : ℕ) (p : Loc) (ha : a < 32) (hp : index p < 256) (sv : Saved p) where
  store_does : (ρ : Realness) → is_real_reg ρ a ≡ false
      → Computes k B (λ X. put_place p (X.reg a) X) ρ (map Record.Work (save_lines a p)) (saved_realness p ρ)
  unfolding save_lines stores rename run name
  store_does ρ e =
      works (save_lines a p) (λ X σ h.
      subst (λ ρ'. Ready (put_place p (X.reg a) X) ρ' (execs k (save_lines a p) σ)) (sym (saved_real p ρ))
      (place-leaf k a p hp (Work.SaveComplex 4 5 (Loc.Stack 2) ∷ []) false tt X ρ (saved_realness p ρ).places σ h (X.reg a) (saved_here p ρ sv)
      (λ q hq n. saved_other p q ρ hp hq n) (operand h a ha false e)))

  wide-there : (X : Values) → (widen a X).reg a ≡ wide (X.reg a)
  wide-there X = rw (eq-eqb a a refl)

  pub save-does : (s : State) → Does k B (λ X. put_place p (wide (X.reg a)) (widen a X)) s (c.save_to a p s)
  unfolding c.save_to then c.ensure_complex emit
  save-does s =
      recast (λ X. ap (λ v. put_place p v (widen a X)) (wide-there X))
      (join (ensure-does k B s a ha) (store_does (set_reg s.real a false) (complex-set s.real a)))
