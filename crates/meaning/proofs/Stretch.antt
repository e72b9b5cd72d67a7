-- Stretches of a listing that compute a step of the values, and how they join.
use mathlib.Core.Path.{◌≡◌, refl, sym, ap, ap₂, ◌∙◌, subst}
use mathlib.Core.Bool.{Bool, true, false}
use mathlib.Core.List.{List, [], ◌++◌, map, append_assoc}
use Prim.Native.Nat.{ℕ, ◌+◌, ◌<◌}
use native.Mathlib.Nat.{add_assoc}
use lib.ListN.{length, length-append}
use lib.Dec.{T, lit<}
use Rattle.mir.specs.declared.records.Loc.{Loc}
use Rattle.mir.specs.declared.records.Work.{Work}
use Rattle.mir.specs.declared.records.Record.{Record}
use Rattle.mir.specs.Register.{re, im}
use Rattle.player_machine.specs.Machine.{Store, at, execs, going, reach}
use Rattle.lowering.specs.declared.realness.Realness.{Realness}
use Rattle.lowering.specs.Realness.{is_real_reg, set_reg}
use Rattle.lowering.specs.Complexifier.{State, Out, emit, one_by_one, by_two}
use Rattle.leftovers.proofs.Names.{name, rename}
use Rattle.leftovers.proofs.Stretch.{works_reach}
use Rattle.leftovers.proofs.Methods.{two, four}
use Rattle.meaning.specs.Value.{Value, R, re_of}
use Rattle.meaning.specs.Means.{Values, put}
use Rattle.meaning.specs.Preserved.{value_of}
use Rattle.meaning.proofs.Eval.{Words, run}
use Rattle.meaning.proofs.Leaf.{Ready, passes, leaf}

-- The records rs, played where the realness is ρ, do F to the store, whatever follows; after them the realness is ρ', and the store holds the
-- values after the step.
pub record Computes (k : List ℕ) (B : List Work) (step : Values → Values) (ρ : Realness) (rs : List Record) (ρ' : Realness) : Type 0 where
  pub F : Store → Store
  pub stands : (j : ℕ) (rest : List Record) (σ : Store) → reach k B going (length rs + j) (rs ++ rest) σ ≡ reach k B going j rest (F σ)
  pub ready : (X : Values) (σ : Store) → Ready X ρ σ → Ready (step X) ρ' (F σ)

pub join : {k : List ℕ} {B : List Work} {f g : Values → Values} {ρ ρ' ρ'' : Realness} {rs rs' : List Record}
    → Computes k B f ρ rs ρ' → Computes k B g ρ' rs' ρ'' → Computes k B (λ X. g (f X)) ρ (rs ++ rs') ρ''
join {f} {rs} {rs'} s t =
    record {
      F = λ σ. t.F (s.F σ);
      stands =
          λ j rest σ. rw (append_assoc rs rs' rest, length-append rs rs', add_assoc (length rs) (length rs') j)
          (s.stands (length rs' + j) (rs' ++ rest) σ ∙ t.stands j rest (s.F σ));
      ready = λ X σ h. t.ready (f X) (s.F σ) (s.ready X σ h);
    }

pub works : {k : List ℕ} {B : List Work} {f : Values → Values} {ρ ρ' : Realness} (l : List Work)
    → ((X : Values) (σ : Store) → Ready X ρ σ → Ready (f X) ρ' (execs k l σ)) → Computes k B f ρ (map Record.Work l) ρ'
works {k} {B} l h = record { F = execs k l; stands = works_reach k B l; ready = h }

-- the same step by another name
pub recast : {k : List ℕ} {B : List Work} {f g : Values → Values} {ρ ρ' : Realness} {rs : List Record}
    → ((X : Values) → f X ≡ g X) → Computes k B f ρ rs ρ' → Computes k B g ρ rs ρ'
recast {ρ'} e c =
    record { F = c.F; stands = c.stands; ready = λ X σ h. subst (λ Y. Ready Y ρ' (c.F σ)) (e X) (c.ready X σ h) }

-- d is given f of the values of a and b
abbrev pub by : (Value → Value → Value) → ℕ → ℕ → ℕ → Values → Values
by f d a b X = put d (f (X.reg a) (X.reg b)) X

-- a method's outcome
abbrev pub Does : List ℕ → List Work → (Values → Values) → State → Out → Type 0
Does k B f s o = Computes k B f s.real o.records o.after.real

-- ---- lines that only read their operands and write d

-- lines l' at d, a and b are lines l at 0, 1 and 2, which pass the test and compute op of the operands: proved by (tt, refl, λ ω. refl)
abbrev pub Fits : List ℕ → ℕ → ℕ → ℕ → Bool → Bool → Bool → List Work → List Work → (Value → Value → Value) → Type 0
Fits k d a b x y g l l' op =
    T (passes [] false false g l)
    × (rename d a b (Loc.Mem 0) l ≡ l')
    × ((ω : Words) → value_of g (run k l ω 4) (run k l ω 5) ≡ op (value_of x (ω 6) (ω 7)) (value_of y (ω 8) (ω 9)))

-- a value's real half
pub real-word : (z : Bool) (x y : ℕ) → re_of (value_of z x y) ≡ x
unfolding re_of
real-word true x y = refl
real-word false x y = refl

-- an operand's words
pub operand : {X : Values} {ρ : Realness} {σ : Store} → Ready X ρ σ → (r : ℕ) → r < 32 → (x : Bool) → is_real_reg ρ r ≡ x
    → value_of x (at σ (re r)) (at σ (im r)) ≡ X.reg r
operand {σ} h r hr x e = ap (λ x. value_of x (at σ (re r)) (at σ (im r))) (sym e) ∙ h.holds.regs r hr

module _ (k : List ℕ) (B : List Work) where
  -- lines whose realness case is settled
  pub settled : (ρ : Realness) (d a b : ℕ) → d < 32 → a < 32 → b < 32 → (x y g : Bool) → is_real_reg ρ a ≡ x → is_real_reg ρ b ≡ y
      → (op : Value → Value → Value) (l l' : List Work) → Fits k d a b x y g l l' op
      → Computes k B (λ X. put d (op (X.reg a) (X.reg b)) X) ρ (map Record.Work l') (set_reg ρ d g)
  unfolding name
  settled ρ d a b hd ha hb x y g ex ey op l l' q = works l' (λ X σ h. go X σ h)
    where
      go : (X : Values) (σ : Store) → Ready X ρ σ → Ready (put d (op (X.reg a) (X.reg b)) X) (set_reg ρ d g) (execs k l' σ)
      go X σ h =
          subst (λ l'. Ready (put d (op (X.reg a) (X.reg b)) X) (set_reg ρ d g) (execs k l' σ)) q.1
          (leaf k d a b (Loc.Mem 0) hd (lit< tt) false false [] tt l g q.0 X ρ σ h (op (X.reg a) (X.reg b)) (R 0) (R 0)
          (q.2 (λ n. at σ (name d a b (Loc.Mem 0) n)) ∙ ap₂ op (operand h a ha x ex) (operand h b hb y ey))
          (λ t. absurd t) (λ t. absurd t))

  -- lines L by the realness of one operand or of two
  pub unary : (s : State) (L : Bool → ℕ → ℕ → List Work) (g : Bool → Bool) (op : Value → Value) (d a : ℕ) → d < 32 → a < 32
      → Fits k d a a true true (g true) (L true 0 1) (L true d a) (λ v _. op v) → Fits k d a a false false (g false) (L false 0 1) (L false d a) (λ v _. op v)
      → Does k B (λ X. put d (op (X.reg a)) X) s (one_by_one L g d a s)
  unfolding emit one_by_one
  unary s L g op d a hd ha t f =
      let x = is_real_reg s.real a in
      let q = two (λ x. Fits k d a a x x (g x) (L x 0 1) (L x d a) (λ v _. op v)) t f x in
      settled s.real d a a hd ha ha x x (g x) refl refl (λ v _. op v) (L x 0 1) (L x d a) q

  pub binary : (s : State) (L : Bool → Bool → ℕ → ℕ → ℕ → List Work) (g : Bool → Bool → Bool) (op : Value → Value → Value) (d a b : ℕ)
      → d < 32 → a < 32 → b < 32
      → Fits k d a b true true (g true true) (L true true 0 1 2) (L true true d a b) op
      → Fits k d a b true false (g true false) (L true false 0 1 2) (L true false d a b) op
      → Fits k d a b false true (g false true) (L false true 0 1 2) (L false true d a b) op
      → Fits k d a b false false (g false false) (L false false 0 1 2) (L false false d a b) op
      → Does k B (λ X. put d (op (X.reg a) (X.reg b)) X) s (by_two L g d a b s)
  unfolding emit by_two
  binary s L g op d a b hd ha hb rr rc cr cc =
      let x = is_real_reg s.real a in
      let y = is_real_reg s.real b in
      let q = four (λ x y. Fits k d a b x y (g x y) (L x y 0 1 2) (L x y d a b) op) rr rc cr cc x y in
      settled s.real d a b hd ha hb x y (g x y) refl refl op (L x y 0 1 2) (L x y d a b) q
