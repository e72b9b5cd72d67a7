-- Which words of the store a record draws on and which it fills (document 01, Player; document 02, l): it depends on no other word, and
-- changes no other.
use Rattle.std.specs.Prelude.{ℕ, suc, ◌≡◌, Bool, cond, ◌&&◌, List, [], ◌∷◌, map, eqb}
use Rattle.mir.specs.declared.ops.BinOp.{BinOp}
use Rattle.mir.specs.declared.records.Work.{Work}
use Rattle.mir.specs.Operation.{bin_number}
use Rattle.player_machine.specs.Machine.{Store, at, place, Write, ◌≔◌, writes, exec}

-- by its number
abbrev pub is_xor : BinOp → Bool
is_xor op = eqb (bin_number op) (bin_number BinOp.Xor)

-- What it draws on: "plain Load and Save use the real one"; "ComplexBi reads its four operands"; "a Xor of one register with itself draws on
-- nothing"; a constant is no word of the store
abbrev pub draws : Work → List ℕ
draws (Work.Uni op dst s1) = s1 ∷ []
draws (Work.Bi op dst s1 s2) = cond (eqb s1 s2 && is_xor op) [] (s1 ∷ s2 ∷ [])
draws (Work.Mov dst s1) = s1 ∷ []
draws (Work.Load dst p) = place p ∷ []
draws (Work.Save src p) = src ∷ []
draws (Work.LoadConst dst idx) = []
draws (Work.Fused op dst a b c) = a ∷ b ∷ c ∷ []
draws (Work.IfElse dst t f p) = place p ∷ t ∷ f ∷ []
draws (Work.LoadComplex xd yd p) = place p ∷ suc (place p) ∷ []
draws (Work.SaveComplex xs ys p) = xs ∷ ys ∷ []
draws (Work.ComplexBi op xd yd x1 y1 x2 y2) = x1 ∷ y1 ∷ x2 ∷ y2 ∷ []

-- What it fills, in the order of its writes: "Only a written word fills one"; "Of two destinations the first is written first"
abbrev pub fills : Work → List ℕ
fills (Work.Uni op dst s1) = dst ∷ []
fills (Work.Bi op dst s1 s2) = dst ∷ []
fills (Work.Mov dst s1) = dst ∷ []
fills (Work.Load dst p) = dst ∷ []
fills (Work.Save src p) = place p ∷ []
fills (Work.LoadConst dst idx) = dst ∷ []
fills (Work.Fused op dst a b c) = dst ∷ []
fills (Work.IfElse dst t f p) = dst ∷ []
fills (Work.LoadComplex xd yd p) = xd ∷ yd ∷ []
fills (Work.SaveComplex xs ys p) = place p ∷ suc (place p) ∷ []
fills (Work.ComplexBi op xd yd x1 y1 x2 y2) = xd ∷ yd ∷ []

-- the index that a write has
abbrev pub target : Write → ℕ
target (i ≔ v) = i

-- two stores hold the same words at these indices
pub data AgreeAt (σ τ : Store) : List ℕ → Type 0 where
  done : AgreeAt σ τ []
  same : {i : ℕ} {is : List ℕ} → at σ i ≡ at τ i → AgreeAt σ τ is → AgreeAt σ τ (i ∷ is)

-- an index that is none of these
pub data Off (i : ℕ) : List ℕ → Type 0 where
  clear : Off i []
  other : {j : ℕ} {is : List ℕ} → (i ≡ j → ⊥) → Off i is → Off i (j ∷ is)

-- stores that agree on what a record draws on get the same writes; it writes just the words that it fills, in order; and a word that it
-- does not fill stays (theorem `confined`, of `draws` and `fills`)
pub record Confined (drawn filled : Work → List ℕ) : Type 0 where
  pub depends : (constants : List ℕ) (w : Work) (σ τ : Store) → AgreeAt σ τ (drawn w) → writes constants σ w ≡ writes constants τ w
  pub written : (constants : List ℕ) (w : Work) (σ : Store) → map target (writes constants σ w) ≡ filled w
  pub stays : (constants : List ℕ) (w : Work) (σ : Store) (i : ℕ) → Off i (filled w) → at (exec constants w σ) i ≡ at σ i
