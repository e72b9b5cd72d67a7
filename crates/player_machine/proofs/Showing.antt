-- What is shown of a list of writes: the store that they leave, just the words that they write, each once.
use Prim.Native.Nat.{ℕ, zero, suc, ◌≤◌}
use native.Mathlib.Omega.{arith}
use mathlib.Core.Path.{◌≡◌, refl, sym, ap, ◌∙◌}
use mathlib.Core.Bool.{Bool, true, false, not, cond, ◌&&◌, ◌||◌}
use mathlib.Core.List.{List, [], ◌∷◌}
use lib.ListN.{length, set}
use lib.Dec.{eqb}
use borrow.Author.Tests.{eqb-true, eqb-false}
use Rattle.mir.specs.declared.records.Work.{Work}
use Rattle.mir.specs.declared.records.Record.{Record}
use Rattle.player_machine.specs.Machine.{Store, Write, ◌≔◌, writes, put}
use Rattle.player_machine.specs.Step.{written}
use Rattle.player_machine.specs.Look.{is_written, shown}
use Rattle.player_machine.specs.Looked.{once}

-- a word set twice, and two words in either order
set_again : (l : Store) (i a b : ℕ) → set (set l i a) i b ≡ set l i b
set_again [] i a b = refl
set_again (x ∷ l) zero a b = refl
set_again (x ∷ l) (suc i) a b = ap (λ l. x ∷ l) (set_again l i a b)

set_swap : (l : Store) (i j a b : ℕ) → (i ≡ j → ⊥) → set (set l i a) j b ≡ set (set l j b) i a
set_swap [] i j a b n = refl
set_swap (x ∷ l) zero zero a b n = absurd (n refl)
set_swap (x ∷ l) zero (suc j) a b n = refl
set_swap (x ∷ l) (suc i) zero a b n = refl
set_swap (x ∷ l) (suc i) (suc j) a b n = ap (λ l. x ∷ l) (set_swap l i j a b (λ e. n (ap suc e)))

-- a word that is written later is written all the same
written_over : (ws : List Write) (σ : Store) (i v : ℕ) → is_written i ws ≡ true → put ws (set σ i v) ≡ put ws σ
unfolding put is_written
written_over [] σ i v e = cc
written_over (j ≔ u ∷ ws) σ i v e = by (eqb i j) refl e (λ h. written_over ws (set σ j u) i v h)
  where
    by : (b : Bool) → eqb i j ≡ b → (b || is_written i ws) ≡ true
        → (is_written i ws ≡ true → put ws (set (set σ j u) i v) ≡ put ws (set σ j u))
        → put ws (set (set σ i v) j u) ≡ put ws (set σ j u)
    by true q h on = ap (put ws) (ap (λ k. set (set σ k v) j u) (eqb-true i j q) ∙ set_again σ j v u)
    by false q h on = ap (put ws) (set_swap σ i j v u (eqb-false i j q)) ∙ on h

pub shown_put : (ws : List Write) (σ : Store) → put (shown ws) σ ≡ put ws σ
unfolding put shown
shown_put [] σ = refl
shown_put (i ≔ v ∷ ws) σ = by (is_written i ws) refl (λ τ. shown_put ws τ)
  where
    by : (b : Bool) → is_written i ws ≡ b → ((τ : Store) → put (shown ws) τ ≡ put ws τ)
        → put (cond b (shown ws) (i ≔ v ∷ shown ws)) σ ≡ put ws (set σ i v)
    by true e on = on σ ∙ sym (written_over ws σ i v e)
    by false e on = on (set σ i v)

either_way : (b c : Bool) → (b ≡ true → c ≡ true) → c ≡ (b || c)
either_way true c h = h refl
either_way false c h = refl

pub shown_written : (ws : List Write) (j : ℕ) → is_written j (shown ws) ≡ is_written j ws
unfolding is_written shown
shown_written [] j = refl
shown_written (i ≔ v ∷ ws) j = by (is_written i ws) refl (shown_written ws j)
  where
    by : (b : Bool) → is_written i ws ≡ b → is_written j (shown ws) ≡ is_written j ws
        → is_written j (cond b (shown ws) (i ≔ v ∷ shown ws)) ≡ (eqb j i || is_written j ws)
    by true e h = h ∙ either_way (eqb j i) (is_written j ws) (λ q. ap (λ k. is_written k ws) (eqb-true j i q) ∙ e)
    by false e h = ap (λ b. eqb j i || b) h

pub shown_once : (ws : List Write) → once (shown ws) ≡ true
unfolding shown once
shown_once [] = refl
shown_once (i ≔ v ∷ ws) = by (is_written i ws) refl (shown_once ws)
  where
    by : (b : Bool) → is_written i ws ≡ b → once (shown ws) ≡ true → once (cond b (shown ws) (i ≔ v ∷ shown ws)) ≡ true
    by true e h = h
    by false e h = ap (λ b. not b && once (shown ws)) (shown_written ws i ∙ e) ∙ h

shown_most : (ws : List Write) → length (shown ws) ≤ length ws
unfolding shown
shown_most [] = omega arith
shown_most (i ≔ v ∷ ws) = by (is_written i ws) (shown_most ws)
  where
    by : (b : Bool) → length (shown ws) ≤ length ws → length (cond b (shown ws) (i ≔ v ∷ shown ws)) ≤ suc (length ws)
    by true h = omega (arith, h)
    by false h = omega (arith, h)

-- a record writes two words at most
two : (constants : List ℕ) (σ : Store) (w : Work) → length (writes constants σ w) ≤ 2
unfolding writes
two constants σ (Work.Uni op dst s1) = omega arith
two constants σ (Work.Bi op dst s1 s2) = omega arith
two constants σ (Work.Mov dst s1) = omega arith
two constants σ (Work.Load dst p) = omega arith
two constants σ (Work.Save src p) = omega arith
two constants σ (Work.LoadConst dst idx) = omega arith
two constants σ (Work.Fused op dst a b c) = omega arith
two constants σ (Work.IfElse dst t f p) = omega arith
two constants σ (Work.LoadComplex xd yd p) = omega arith
two constants σ (Work.SaveComplex xs ys p) = omega arith
two constants σ (Work.ComplexBi op xd yd x1 y1 x2 y2) = omega arith

pub shown_few : (constants : List ℕ) (σ : Store) (r : Record) → length (shown (written constants σ r)) ≤ 2
unfolding written shown
shown_few constants σ (Record.Work w) =
    let h = shown_most (writes constants σ w) in
    let k = two constants σ w in
    omega (arith, h, k)
shown_few constants σ (Record.Label l) = omega arith
shown_few constants σ (Record.Branch l) = omega arith
shown_few constants σ (Record.Call l) = omega arith
shown_few constants σ (Record.BranchIf c l e) = omega arith
