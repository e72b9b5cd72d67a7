-- What two stores agree on after a working record.
use Prim.Native.Nat.{ℕ}
use mathlib.Core.Path.{◌≡◌, refl, ap}
use mathlib.Core.Bool.{Bool, ◌||◌}
use mathlib.Core.Logic.{◌⊎◌}
use mathlib.Core.List.{List, [], ◌∷◌, map}
use lib.Dec.{T, eqb, eqb_refl}
use Rattle.mir.specs.declared.records.Work.{Work}
use Rattle.player_machine.specs.Machine.{Store, at, writes, exec}
use Rattle.player_machine.specs.Draws.{draws, fills, target, AgreeAt, done, same}
use Rattle.player_machine.proofs.Drawing.{depends, written}
use Rattle.player_machine.proofs.Agreeing.{Agree, weaken, has, or_l, or_r, put_agree}
use Rattle.marks.specs.Marks.{among}

agree_at : {σ τ : Store} (is : List ℕ) → ((i : ℕ) → T (among is i) → at σ i ≡ at τ i) → AgreeAt σ τ is
agree_at [] h = done
agree_at (j ∷ js) h =
    same (h j (or_l (eqb j j) (among js j) (eqb_refl j))) (agree_at js (λ i k. h i (or_r (eqb i j) (among js i) k)))

pub among_has : (is : List ℕ) (i : ℕ) → among is i ≡ has i is
among_has [] i = refl
among_has (j ∷ js) i = ap (λ (b : Bool). eqb i j || b) (among_has js i)

-- a working record, where the stores agree on what it draws on
pub exec_agree : {C : ℕ → Type 0} {σ τ : Store} (constants : List ℕ) (w : Work) → ((i : ℕ) → T (among (draws w) i) → C i) → Agree C σ τ
    → Agree (λ i. C i ⊎ T (among (fills w) i)) (exec constants w σ) (exec constants w τ)
unfolding exec
exec_agree {C} {σ} {τ} constants w k g =
    let e = depends constants w σ τ (agree_at (draws w) (λ i h. g.on i (k i h))) in
    rw (← e, ← written constants w σ) (weaken (λ i. go i) (put_agree (writes constants σ w) g))
  where
    go : (i : ℕ) → C i ⊎ T (among (map target (writes constants σ w)) i) → C i ⊎ T (has i (map target (writes constants σ w)))
    go i = rw (among_has (map target (writes constants σ w)) i) (λ c. c)
