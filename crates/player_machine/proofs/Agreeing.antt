-- What two stores agree on after the same writes.
use Prim.Native.Nat.{ℕ, ◌<◌}
use native.Mathlib.Omega.{arith}
use native.Mathlib.Decide.{ℕ_discrete, dec_lt}
use mathlib.Core.Path.{◌≡◌, sym, ◌∙◌}
use mathlib.Core.Bool.{Bool, true, false, ◌||◌}
use mathlib.Core.Logic.{◌⊎◌, ⊎_elim, inl, inr}
use mathlib.Core.List.{List, [], ◌∷◌, map}
use lib.ListN.{length, set, length-set, get_or-eq_default}
use lib.Seq.{get_or-set_same, get_or-set_other}
use lib.Dec.{T, eqb, eqb→eq}
use Rattle.player_machine.specs.Machine.{Store, at, Write, ◌≔◌, put}
use Rattle.player_machine.specs.Draws.{target}

-- two stores of one length agree on a set of words
pub record Agree (C : ℕ → Type 0) (σ τ : Store) : Type 0 where
  pub len : length σ ≡ length τ
  pub on : (w : ℕ) → C w → at σ w ≡ at τ w

pub weaken : {C D : ℕ → Type 0} {σ τ : Store} → ((w : ℕ) → D w → C w) → Agree C σ τ → Agree D σ τ
weaken f g = record { len = g.len; on = λ w d. g.on w (f w d) }

-- ---- one store to a word

set_both : (σ τ : Store) (i v : ℕ) → length σ ≡ length τ → at (set σ i v) i ≡ at (set τ i v) i
set_both σ τ i v e = go (dec_lt i (length σ))
  where
    go : Dec (i < length σ) → at (set σ i v) i ≡ at (set τ i v) i
    go (yes h) =
        let h' : i < length τ = omega arith in
        get_or-set_same σ i v 0 h ∙ sym (get_or-set_same τ i v 0 h')
    go (no h) =
        get_or-eq_default (set σ i v) 0 {n = i} (omega (arith, length-set σ i v))
        ∙ sym (get_or-eq_default (set τ i v) 0 {n = i} (omega (arith, length-set τ i v)))

set_agree : {C : ℕ → Type 0} {σ τ : Store} (i v : ℕ) → Agree C σ τ → Agree (λ w. C w ⊎ (w ≡ i)) (set σ i v) (set τ i v)
set_agree {C} {σ} {τ} i v g = record { len = simp length-set g.len; on = λ w c. go w c (ℕ_discrete w i) }
  where
    go : (w : ℕ) → C w ⊎ (w ≡ i) → Dec (w ≡ i) → at (set σ i v) w ≡ at (set τ i v) w
    go w c (yes e) = rw e (set_both σ τ i v g.len)
    go w (inl c) (no n) = rw (get_or-set_other σ i w v 0 n, get_or-set_other τ i w v 0 n) (g.on w c)
    go w (inr e) (no n) = absurd (n e)

-- ---- a row of writes

abbrev pub has : ℕ → List ℕ → Bool
has n [] = false
has n (x ∷ xs) = eqb n x || has n xs

pub or_cases : (a b : Bool) → T (a || b) → T a ⊎ T b
or_cases true b h = inl tt
or_cases false b h = inr h

pub or_l : (a b : Bool) → T a → T (a || b)
or_l true b h = tt
or_l false b h = elim h [ ]

pub or_r : (a b : Bool) → T b → T (a || b)
or_r true b h = tt
or_r false b h = h

pub put_agree : {C : ℕ → Type 0} {σ τ : Store} (ws : List Write) → Agree C σ τ
    → Agree (λ w. C w ⊎ T (has w (map target ws))) (put ws σ) (put ws τ)
unfolding put
put_agree [] g = weaken (λ w. elim [ inl c ↦ c | inr e ↦ absurd e ]) g
put_agree {C} (i ≔ v ∷ ws) g = weaken (λ w. regroup w) (put_agree ws (set_agree i v g))
  where
    regroup : (w : ℕ) → C w ⊎ T (eqb w i || has w (map target ws)) → (C w ⊎ (w ≡ i)) ⊎ T (has w (map target ws))
    regroup w (inl c) = inl (inl c)
    regroup w (inr h) = ⊎_elim (λ e. inl (inr (eqb→eq w i e))) (λ t. inr t) (or_cases (eqb w i) (has w (map target ws)) h)
