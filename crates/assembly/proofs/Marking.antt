-- A bit of a header set in bytes at whose front the sheet's stand, and the bit of a place by its bytes.
use Prim.Native.Nat.{ℕ, zero, suc, ◌+◌, ◌*◌, ◌/◌, ◌%◌, ◌^◌, ◌≤◌, ◌<◌}
use mathlib.Core.Path.{◌≡◌, refl, sym, ap, ◌∙◌, subst}
use mathlib.Core.Bool.{Bool, true, false, cond}
use mathlib.Core.List.{List, [], ◌∷◌}
use borrow.Author.Tests.{lt-ltb, le-ltb, eqb-true, ne_eqb}
use lib.Dec.{eqb}
use lib.ListN.{length, get_or, take, set}
use lib.Seq.{set_out}
use lib.Bits.{bit_or}
use Rattle.lowering.proofs.Bits.{all_below, below}
use Rattle.mir.specs.declared.records.Loc.{Loc}
use Rattle.mir.specs.Read.{Read, got, refused, refuse}
use Rattle.mir.specs.Field.{u16_at, classed, place_at}
use Rattle.assembly.specs.Assembled.{marked}
use Rattle.assembly.specs.Making.{with_bit, place_bit}

-- the mask of bit k sets it, for every byte
abbrev masked : ℕ → ℕ → Bool
masked k b = eqb (bit_or b (1 * 2 ^ k % 256)) (with_bit b (2 ^ k))

every : all_below 8 (λ k. all_below 256 (masked k)) ≡ true
every = refl

pub bit-put : (b k : ℕ) → b < 256 → k < 8 → bit_or b (1 * 2 ^ k % 256) ≡ with_bit b (2 ^ k)
bit-put b k h j = eqb-true _ _ (below 256 (masked k) (below 8 (λ k. all_below 256 (masked k)) every k j) b h)

module _ (l : List ℕ) (i : ℕ) where
  pub mark-out : length l ≤ 5 + i / 8 → l ≡ marked l i
  unfolding marked
  mark-out h = sym (set_out l (5 + i / 8) _ h)

  pub mark-in : {v : ℕ} → v ≡ with_bit (get_or l (5 + i / 8) 0) (2 ^ (i % 8)) → set l (5 + i / 8) v ≡ marked l i
  unfolding marked
  mark-in e = ap (set l (5 + i / 8)) e

-- a change at a place, of the front
front-set : (f : ℕ → ℕ) (n : ℕ) (l : List ℕ) (j : ℕ) → take n (set l j (f (get_or l j 0))) ≡ set (take n l) j (f (get_or (take n l) j 0))
front-set f zero l j = refl
front-set f (suc n) [] j = refl
front-set f (suc n) (x ∷ l) zero = refl
front-set f (suc n) (x ∷ l) (suc j) = ap (λ t. x ∷ t) (front-set f n l j)

pub front_marked : (n : ℕ) (l : List ℕ) (i : ℕ) → take n (marked l i) ≡ marked (take n l) i
unfolding marked
front_marked n l i = front-set (λ b. with_bit b (2 ^ (i % 8))) n l (5 + i / 8)

-- the bit of a place, by its class and its index
module _ (s : List ℕ) (c i : ℕ) (f : c ≡ get_or s 0 0) (g : i ≡ u16_at s 1) where
  pub too_far : 255 < i → refused 3 ≡ place_bit (place_at s 0)
  unfolding place_at
  too_far h =
      let k : 255 < u16_at s 1 = subst (λ n. 255 < n) g h in
      sym (ap (λ t. place_bit (refuse t 4 (classed (get_or s 0 0) (u16_at s 1)))) (lt-ltb 255 (u16_at s 1) k))

  module _ (h : i ≤ 255) where
    near : place_bit (classed c i) ≡ place_bit (place_at s 0)
    unfolding place_at
    near =
        let k : u16_at s 1 ≤ 255 = subst (λ n. n ≤ 255) g h in
        (λ x. place_bit (classed (f x) (g x)))
        ∙ sym (ap (λ t. place_bit (refuse t 4 (classed (get_or s 0 0) (u16_at s 1)))) (le-ltb 255 (u16_at s 1) k))

    pub on_stack : c ≡ 0 → got i ≡ place_bit (place_at s 0)
    on_stack e = sym (ap (λ c. place_bit (classed c i)) e) ∙ near

    pub in-param : c ≡ 2 → got (256 + i) ≡ place_bit (place_at s 0)
    in-param e = sym (ap (λ c. place_bit (classed c i)) e) ∙ near

    none : (t : Bool) → refused 3 ≡ place_bit (cond t (got (Loc.Mem i)) (refused 4))
    none true = refl
    none false = refl

    abbrev behind : Bool → Read Loc
    behind t = cond (eqb c 1) (got (Loc.Mem i)) (cond t (got (Loc.Param i)) (refused 4))

    pub elsewhere : (c ≡ 0 → ⊥) → (c ≡ 2 → ⊥) → refused 3 ≡ place_bit (place_at s 0)
    elsewhere a b =
        none (eqb c 1)
        ∙ sym (ap (λ t. place_bit (cond t (got (Loc.Stack i)) (behind (eqb c 2)))) (ne_eqb c 0 a)
        ∙ ap (λ t. place_bit (behind t)) (ne_eqb c 2 b))
        ∙ near
