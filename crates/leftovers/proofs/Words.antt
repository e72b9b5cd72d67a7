-- Every word of a store is either kept or a leftover, and none is both.
use mathlib.Core.Path.{◌≡◌, refl, sym, ap, ◌∙◌}
use mathlib.Core.Bool.{Bool, true, false, true≢false}
use mathlib.Core.Logic.{◌≢◌, ◌⊎◌, inl, inr}
use Prim.Native.Nat.{ℕ, zero, suc, ◌+◌, ◌-◌, ◌/◌, ◌%◌, ◌≤◌, ◌<◌}
use native.Mathlib.Omega.{arith}
use native.Mathlib.Decide.{ℕ_discrete, dec_lt}
use lib.ListN.{length, replicate, get_or-eq_default}
use lib.Dec.{lit<, lit≤}
use Rattle.mir.specs.declared.records.Loc.{Loc}
use Rattle.mir.specs.Register.{re, im}
use Rattle.mir.specs.Place.{class, index}
use Rattle.player_machine.specs.Machine.{Store, at, place}
use Rattle.lowering.specs.declared.realness.Realness.{Realness}
use Rattle.lowering.specs.Realness.{is_real_reg, is_real_loc, fresh}
use Rattle.leftovers.specs.Leftovers.{Leftover, scratch0, scratch1, half, word, Alike}
use Rattle.leftovers.specs.Kept.{Parted, Kept, kept_re, kept_im, kept_word, kept_next}
use Rattle.player_machine.proofs.Agreeing.{Agree}
use Rattle.leftovers.proofs.Names.{re_gen, im_next, re_in, halves_apart, im_apart}

-- ---- none is both

-- a place is known by its class and index
same_place : (p p' : Loc) → class p ≡ class p' → index p ≡ index p' → p ≡ p'
same_place (Loc.Stack i) (Loc.Stack j) e f = ap Loc.Stack f
same_place (Loc.Mem i) (Loc.Mem j) e f = ap Loc.Mem f
same_place (Loc.Param i) (Loc.Param j) e f = ap Loc.Param f
same_place (Loc.Stack i) (Loc.Mem j) e f = absurd (omega arith)
same_place (Loc.Stack i) (Loc.Param j) e f = absurd (omega arith)
same_place (Loc.Mem i) (Loc.Stack j) e f = absurd (omega arith)
same_place (Loc.Mem i) (Loc.Param j) e f = absurd (omega arith)
same_place (Loc.Param i) (Loc.Stack j) e f = absurd (omega arith)
same_place (Loc.Param i) (Loc.Mem j) e f = absurd (omega arith)

class_below : (p : Loc) → class p < 3
class_below (Loc.Stack i) = lit< tt
class_below (Loc.Mem i) = lit< tt
class_below (Loc.Param i) = lit< tt

place_apart : (p p' : Loc) → index p < 256 → index p' < 256 → place p ≡ place p' → p ≡ p'
place_apart p p' h h' e =
    let c : class p ≡ class p' = omega arith in
    same_place p p' c (omega arith)

clash : {ρ : Realness} {w w' : ℕ} → Kept ρ w → Leftover ρ w' → w ≢ w'
clash (kept_re r h) scratch0 e = (re_in r).1 e
clash (kept_re r h) scratch1 e = omega (arith, (re_in r).2)
clash (kept_re r h) (half r' h' q) e = halves_apart r r' e
clash (kept_re r h) (word p hp q) e = omega (arith, (re_in r).0)
clash (kept_im r h n) scratch0 e = omega (arith, im_next r, (re_in r).2)
clash (kept_im r h n) scratch1 e = omega (arith, im_next r, (re_in r).1)
clash {ρ} (kept_im r h n) (half r' h' q) e = im_apart r r' h h' (λ x. true≢false (sym q ∙ ap (is_real_reg ρ) (sym x) ∙ n)) e
clash (kept_im r h n) (word p hp q) e = omega (arith, im_next r, (re_in r).0)
clash (kept_word p hp) scratch0 e = omega arith
clash (kept_word p hp) scratch1 e = omega arith
clash (kept_word p hp) (half r h q) e = omega (arith, im_next r, (re_in r).0)
clash (kept_word p hp) (word p' hp' q) e = omega arith
clash (kept_next p hp n) scratch0 e = omega arith
clash (kept_next p hp n) scratch1 e = omega arith
clash (kept_next p hp n) (half r h q) e = omega (arith, im_next r, (re_in r).0)
clash {ρ} (kept_next p hp n) (word p' hp' q) e =
    true≢false (sym q ∙ ap (is_real_loc ρ.places) (sym (place_apart p p' hp hp' (omega arith))) ∙ n)

pub not-both : (ρ : Realness) (w : ℕ) → Kept ρ w → Leftover ρ w → ⊥
not-both ρ w k l = clash k l refl

-- ---- each is one of the two

-- what a word of the store is
data Spot (w : ℕ) : Type 0 where
  scratch : (w ≡ 2) ⊎ (w ≡ 3) → Spot w
  real-half : (r : ℕ) → r < 32 → w ≡ re r → Spot w
  imaginary-half : (r : ℕ) → r < 32 → w ≡ im r → Spot w
  real-word : (p : Loc) → index p < 256 → w ≡ place p → Spot w
  imaginary-word : (p : Loc) → index p < 256 → w ≡ suc (place p) → Spot w

-- the place of each class
data Classed (c i : ℕ) : Type 0 where
  classed : (p : Loc) → class p ≡ c → index p ≡ i → Classed c i

of_class : (c i : ℕ) → c < 3 → Classed c i
of_class zero i h = classed (Loc.Stack i) refl refl
of_class (suc zero) i h = classed (Loc.Mem i) refl refl
of_class (suc (suc zero)) i h = classed (Loc.Param i) refl refl
of_class (suc (suc (suc c))) i h = absurd (omega arith)

spot_of_place : (w : ℕ) → 66 ≤ w → w < 1602 → Spot w
spot_of_place w l h = go (of_class ((w - 66) / 512) ((w - 66) % 512 / 2) (omega arith)) (ℕ_discrete ((w - 66) % 2) 0)
  where
    go : Classed ((w - 66) / 512) ((w - 66) % 512 / 2) → Dec ((w - 66) % 2 ≡ 0) → Spot w
    go (classed p c i) (yes e) = real-word p (omega arith) (omega arith)
    go (classed p c i) (no e) = imaginary-word p (omega arith) (omega arith)

spot_of_general : (w : ℕ) → 4 ≤ w → w < 64 → Spot w
spot_of_general w l h = go (ℕ_discrete (w % 2) 0)
  where
    r : ℕ
    r = (w - 4) / 2

    go : Dec (w % 2 ≡ 0) → Spot w
    go (yes e) = real-half r (omega arith) (omega (arith, re_gen r (omega arith)))
    go (no e) = imaginary-half r (omega arith) (omega (arith, im_next r, re_gen r (omega arith)))

spot : (w : ℕ) → w < 1602 → Spot w
spot w h = go (dec_lt w 4) (dec_lt w 64) (dec_lt w 66)
  where
    low : (w : ℕ) → w < 4 → Spot w
    low zero h = real-half 31 (lit< tt) (unfold re in refl)
    low (suc zero) h = imaginary-half 31 (lit< tt) (unfold im in refl)
    low (suc (suc zero)) h = scratch (inl refl)
    low (suc (suc (suc zero))) h = scratch (inr refl)
    low (suc (suc (suc (suc w)))) h = absurd (omega arith)

    go : Dec (w < 4) → Dec (w < 64) → Dec (w < 66) → Spot w
    go (yes a) b d = low w a
    go (no a) (yes b) d = spot_of_general w (omega arith) b
    go (no a) (no b) (no d) = spot_of_place w (omega arith) h
    go (no a) (no b) (yes d) = ret-spot (ℕ_discrete w 64)
      where
        ret-spot : Dec (w ≡ 64) → Spot w
        ret-spot (yes e) = real-half 30 (lit< tt) (unfold re in e)
        ret-spot (no e) = imaginary-half 30 (lit< tt) (unfold im in omega arith)

-- which of the two a word is
pub either_one : (ρ : Realness) (w : ℕ) → w < 1602 → Kept ρ w ⊎ Leftover ρ w
either_one ρ w h = go (spot w h)
  where
    by-half : (r : ℕ) → r < 32 → (x : Bool) → is_real_reg ρ r ≡ x → Kept ρ (im r) ⊎ Leftover ρ (im r)
    by-half r l true e = inr (half r l e)
    by-half r l false e = inl (kept_im r l e)

    by_word : (p : Loc) → index p < 256 → (x : Bool) → is_real_loc ρ.places p ≡ x → Kept ρ (suc (place p)) ⊎ Leftover ρ (suc (place p))
    by_word p l true e = inr (word p l e)
    by_word p l false e = inl (kept_next p l e)

    go : Spot w → Kept ρ w ⊎ Leftover ρ w
    go (scratch (inl e)) = inr (rw e scratch0)
    go (scratch (inr e)) = inr (rw e scratch1)
    go (real-half r l e) = inl (rw e (kept_re r l))
    go (imaginary-half r l e) = rw e (by-half r l (is_real_reg ρ r) refl)
    go (real-word p l e) = inl (rw e (kept_word p l))
    go (imaginary-word p l e) = rw e (by_word p l (is_real_loc ρ.places p) refl)

-- both kinds of words lie in the store
kept_within : {ρ : Realness} {w : ℕ} → Kept ρ w → w < 1602
kept_within (kept_re r h) = omega (arith, (re_in r).0)
kept_within (kept_im r h n) = omega (arith, im_next r, (re_in r).0)
kept_within (kept_word p h) = omega (arith, class_below p)
kept_within (kept_next p h n) = omega (arith, class_below p)

leftover_within : {ρ : Realness} {w : ℕ} → Leftover ρ w → w < 1602
leftover_within scratch0 = lit< tt
leftover_within scratch1 = lit< tt
leftover_within (half r h e) = omega (arith, im_next r, (re_in r).0)
leftover_within (word p h e) = omega (arith, class_below p)

pub parted : (ρ : Realness) → Parted (Kept ρ) (Leftover ρ)
parted ρ =
    record { each = either_one ρ; not_both = not-both ρ; within = λ w. elim [ inl k ↦ kept_within k | inr l ↦ leftover_within l ] }

-- ---- agreement outside the leftovers is agreement on the kept words

pub to_kept : {ρ : Realness} {σ τ : Store} → Alike ρ σ τ → Agree (Kept ρ) σ τ
to_kept {ρ} a = record { len = a.same; on = λ w k. a.outside w (not-both ρ w k) }

pub from_kept : {ρ : Realness} {σ τ : Store} → length σ ≡ 1602 → Agree (Kept ρ) σ τ → Alike ρ σ τ
from_kept {ρ} {σ} {τ} l g = record { words = l; same = g.len; outside = λ w n. go w n (dec_lt w 1602) }
  where
    go : (w : ℕ) → (Leftover ρ w → ⊥) → Dec (w < 1602) → at σ w ≡ at τ w
    go w n (no h) =
        get_or-eq_default σ 0 {n = w} (omega arith) ∙ sym (get_or-eq_default τ 0 {n = w} (omega (arith, g.len)))
    go w n (yes h) = pick (either_one ρ w h)
      where
        pick : Kept ρ w ⊎ Leftover ρ w → at σ w ≡ at τ w
        pick (inl k) = g.on w k
        pick (inr x) = absurd (n x)

-- ---- how many there are

one_more : {A B : Type 0} → A ⊎ B → ℕ → ℕ
one_more (inl a) n = n
one_more (inr b) n = suc n

-- the leftovers among the first n words
pub leftovers_below : Realness → (n : ℕ) → n ≤ 1602 → ℕ
leftovers_below ρ zero h = 0
leftovers_below ρ (suc n) h = one_more (either_one ρ n h) (leftovers_below ρ n (omega arith))

-- with nothing real, the two scratch registers
pub none_real : leftovers_below (fresh (replicate 64 0)) 1602 (lit≤ tt) ≡ 2
unfolding leftovers_below one_more either_one spot spot_of_general spot_of_place of_class is_real_loc dec_lt ℕ_discrete
none_real = refl

-- with all real, also the imaginary halves of 32 registers and the imaginary words of 512 places: those of Mem are kept
pub all_real : leftovers_below (record { regs = replicate 32 true; places = replicate 64 255 }) 1602 (lit≤ tt) ≡ 2 + (32 + 512)
unfolding leftovers_below one_more either_one spot spot_of_general spot_of_place of_class is_real_loc dec_lt ℕ_discrete
all_real = refl
