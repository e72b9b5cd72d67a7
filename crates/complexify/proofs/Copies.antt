-- What a slice holds after a run of elements was stored in it.
use Prim.Native.Nat.{ℕ, zero, suc, ◌+◌, ◌-◌, ◌≤◌, ◌<◌}
use mathlib.Core.Path.{◌≡◌, refl, sym, ap, ◌∙◌}
use mathlib.Core.List.{List, ◌++◌}
use native.Mathlib.Nat.{add-zero, add-suc, suc-add}
use native.Mathlib.Numerals.{add-one}
use native.Mathlib.Omega.{arith}
use lib.ListN.{length, take, drop, replicate, get_or, set, length-append, length-take, take-append-drop}
use lib.Seq.{sets, sets-eq, length-sets, take_at, drop_at, drop-drop}
use Rattle.sheet.specs.Setup.{constant_at, constants_from_on}
use Rattle.complexify.specs.Taken.{Appended}

-- the constants of a sheet, one by one
module _ (s : List ℕ) where
  pub nth : (n i k : ℕ) → k < n → get_or (constants_from_on s n i) k 0 ≡ constant_at s (i + k)
  nth zero i k h = absurd (omega arith)
  nth (suc n) i zero h = ap (constant_at s) (sym (add-zero i))
  nth (suc n) i (suc k) h = nth n (suc i) k (omega arith) ∙ ap (constant_at s) (suc-add i k ∙ sym (add-suc i k))

-- one number stored from i up to an end
pub fill_turn : (l : List ℕ) (v i end : ℕ) → i < end
    → sets l i (replicate (end - i) v) ≡ sets (set l i v) (i + 1) (replicate (end - (i + 1)) v)
fill_turn l v i end h =
    let e : end - i ≡ suc (end - (i + 1)) = omega arith in
    ap (λ k. sets l i (replicate k v)) e ∙ rw (add-one i)

pub fill_ended : (l : List ℕ) (v i end : ℕ) → end ≤ i → sets l i (replicate (end - i) v) ≡ l
fill_ended l v i end h =
    let e : end - i ≡ 0 = omega arith in
    ap (λ k. sets l i (replicate k v)) e

-- a run v stored in l at w
module _ (l v : List ℕ) (w : ℕ) (fits : w + length v ≤ length l) where
  counted : length (take w l ++ v) ≡ w + length v
  counted = let e : length (take w l) ≡ w = simp length-take (omega (arith, fits)) in simp length-append (omega (arith, e))

  pub taken : take (w + length v) (sets l w v) ≡ take w l ++ v
  taken = ap (take (w + length v)) (sets-eq v l w fits) ∙ take_at (take w l ++ v) (drop (w + length v) l) (w + length v) counted

  pub dropped : drop (w + length v) (sets l w v) ≡ drop (w + length v) l
  dropped = ap (drop (w + length v)) (sets-eq v l w fits) ∙ drop_at (take w l ++ v) (drop (w + length v) l) (w + length v) counted

  pub kept_store : Appended l w (sets l w v) (w + length v)
  kept_store = record { more = omega arith; fits = fits; long = length-sets l w v; rest = dropped }

-- nothing stored
pub kept_none : (l : List ℕ) (n : ℕ) → n ≤ length l → Appended l n l n
kept_none l n h = record { more = omega arith; fits = h; long = refl; rest = refl }

further : (l l' : List ℕ) (n m : ℕ) → n ≤ m → drop n l ≡ drop n l' → drop m l ≡ drop m l'
further l l' n m h e =
    let z : m ≡ n + (m - n) = omega arith in
    ap (λ k. drop k l) z ∙ sym (drop-drop (m - n) n l) ∙ ap (drop (m - n)) e ∙ drop-drop (m - n) n l' ∙ ap (λ k. drop k l') (sym z)

pub kept_then : {l l' l'' : List ℕ} {n n' n'' : ℕ} → Appended l n l' n' → Appended l' n' l'' n'' → Appended l n l'' n''
kept_then {l} {l'} {l''} {n} {n'} {n''} p q =
    record {
      more = omega (arith, p.more, q.more);
      fits = omega (arith, q.fits, p.long);
      long = q.long ∙ p.long;
      rest = q.rest ∙ further l' l n' n'' q.more p.rest;
    }

-- a slice of which all is as lent, but for its first n' elements
pub kept_sets : (l l' : List ℕ) (n n' : ℕ) → Appended l n l' n' → l' ≡ sets l 0 (take n' l')
kept_sets l l' n n' p =
    let e : length (take n' l') ≡ n' = simp length-take (omega (arith, p.fits, p.long)) in
    let f : 0 + length (take n' l') ≤ length l = omega (arith, e, p.fits) in
    let g : 0 + length (take n' l') ≡ n' = omega (arith, e) in
    sym (take-append-drop n' l')
    ∙ ap (λ d. take n' l' ++ d) (p.rest ∙ ap (λ k. drop k l) (sym g))
    ∙ sym (sets-eq (take n' l') l 0 f)

-- a run stored from the beginning on
pub kept_first : (l v : List ℕ) (n : ℕ) → length v ≡ n → n ≤ length l → Appended l 0 (sets l 0 v) n
kept_first l v n e h =
    let k = kept_store l v 0 (omega (arith, e, h)) in
    let g : 0 + length v ≡ n = omega (arith, e) in
    record { more = omega arith; fits = h; long = k.long; rest = ap (λ m. drop m (sets l 0 v)) (sym g) ∙ k.rest ∙ ap (λ m. drop m l) g }

pub taken_first : (l v : List ℕ) (n : ℕ) → length v ≡ n → n ≤ length l → take n (sets l 0 v) ≡ v
taken_first l v n e h =
    let g : 0 + length v ≡ n = omega (arith, e) in
    ap (λ m. take m (sets l 0 v)) (sym g) ∙ taken l v 0 (omega (arith, e, h))
