-- The constants that stable mode appends: each stands in the table afterwards, and there are at most five.
use mathlib.Core.Path.{◌≡◌, refl, sym, ap, ◌∙◌}
use mathlib.Core.Bool.{Bool, true, false, not, cond}
use mathlib.Core.List.{List, [], ◌∷◌, ◌++◌}
use Prim.Native.Nat.{ℕ, suc, ◌+◌, ◌≤◌, ◌<◌}
use native.Mathlib.Omega.{arith}
use borrow.Author.Tests.{ltb-true, ltb-false}
use lib.ListN.{length, get_or, length-append}
use lib.Seq.{get_or-take, get_or-append_seam, take_at}
use lib.Dec.{eqb, ltb, ltb→lt, lt→ltb, eqb_refl}
use Rattle.lowering.specs.Complexifier.{position, appends, stable_const, three_consts, MIN_POSITIVE, INFINITY, QUARTER, EXP_MASK_FINITE, FLOOR_FINITE}
use Rattle.leftovers.proofs.Rows.{T→true}

-- the five
pub data Stable : ℕ → Type 0 where
  min-positive : Stable MIN_POSITIVE
  infinity : Stable INFINITY
  quarter : Stable QUARTER
  mask : Stable EXP_MASK_FINITE
  floor : Stable FLOOR_FINITE

-- a table grown by some of the five, one after the other
pub data Grown (k : List ℕ) : List ℕ → Type 0 where
  same : Grown k k
  more : {k' : List ℕ} {v : ℕ} → Stable v → Grown k k' → Grown k (stable_const v k')

pub grown_then : {k k' k'' : List ℕ} → Grown k k' → Grown k' k'' → Grown k k''
grown_then g same = g
grown_then g (more v h) = more v (grown_then g h)

pub grown_three : {u v w : ℕ} {k : List ℕ} → Stable u → Stable v → Stable w → Grown k (three_consts u v w k)
grown_three u v w = more w (more v (more u same))

-- ---- where a constant stands

by-test : (P : Bool → Type 0) → P true → P false → (x : Bool) → P x
by-test P t f true = t
by-test P t f false = f

appended : (v : ℕ) (k : List ℕ) → position v (k ++ v ∷ []) < length (k ++ v ∷ [])
unfolding position
appended v [] = rw (T→true (eqb v v) (eqb_refl v)) (omega arith)
appended v (x ∷ k) =
    let h = appended v k in
    by-test (λ q. cond q 0 (suc (position v (k ++ v ∷ []))) < suc (length (k ++ v ∷ []))) (omega arith) (omega arith) (eqb x v)

still : (u : ℕ) (k rest : List ℕ) → position u k < length k → position u (k ++ rest) < length (k ++ rest)
unfolding position
still u [] rest h = absurd (omega arith)
still u (x ∷ k) rest h = go (eqb x u) h (still u k rest)
  where
    go : (q : Bool) → cond q 0 (suc (position u k)) < suc (length k)
        → (position u k < length k → position u (k ++ rest) < length (k ++ rest))
        → cond q 0 (suc (position u (k ++ rest))) < suc (length (k ++ rest))
    go true l ih = omega arith
    go false l ih = let i = ih (omega arith) in omega arith

pub found : (v : ℕ) (k : List ℕ) → position v (stable_const v k) < length (stable_const v k)
unfolding stable_const
found v k = go (ltb (position v k) (length k)) refl
  where
    go : (q : Bool) → ltb (position v k) (length k) ≡ q → position v (cond (not q) (k ++ v ∷ []) k) < length (cond (not q) (k ++ v ∷ []) k)
    go true e = ltb→lt (position v k) (length k) (rw e tt)
    go false e = appended v k

pub longer : (v : ℕ) (k : List ℕ) → length k ≤ length (stable_const v k)
unfolding stable_const
longer v k =
    by-test (λ q. length k ≤ length (cond (not q) (k ++ v ∷ []) k)) (omega arith) (omega (arith, length-append k (v ∷ [])))
    (ltb (position v k) (length k))

pub grown_length : {k k' : List ℕ} → Grown k k' → length k ≤ length k'
grown_length same = omega arith
grown_length (more {k'} {v} s g) =
    let h = grown_length g in
    omega (arith, longer v k')

-- a word that stands in the table stands there when it has grown
stands_on : (u v : ℕ) (k : List ℕ) → position u k < length k → position u (stable_const v k) < length (stable_const v k)
unfolding stable_const
stands_on u v k h =
    by-test (λ q. position u (cond (not q) (k ++ v ∷ []) k) < length (cond (not q) (k ++ v ∷ []) k)) h (still u k (v ∷ []) h)
    (ltb (position v k) (length k))

grown_stands : {k k' : List ℕ} → Grown k k' → (u : ℕ) → position u k < length k → position u k' < length k'
grown_stands same u h = h
grown_stands (more {k'} {v} s g) u h = stands_on u v k' (grown_stands g u h)

-- at the same position
front : (k l : List ℕ) (p : ℕ) → p < length k → get_or (k ++ l) p 0 ≡ get_or k p 0
front k l p h = sym (get_or-take (length k) (k ++ l) p 0 h) ∙ ap (λ x. get_or x p 0) (take_at k l (length k) refl)

const_keeps : (v : ℕ) (k : List ℕ) (p : ℕ) → p < length k → get_or (stable_const v k) p 0 ≡ get_or k p 0
unfolding stable_const
const_keeps v k p h =
    by-test (λ q. get_or (cond (not q) (k ++ v ∷ []) k) p 0 ≡ get_or k p 0) refl (front k (v ∷ []) p h) (ltb (position v k) (length k))

pub grown_keeps : {k k' : List ℕ} → Grown k k' → (p : ℕ) → p < length k → get_or k' p 0 ≡ get_or k p 0
grown_keeps same p h = refl
grown_keeps (more {k'} {v} s g) p h = const_keeps v k' p (let l = grown_length g in omega (arith, l, h)) ∙ grown_keeps g p h

-- a word that it has then and had not before stood nowhere in it
nowhere : {k k' : List ℕ} → Grown k k' → (v : ℕ) → length k' ≤ position v k' → appends v k ≡ true
nowhere {k} {k'} g v h = go (ltb (position v k) (length k)) refl
  where
    go : (q : Bool) → ltb (position v k) (length k) ≡ q → not q ≡ true
    go true e = let l = grown_stands g v (ltb-true _ _ e) in absurd (omega (arith, l, h))
    go false e = refl

new_const : {k k' : List ℕ} (v : ℕ) → Grown k k' → (p : ℕ) → (p < length k' → appends (get_or k' p 0) k ≡ true)
    → p < length (stable_const v k') → appends (get_or (stable_const v k') p 0) k ≡ true
unfolding stable_const
new_const {k} {k'} v g p ih l = go (ltb (position v k') (length k')) refl l
  where
    at : length k' ≤ position v k' → p < length (k' ++ v ∷ []) → (x : Bool) → ltb p (length k') ≡ x → appends (get_or (k' ++ v ∷ []) p 0) k ≡ true
    at z l true i = let f = ltb-true p (length k') i in ap (λ w. appends w k) (front k' (v ∷ []) p f) ∙ ih f
    at z l false i =
        let n = length-append k' (v ∷ []) in
        let f = ltb-false p (length k') i in
        let e : p ≡ length k' = omega (arith, n, f, l) in
        ap (λ p. appends (get_or (k' ++ v ∷ []) p 0) k) e
        ∙ ap (λ w. appends w k) (get_or-append_seam k' v [] 0)
        ∙ nowhere g v z

    go : (q : Bool) → ltb (position v k') (length k') ≡ q → p < length (cond (not q) (k' ++ v ∷ []) k')
        → appends (get_or (cond (not q) (k' ++ v ∷ []) k') p 0) k ≡ true
    go true e l = ih l
    go false e l = at (ltb-false (position v k') (length k') e) l (ltb p (length k')) refl

pub grown_new : {k k' : List ℕ} → Grown k k' → (p : ℕ) → length k ≤ p → p < length k' → appends (get_or k' p 0) k ≡ true
grown_new same p h l = absurd (omega (arith, h, l))
grown_new (more {v = v} s g) p h l = new_const v g p (λ i. grown_new g p h i) l

-- ---- at most five

-- is a constant missing (1) or not (0)
gap : ℕ → List ℕ → ℕ
gap v k = cond (ltb (position v k) (length k)) 0 1

missing : List ℕ → ℕ
missing k = gap MIN_POSITIVE k + (gap INFINITY k + (gap QUARTER k + (gap EXP_MASK_FINITE k + gap FLOOR_FINITE k)))

gap-one : (v : ℕ) (k : List ℕ) → gap v k ≤ 1
unfolding gap
gap-one v k = by-test (λ q. cond q 0 1 ≤ 1) (omega arith) (omega arith) (ltb (position v k) (length k))

gap_none : (v : ℕ) (k : List ℕ) → position v k < length k → gap v k ≡ 0
unfolding gap
gap_none v k h = rw (T→true (ltb (position v k) (length k)) (lt→ltb (position v k) (length k) h))

-- what stands in the table stands in it when it has grown
gap_falls : (u : ℕ) (k rest : List ℕ) → gap u (k ++ rest) ≤ gap u k
gap_falls u k rest = go (ltb (position u k) (length k)) refl
  where
    go : (q : Bool) → ltb (position u k) (length k) ≡ q → gap u (k ++ rest) ≤ gap u k
    go true e = omega (arith, gap_none u (k ++ rest) (still u k rest (ltb→lt (position u k) (length k) (rw e tt))))
    go false e = let g : gap u k ≡ 1 = unfold gap in rw e in omega (arith, gap-one u (k ++ rest))

-- one of the five that was missing is so no longer
missing_falls : {v : ℕ} (k : List ℕ) → Stable v → gap v k ≡ 1 → missing (k ++ v ∷ []) + 1 ≤ missing k
unfolding missing
missing_falls {v} k s e = go s refl
  where
    falls : (u : ℕ) → gap u (k ++ v ∷ []) ≤ gap u k
    falls u = gap_falls u k (v ∷ [])

    drops : (u : ℕ) → u ≡ v → gap u (k ++ v ∷ []) + 1 ≤ gap u k
    drops u q = rw q (omega (arith, gap_none v (k ++ v ∷ []) (appended v k), e))

    go : {u : ℕ} → Stable u → u ≡ v → missing (k ++ v ∷ []) + 1 ≤ missing k
    go min-positive q = omega (arith, drops MIN_POSITIVE q, falls INFINITY, falls QUARTER, falls EXP_MASK_FINITE, falls FLOOR_FINITE)
    go infinity q = omega (arith, falls MIN_POSITIVE, drops INFINITY q, falls QUARTER, falls EXP_MASK_FINITE, falls FLOOR_FINITE)
    go quarter q = omega (arith, falls MIN_POSITIVE, falls INFINITY, drops QUARTER q, falls EXP_MASK_FINITE, falls FLOOR_FINITE)
    go mask q = omega (arith, falls MIN_POSITIVE, falls INFINITY, falls QUARTER, drops EXP_MASK_FINITE q, falls FLOOR_FINITE)
    go floor q = omega (arith, falls MIN_POSITIVE, falls INFINITY, falls QUARTER, falls EXP_MASK_FINITE, drops FLOOR_FINITE q)

total_falls : {v : ℕ} (k : List ℕ) → Stable v → length (stable_const v k) + missing (stable_const v k) ≤ length k + missing k
unfolding stable_const
total_falls {v} k s = go (ltb (position v k) (length k)) refl
  where
    go : (q : Bool) → ltb (position v k) (length k) ≡ q
        → length (cond (not q) (k ++ v ∷ []) k) + missing (cond (not q) (k ++ v ∷ []) k) ≤ length k + missing k
    go true e = omega arith
    go false e =
        let g : gap v k ≡ 1 = unfold gap in rw e in
        omega (arith, length-append k (v ∷ []), missing_falls k s g)

missing_five : (k : List ℕ) → missing k ≤ 5
unfolding missing
missing_five k =
    omega (arith, gap-one MIN_POSITIVE k, gap-one INFINITY k, gap-one QUARTER k, gap-one EXP_MASK_FINITE k, gap-one FLOOR_FINITE k)

grown_total : {k k' : List ℕ} → Grown k k' → length k' + missing k' ≤ length k + missing k
grown_total same = omega arith
grown_total (more {k'} {v} s g) =
    let h = grown_total g in
    omega (arith, total_falls k' s)

pub grown_few : {k k' : List ℕ} → Grown k k' → length k' ≤ length k + 5
grown_few {k} {k'} g = omega (arith, grown_total g, missing_five k)

-- ---- three constants sought one after the other

-- each stands in the last of the tables
pub record Three (u v w : ℕ) (k : List ℕ) (n : ℕ) : Type 0 where
  pub first : position u (stable_const u k) < n
  pub second : position v (stable_const v (stable_const u k)) < n
  pub third : position w (three_consts u v w k) < n

pub three_found : (u v w : ℕ) (k : List ℕ) (n : ℕ) → length (three_consts u v w k) ≤ n → Three u v w k n
three_found u v w k n h =
    let k1 = stable_const u k in
    let k2 = stable_const v k1 in
    record {
      first = omega (arith, found u k, longer v k1, longer w k2);
      second = omega (arith, found v k1, longer w k2);
      third = omega (arith, found w k2);
    }
