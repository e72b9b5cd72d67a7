-- The position of a word in a list, and a constant sought in two lists one after the other.
use Prim.Native.Nat.{ℕ, suc, ◌+◌, ◌-◌, ◌≤◌, ◌<◌}
use mathlib.Core.Path.{◌≡◌, refl, sym, ap, ◌∙◌}
use mathlib.Core.Bool.{Bool, true, false, cond}
use mathlib.Core.List.{List, [], ◌∷◌, ◌++◌, append_assoc, append-nil}
use native.Mathlib.Nat.{zero-add, add-zero}
use native.Mathlib.Numerals.{add-one}
use native.Mathlib.Omega.{arith}
use borrow.Author.Tests.{eq-eqb, ne_eqb, lt-ltb, le-ltb}
use lib.ListN.{length, take, drop, replicate, get_or, set, length-append, length-take, drop_of_length-le}
use lib.Seq.{drop-cons, drop-drop, drop-set-lt, take-suc-set}
use lib.Dec.{eqb}
use Rattle.lowering.specs.Complexifier.{position, appends, stable_const}
use Rattle.rerun.specs.declared.output.Added.{Added}
use Rattle.rerun.specs.declared.constants.Found.{Found}
use Rattle.rerun.specs.Added.{none, table, Sought, ThreeSought}

-- what is left of a search from i on
module _ (v : ℕ) (l : List ℕ) (i : ℕ) where
  pub here : i < length l → get_or l i 0 ≡ v → position v (drop i l) ≡ 0
  unfolding position
  here h e = simp (drop-cons l i 0 h, eq-eqb _ _ e)

  pub on : i < length l → (get_or l i 0 ≡ v → ⊥) → position v (drop i l) ≡ suc (position v (drop (suc i) l))
  unfolding position
  on h e = simp (drop-cons l i 0 h, ne_eqb _ _ e)

  pub past : length l ≤ i → position v (drop i l) ≡ 0
  unfolding position
  past h = simp (drop_of_length-le l h)

-- one step of a position, by whether the word is found there
within : (b : Bool) (n m : ℕ) → n ≤ m → cond b 0 (suc n) ≤ suc m
within true n m h = omega arith
within false n m h = omega arith

left : (b : Bool) (n m k : ℕ) → (n < k → m ≡ n) → cond b 0 (suc n) < suc k → cond b 0 (suc m) ≡ cond b 0 (suc n)
left true n m k f h = refl
left false n m k f h = ap suc (f (omega arith))

right : (b : Bool) (n m k p : ℕ) → (k ≤ n → m ≡ k + p) → suc k ≤ cond b 0 (suc n) → cond b 0 (suc m) ≡ suc k + p
right true n m k p f h = absurd (omega arith)
right false n m k p f h = let e = f (omega arith) in omega (arith, e)

module _ (v : ℕ) where
  pub position-le : (k : List ℕ) → position v k ≤ length k
  unfolding position
  position-le [] = omega arith
  position-le (x ∷ k) = within (eqb x v) (position v k) (length k) (position-le k)

  -- in two lists one after the other
  pub in-first : (k l : List ℕ) → position v k < length k → position v (k ++ l) ≡ position v k
  unfolding position
  in-first [] l h = absurd (omega arith)
  in-first (x ∷ k) l h = left (eqb x v) (position v k) (position v (k ++ l)) (length k) (in-first k l) h

  pub in-second : (k l : List ℕ) → length k ≤ position v k → position v (k ++ l) ≡ length k + position v l
  unfolding position
  in-second [] l h = sym (zero-add (position v l))
  in-second (x ∷ k) l h = right (eqb x v) (position v k) (position v (k ++ l)) (length k) (position v l) (in-second k l) h

  -- it is appended where it stands nowhere
  pub found-there : (t : List ℕ) → position v t < length t → appends v t ≡ false
  found-there t h = simp (lt-ltb _ _ h)

  pub found_nowhere : (t : List ℕ) → length t ≤ position v t → appends v t ≡ true
  found_nowhere t h = simp (le-ltb _ _ h)

  pub stays : (t : List ℕ) → position v t < length t → stable_const v t ≡ t
  unfolding stable_const
  stays t h = simp (found-there t h)

  pub grows : (t : List ℕ) → length t ≤ position v t → stable_const v t ≡ t ++ v ∷ []
  unfolding stable_const
  grows t h = simp (found_nowhere t h)

  pub at-end : (t : List ℕ) → length t ≤ position v t → position v (t ++ v ∷ []) ≡ length t
  unfolding position
  at-end t h = in-second t (v ∷ []) h ∙ simp (eq-eqb v v refl, add-zero)

-- one word more, and one zero fewer behind it
one_less : (l : List ℕ) (c v : ℕ) → drop c l ≡ replicate (3 - c) 0 → c < 3 → drop (c + 1) (set l c v) ≡ replicate (3 - (c + 1)) 0
one_less l c v z h =
    let e : 3 - c ≡ suc (3 - (c + 1)) = omega arith in
    drop-set-lt (c + 1) l c v (omega arith)
    ∙ sym (drop-drop 1 c l)
    ∙ ap (drop 1) (z ∙ ap (λ n. replicate n 0) e)

-- the three answers of `stable_const`
module _ {k : List ℕ} {a : Added} {v : ℕ} where
  pub found : {p : ℕ} → p ≡ position v k → p < length k → Sought k a v (record { at = p; appended = false; added = a })
  found {p} e h =
      let t = table k a in
      let f = in-first v k (take a.count a.words) (omega (arith, e)) in
      let n : length t ≡ length k + length (take a.count a.words) = simp length-append in
      let h : position v t < length t = omega (arith, e, f, n) in
      let s = stays v t h in
      record { at = e ∙ sym f ∙ ap (position v) (sym s); told = sym (found-there v t h); kept = sym s; few = omega arith; zeros = λ z. z }

  pub found-added : {q : ℕ} → length k ≤ position v k → q ≡ position v (take a.count a.words) → q < length (take a.count a.words)
      → Sought k a v (record { at = length k + q; appended = false; added = a })
  found-added {q} h e m =
      let t = table k a in
      let f = in-second v k (take a.count a.words) h in
      let n : length t ≡ length k + length (take a.count a.words) = simp length-append in
      let i : position v t < length t = omega (arith, e, f, n, m) in
      let s = stays v t i in
      record {
        at = ap (λ q. length k + q) e ∙ sym f ∙ ap (position v) (sym s);
        told = sym (found-there v t i);
        kept = sym s;
        few = omega arith;
        zeros = λ z. z;
      }

  pub newly : length k ≤ position v k → length (take a.count a.words) ≤ position v (take a.count a.words)
      → a.count < length a.words → length a.words ≡ 3
      → Sought k a v (record { at = length k + a.count; appended = true; added = record { words = set a.words a.count v; count = a.count + 1 } })
  newly h m c three =
      let t = table k a in
      let f = in-second v k (take a.count a.words) h in
      let n : length t ≡ length k + length (take a.count a.words) = simp length-append in
      let w : length (take a.count a.words) ≡ a.count = simp length-take (omega arith) in
      let z : length t ≤ position v t = omega (arith, f, n, m) in
      let s = grows v t z in
      record {
        at = omega (arith, n, w) ∙ sym (at-end v t z) ∙ ap (position v) (sym s);
        told = sym (found_nowhere v t z);
        kept =
            ap (λ c. k ++ take c (set a.words a.count v)) (add-one a.count)
            ∙ ap (λ l. k ++ l) (take-suc-set a.words a.count v c)
            ∙ sym (append_assoc k (take a.count a.words) (v ∷ []))
            ∙ sym s;
        few = omega arith;
        zeros = λ z. one_less a.words a.count v z (omega arith);
      }

-- three constants, one after the other
pub three_sought : {k : List ℕ} {a : Added} {u v w : ℕ} {f g h : Found} → a ≡ none → Sought k a u f → Sought k f.added v g
    → Sought k g.added w h → ThreeSought k u v w (record { i = f.at; j = g.at; q = h.at; added = h.added })
three_sought {k} {a} {u} {v} {w} {f} {g} {h} e p q r =
    let x : table k a ≡ k = ap (table k) e ∙ append-nil k in
    let y : table k f.added ≡ stable_const u k = p.kept ∙ ap (stable_const u) x in
    let z : table k g.added ≡ stable_const v (stable_const u k) = q.kept ∙ ap (stable_const v) y in
    let n : a.count ≡ 0 = ap (λ a. a.count) e in
    record {
      first = p.at ∙ ap (λ t. position u (stable_const u t)) x;
      second = q.at ∙ ap (λ t. position v (stable_const v t)) y;
      third = r.at ∙ ap (λ t. position w (stable_const w t)) z;
      kept = r.kept ∙ ap (stable_const w) z;
      few = omega (arith, n, p.few, q.few, r.few);
      zeros = r.zeros (q.zeros (p.zeros (rw e refl)));
    }
