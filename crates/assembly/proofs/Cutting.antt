-- The first piece of a text, and the pieces behind it.
use Prim.Native.Nat.{ℕ, suc, ◌+◌, ◌-◌, ◌≤◌, ◌<◌}
use mathlib.Core.Path.{◌≡◌, refl, sym, ap, ◌∙◌}
use mathlib.Core.Bool.{Bool, true, false, cond}
use mathlib.Core.List.{List, [], ◌∷◌}
use native.Mathlib.Omega.{arith}
use native.Mathlib.Numerals.{add-one}
use lib.ListN.{length, take, drop, get_or, drop_of_length-le, length-drop}
use lib.Seq.{drop-cons, drop-drop}
use lib.Dec.{eqb}
use Rattle.mir.specs.Read.{Read, got, refused}
use Rattle.replay.specs.Same.{same}
use Rattle.assembly.specs.Assembled.{joined, pieces, uncommented, number_from}
use Rattle.assembly.specs.Reading.{before}

one_more : (n k : ℕ) (t : Bool) → n ≤ k → cond t 0 (suc n) ≤ suc k
one_more n k true h = omega arith
one_more n k false h = omega (arith, h)

pub within : (c : ℕ) (s : List ℕ) → before c s ≤ length s
unfolding before
within c [] = omega arith
within c (b ∷ s) = one_more (before c s) (length s) (eqb b c) (within c s)

-- a piece from its first byte on, by whether that byte ends it
alone : (c b : ℕ) (t : Bool) → cond t ([] ∷ []) ((b ∷ []) ∷ []) ≡ take (cond t 0 1) (b ∷ []) ∷ pieces c (drop (suc (cond t 0 1)) (b ∷ []))
unfolding pieces
alone c b true = refl
alone c b false = refl

joining : (c b n : ℕ) (s : List ℕ) (t : Bool) → pieces c s ≡ take n s ∷ pieces c (drop (suc n) s)
    → cond t ([] ∷ pieces c s) (joined b (pieces c s)) ≡ take (cond t 0 (suc n)) (b ∷ s) ∷ pieces c (drop (suc (cond t 0 (suc n))) (b ∷ s))
joining c b n s true e = refl
joining c b n s false e = ap (joined b) e

first_piece : (c b : ℕ) (s : List ℕ)
    → pieces c (b ∷ s) ≡ take (before c (b ∷ s)) (b ∷ s) ∷ pieces c (drop (suc (before c (b ∷ s))) (b ∷ s))
unfolding pieces before
first_piece c b [] = alone c b (eqb b c)
first_piece c b (a ∷ s) = joining c b (before c (a ∷ s)) (a ∷ s) (eqb b c) (first_piece c a s)

some_first : (c : ℕ) (s : List ℕ) → 0 < length s → pieces c s ≡ take (before c s) s ∷ pieces c (drop (suc (before c s)) s)
some_first c [] h = absurd (omega (arith, h))
some_first c (b ∷ s) h = first_piece c b s

-- the piece that begins at i and ends at e, and those behind it
pub cutting : (c : ℕ) (s : List ℕ) (i e : ℕ) → i < length s → e ≡ i + before c (drop i s)
    → pieces c (drop i s) ≡ take (e - i) (drop i s) ∷ pieces c (drop (e + 1) s)
cutting c s i e h q =
    let l : 0 < length (drop i s) = simp length-drop (omega arith) in
    let n : before c (drop i s) ≡ e - i = omega (arith, q) in
    let m : i + suc (before c (drop i s)) ≡ e + 1 = omega (arith, q) in
    some_first c (drop i s) l
    ∙ ap (λ x. take (before c (drop i s)) (drop i s) ∷ pieces c x) (drop-drop (suc (before c (drop i s))) i s ∙ ap (λ k. drop k s) m)
    ∙ ap (λ k. take k (drop i s) ∷ pieces c (drop (e + 1) s)) n

pub ends_within : (c : ℕ) (s : List ℕ) (i e : ℕ) → i ≤ length s → e ≡ i + before c (drop i s) → (i ≤ e) × (e ≤ length s)
ends_within c s i e h q =
    let k = within c (drop i s) in
    let l : length (drop i s) ≡ length s - i = simp length-drop in
    (omega (arith, q), omega (arith, q, k, l, h))

-- a word compared with the piece of a row
module _ (s w : List ℕ) (i e n : ℕ) {r : Read ℕ} (known : number_from n (pieces 32 (drop i s)) w ≡ r) (h : i < length s) (q : e ≡ i + before 32 (drop i s)) where
  pub found : true ≡ same (take (e - i) (drop i s)) w → got n ≡ r
  unfolding number_from
  found t = rw (cutting 32 s i e h q, sym t) at known

  pub not_yet : false ≡ same (take (e - i) (drop i s)) w → number_from (n + 1) (pieces 32 (drop (e + 1) s)) w ≡ r
  unfolding number_from
  not_yet t = rw (add-one n) (rw (cutting 32 s i e h q, sym t) at known)

pub none_left : (s w : List ℕ) (i n : ℕ) {r : Read ℕ} → number_from n (pieces 32 (drop i s)) w ≡ r → length s ≤ i → refused 3 ≡ r
unfolding number_from pieces
none_left s w i n known h = rw (drop_of_length-le s h) at known

-- a byte that is passed over, or the one that ends the piece
pub passed_over : (c : ℕ) (s : List ℕ) (i : ℕ) → i < length s → eqb (get_or s i 0) c ≡ false
    → i + 1 + before c (drop (i + 1) s) ≡ i + before c (drop i s)
unfolding before
passed_over c s i h e = rw (drop-cons s i 0 h, e, add-one i) (omega arith)

pub stopped : (c : ℕ) (s : List ℕ) (i : ℕ) → i < length s → eqb (get_or s i 0) c ≡ true → i ≡ i + before c (drop i s)
unfolding before
stopped c s i h e = rw (drop-cons s i 0 h, e) (omega arith)

pub at-end : (c : ℕ) (s : List ℕ) (i : ℕ) → length s ≤ i → i ≡ i + before c (drop i s)
unfolding before
at-end c s i h = rw (drop_of_length-le s h) (omega arith)

-- what counts of a line ends before its first `#`
comment : (b n : ℕ) (s u : List ℕ) (t : Bool) → take n s ≡ u → take (cond t 0 (suc n)) (b ∷ s) ≡ cond t [] (b ∷ u)
comment b n s u true e = refl
comment b n s u false e = ap (λ s. b ∷ s) e

counts : (s : List ℕ) → take (before 35 s) s ≡ uncommented s
unfolding before uncommented
counts [] = refl
counts (b ∷ s) = comment b (before 35 s) s (uncommented s) (eqb b 35) (counts s)

pub comment_cut : (l : List ℕ) (e : ℕ) → e ≡ 0 + before 35 l → take (e - 0) l ≡ uncommented l
comment_cut l e q = let n : e - 0 ≡ before 35 l = omega (arith, q) in ap (λ n. take n l) n ∙ counts l
