-- A window in two parts, and one position more of the output. Assumes nothing.
use Prim.Native.Nat.{ℕ, zero, suc, ◌+◌, ◌-◌, ◌≤◌, ◌<◌}
use mathlib.Core.Path.{◌≡◌, refl, sym, ap, ap₂, ◌∙◌}
use mathlib.Core.List.{List, [], ◌∷◌, ◌++◌}
use mathlib.Core.Logic.{inl, inr}
use native.Mathlib.Nat.{le_of_suc-le-suc, eq-or-lt_of_le}
use native.Mathlib.Numerals.{add-one}
use native.Mathlib.Omega.{arith}
use lib.ListN.{length, take, drop, get_or, set, replicate, get_or-replicate, take-append-drop, length-append}
use lib.Seq.{slice, slice_empty, slice-cons, take-take, drop-nil, drop-cons, set_at, append_snoc, get_or-set_same, get_or-set_other}
use Rattle.peak.specs.Peak.{larger, none, largest, window, peaks, filled}
use Rattle.peak.specs.Blocks.{Tails}
use Rattle.peak.proofs.Joining.{largest_append}

slice_join : (f s t : ℕ) (l : List ℕ) → f ≤ s → s ≤ t → slice f s l ++ slice s t l ≡ slice f t l
slice_join zero s t l h k = ap (λ x. x ++ slice s t l) (sym (take-take s t l k)) ∙ take-append-drop s (take t l)
slice_join (suc f) (suc s) (suc t) [] h k = refl
slice_join (suc f) (suc s) (suc t) (x ∷ l) h k = slice_join f s t l (le_of_suc-le-suc h) (le_of_suc-le-suc k)
slice_join (suc f) zero t l h k = elim h [ ]
slice_join (suc f) (suc s) zero l h k = elim k [ ]

-- the largest of two parts side by side
largest_join : (f s t : ℕ) (l : List ℕ) → f ≤ s → s ≤ t → larger (largest (slice f s l)) (largest (slice s t l)) ≡ largest (slice f t l)
largest_join f s t l h k = sym (largest_append (slice f s l) (slice s t l)) ∙ ap largest (slice_join f s t l h k)

-- one word more in front
pub largest_cons : (f t : ℕ) (l : List ℕ) → f < t → t ≤ length l → larger (get_or l f 0) (largest (slice (f + 1) t l)) ≡ largest (slice f t l)
unfolding largest
largest_cons f t l h k = rw (add-one f, slice-cons f t l 0 h k)

-- one word more at the end
largest_snoc : (f t : ℕ) (l : List ℕ) → f ≤ t → t < length l → larger (largest (slice f t l)) (larger (get_or l t 0) none) ≡ largest (slice f (t + 1) l)
unfolding largest
largest_snoc f t l h k =
    ap (λ x. larger (largest (slice f t l)) x) (ap (λ x. larger (get_or l t 0) (largest x)) (sym (slice_empty (t + 1) l)) ∙ largest_cons t (t + 1) l (omega arith) (omega arith))
    ∙ largest_join f t (t + 1) l h (omega arith)

-- no word
pub largest_none : (t : ℕ) (l : List ℕ) → none ≡ largest (slice t t l)
unfolding largest
largest_none t l = ap largest (sym (slice_empty t l))

-- what is known of each index from i + 1 on is known from i on, once it is stored there
pub stored : (l : List ℕ) (i x n : ℕ) (f : ℕ → ℕ) → i < length l → x ≡ f i → ((k : ℕ) → i + 1 ≤ k → k < n → get_or l k 0 ≡ f k)
    → (k : ℕ) → i ≤ k → k < n → get_or (set l i x) k 0 ≡ f k
stored l i x n f h e g k a b =
    elim (eq-or-lt_of_le a) [
      | inl p ↦ ap (λ j. get_or (set l i x) j 0) (sym p) ∙ get_or-set_same l i x 0 h ∙ e ∙ ap f p
      | inr p ↦ get_or-set_other l i k x 0 (λ q. omega arith) ∙ g k (omega arith) b
    ]

-- one position more
pub length-peaks : (run : List ℕ) (w n : ℕ) → length (peaks run w n) ≡ n
unfolding peaks
length-peaks run w zero = refl
length-peaks run w (suc n) = length-append (peaks run w n) (largest (window run w n) ∷ []) ∙ ap (λ k. k + 1) (length-peaks run w n) ∙ add-one n

filled_next : (run : List ℕ) (w n : ℕ) (out : List ℕ) → n < length out
    → set (filled run w n out) n (largest (window run w n)) ≡ filled run w (n + 1) out
unfolding filled peaks
filled_next run w n out h =
    ap (λ x. set (peaks run w n ++ x) n (largest (window run w n))) (drop-cons out n 0 h)
    ∙ set_at (peaks run w n) (get_or out n 0) (drop (suc n) out) (largest (window run w n)) n (length-peaks run w n)
    ∙ sym (append_snoc (peaks run w n) (largest (window run w n)) (drop (suc n) out))
    ∙ ap (λ k. filled run w k out) (sym (add-one n))

-- ---- the loop over positions: j of the block's have passed at position i
pub tails_none : (run : List ℕ) (w : ℕ) → w ≤ 64 → Tails run w 0 (replicate 64 none)
unfolding Tails largest
tails_none run w h j k = get_or-replicate 64 j none 0 (omega arith) ∙ ap largest (sym (drop-nil (0 + j + 1 - w)))

tail_at : (run : List ℕ) (w i j : ℕ) (tail : List ℕ) → j ≤ i → j < w → Tails run w (i - j) tail
    → get_or tail j 0 ≡ largest (slice (i + 1 - w) (i - j) run)
unfolding Tails
tail_at run w i j tail h k t =
    let e : i - j + j + 1 - w ≡ i + 1 - w = omega arith in
    t j k ∙ ap (λ f. largest (slice f (i - j) run)) e

pub here_next : (run : List ℕ) (i j here : ℕ) {next : ℕ} → j ≤ i → i < length run → here ≡ largest (slice (i - j) i run)
    → next ≡ larger here (larger (get_or run i 0) none) → next ≡ largest (slice (i - j) (i + 1) run)
here_next run i j here h k e n =
    n ∙ ap (λ x. larger x (larger (get_or run i 0) none)) e ∙ largest_snoc (i - j) i run (omega arith) k

pub out_next : (run out tail : List ℕ) (w i j : ℕ) {here peak : ℕ} → j ≤ i → j < w → i < length out → Tails run w (i - j) tail
    → here ≡ largest (slice (i - j) (i + 1) run) → peak ≡ larger (get_or tail j 0) here
    → set (filled run w i out) i peak ≡ filled run w (i + 1) out
out_next run out tail w i j h k l t e p =
    ap (set (filled run w i out) i)
    (p ∙ ap₂ larger (tail_at run w i j tail h k t) e ∙ largest_join (i + 1 - w) (i - j) (i + 1) run (omega arith) (omega arith))
    ∙ filled_next run w i out l
