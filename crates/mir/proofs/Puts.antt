-- The bytes of a record of a kind, as `put` makes them.
use Prim.Native.Nat.{ℕ, suc, ◌+◌, ◌-◌, ◌/◌, ◌%◌, ◌≤◌, ◌<◌}
use mathlib.Core.Path.{◌≡◌, refl, sym, ap, ◌∙◌}
use mathlib.Core.List.{List, [], ◌∷◌, ◌++◌}
use native.Mathlib.Omega.{arith}
use lib.ListN.{length, get_or, take, drop, length-take}
use lib.Dec.{leb, leb→le}
use lib.Seq.{sets}
use borrow.Rule.Slice.PartMut.{put_mid}
use Rattle.std.proofs.lemmas.List.{take_all}
use Rattle.std.proofs.lemmas.Slice.{put_mid-paste}
use Rattle.std.proofs.lemmas.List.Edits.{sets-eq}
use Rattle.mir.specs.Length.{lengths, length_of}
use Rattle.mir.specs.Encode.{two_bytes, record_of, buf, placed}
use Rattle.mir.proofs.Placing.{placed_fits, placed_full}
use Rattle.mir.proofs.Tables.{holds}

-- a record has 4 to 11 bytes, by the table
pub shortest : (k : ℕ) → k < 18 → 4 ≤ length_of k
unfolding length_of
shortest k h = leb→le 4 (get_or lengths k 0) (holds (λ n. leb 4 n) lengths tt k 0 h)

pub longest : (k : ℕ) → k < 18 → length_of k ≤ 11
unfolding length_of
longest k h = leb→le (get_or lengths k 0) 11 (holds (λ n. leb n 11) lengths tt k 0 h)

-- seven elements, one by one
seven : (f : List ℕ) → length f ≡ 7
    → get_or f 0 0 ∷ get_or f 1 0 ∷ get_or f 2 0 ∷ get_or f 3 0 ∷ get_or f 4 0 ∷ get_or f 5 0 ∷ get_or f 6 0 ∷ [] ≡ f
seven [] h = absurd (omega arith)
seven (a ∷ []) h = absurd (omega arith)
seven (a ∷ b ∷ []) h = absurd (omega arith)
seven (a ∷ b ∷ c ∷ []) h = absurd (omega arith)
seven (a ∷ b ∷ c ∷ d ∷ []) h = absurd (omega arith)
seven (a ∷ b ∷ c ∷ d ∷ e ∷ []) h = absurd (omega arith)
seven (a ∷ b ∷ c ∷ d ∷ e ∷ g ∷ []) h = absurd (omega arith)
seven (a ∷ b ∷ c ∷ d ∷ e ∷ g ∷ i ∷ []) h = refl
seven (a ∷ b ∷ c ∷ d ∷ e ∷ g ∷ i ∷ j ∷ f) h = absurd (omega arith)

head : (n k : ℕ) (f : List ℕ) → 4 ≤ n → n ≤ 11 → k < 18
    → take n (n ∷ 0 ∷ k ∷ 0 ∷ f) ≡ two_bytes n ++ (two_bytes k ++ take (n - 4) f)
head n k f lo hi h =
    let e : n ≡ suc (suc (suc (suc (n - 4)))) = omega arith in
    let a : n % 256 ≡ n = omega arith in
    let b : n / 256 ≡ 0 = omega arith in
    let c : k % 256 ≡ k = omega arith in
    let d : k / 256 ≡ 0 = omega arith in
    ap (λ m. take m (n ∷ 0 ∷ k ∷ 0 ∷ f)) e ∙ rw (a, b, c, d)

pub put-bytes : (k : ℕ) (f : List ℕ) → k < 18 → length f ≡ 7
    → take (length_of k)
    (length_of k ∷ 0 ∷ k ∷ 0 ∷ get_or f 0 0 ∷ get_or f 1 0 ∷ get_or f 2 0 ∷ get_or f 3 0 ∷ get_or f 4 0 ∷ get_or f 5 0 ∷ get_or f 6 0 ∷ [])
    ≡ record_of k (take (length_of k - 4) f)
unfolding record_of
put-bytes k f h s =
    ap (λ l. take (length_of k) (length_of k ∷ 0 ∷ k ∷ 0 ∷ l)) (seven f s)
    ∙ head (length_of k) k f (shortest k h) (longest k h) h

pub put-length : (k : ℕ) (f : List ℕ) → k < 18 → length f ≡ 7 → length (record_of k (take (length_of k - 4) f)) ≡ length_of k
unfolding record_of
put-length k f h s =
    let lo = shortest k h in
    let hi = longest k h in
    let e : length (take (length_of k - 4) f) ≡ length_of k - 4 = simp length-take (omega arith) in
    omega arith

-- what `put` leaves where there is no room, and where there is
pub put_full : (l : List ℕ) (at k : ℕ) (f : List ℕ) → k < 18 → length f ≡ 7 → length l < at + length_of k
    → buf l at ≡ placed (buf l at) (record_of k (take (length_of k - 4) f))
put_full l at k f h s full =
    let e = put-length k f h s in
    sym (placed_full l at (record_of k (take (length_of k - 4) f)) (omega arith))

pub put_fits : (l m : List ℕ) (at k : ℕ) (f : List ℕ) → k < 18 → length f ≡ 7 → at + length_of k ≤ length l
    → m ≡ sets l at (take (length_of k)
    (length_of k ∷ 0 ∷ k ∷ 0 ∷ get_or f 0 0 ∷ get_or f 1 0 ∷ get_or f 2 0 ∷ get_or f 3 0 ∷ get_or f 4 0 ∷ get_or f 5 0 ∷ get_or f 6 0 ∷ []))
    → buf m (at + length_of k) ≡ placed (buf l at) (record_of k (take (length_of k - 4) f))
put_fits l m at k f h s room e =
    let n = put-length k f h s in
    ap (λ x. buf x (at + length_of k)) (e ∙ ap (sets l at) (put-bytes k f h s))
    ∙ ap (λ x. buf (sets l at (record_of k (take (length_of k - 4) f))) (at + x)) (sym n)
    ∙ sym (placed_fits l at (record_of k (take (length_of k - 4) f)) (omega arith))

-- what stands in a slice of which a part was written over
pub put_mid-sets : (a k : ℕ) (xs ys : List ℕ) → length ys ≡ k → a + k ≤ length xs → put_mid a k xs ys ≡ sets xs a ys
put_mid-sets a k xs ys e room =
    let h : a + length ys ≤ length xs = omega arith in
    let d : drop (a + k) xs ≡ drop (a + length ys) xs = ap (λ n. drop (a + n) xs) (sym e) in
    put_mid-paste a k xs ys ys k refl refl (sym e) ∙ rw (take_all k ys (omega arith), d) (sym (sets-eq ys xs a h))
