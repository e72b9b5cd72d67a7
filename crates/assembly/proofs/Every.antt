-- What every first word has: its part by its number, few bytes, few words.
use Prim.Native.Nat.{ℕ, zero, suc, ◌-◌, ◌≤◌}
use mathlib.Core.Path.{◌≡◌, refl, sym, ap, ◌∙◌}
use mathlib.Core.Bool.{Bool, true, ◌&&◌}
use mathlib.Core.List.{List, ◌∷◌, map}
use native.Mathlib.Omega.{arith}
use borrow.Author.Tests.{ne_eqb}
use lib.Dec.{leb, leb→le}
use lib.ListN.{length, get_or, replicate, get_or-map}
use Rattle.mir.specs.Read.{Read, got, and_then}
use Rattle.mir.specs.Encode.{record_of}
use Rattle.mir.specs.Length.{length_of}
use Rattle.mir.proofs.Tables.{and_left, and_right}
use Rattle.text.specs.Text.{ascii}
use Rattle.assembly.specs.Assembled.{mode, real, constant_line, instruction, FirstWord, heads, nothing}
use Rattle.assembly.specs.Assembled.{Reading, begun, taking_all, no_more}
use Rattle.assembly.specs.Making.{part_of}
use Rattle.assembly.proofs.Pieces.{true_t}

-- a line's other words, read by the number of its first
abbrev pub after_first : List (List ℕ) → ℕ → Read Reading
after_first ws n = and_then (taking_all (get_or heads n nothing).sorts (got (begun (get_or heads n nothing) ws))) (λ r. no_more r r.words)

many : {A : Type 0} (a : A) (k i : ℕ) → get_or (replicate k a) i a ≡ a
many a zero i = refl
many a (suc k) zero = refl
many a (suc k) (suc i) = many a k i

parts : map (λ h. h.part) heads ≡ mode ∷ real ∷ constant_line ∷ replicate (length heads - 3) instruction
unfolding heads
parts = refl

other : (n : ℕ) → part_of (suc (suc (suc n))) ≡ instruction
other n =
    let m = suc (suc (suc n)) in
    simp (ne_eqb m 0 (λ e. omega (arith, e)), ne_eqb m 1 (λ e. omega (arith, e)), ne_eqb m 2 (λ e. omega (arith, e)))

by_number : (n k : ℕ) → get_or (mode ∷ real ∷ constant_line ∷ replicate k instruction) n instruction ≡ part_of n
by_number zero k = refl
by_number (suc zero) k = refl
by_number (suc (suc zero)) k = refl
by_number (suc (suc (suc n))) k = many instruction k n ∙ sym (other n)

pub part_at : (n : ℕ) → (get_or heads n nothing).part ≡ part_of n
part_at n =
    sym (get_or-map (λ h. h.part) heads n nothing) ∙ ap (λ l. get_or l n instruction) parts ∙ by_number n (length heads - 3)

-- at most five bytes before the fields, at most five words behind the first
abbrev small : FirstWord → Bool
small h = leb (length h.start) 5 && leb (length h.sorts) 5

all_small : map small heads ≡ replicate (length heads) true
unfolding heads ascii record_of length_of
all_small = refl

pub few : (n : ℕ) → (length (get_or heads n nothing).start ≤ 5) × (length (get_or heads n nothing).sorts ≤ 5)
few n =
    let h = get_or heads n nothing in
    let e = sym (get_or-map small heads n nothing) ∙ ap (λ l. get_or l n true) all_small ∙ many true (length heads) n in
    let a = leb (length h.start) 5 in
    let b = leb (length h.sorts) 5 in
    let t = true_t (a && b) e in
    (leb→le _ 5 (and_left a b t), leb→le _ 5 (and_right a b t))
