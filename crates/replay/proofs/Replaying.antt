-- A list replayed case after case: what is left of it decides. Assumes nothing.
use Rattle.std.proofs.Common.{◌≡◌, ℕ, suc, ◌+◌, ◌-◌, ◌<◌, ◌≤◌, Bool, true, false, ◌||◌, eqb, ltb, List, length, take, drop, sym, refl, ap, ◌∙◌, arith, ltb-false, le-ltb, lt-ltb}
use Rattle.mir.proofs.Parts.{part}
use Rattle.replay.specs.Numbers.{u32_at}
use Rattle.replay.specs.declared.tally.Tally.{Tally}
use Rattle.replay.specs.Whole.{cut_at, WholeAt}
use Rattle.replay.specs.Tally.{Cases, Replayed, tallied, replayed, replayed_list}

-- no test of a row holds where the whole row does not
or-first : (a b : Bool) → (a || b) ≡ false → a ≡ false
or-first false b e = refl
or-first true b e = e

or_rest : (a b : Bool) → (a || b) ≡ false → b ≡ false
or_rest false b e = e
or_rest true false e = refl
or_rest true true e = e

module _ (head first second end : ℕ) (s : List ℕ) where
  -- the last test decides where the others do not hold
  pub end-decides : {a b : ℕ} → head ≤ length s → a ≡ u32_at s 4 → a ≤ first → b ≡ u32_at s 8 → b ≤ second
      → ltb (length s) end ≡ cut_at head first second end s
  unfolding cut_at
  end-decides h e f g k =
      sym (rw (le-ltb (length s) head h, le-ltb first (u32_at s 4) (omega (arith, e, f)), le-ltb second (u32_at s 8) (omega (arith, g, k))))

  -- a case that is not cut is whole
  pub is_whole : {size : ℕ} {b : Bool} → size ≡ end → b ≡ cut_at head first second size s → b ≡ false → WholeAt head first second end s
  unfolding cut_at
  is_whole {size} h e b =
      let none = sym e ∙ b in
      let one = or_rest (ltb (length s) head) _ none in
      let two = or_rest (ltb first (u32_at s 4)) _ one in
      let l : size ≤ length s = ltb-false (length s) size (or_rest (ltb second (u32_at s 8)) _ two) in
      record {
        long = ltb-false _ _ (or-first (ltb (length s) head) _ none);
        count = ltb-false _ _ (or-first (ltb first (u32_at s 4)) _ one);
        other = ltb-false _ _ (or-first (ltb second (u32_at s 8)) _ two);
        rest = omega (arith, h, l);
      }

-- after i of n cases, with counts t, the bytes that are left give what the whole gives
pub record Left (k : Cases) (whole : Replayed) (n i : ℕ) (t : Tally) (s : List ℕ) : Type 0 where
  pub gives : whole ≡ replayed k (n - i) t s

-- a list without a count, and one with it
module _ (k : Cases) (t : Tally) (list : List ℕ) where
  pub no-count : length list < 4 → (false ≡ (replayed_list k t list).whole) × (t ≡ (replayed_list k t list).counts)
  unfolding replayed_list
  no-count h = let b : ltb (length list) 4 ≡ true = lt-ltb (length list) 4 h in (rw b, rw b)

  pub begun : {n : ℕ} → 4 ≤ length list → n ≡ u32_at list 0
      → Left k (replayed_list k t list) n 0 t (take (length list - 4) (drop 4 list))
  unfolding replayed_list
  begun {n} h e =
      let b : ltb (length list) 4 ≡ false = le-ltb (length list) 4 h in
      let j : u32_at list 0 ≡ n - 0 = omega (arith, e) in
      record { gives = rw b (λ x. replayed k (j x) t (sym (part list 4) x)) }

next : (n i : ℕ) → i < n → n - i ≡ suc (n - (i + 1))
next n i h = omega arith

module _ {k : Cases} {whole : Replayed} {n i : ℕ} {t : Tally} {s : List ℕ} (left : Left k whole n i t s) where
  -- a case that is not whole
  pub stopped : {b : Bool} {size : ℕ} → i < n → size ≡ k.end s → b ≡ k.cut size s → b ≡ true
      → (false ≡ whole.whole) × (t ≡ whole.counts)
  unfolding replayed
  stopped {b} {size} h hs e f =
      let cut : k.cut (k.end s) s ≡ true = ap (λ (j : ℕ). k.cut j s) (sym hs) ∙ sym e ∙ f in
      let w : whole ≡ record { counts = t; whole = false } = left.gives ∙ ap (λ (j : ℕ). replayed k j t s) (next n i h) ∙ rw cut in
      (sym (ap (λ (r : Replayed). r.whole) w), sym (ap (λ (r : Replayed). r.counts) w))

  -- one case more
  pub turned : {b d : Bool} {number size : ℕ} {last : Tally}
      → i < n
      → size ≡ k.end s
      → b ≡ k.cut size s
      → b ≡ false
      → number ≡ k.number s
      → d ≡ k.differs s
      → last ≡ tallied t number d
      → Left k whole n (i + 1) last (take (length s - size) (drop size s))
  unfolding replayed
  turned {b} {d} {number} {size} {last} h hs e f hn hd hl =
      let cut : k.cut (k.end s) s ≡ false = ap (λ (j : ℕ). k.cut j s) (sym hs) ∙ sym e ∙ f in
      let counts : tallied t (k.number s) (k.differs s) ≡ last = (λ x. tallied t (sym hn x) (sym hd x)) ∙ sym hl in
      record {
        gives =
            left.gives
            ∙ ap (λ (j : ℕ). replayed k j t s) (next n i h)
            ∙ rw cut (λ x. replayed k (n - (i + 1)) (counts x) (drop (sym hs x) s))
            ∙ ap (replayed k (n - (i + 1)) last) (sym (part s size));
      }

  -- the end
  pub ended : {b : Bool} → n ≤ i → b ≡ eqb (length s) 0 → (b ≡ whole.whole) × (t ≡ whole.counts)
  unfolding replayed
  ended h e =
      let none : n - i ≡ 0 = omega arith in
      let w : whole ≡ record { counts = t; whole = eqb (length s) 0 } = left.gives ∙ ap (λ (j : ℕ). replayed k j t s) none in
      (e ∙ sym (ap (λ (r : Replayed). r.whole) w), sym (ap (λ (r : Replayed). r.counts) w))
