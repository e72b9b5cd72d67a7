-- Records read one after the other, by any reader whose records have their length. As the code does it: at a position, from the part of
-- the slice that begins there.
use Prim.Native.Nat.{ℕ, zero, suc, pred, ◌+◌, ◌-◌, ◌≤◌, ◌<◌}
use mathlib.Core.Path.{◌≡◌, refl, sym, ap, ◌∙◌}
use mathlib.Core.List.{List, [], ◌∷◌}
use native.Mathlib.Nat.{not-suc-le-zero}
use native.Mathlib.Omega.{arith}
use lib.ListN.{length, get_or, take, drop, drop_of_length-le, length-drop}
use lib.Seq.{drop-drop}
use Rattle.mir.specs.Read.{Read, got, refused, and_then}
use Rattle.mir.specs.Field.{u16_at}
use Rattle.mir.specs.Decode.{read_at, Decoded, ahead, onto, decoded_from, decoded}
use Rattle.mir.proofs.Parts.{part}
use Rattle.mir.proofs.Passing.{then, stopped, got_same}
use Rattle.mir.proofs.Heads.{Sized}

-- what the code knows of a reader's answer at a position
module _ {A : Type 0} (read : List ℕ → Read A) (s : List ℕ) (at : ℕ) where
  pub next-got : (a : A) (n : ℕ) → read (take (length s - at) (drop at s)) ≡ got a
      → n ≡ u16_at (take (length s - at) (drop at s)) 0
      → read_at read s at ≡ got (record { item = a; next = at + n })
  unfolding read_at
  next-got a n e w =
      ap (λ l. and_then (read l) (λ a. got (record { item = a; next = at + u16_at l 0 }))) (sym (part s at)) ∙ simp (e, ← w)

  pub next-refused : (n : ℕ) → read (take (length s - at) (drop at s)) ≡ refused n → read_at read s at ≡ refused n
  unfolding read_at
  next-refused n e =
      ap (λ l. and_then (read l) (λ a. got (record { item = a; next = at + u16_at l 0 }))) (sym (part s at)) ∙ simp e

  pub next_past : read [] ≡ refused 1 → length s ≤ at → read_at read s at ≡ refused 1
  unfolding read_at
  next_past e h = simp (drop_of_length-le s h, e)

-- a record never reads past its end
pub record Whole {A : Type 0} (read : List ℕ → Read A) : Type 0 where
  pub sized : (s : List ℕ) (a : A) → read s ≡ got a → Sized s

module _ {A : Type 0} (read : List ℕ → Read A) where
  pub decoded-none : decoded read [] ≡ record { items = []; fault = 0 }
  unfolding decoded decoded_from
  decoded-none = refl

  pub decoded-skip : (s : List ℕ) (k : ℕ) → decoded_from read s k ≡ decoded read (drop k s)
  unfolding decoded decoded_from
  decoded-skip [] zero = refl
  decoded-skip [] (suc k) = refl
  decoded-skip (b ∷ s) zero = refl
  decoded-skip (b ∷ s) (suc k) = decoded-skip s k

  pub decoded-torn : (s : List ℕ) (n : ℕ) → read s ≡ refused n → 1 ≤ length s → decoded read s ≡ record { items = []; fault = n }
  unfolding decoded decoded_from
  decoded-torn [] n e h = absurd (not-suc-le-zero h)
  decoded-torn (b ∷ s) n e h = simp e

  pub decoded-got : Whole read → (s : List ℕ) (a : A) → read s ≡ got a
      → decoded read s ≡ ahead a (decoded read (drop (u16_at s 0) s))
  unfolding decoded decoded_from
  decoded-got whole [] a e = let z = whole.sized [] a e in absurd (omega (arith, z.least, z.inside))
  decoded-got whole (b ∷ s) a e =
      let z = whole.sized (b ∷ s) a e in
      let n = u16_at (b ∷ s) 0 in
      let h : n ≡ suc (pred n) = omega (arith, z.least) in
      simp e (ap (ahead a) (decoded-skip s (pred n)) ∙ ap (λ k. ahead a (decoded read (drop k (b ∷ s)))) (sym h))

-- what stands behind a position
abbrev pub items : {A : Type 0} → (List ℕ → Read A) → List ℕ → List A
items read s = (decoded read s).items

abbrev pub fault : {A : Type 0} → (List ℕ → Read A) → List ℕ → ℕ
fault read s = (decoded read s).fault

-- the item x stands at a position, and what follows it at the next; positions only grow
pub record Here {A : Type 0} (read : List ℕ → Read A) (s : List ℕ) (at : ℕ) (x : A) (next : ℕ) : Type 0 where
  pub same : items read (drop at s) ≡ x ∷ items read (drop next s)
  pub sound : fault read (drop at s) ≡ fault read (drop next s)
  pub on : at < next
  pub few : next ≤ at + 11
  pub inside : next ≤ length s

-- no item stands at a position (k is 0), or one that k refuses
pub record Done {A : Type 0} (read : List ℕ → Read A) (s : List ℕ) (at k : ℕ) : Type 0 where
  pub same : items read (drop at s) ≡ []
  pub why : fault read (drop at s) ≡ k

module _ {A : Type 0} (read : List ℕ → Read A) (s : List ℕ) (at : ℕ) where
  pub here : Whole read → (x : A) (next : ℕ) → read_at read s at ≡ got (record { item = x; next = next }) → Here read s at x next
  unfolding read_at
  here whole x next e =
      let t = then (read (drop at s)) (λ a. got (record { item = a; next = at + u16_at (drop at s) 0 })) (record { item = x; next = next }) e in
      let n = u16_at (drop at s) 0 in
      let y = got_same _ _ t.rest in
      let a : t.first ≡ x = ap (λ y. y.item) y in
      let b : at + n ≡ next = ap (λ y. y.next) y in
      let z = whole.sized (drop at s) t.first t.found in
      let g = length-drop at s in
      let d = decoded-got read whole (drop at s) t.first t.found
      ∙ ap (λ l. ahead t.first (decoded read l)) (drop-drop n at s)
      ∙ ap (λ k. ahead t.first (decoded read (drop k s))) b
      ∙ ap (λ y. ahead y (decoded read (drop next s))) a in
      record {
        same = ap (λ d. d.items) d;
        sound = ap (λ d. d.fault) d;
        on = omega (arith, z.least);
        few = omega (arith, z.most);
        inside = omega (arith, z.least, z.inside);
      }

  pub torn : (k : ℕ) → read_at read s at ≡ refused k → at < length s → Done read s at k
  unfolding read_at
  torn k e h =
      let g = length-drop at s in
      let d = decoded-torn read (drop at s) k (stopped (λ a. record { item = a; next = at + u16_at (drop at s) 0 }) (read (drop at s)) k e) (omega arith) in
      record { same = ap (λ d. d.items) d; why = ap (λ d. d.fault) d }

  pub ended : length s ≤ at → Done read s at 0
  ended h =
      let d = ap (decoded read) (drop_of_length-le s h) ∙ decoded-none read in
      record { same = ap (λ d. d.items) d; why = ap (λ d. d.fault) d }

-- elements that are bytes
abbrev pub Bytes : List ℕ → Type 0
Bytes s = (i : ℕ) → get_or s i 0 < 256

-- each element has a property
pub data Each {A : Type 0} (P : A → Type 0) : List A → Type 0 where
  none : Each P []
  and : {a : A} {l : List A} → P a → Each P l → Each P (a ∷ l)

onto_each : {A : Type 0} (P : A → Type 0) (x : Read A) (f : A → Decoded A) → ((a : A) → x ≡ got a → P a)
    → ((a : A) → Each P (f a).items)
    → Each P (onto x f).items
onto_each P (got a) f p q = and (p a refl) (q a)
onto_each P (refused n) f p q = none

-- what holds of each item that is read from bytes holds of all that are decoded
module _ {A : Type 0} (P : A → Type 0) (read : List ℕ → Read A) (good : (s : List ℕ) (a : A) → Bytes s → read s ≡ got a → P a) where
  each_from : (s : List ℕ) (k : ℕ) → Bytes s → Each P (decoded_from read s k).items
  unfolding decoded_from
  each_from [] k h = none
  each_from (b ∷ s) zero h =
      onto_each P (read (b ∷ s)) (λ a. decoded_from read s (pred (u16_at (b ∷ s) 0))) (λ a e. good (b ∷ s) a h e)
      (λ a. each_from s (pred (u16_at (b ∷ s) 0)) (λ i. h (suc i)))
  each_from (b ∷ s) (suc k) h = each_from s k (λ i. h (suc i))

  pub each : (s : List ℕ) → Bytes s → Each P (items read s)
  unfolding decoded
  each s h = each_from s 0 h
