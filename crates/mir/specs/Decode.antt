-- Records one after the other, by a reader of the bytes that begin with a record. Both readers, of sheets and of listings, are used so.
use Rattle.std.specs.Prelude.{ℕ, zero, suc, pred, ◌+◌, List, [], ◌∷◌, drop, Ok, Err, Result}
use Rattle.mir.specs.declared.refusal.Refusal.{Refusal}
use Rattle.mir.specs.Refusal.{number}
use Rattle.mir.specs.Read.{Read, got, refused, and_then}
use Rattle.mir.specs.Field.{u16_at}

-- an item and the position after it: its first two bytes are its length
pub record Item (A : Type 0) : Type 0 where
  pub item : A
  pub next : ℕ

unfoldable pub read_at : {A : Type 0} → (List ℕ → Read A) → List ℕ → ℕ → Read (Item A)
unfolding u16_at
read_at read s at = and_then (read (drop at s)) (λ a. got (record { item = a; next = at + u16_at (drop at s) 0 }))

-- the answer of a reader at a position in the code: what it found and the position after it, or the number that refuses it
abbrev pub as_next : {A : Type 0} → Result (A × ℕ) Refusal → Read (Item A)
as_next (Ok (a, next)) = got (record { item = a; next = next })
as_next (Err e) = refused (number e)

-- "The first refused record ends the work": the items up to it, and the number that refuses it (0: none is refused)
pub record Decoded (A : Type 0) : Type 0 where
  pub items : List A
  pub fault : ℕ

abbrev pub ahead : {A : Type 0} → A → Decoded A → Decoded A
ahead a d = record { items = a ∷ d.items; fault = d.fault }

abbrev pub onto : {A : Type 0} → Read A → (A → Decoded A) → Decoded A
onto (got a) f = ahead a (f a)
onto (refused n) f = record { items = []; fault = n }

-- what stands behind the first k bytes; an item's first byte is followed by the rest of its length
unfoldable pub decoded_from : {A : Type 0} → (List ℕ → Read A) → List ℕ → ℕ → Decoded A
unfolding u16_at
decoded_from read [] k = record { items = []; fault = 0 }
decoded_from read (b ∷ s) zero = onto (read (b ∷ s)) (λ a. decoded_from read s (pred (u16_at (b ∷ s) 0)))
decoded_from read (b ∷ s) (suc k) = decoded_from read s k

unfoldable pub decoded : {A : Type 0} → (List ℕ → Read A) → List ℕ → Decoded A
unfolding decoded_from
decoded read s = decoded_from read s 0
