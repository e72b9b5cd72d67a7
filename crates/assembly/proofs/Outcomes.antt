-- What is read of a sheet's bytes, if it is not refused: the number of an operation, and a place.
use Prim.Native.Nat.{ℕ, zero, suc, ◌+◌, ◌*◌, ◌≤◌, ◌<◌}
use mathlib.Core.Path.{◌≡◌, refl, sym}
use mathlib.Core.Bool.{Bool, not}
use mathlib.Core.List.{List, [], ◌∷◌, map}
use native.Mathlib.Omega.{arith}
use borrow.Author.Tests.{ltb-false}
use lib.Dec.{ltb}
use lib.ListN.{length}
use Rattle.mir.specs.declared.records.Loc.{Loc}
use Rattle.mir.specs.Place.{class, index}
use Rattle.mir.specs.Read.{refuse}
use Rattle.mir.specs.Operation.{taken}
use Rattle.mir.specs.Field.{classed, saved_to, on_stack}
use Rattle.mir.proofs.IfRead.{IfRead, read, told, tested, chosen}
use Rattle.assembly.specs.Assembled.{counting}

-- an operation that is read has the number from which it is read
pub numbered : {A : Type 0} (takes : A → Bool) (number : A → ℕ) (ops : List A) (m base n : ℕ) → m ≡ base + n
    → map number ops ≡ counting (length ops) base
    → IfRead (λ op. m ≡ number op) (taken takes ops n)
numbered takes number [] m base n h e = told
numbered takes number (op ∷ ops) m base zero h e =
    let z : number op ≡ base = cc in
    tested (not (takes op)) 1 (λ t. read (omega (arith, h, z)))
numbered takes number (op ∷ ops) m base (suc n) h e =
    numbered takes number ops m (suc base) n (omega (arith, h)) (cc)

-- a place that is read is the one of its bytes
pub record PlaceIs (c lo hi : ℕ) (p : Loc) : Type 0 where
  pub kind : class p ≡ c
  pub at : index p ≡ lo
  pub high : hi ≡ 0

pub placed : (c lo hi : ℕ) → lo < 256 → IfRead (PlaceIs c lo hi) (refuse (ltb 255 (lo + 256 * hi)) 4 (classed c (lo + 256 * hi)))
placed c lo hi h =
    tested (ltb 255 (lo + 256 * hi)) 3
    (λ t.
    let k = ltb-false 255 (lo + 256 * hi) t in
    let z : hi ≡ 0 = omega (arith, k) in
    let w : lo + 256 * hi ≡ lo = omega (arith, z) in
    chosen c 0 (λ e. read (record { kind = sym e; at = w; high = z }))
    (chosen c 1 (λ e. read (record { kind = sym e; at = w; high = z }))
    (chosen c 2 (λ e. read (record { kind = sym e; at = w; high = z })) told)))

pub saved : (p : Loc) → IfRead (λ q. q ≡ p) (saved_to p)
saved (Loc.Stack i) = read refl
saved (Loc.Mem i) = read refl
saved (Loc.Param i) = told

pub stacked : (p : Loc) → IfRead (λ q. q ≡ p) (on_stack p)
stacked (Loc.Stack i) = read refl
stacked (Loc.Mem i) = told
stacked (Loc.Param i) = told

-- lists that begin with n elements
abbrev pub Front : ℕ → (List ℕ → Type 0) → Type 0
Front zero P = (s : List ℕ) → P s
Front (suc n) P = (b : ℕ) → Front n (λ s. P (b ∷ s))

pub by_front : (n : ℕ) (P : List ℕ → Type 0) → Front n P → (s : List ℕ) → n ≤ length s → P s
by_front zero P f s h = f s
by_front (suc n) P f [] h = absurd (omega arith)
by_front (suc n) P f (b ∷ s) h = by_front n (λ s. P (b ∷ s)) (f b) s (omega arith)
