-- The bytes of a record begin with its head, and a place is read back from its bytes.
use Prim.Native.Nat.{ℕ, ◌+◌, ◌*◌, ◌/◌, ◌%◌, ◌≤◌}
use mathlib.Core.Path.{◌≡◌, refl, ap, ◌∙◌}
use mathlib.Core.Bool.{Bool, true}
use mathlib.Core.List.{List, ◌++◌}
use native.Mathlib.Omega.{arith}
use lib.ListN.{length, get_or, length-append}
use borrow.Author.Tests.{le-ltb, eq-eqb}
use Rattle.mir.specs.declared.records.Loc.{Loc}
use Rattle.mir.specs.Place.{class, index}
use Rattle.mir.specs.Length.{length_of}
use Rattle.mir.specs.Read.{got, and_then}
use Rattle.mir.specs.Field.{u16_at, head_from, place_at, saved_to, save_place, on_stack, cond_place}
use Rattle.mir.specs.Encode.{record_of}

-- two bytes are a number again
pub two : (n : ℕ) → n % 256 + 256 * (n / 256) ≡ n
two n = omega arith

module _ (kind : ℕ) (f rest : List ℕ) where
  pub length_back : u16_at (record_of kind f ++ rest) 0 ≡ length_of kind
  unfolding record_of u16_at
  length_back = two (length_of kind)

  pub kind-back : u16_at (record_of kind f ++ rest) 2 ≡ kind
  unfolding record_of u16_at
  kind-back = two kind

  pub length-of : length (record_of kind f) ≡ 4 + length f
  unfolding record_of
  length-of = omega arith

  pub head-back : (takes : ℕ → Bool) → takes kind ≡ true → 4 + length f ≡ length_of kind
      → head_from takes (record_of kind f ++ rest) ≡ got kind
  unfolding head_from
  head-back takes t e =
      let s = record_of kind f ++ rest in
      let a = length-append (record_of kind f) rest in
      let b = length-of in
      let h : 4 ≤ length s = omega arith in
      let k : 4 ≤ length_of kind = omega arith in
      let l : length_of kind ≤ length s = omega arith in
      simp (le-ltb (length s) 4 h, length_back, le-ltb (length_of kind) 4 k, le-ltb (length s) (length_of kind) l, kind-back, t, eq-eqb (length_of kind) (length_of kind) refl)

module _ (s : List ℕ) (i : ℕ) where
  pub place-back : (p : Loc) → get_or s i 0 ≡ class p → u16_at s (i + 1) ≡ index p → index p ≤ 255 → place_at s i ≡ got p
  unfolding place_at
  place-back (Loc.Stack n) c w h = simp (c, w, le-ltb 255 n h)
  place-back (Loc.Mem n) c w h = simp (c, w, le-ltb 255 n h)
  place-back (Loc.Param n) c w h = simp (c, w, le-ltb 255 n h)

  pub save-back : (p : Loc) → place_at s i ≡ got p → saved_to p ≡ got p → save_place s i ≡ got p
  unfolding save_place
  save-back p e f = ap (λ x. and_then x saved_to) e ∙ f

  pub cond_back : (p : Loc) → place_at s i ≡ got p → on_stack p ≡ got p → cond_place s i ≡ got p
  unfolding cond_place
  cond_back p e f = ap (λ x. and_then x on_stack) e ∙ f
