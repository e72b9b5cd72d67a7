-- Constants that stable mode seeks: each of its five is added once at most, so the constants with a place for each one that is not there
-- yet never grow.
use Prim.Native.Nat.{ℕ, ◌+◌, ◌≤◌, ◌<◌}
use mathlib.Core.Path.{◌≡◌, sym, subst}
use mathlib.Core.List.{List, [], ◌∷◌, ◌++◌}
use native.Mathlib.Omega.{arith}
use borrow.Author.Tests.{lt-ltb, le-ltb, ltb-true, ltb-false}
use lib.ListN.{length, length-append}
use lib.Dec.{ltb}
use Rattle.mir.proofs.Passing.{either}
use Rattle.lowering.specs.Complexifier.{position, stable_const, three_consts, MIN_POSITIVE, INFINITY, QUARTER, EXP_MASK_FINITE, FLOOR_FINITE}
use Rattle.complexify.specs.Taken.{absent, space}
use Rattle.rerun.proofs.Positions.{in-first, stays, grows, at-end}

module _ (v : ℕ) (t : List ℕ) where
  present : position v t < length t → absent v t ≡ 0
  unfolding absent
  present h = simp (lt-ltb _ _ h)

  missing : length t ≤ position v t → absent v t ≡ 1
  unfolding absent
  missing h = simp (le-ltb _ _ h)

  pub absent-le : absent v t ≤ 1
  absent-le =
      either (ltb (position v t) (length t))
      (λ e. let z = present (ltb-true _ _ e) in omega (arith, z))
      (λ e. let z = missing (ltb-false _ _ e) in omega (arith, z))

still : (u : ℕ) (t l : List ℕ) → absent u (t ++ l) ≤ absent u t
still u t l =
    either (ltb (position u t) (length t))
    (λ e.
    let h = ltb-true _ _ e in
    let n : length (t ++ l) ≡ length t + length l = simp length-append in
    let p = in-first u t l h in
    let z = present u (t ++ l) (omega (arith, h, n, p)) in
    omega (arith, z))
    (λ e. let z = missing u t (ltb-false _ _ e) in let y = absent-le u (t ++ l) in omega (arith, z, y))

record Grown (v : ℕ) (t t' : List ℕ) : Type 0 where
  own : length t' + absent v t' ≤ length t + absent v t
  others : (u : ℕ) → absent u t' ≤ absent u t

grown : (v : ℕ) (t : List ℕ) → Grown v t (stable_const v t)
grown v t =
    either (ltb (position v t) (length t))
    (λ e. subst (Grown v t) (sym (stays v t (ltb-true _ _ e))) (record { own = omega arith; others = λ u. omega arith }))
    (λ e.
    let h = ltb-false _ _ e in
    let n : length (t ++ v ∷ []) ≡ length t + 1 = simp length-append in
    let p = at-end v t h in
    let y = present v (t ++ v ∷ []) (omega (arith, n, p)) in
    let z = missing v t h in
    subst (Grown v t) (sym (grows v t h)) (record { own = omega (arith, n, y, z); others = λ u. still u t (v ∷ []) }))

space_minimum : (t : List ℕ) → space (stable_const MIN_POSITIVE t) ≤ space t
space_minimum t =
    let g = grown MIN_POSITIVE t in
    omega (arith, g.own, g.others INFINITY, g.others QUARTER, g.others EXP_MASK_FINITE, g.others FLOOR_FINITE)

space_infinity : (t : List ℕ) → space (stable_const INFINITY t) ≤ space t
space_infinity t =
    let g = grown INFINITY t in
    omega (arith, g.own, g.others MIN_POSITIVE, g.others QUARTER, g.others EXP_MASK_FINITE, g.others FLOOR_FINITE)

space_quarter : (t : List ℕ) → space (stable_const QUARTER t) ≤ space t
space_quarter t =
    let g = grown QUARTER t in
    omega (arith, g.own, g.others MIN_POSITIVE, g.others INFINITY, g.others EXP_MASK_FINITE, g.others FLOOR_FINITE)

space_mask : (t : List ℕ) → space (stable_const EXP_MASK_FINITE t) ≤ space t
space_mask t =
    let g = grown EXP_MASK_FINITE t in
    omega (arith, g.own, g.others MIN_POSITIVE, g.others INFINITY, g.others QUARTER, g.others FLOOR_FINITE)

space_floor : (t : List ℕ) → space (stable_const FLOOR_FINITE t) ≤ space t
space_floor t =
    let g = grown FLOOR_FINITE t in
    omega (arith, g.own, g.others MIN_POSITIVE, g.others INFINITY, g.others QUARTER, g.others EXP_MASK_FINITE)

-- the two triples that stable mode seeks
pub space_scale : (t : List ℕ) → space (three_consts MIN_POSITIVE INFINITY QUARTER t) ≤ space t
space_scale t =
    let a = space_minimum t in
    let b = space_infinity (stable_const MIN_POSITIVE t) in
    let c = space_quarter (stable_const INFINITY (stable_const MIN_POSITIVE t)) in
    omega (arith, a, b, c)

pub space_exponent : (t : List ℕ) → space (three_consts FLOOR_FINITE EXP_MASK_FINITE INFINITY t) ≤ space t
space_exponent t =
    let a = space_floor t in
    let b = space_mask (stable_const FLOOR_FINITE t) in
    let c = space_infinity (stable_const EXP_MASK_FINITE (stable_const FLOOR_FINITE t)) in
    omega (arith, a, b, c)

-- a place for each of the five
pub space_start : (t : List ℕ) → length t ≤ 251 → space t ≤ 256
space_start t h =
    omega (arith, h, absent-le MIN_POSITIVE t, absent-le INFINITY t, absent-le QUARTER t, absent-le EXP_MASK_FINITE t, absent-le FLOOR_FINITE t)
