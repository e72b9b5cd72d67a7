-- The constants counted: what is left to count from a position, added to the count so far, is the whole answer.
use Prim.Native.Nat.{ℕ, zero, suc, pred, ◌+◌, ◌-◌, ◌*◌, ◌≤◌, ◌<◌}
use mathlib.Core.Path.{◌≡◌, refl, sym, ap, ◌∙◌}
use mathlib.Core.Bool.{Bool, true, false, not, ◌||◌}
use mathlib.Core.List.{List}
use native.Mathlib.Nat.{zero-add, add-zero}
use native.Mathlib.Omega.{arith}
use lib.ListN.{length, take, drop, length-drop}
use lib.Dec.{ltb, eqb}
use lib.Seq.{drop-drop}
use borrow.Author.Tests.{ltb-false}
use Rattle.mir.specs.Read.{Read, got, refused}
use Rattle.mir.specs.Field.{u16_at}
use Rattle.mir.proofs.Parts.{part}
use Rattle.mir.proofs.Passing.{clash, either}
use Rattle.sheet.specs.Setup.{is_constant, is_broken, one_more, constants_from}

abbrev pub plus : ℕ → Read ℕ → Read ℕ
plus n (got m) = got (n + m)
plus n (refused k) = refused k

pub plus_none : (r : Read ℕ) → plus 0 r ≡ r
plus_none (got m) = ap got (zero-add m)
plus_none (refused k) = refl

plus_more : (n : ℕ) (r : Read ℕ) → plus n (one_more r) ≡ plus (n + 1) r
plus_more n (got m) = let e : n + suc m ≡ n + 1 + m = omega arith in ap got e
plus_more n (refused k) = refl

or_right : (a b : Bool) → (a || b) ≡ false → b ≡ false
or_right true b e = cc
or_right false b e = e

unbroken : (s : List ℕ) → is_broken s ≡ false → 12 ≤ length s
unbroken s f = ltb-false (length s) 12 (or_right (not (eqb (u16_at s 0) 12)) (ltb (length s) 12) f)

pub ended : (k : ℕ) (s : List ℕ) → is_constant s ≡ false → constants_from k s ≡ got 0
unfolding constants_from
ended zero s e = simp e
ended (suc k) s e = simp e

pub full : (s : List ℕ) → is_constant s ≡ true → constants_from 0 s ≡ refused 8
unfolding constants_from
full s e = simp e

pub broken : (k : ℕ) (s : List ℕ) → is_constant s ≡ true → is_broken s ≡ true → constants_from (suc k) s ≡ refused 8
unfolding constants_from
broken k s e f = simp (e, f)

pub more : (k : ℕ) (s : List ℕ) → is_constant s ≡ true → is_broken s ≡ false
    → constants_from (suc k) s ≡ one_more (constants_from k (drop 12 s))
unfolding constants_from
more k s e f = simp (e, f)

-- the count so far and what is left, at a position
abbrev pub left : List ℕ → ℕ → ℕ → Read ℕ
left s n at = plus n (constants_from (251 - n) (drop at s))

-- as the code meets them, over the part of the slice that begins at the position
module _ (s : List ℕ) (n at : ℕ) where
  abbrev pub rest : List ℕ
  rest = take (length s - at) (drop at s)

  pub left_ended : is_constant rest ≡ false → left s n at ≡ got n
  left_ended e = ap (plus n) (ap (constants_from (251 - n)) (sym (part s at)) ∙ ended (251 - n) rest e) ∙ ap got (add-zero n)

  pub left-full : 251 ≤ n → is_constant rest ≡ true → left s n at ≡ refused 8
  left-full h e =
      let z : 251 - n ≡ 0 = omega arith in
      ap (plus n) (ap (λ k. constants_from k (drop at s)) z ∙ ap (constants_from 0) (sym (part s at)) ∙ full rest e)

  pub left-broken : n < 251 → is_constant rest ≡ true → is_broken rest ≡ true → left s n at ≡ refused 8
  left-broken h e f =
      let z : 251 - n ≡ suc (251 - (n + 1)) = omega arith in
      ap (plus n)
      (ap (λ k. constants_from k (drop at s)) z ∙ ap (constants_from (suc (251 - (n + 1)))) (sym (part s at)) ∙ broken _ rest e f)

  pub left-more : n < 251 → is_constant rest ≡ true → is_broken rest ≡ false → left s n at ≡ left s (n + 1) (at + 12)
  left-more h e f =
      let z : 251 - n ≡ suc (251 - (n + 1)) = omega arith in
      ap (plus n)
      (ap (λ k. constants_from k (drop at s)) z ∙ ap (constants_from (suc (251 - (n + 1)))) (sym (part s at)) ∙ more _ rest e f)
      ∙ plus_more n (constants_from (251 - (n + 1)) (drop 12 rest))
      ∙ ap (λ l. plus (n + 1) (constants_from (251 - (n + 1)) (drop 12 l))) (part s at)
      ∙ ap (λ l. plus (n + 1) (constants_from (251 - (n + 1)) l)) (drop-drop 12 at s)

  pub whole : is_broken rest ≡ false → at + 12 ≤ length s
  whole f =
      let h = unbroken rest f in
      let g = ap length (part s at) in
      let d = length-drop at s in
      omega arith

-- the count is at most the number allowed, and each constant has its twelve bytes
pub record Few (n m : ℕ) (s : List ℕ) : Type 0 where
  pub most : m ≤ n
  pub fits : 12 * m ≤ length s

record Less (r : Read ℕ) (m : ℕ) : Type 0 where
  same : m ≡ suc (pred m)
  rest : r ≡ got (pred m)

less : (r : Read ℕ) (m : ℕ) → one_more r ≡ got m → Less r m
less (got k) zero e = let z : suc k ≡ zero = cc in absurd (omega arith)
less (got k) (suc m) e = record { same = refl; rest = cc }
less (refused k) m e = absurd (clash k m e)

pub few : (n : ℕ) (s : List ℕ) (m : ℕ) → constants_from n s ≡ got m → Few n m s
few zero s m e =
    either (is_constant s)
    (λ t. absurd (clash 8 m (sym (full s t) ∙ e)))
    (λ t. let z : 0 ≡ m = cc (ended 0 s t) in record { most = omega arith; fits = omega arith })
few (suc n) s m e =
    either (is_constant s)
    (λ t.
    either (is_broken s)
    (λ f. absurd (clash 8 m (sym (broken n s t f) ∙ e)))
    (λ f.
    let l = less (constants_from n (drop 12 s)) m (sym (more n s t f) ∙ e) in
    let h = unbroken s f in
    let g = few n (drop 12 s) (pred m) l.rest in
    let d = length-drop 12 s in
    record { most = omega (arith, l.same, g.most); fits = omega (arith, l.same, g.fits) }))
    (λ t. let z : 0 ≡ m = cc (ended (suc n) s t) in record { most = omega arith; fits = omega arith })
