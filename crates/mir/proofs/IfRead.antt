-- What is known of what a reader reads, if it does not refuse; and that it never refuses by 0. By the tests and the parts of a reader.
use Prim.Native.Nat.{ℕ, zero, suc, ◌+◌, ◌≤◌, ◌<◌}
use mathlib.Core.Path.{◌≡◌, refl, sym, subst}
use mathlib.Core.Bool.{Bool, true, false, not, cond}
use mathlib.Core.List.{List, [], ◌∷◌}
use native.Mathlib.Omega.{arith}
use lib.ListN.{length, get_or}
use lib.Dec.{ltb, leb, eqb}
use borrow.Author.Tests.{ltb-false, leb-false, eqb-true, not-false}
use Rattle.mir.specs.declared.records.Loc.{Loc}
use Rattle.mir.specs.Place.{index}
use Rattle.mir.specs.Length.{length_of}
use Rattle.mir.specs.Operation.{taken}
use Rattle.mir.specs.Read.{Read, got, refused, refuse, and_then, above, registers, constant}
use Rattle.mir.specs.Field.{u16_at, head_from, place_at, saved_to, save_place, on_stack, cond_place}
use Rattle.mir.proofs.Passing.{got_same, clash, or_left, or_right}
use Rattle.mir.proofs.Heads.{Headed, headed}

-- what was read is as P says, or it is refused by a number that is not 0
pub data IfRead {A : Type 0} (P : A → Type 0) : Read A → Type 0 where
  read : {a : A} → P a → IfRead P (got a)
  told : {n : ℕ} → IfRead P (refused (suc n))

pub if_got : {A : Type 0} {P : A → Type 0} {x : Read A} {a : A} → IfRead P x → x ≡ got a → P a
if_got {P = P} (read p) e = subst P (got_same _ _ e) p
if_got (told {n}) e = absurd (clash (suc n) _ e)

pub not-zero : {A : Type 0} {P : A → Type 0} {x : Read A} → IfRead P x → x ≡ refused 0 → ⊥
not-zero (read {a} p) e = clash 0 a (sym e)
not-zero (told {n}) e = let z : suc n ≡ 0 = cc in omega arith

pub if_read : {A : Type 0} {Q P : A → Type 0} {x : Read A} → ((a : A) → Q a → P a) → IfRead Q x → IfRead P x
if_read f (read {a} q) = read (f a q)
if_read f told = told

-- what is read is what was read
pub told_so : {A : Type 0} {P : A → Type 0} {x : Read A} → IfRead P x → IfRead (λ a. P a × (x ≡ got a)) x
told_so (read p) = read (p, refl)
told_so told = told

-- a test that was passed, a part that was read, and a kind by its number
pub tested : {A : Type 0} {P : A → Type 0} (b : Bool) (n : ℕ) {x : Read A} → (b ≡ false → IfRead P x) → IfRead P (refuse b (suc n) x)
tested true n h = told
tested false n h = h refl

pub parted : {A B : Type 0} {Q : A → Type 0} {P : B → Type 0} {x : Read A} {f : A → Read B} → IfRead Q x → ((a : A) → Q a → IfRead P (f a))
    → IfRead P (and_then x f)
parted (read {a} q) h = h a q
parted told h = told

pub chosen : {A : Type 0} {P : A → Type 0} (n j : ℕ) {x y : Read A} → (n ≡ j → IfRead P x) → IfRead P y → IfRead P (cond (eqb n j) x y)
chosen {A} {P} n j {x} {y} h k = by (eqb n j) refl
  where
    by : (b : Bool) → eqb n j ≡ b → IfRead P (cond b x y)
    by true e = h (eqb-true n j e)
    by false e = k

-- registers up to a limit
abbrev pub Low : ℕ → List ℕ → Type 0
Low limit [] = Unit {0}
Low limit (x ∷ xs) = (x ≤ limit) × Low limit xs

low : (limit : ℕ) (xs : List ℕ) → above limit xs ≡ false → Low limit xs
low limit [] e = tt
low limit (x ∷ xs) e =
    (ltb-false limit x (or_left (ltb limit x) (above limit xs) e), low limit xs (or_right (ltb limit x) (above limit xs) e))

pub limited : {A : Type 0} {P : A → Type 0} (limit : ℕ) (xs : List ℕ) {x : Read A} → (Low limit xs → IfRead P x) → IfRead P (registers limit xs x)
limited limit xs h = tested (above limit xs) 2 (λ e. h (low limit xs e))

-- a constant below the count
pub counted : {A : Type 0} {P : A → Type 0} (count idx : ℕ) {x : Read A} → (idx < count → IfRead P x) → IfRead P (constant count idx x)
counted count idx h = tested (leb count idx) 4 (λ e. h (leb-false count idx e))

-- an operation that is taken
pub operation : {A : Type 0} (takes : A → Bool) (ops : List A) (n : ℕ) → IfRead (λ op. takes op ≡ true) (taken takes ops n)
operation takes [] n = told
operation takes (op ∷ ops) zero = tested (not (takes op)) 1 (λ e. read (not-false (takes op) e))
operation takes (op ∷ ops) (suc n) = operation takes ops n

-- places: any, one that is saved to, and that of a condition
pub place : (s : List ℕ) (i : ℕ) → IfRead (λ p. index p ≤ 255) (place_at s i)
unfolding place_at
place s i =
    let w = u16_at s (i + 1) in
    tested (ltb 255 w) 3
    (λ e.
    let h = ltb-false 255 w e in
    chosen (get_or s i 0) 0 (λ k. read h) (chosen (get_or s i 0) 1 (λ k. read h) (chosen (get_or s i 0) 2 (λ k. read h) told)))

abbrev pub Saved : Loc → Type 0
Saved (Loc.Stack i) = i ≤ 255
Saved (Loc.Mem i) = i ≤ 255
Saved (Loc.Param i) = ⊥

abbrev pub Stacked : Loc → Type 0
Stacked (Loc.Stack i) = i ≤ 255
Stacked (Loc.Mem i) = ⊥
Stacked (Loc.Param i) = ⊥

saved : (p : Loc) → index p ≤ 255 → IfRead Saved (saved_to p)
saved (Loc.Stack i) h = read h
saved (Loc.Mem i) h = read h
saved (Loc.Param i) h = told

stacked : (p : Loc) → index p ≤ 255 → IfRead Stacked (on_stack p)
stacked (Loc.Stack i) h = read h
stacked (Loc.Mem i) h = told
stacked (Loc.Param i) h = told

pub save : (s : List ℕ) (i : ℕ) → IfRead Saved (save_place s i)
unfolding save_place
save s i = parted (place s i) saved

pub condition : (s : List ℕ) (i : ℕ) → IfRead Stacked (cond_place s i)
unfolding cond_place
condition s i = parted (place s i) stacked

-- a head
pub head : (takes : ℕ → Bool) (s : List ℕ) → IfRead (Headed takes s) (head_from takes s)
unfolding head_from
head takes s =
    if_read (λ kind p. headed takes s kind p.1)
    (told_so {P = λ k. Unit {0}}
    (tested (ltb (length s) 4) 0
    (λ e. tested (ltb (u16_at s 0) 4) 0
    (λ e. tested (ltb (length s) (u16_at s 0)) 0
    (λ e. tested (not (takes (u16_at s 2))) 1
    (λ e. tested (not (eqb (length_of (u16_at s 2)) (u16_at s 0))) 0 (λ e. read tt)))))))
