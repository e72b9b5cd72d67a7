-- What is known of a reader that was not refused: each of its tests was passed, and each part was read.
use Prim.Native.Nat.{ℕ}
use mathlib.Core.Path.{◌≡◌, refl, sym}
use mathlib.Core.Bool.{Bool, true, false, ◌||◌}
use native.Mathlib.Omega.{arith}
use Rattle.mir.specs.Read.{Read, got, refused, refuse, and_then}

pub record Passed {A : Type 0} (b : Bool) (r : Read A) (a : A) : Type 0 where
  pub test : b ≡ false
  pub rest : r ≡ got a

pub passed : {A : Type 0} (b : Bool) (n : ℕ) (r : Read A) (a : A) → refuse b n r ≡ got a → Passed b r a
passed true n r a e = record { test = cc; rest = cc }
passed false n r a e = record { test = refl; rest = e }

pub record Then {A B : Type 0} (x : Read A) (f : A → Read B) (b : B) : Type 0 where
  pub first : A
  pub found : x ≡ got first
  pub rest : f first ≡ got b

pub got_same : {A : Type 0} (a b : A) → got a ≡ got b → a ≡ b
got_same a b e = cc

pub clash : {A : Type 0} (n : ℕ) (a : A) → refused n ≡ got a → ⊥
clash n a e = let z : ◌≡◌ {A = ℕ} 0 1 = cc in omega arith

pub then : {A B : Type 0} (x : Read A) (f : A → Read B) (b : B) → and_then x f ≡ got b → Then x f b
then (got a) f b e = record { first = a; found = refl; rest = e }
then (refused n) f b e = absurd (clash n b e)

pub stopped : {A B : Type 0} (f : A → B) (x : Read A) (n : ℕ) → and_then x (λ a. got (f a)) ≡ refused n → x ≡ refused n
stopped f (got a) n e = absurd (clash n (f a) (sym e))
stopped f (refused k) n e = cc

-- by the answer of a test
pub either : {P : Type 0} (b : Bool) → (b ≡ true → P) → (b ≡ false → P) → P
either true f g = f refl
either false f g = g refl

-- of two tests neither of which holds
pub or_left : (a b : Bool) → (a || b) ≡ false → a ≡ false
or_left true b e = e
or_left false b e = refl

pub or_right : (a b : Bool) → (a || b) ≡ false → b ≡ false
or_right true b e = cc
or_right false b e = e
