-- What is known of a sheet whose header is right, and the setup from its parts.
use Prim.Native.Nat.{ℕ, zero, suc, ◌+◌, ◌-◌, ◌*◌, ◌≤◌}
use mathlib.Core.Path.{◌≡◌, sym, ap, ◌∙◌}
use mathlib.Core.Bool.{Bool, true, false, not, cond}
use mathlib.Core.List.{List}
use lib.ListN.{length, take, drop, replicate}
use lib.Dec.{ltb, eqb}
use borrow.Author.Tests.{ltb-false}
use Rattle.mir.specs.declared.refusal.Refusal.{Refusal}
use Rattle.mir.specs.Refusal.{number}
use Rattle.mir.specs.Read.{Read, got, refused, refuse}
use Rattle.mir.specs.Field.{byte_at, u16_at}
use Rattle.mir.proofs.Parts.{part}
use Rattle.mir.proofs.Passing.{passed, clash}
use Rattle.std.specs.Prelude.{Err}
use Rattle.sheet.specs.declared.setup.Mode.{Mode}
use Rattle.sheet.specs.Setup.{mode_from, header_from, is_constant, is_broken, one_more, constants_from, wrong, setup_with, setup_from, setup, as_setup}

pub record Headed (s : List ℕ) : Type 0 where
  pub least : 69 ≤ length s

pub headed : (s : List ℕ) (mode : Mode) → header_from s ≡ got mode → Headed s
unfolding header_from
headed s mode e =
    let q = passed (ltb (length s) 69) 8 _ mode e in
    record { least = ltb-false _ _ q.test }

-- what refuses a setup is 8
abbrev Eight : {A : Type 0} → Read A → Type 0
Eight r = (n : ℕ) → r ≡ refused n → n ≡ 8

eight_got : {A : Type 0} (a : A) → Eight (got a)
eight_got a n e = absurd (clash n a (sym e))

eight_refused : Eight {A = Mode} (refused 8)
eight_refused n e = cc

eight_refuse : {A : Type 0} (b : Bool) (r : Read A) → Eight r → Eight (refuse b 8 r)
eight_refuse true r h n e = cc
eight_refuse false r h n e = h n e

eight_cond : {A : Type 0} (b : Bool) (x y : Read A) → Eight x → Eight y → Eight (cond b x y)
eight_cond true x y h k = h
eight_cond false x y h k = k

eight_mode : (b : ℕ) → Eight (mode_from b)
eight_mode b =
    eight_cond (eqb b 0) _ _ (eight_got Mode.Plain)
    (eight_cond (eqb b 1) _ _ (eight_got Mode.Stable) (eight_cond (eqb b 2) _ _ (eight_got Mode.Minding) eight_refused))

eight_header : (s : List ℕ) → Eight (header_from s)
unfolding header_from
eight_header s =
    eight_refuse (ltb (length s) 69) _
    (eight_refuse (not (eqb (u16_at s 0) 69)) _ (eight_refuse (not (eqb (u16_at s 2) 32)) _ (eight_mode (byte_at s 4))))

eight_more : (r : Read ℕ) → Eight r → Eight (one_more r)
eight_more (got k) h n e = eight_got (suc k) n e
eight_more (refused k) h n e = h n cc

eight_constants : (k : ℕ) (s : List ℕ) → Eight (constants_from k s)
unfolding constants_from
eight_constants zero s = eight_refuse (is_constant s) (got 0) (eight_got 0)
eight_constants (suc k) s =
    eight_cond (is_constant s) _ _
    (eight_refuse (is_broken s) _ (eight_more (constants_from k (drop 12 s)) (eight_constants k (drop 12 s)))) (eight_got 0)

-- the setup, as the code meets its parts: the header read, and the constants counted in the part behind it
module _ (s : List ℕ) where
  pub setup-right : {mode : Mode} {n : ℕ} {places : List ℕ} → header_from s ≡ got mode → constants_from 251 (take (length s - 69) (drop 69 s)) ≡ got n
      → places ≡ take 64 (drop 5 s)
      → record { number = 0; mode = mode; places = places; count = n; start = 69 + 12 * n } ≡ setup s
  unfolding setup
  setup-right {mode} {n} e f p =
      (λ i. record { number = 0; mode = mode; places = p i; count = n; start = 69 + 12 * n })
      ∙ sym (ap (setup_from s) e ∙ ap (setup_with s mode) (sym (ap (constants_from 251) (part s 69)) ∙ f))

  setup-miscounted : {mode : Mode} {n : ℕ} → header_from s ≡ got mode → constants_from 251 (take (length s - 69) (drop 69 s)) ≡ refused n → wrong ≡ setup s
  unfolding setup
  setup-miscounted {mode} e f = sym (ap (setup_from s) e ∙ ap (setup_with s mode) (sym (ap (constants_from 251) (part s 69)) ∙ f))

  setup-headless : {n : ℕ} → header_from s ≡ refused n → wrong ≡ setup s
  unfolding setup
  setup-headless e = sym (ap (setup_from s) e)

  -- as the code answers
  wrong-by : (e : Refusal) → number e ≡ 8 → as_setup (Err e) ≡ wrong
  wrong-by e h = ap (λ k. record { number = k; mode = Mode.Plain; places = replicate 64 0; count = 0; start = 0 }) h

  pub miscounted : {mode : Mode} (e : Refusal) → header_from s ≡ got mode → constants_from 251 (take (length s - 69) (drop 69 s)) ≡ refused (number e)
      → as_setup (Err e) ≡ setup s
  miscounted e h f = wrong-by e (eight_constants 251 (take (length s - 69) (drop 69 s)) (number e) f) ∙ setup-miscounted h f

  pub headless : (e : Refusal) → header_from s ≡ refused (number e) → as_setup (Err e) ≡ setup s
  headless e h = wrong-by e (eight_header s (number e) h) ∙ setup-headless h
