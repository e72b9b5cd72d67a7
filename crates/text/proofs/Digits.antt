-- Digits in hexadecimal from the first, and in decimal from the last.
use Prim.Native.Nat.{ℕ, zero, suc, ◌+◌, ◌-◌, ◌*◌, ◌/◌, ◌%◌, ◌^◌, ◌≤◌, ◌<◌}
use mathlib.Core.Path.{◌≡◌, sym, ap, ◌∙◌}
use mathlib.Core.List.{List, [], ◌∷◌, ◌++◌, append_assoc}
use native.Mathlib.Numerals.{add-one}
use native.Mathlib.Omega.{arith}
use Rattle.std.proofs.Math.Nat.{div-div-eq-div-mul}
use Rattle.std.proofs.lemmas.Nat.{pow-add}
use borrow.Author.Tests.{lt-ltb, le-ltb}
use lib.ListN.{length, take, drop, set, length-drop, length-set}
use lib.Seq.{take_all, drop-cons, get_or-set_same, drop-set-lt}
use Rattle.text.specs.declared.line.Line.{Line}
use Rattle.text.specs.Line.{Adds, ◌▹◌}
use Rattle.text.specs.Text.{hex_digit, hex_in, decimal_in}

-- one digit more, where the last k + 1 were left
pub digit_more : {l m r : Line} (w k n : ℕ) → n ≡ k + 1 → n ≤ 16 → Adds l (hex_in (16 - n) (w / 2 ^ (4 * n))) m
    → Adds m (hex_digit (w / 2 ^ (4 * k) % 16) ∷ []) r → Adds l (hex_in (16 - k) (w / 2 ^ (4 * k))) r
unfolding hex_in
digit_more w k n e h p q =
    let s : 16 - k ≡ suc (16 - n) = omega arith in
    let m : 4 * n ≡ 4 * k + 4 = omega arith in
    let d : w / 2 ^ (4 * k) / 16 ≡ w / 2 ^ (4 * n) = div-div-eq-div-mul w (2 ^ (4 * k)) 16 ∙ ap (λ x. w / x) (sym (pow-add 2 (4 * k) 4) ∙ ap (λ x. 2 ^ x) (sym m)) in
    rw (s, d) (p ▹ q)

drop-set : (d : List ℕ) (i v : ℕ) → i < length d → drop i (set d i v) ≡ v ∷ drop (suc i) d
drop-set d i v h =
    drop-cons (set d i v) i 0 (rw length-set h)
    ∙ rw (get_or-set_same d i v 0 h, drop-set-lt (suc i) d i v (omega arith))

-- one digit more is found
pub found : (d : List ℕ) (at n : ℕ) → 0 < at → 10 ≤ n → at < length d
    → decimal_in (at - 1) (n / 10) ++ drop (at - 1 + 1) (set d at (48 + n % 10)) ≡ decimal_in at n ++ drop (at + 1) d
unfolding decimal_in
found d zero n h t w = absurd (omega arith)
found d (suc k) n h t w =
    let e : suc k - 1 ≡ k = omega arith in
    rw (e, add-one k, add-one (suc k), drop-set d (suc k) (48 + n % 10) w, le-ltb n 10 t, append_assoc)

-- the first digit is found
first : (d : List ℕ) (at n : ℕ) → (0 < at → n < 10) → at < length d
    → drop at (set d at (48 + n % 10)) ≡ decimal_in at n ++ drop (at + 1) d
unfolding decimal_in
first d zero n h w = drop-set d zero (48 + n % 10) w
first d (suc k) n h w =
    let t : n < 10 = h (omega arith) in
    let e : n % 10 ≡ n = omega arith in
    rw (add-one (suc k), drop-set d (suc k) (48 + n % 10) w, lt-ltb n 10 t, e)

pub all : (d : List ℕ) (at n : ℕ) → (0 < at → n < 10) → at < 20 → length d ≡ 20
    → take (20 - at) (drop at (set d at (48 + n % 10))) ≡ decimal_in at n ++ drop (at + 1) d
all d at n h w e =
    take_all (20 - at) (drop at (set d at (48 + n % 10))) (simp (length-drop, length-set) (omega arith)) ∙ first d at n h (omega arith)
