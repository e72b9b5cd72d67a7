-- The real places of a sheet, printed and assembled one after the other.
use Prim.Native.Nat.{ℕ, zero, suc, ◌+◌, ◌-◌, ◌/◌, ◌%◌, ◌^◌, ◌<◌}
use mathlib.Core.Path.{◌≡◌, refl, sym, ap, ◌∙◌, subst}
use mathlib.Core.Bool.{true, false, cond}
use mathlib.Core.List.{List, [], ◌∷◌, ◌++◌}
use native.Mathlib.Omega.{arith}
use borrow.Author.Tests.{ltb-true, ltb-false, eqb-true, eq-eqb, ne_eqb}
use lib.Dec.{ltb, eqb}
use lib.ListN.{length, get_or, set, replicate}
use Rattle.mir.specs.declared.records.Loc.{Loc}
use Rattle.mir.specs.Place.{class, index}
use Rattle.mir.specs.Read.{got, and_then}
use Rattle.mir.specs.Field.{u16_at, place_at}
use Rattle.mir.proofs.Passing.{either}
use Rattle.mir.proofs.Written.{place-back}
use Rattle.mir.proofs.Decoding.{Bytes}
use Rattle.lowering.specs.Realness.{bit_at}
use Rattle.text.specs.Text.{ascii}
use Rattle.assembly.specs.Lines.{real_place, real_line}
use Rattle.assembly.specs.SheetText.{real_lines}
use Rattle.assembly.specs.Assembled.{a_class, an_index, heads, Draft, bit_of, marked, with_place, with_line}
use Rattle.assembly.specs.Assembled as Spec
use Rattle.assembly.specs.Making.{with_bit}
use Rattle.assembly.proofs.Saying.{none, Says, says, retold, Onward, stay, ◌▹◌, onward_as, by_line}
use Rattle.assembly.proofs.Rows.{Row, row}
use Rattle.assembly.proofs.Spelling.{cls, idx, place_words}

-- the first j bytes and k bits more; the other bits are 0
abbrev part : ℕ → ℕ → List ℕ → List ℕ
part zero k [] = []
part zero k (b ∷ ps) = b % 2 ^ k ∷ replicate (length ps) 0
part (suc j) k [] = []
part (suc j) k (b ∷ ps) = b ∷ part j k ps

bit_on : (b k : ℕ) → k < 8 → b / 2 ^ k % 2 ≡ 1 → with_bit (b % 2 ^ k) (2 ^ k) ≡ b % 2 ^ suc k
bit_on b zero h e =
    let f : eqb (b % 1 / 1 % 2) 1 ≡ false = ne_eqb (b % 1 / 1 % 2) 1 (λ x. omega (arith, x)) in
    let g : b % 1 + 1 ≡ b % 2 = omega (arith, e) in
    ap (λ t. cond t (b % 1) (b % 1 + 1)) f ∙ g
bit_on b (suc zero) h e =
    let f : eqb (b % 2 / 2 % 2) 1 ≡ false = ne_eqb (b % 2 / 2 % 2) 1 (λ x. omega (arith, x)) in
    let g : b % 2 + 2 ≡ b % 4 = omega (arith, e) in
    ap (λ t. cond t (b % 2) (b % 2 + 2)) f ∙ g
bit_on b (suc (suc zero)) h e =
    let f : eqb (b % 4 / 4 % 2) 1 ≡ false = ne_eqb (b % 4 / 4 % 2) 1 (λ x. omega (arith, x)) in
    let g : b % 4 + 4 ≡ b % 8 = omega (arith, e) in
    ap (λ t. cond t (b % 4) (b % 4 + 4)) f ∙ g
bit_on b (suc (suc (suc zero))) h e =
    let f : eqb (b % 8 / 8 % 2) 1 ≡ false = ne_eqb (b % 8 / 8 % 2) 1 (λ x. omega (arith, x)) in
    let g : b % 8 + 8 ≡ b % 16 = omega (arith, e) in
    ap (λ t. cond t (b % 8) (b % 8 + 8)) f ∙ g
bit_on b (suc (suc (suc (suc zero)))) h e =
    let f : eqb (b % 16 / 16 % 2) 1 ≡ false = ne_eqb (b % 16 / 16 % 2) 1 (λ x. omega (arith, x)) in
    let g : b % 16 + 16 ≡ b % 32 = omega (arith, e) in
    ap (λ t. cond t (b % 16) (b % 16 + 16)) f ∙ g
bit_on b (suc (suc (suc (suc (suc zero))))) h e =
    let f : eqb (b % 32 / 32 % 2) 1 ≡ false = ne_eqb (b % 32 / 32 % 2) 1 (λ x. omega (arith, x)) in
    let g : b % 32 + 32 ≡ b % 64 = omega (arith, e) in
    ap (λ t. cond t (b % 32) (b % 32 + 32)) f ∙ g
bit_on b (suc (suc (suc (suc (suc (suc zero)))))) h e =
    let f : eqb (b % 64 / 64 % 2) 1 ≡ false = ne_eqb (b % 64 / 64 % 2) 1 (λ x. omega (arith, x)) in
    let g : b % 64 + 64 ≡ b % 128 = omega (arith, e) in
    ap (λ t. cond t (b % 64) (b % 64 + 64)) f ∙ g
bit_on b (suc (suc (suc (suc (suc (suc (suc zero))))))) h e =
    let f : eqb (b % 128 / 128 % 2) 1 ≡ false = ne_eqb (b % 128 / 128 % 2) 1 (λ x. omega (arith, x)) in
    let g : b % 128 + 128 ≡ b % 256 = omega (arith, e) in
    ap (λ t. cond t (b % 128) (b % 128 + 128)) f ∙ g
bit_on b (suc (suc (suc (suc (suc (suc (suc (suc k)))))))) h e = absurd (omega arith)

parity : (x : ℕ) → (x % 2 ≡ 1 → ⊥) → x % 2 ≡ 0
parity x h = omega (arith, h)

bit_off : (b k : ℕ) → k < 8 → (b / 2 ^ k % 2 ≡ 1 → ⊥) → b % 2 ^ k ≡ b % 2 ^ suc k
bit_off b zero h e = let z : b / 1 % 2 ≡ 0 = parity (b / 1) e in omega (arith, z)
bit_off b (suc zero) h e = let z : b / 2 % 2 ≡ 0 = parity (b / 2) e in omega (arith, z)
bit_off b (suc (suc zero)) h e = let z : b / 4 % 2 ≡ 0 = parity (b / 4) e in omega (arith, z)
bit_off b (suc (suc (suc zero))) h e = let z : b / 8 % 2 ≡ 0 = parity (b / 8) e in omega (arith, z)
bit_off b (suc (suc (suc (suc zero)))) h e = let z : b / 16 % 2 ≡ 0 = parity (b / 16) e in omega (arith, z)
bit_off b (suc (suc (suc (suc (suc zero))))) h e = let z : b / 32 % 2 ≡ 0 = parity (b / 32) e in omega (arith, z)
bit_off b (suc (suc (suc (suc (suc (suc zero)))))) h e = let z : b / 64 % 2 ≡ 0 = parity (b / 64) e in omega (arith, z)
bit_off b (suc (suc (suc (suc (suc (suc (suc zero))))))) h e = let z : b / 128 % 2 ≡ 0 = parity (b / 128) e in omega (arith, z)
bit_off b (suc (suc (suc (suc (suc (suc (suc (suc k)))))))) h e = absurd (omega arith)

module _ (k : ℕ) (h : k < 8) where
  -- the next bit is set
  pub set-bit : (j : ℕ) (ps : List ℕ) → j < length ps → get_or ps j 0 / 2 ^ k % 2 ≡ 1
      → set (part j k ps) j (with_bit (get_or (part j k ps) j 0) (2 ^ k)) ≡ part j (suc k) ps
  set-bit zero [] l e = absurd (omega arith)
  set-bit zero (b ∷ ps) l e = ap (λ x. x ∷ replicate (length ps) 0) (bit_on b k h e)
  set-bit (suc j) [] l e = absurd (omega arith)
  set-bit (suc j) (b ∷ ps) l e = ap (λ x. b ∷ x) (set-bit j ps (omega arith) e)

  -- the next bit is 0
  keep-bit : (j : ℕ) (ps : List ℕ) → (get_or ps j 0 / 2 ^ k % 2 ≡ 1 → ⊥) → part j k ps ≡ part j (suc k) ps
  keep-bit zero [] e = refl
  keep-bit zero (b ∷ ps) e = ap (λ x. x ∷ replicate (length ps) 0) (bit_off b k h e)
  keep-bit (suc j) [] e = refl
  keep-bit (suc j) (b ∷ ps) e = ap (λ x. b ∷ x) (keep-bit j ps e)

none_yet : (ps : List ℕ) → replicate (length ps) 0 ≡ part 0 0 ps
none_yet [] = refl
none_yet (b ∷ ps) = let z : 0 ≡ b % 2 ^ 0 = omega arith in ap (λ x. x ∷ replicate (length ps) 0) z

byte_full : (b : ℕ) → b < 256 → b % 2 ^ 8 ≡ b
byte_full b h = omega arith

carry : (j : ℕ) (ps : List ℕ) → Bytes ps → part j 8 ps ≡ part (suc j) 0 ps
carry zero [] h = refl
carry zero (b ∷ ps) h = let e = byte_full b (h 0) in let f = none_yet ps in λ i. e i ∷ f i
carry (suc j) [] h = refl
carry (suc j) (b ∷ ps) h = ap (λ x. b ∷ x) (carry j ps (λ i. h (suc i)))

all_of : (ps : List ℕ) → part (length ps) 0 ps ≡ ps
all_of [] = refl
all_of (b ∷ ps) = ap (λ x. b ∷ x) (all_of ps)

-- what stands after i bits, and after one more
abbrev up_to : ℕ → List ℕ → List ℕ
up_to i ps = part (i / 8) (i % 8) ps

next : (i : ℕ) (ps : List ℕ) → Bytes ps → part (i / 8) (suc (i % 8)) ps ≡ up_to (suc i) ps
next i ps h =
    either (ltb (i % 8) 7)
    (λ t.
    let k = ltb-true (i % 8) 7 t in
    let a : i / 8 ≡ suc i / 8 = omega arith in
    let b : suc (i % 8) ≡ suc i % 8 = omega arith in
    λ x. part (a x) (b x) ps)
    (λ t.
    let k = ltb-false (i % 8) 7 t in
    let a : suc (i % 8) ≡ 8 = omega arith in
    let b : suc (i / 8) ≡ suc i / 8 = omega arith in
    let c : 0 ≡ suc i % 8 = omega arith in
    ap (λ k. part (i / 8) k ps) a ∙ carry (i / 8) ps h ∙ (λ x. part (b x) (c x) ps))

-- a bit set behind the header's five bytes
mark : (a b c d e i : ℕ) (ps : List ℕ)
    → marked (a ∷ b ∷ c ∷ d ∷ e ∷ ps) i ≡ a ∷ b ∷ c ∷ d ∷ e ∷ set ps (i / 8) (with_bit (get_or ps (i / 8) 0) (2 ^ (i % 8)))
unfolding marked
mark a b c d e i ps =
    let z : 5 + i / 8 ≡ suc (suc (suc (suc (suc (i / 8))))) = omega arith in
    let s = a ∷ b ∷ c ∷ d ∷ e ∷ ps in
    ap (λ n. set s n (with_bit (get_or s n 0) (2 ^ (i % 8)))) z

real_row : Row 1 (record { word = ascii "real"; part = Spec.real; start = []; sorts = a_class ∷ an_index ∷ [] })
unfolding heads ascii
real_row = row 1 _ tt refl

-- the place of a bit
record Bit (i : ℕ) (p : Loc) : Type 0 where
  low : index p < 256
  same : bit_of p ≡ got i

bit_place : (i : ℕ) → i < 512 → Bit i (real_place i)
bit_place i h =
    either (ltb i 256)
    (λ t. subst (λ b. Bit i (cond b (Loc.Stack i) (Loc.Param (i - 256)))) (sym t) (record { low = ltb-true i 256 t; same = refl }))
    (λ t.
    let k = ltb-false i 256 t in
    let e : 256 + (i - 256) ≡ i = omega arith in
    subst (λ b. Bit i (cond b (Loc.Stack i) (Loc.Param (i - 256)))) (sym t) (record { low = omega arith; same = ap got e }))

said : (i : ℕ) → i < 512 → Says (real_line i) Spec.real (class (real_place i) ∷ index (real_place i) ∷ 0 ∷ [])
unfolding real_line
said i h =
    let p = real_place i in
    retold (ap (λ t. (ascii "real" ++ t) ++ 10 ∷ []) (sym (place_words p))) refl
    (says 1 _ real_row.low real_row.same (cls p (idx (index p) (bit_place i h).low none)))

read-place : (p : Loc) → index p < 256 → place_at (class p ∷ index p ∷ 0 ∷ []) 0 ≡ got p
unfolding u16_at
read-place p h = place-back (class p ∷ index p ∷ 0 ∷ []) 0 p refl (omega arith) (omega arith)

module _ (a b c d e : ℕ) (ps : List ℕ) (bytes : Bytes ps) (size : length ps ≡ 64) where
  -- the header with the first i bits
  abbrev header : ℕ → Draft
  header i = record { bytes = a ∷ b ∷ c ∷ d ∷ e ∷ up_to i ps; count = 0; instructions = 0; stage = 1 }

  one : (i : ℕ) → i < 512 → bit_at ps i ≡ true → Onward (header i) (real_line i) (header (suc i))
  unfolding with_line
  one i h t =
      let p = real_place i in
      let q = bit_place i h in
      let k : i % 8 < 8 = omega arith in
      let l : i / 8 < length ps = omega (arith, size) in
      let m : marked (a ∷ b ∷ c ∷ d ∷ e ∷ up_to i ps) i ≡ a ∷ b ∷ c ∷ d ∷ e ∷ up_to (suc i) ps =
      mark a b c d e i (up_to i ps)
      ∙ ap (λ x. a ∷ b ∷ c ∷ d ∷ e ∷ x) (set-bit (i % 8) k (i / 8) ps l (eqb-true (get_or ps (i / 8) 0 / 2 ^ (i % 8) % 2) 1 t) ∙ next i ps bytes) in
      by_line (said i h) (omega arith)
      (ap (with_place (header i)) (read-place p q.low)
      ∙ ap (λ x. and_then x (λ i'. got (record { bytes = marked (a ∷ b ∷ c ∷ d ∷ e ∷ up_to i ps) i'; count = 0; instructions = 0; stage = 1 }))) q.same
      ∙ ap (λ x. got (record { bytes = x; count = 0; instructions = 0; stage = 1 })) m)

  off : (i : ℕ) → bit_at ps i ≡ false → header i ≡ header (suc i)
  off i t =
      let k : i % 8 < 8 = omega arith in
      ap (λ x. record { bytes = a ∷ b ∷ c ∷ d ∷ e ∷ x; count = 0; instructions = 0; stage = 1 })
      (keep-bit (i % 8) k (i / 8) ps (λ f. let z : ◌≡◌ {A = ℕ} 0 1 = cc (eq-eqb (get_or ps (i / 8) 0 / 2 ^ (i % 8) % 2) 1 f, t) in omega arith) ∙ next i ps bytes)

  step : (i : ℕ) → i < 512 → Onward (header i) (cond (bit_at ps i) (real_line i) []) (header (suc i))
  step i h =
      either (bit_at ps i)
      (λ t. subst (λ b. Onward (header i) (cond b (real_line i) []) (header (suc i))) (sym t) (one i h t))
      (λ t. subst (λ b. Onward (header i) (cond b (real_line i) []) (header (suc i))) (sym t) (onward_as refl (off i t) stay))

  from : (n i : ℕ) → n + i ≡ 512 → Onward (header i) (real_lines ps n i) (header 512)
  unfolding real_lines
  from zero i h = let z : i ≡ 512 = omega arith in onward_as refl (ap header z) stay
  from (suc n) i h = step i (omega arith) ▹ from n (suc i) (omega arith)

  -- from no real place to all of them
  pub all : Onward (record { bytes = a ∷ b ∷ c ∷ d ∷ e ∷ replicate 64 0; count = 0; instructions = 0; stage = 1 }) (real_lines ps 512 0)
      (record { bytes = a ∷ b ∷ c ∷ d ∷ e ∷ ps; count = 0; instructions = 0; stage = 1 })
  all =
      let x : replicate 64 0 ≡ up_to 0 ps = ap (λ n. replicate n 0) (sym size) ∙ none_yet ps in
      let y : up_to 512 ps ≡ ps = ap (λ n. part n 0 ps) (sym size) ∙ all_of ps in
      subst (λ l. Onward (record { bytes = a ∷ b ∷ c ∷ d ∷ e ∷ l; count = 0; instructions = 0; stage = 1 }) (real_lines ps 512 0) (record { bytes = a ∷ b ∷ c ∷ d ∷ e ∷ ps; count = 0; instructions = 0; stage = 1 })) (sym x)
      (onward_as refl (ap (λ l. record { bytes = a ∷ b ∷ c ∷ d ∷ e ∷ l; count = 0; instructions = 0; stage = 1 }) y) (from 512 0 refl))
