-- A sheet that stands at the front of lent bytes, with a line more.
use Prim.Native.Nat.{ℕ, suc, ◌+◌, ◌*◌, ◌≤◌, ◌<◌}
use mathlib.Core.Path.{◌≡◌, refl, sym, ap, ◌∙◌, subst}
use mathlib.Core.Bool.{Bool, true, false, not, cond}
use mathlib.Core.List.{List, ◌++◌}
use native.Mathlib.Omega.{arith}
use native.Mathlib.Numerals.{add-one}
use borrow.Author.Tests.{lt-ltb, le-ltb, le-leb, lt-leb, eq-eqb, ne_eqb}
use lib.Dec.{leb, eqb, eqb-suc-zero}
use lib.ListN.{length, take, replicate, length-append}
use lib.Seq.{sets-eq, length-take-le, take_at}
use Rattle.words.specs.Bytes.{stored}
use Rattle.words.proofs.Stored.{stored_fits, stored_front}
use Rattle.mir.specs.declared.records.Loc.{Loc}
use Rattle.mir.specs.declared.records.Instruction.{Instruction}
use Rattle.mir.specs.Read.{Read, got, refused, refuse, and_then}
use Rattle.mir.specs.Field.{u16_at, place_at}
use Rattle.mir.specs.Decode.{Item, read_at}
use Rattle.mir.proofs.Passing.{then, stopped}
use Rattle.sheet.specs.Instruction.{instruction_from, instruction_at}
use Rattle.assembly.specs.Assembled.{LineKind, mode, real, constant_line, instruction, Draft, marked, grown, is_got}
use Rattle.assembly.specs.Assembled.{with_place, with_line, opened}
use Rattle.assembly.specs.declared.making.Made.{Made}
use Rattle.assembly.specs.Making.{part_of, place_bit, sheet_of, as_sheet, refusal, Low, Room, Grows, Makes, with_read}
use Rattle.assembly.proofs.Marking.{front_marked}

pub makes_as : {a b : Read Draft} {m : Made} {out : List ℕ} → a ≡ b → Makes a m out → Makes b m out
makes_as {a} {b} {m} {out} e p = subst (λ x. Makes x m out) e p

pub refusing : (n : ℕ) {a : Read Draft} {m : Made} {out : List ℕ} → m ≡ refusal (suc n) → refused (suc n) ≡ a → Makes a m out
refusing n {a} {m} {out} e f =
    record {
      same =
          ap (λ m. as_sheet m out) e ∙ ap (λ t. cond t (got (sheet_of (refusal (suc n)) out)) (refused (suc n))) (eqb-suc-zero n) ∙ f;
      low = subst Low (sym e) (record { constants = omega arith; instructions = omega arith; bytes = omega arith });
    }

-- what is put behind the front
pub put-behind : (l v : List ℕ) (n : ℕ) {o : List ℕ} → n + length v ≤ length l → o ≡ stored l n v → take (n + length v) o ≡ take n l ++ v
put-behind l v n {o} h e =
    let k : length (take n l) ≡ n = length-take-le n l (omega (arith, h)) in
    let m = length-append (take n l) v in
    let s : length (take n l ++ v) ≡ n + length v = omega (arith, k, m) in
    ap (take (n + length v)) (e ∙ stored_fits l n v h ∙ sets-eq v l n h) ∙ take_at (take n l ++ v) _ (n + length v) s

-- a constant or an instruction more has room
module _ (s : Made) (out : List ℕ) (room : Room s out) (count instructions : ℕ) (g : Grows s count instructions) (stage : ℕ) (b : List ℕ) (short : length b ≤ 80) where
  longer : s.len + length b ≤ 144 + 80 * (count + instructions)
  longer = let l = room.1.bytes in let m = g.more in omega (arith, l, m, short)

  pub within : s.len + length b ≤ length out
  within = let l = longer in let c = g.constants in let i = g.limit in let r = room.0 in omega (arith, l, c, i, r)

  pub fits : {o : List ℕ} → o ≡ stored out s.len b
      → Makes (got (grown (sheet_of s out) count instructions stage b)) (record { len = s.len + length b; count = count; instructions = instructions; stage = stage; why = 0 }) o
  fits {o} e =
      record {
        same = ap (λ x. got (record { bytes = x; count = count; instructions = instructions; stage = stage })) (put-behind out b s.len within e);
        low = record { constants = g.constants; instructions = g.limit; bytes = longer };
      }

-- a real place more
module _ (s : Draft) (b : List ℕ) where
  marking : Read ℕ → Read Draft
  marking r = and_then r (λ i. got (record { bytes = marked s.bytes i; count = s.count; instructions = s.instructions; stage = 1 }))

  by_place : (p : Read Loc) → with_place s p ≡ marking (place_bit p)
  unfolding marking
  by_place (got p) = refl
  by_place (refused n) = refl

  pub real-late : 1 < s.stage → refused 3 ≡ with_line s real b
  unfolding with_line
  real-late h = sym (ap (λ t. refuse t 3 (with_place s (place_at b 0))) (lt-ltb 1 s.stage h))

  module _ {r : Read ℕ} (h : s.stage ≤ 1) (e : r ≡ place_bit (place_at b 0)) where
    real-on : marking r ≡ with_line s real b
    unfolding with_line
    real-on =
        ap marking e
        ∙ sym (by_place (place_at b 0))
        ∙ sym (ap (λ t. refuse t 3 (with_place s (place_at b 0))) (le-ltb 1 s.stage h))

    pub real-none : r ≡ refused 3 → refused 3 ≡ with_line s real b
    unfolding marking
    real-none f = sym (ap marking f) ∙ real-on

    pub real-bit : (i : ℕ) → r ≡ got i → got (record { bytes = marked s.bytes i; count = s.count; instructions = s.instructions; stage = 1 }) ≡ with_line s real b
    unfolding marking
    real-bit i f = sym (ap marking f) ∙ real-on

  pub constant-late : 2 < s.stage → refused 3 ≡ with_line s constant_line b
  unfolding with_line
  constant-late h =
      sym (ap (λ t. refuse t 3 (refuse (leb 251 s.count) 2 (got (grown s (suc s.count) s.instructions 2 b)))) (lt-ltb 2 s.stage h))

  module _ (h : s.stage ≤ 2) where
    constant-on : refuse (leb 251 s.count) 2 (got (grown s (suc s.count) s.instructions 2 b)) ≡ with_line s constant_line b
    unfolding with_line
    constant-on =
        sym (ap (λ t. refuse t 3 (refuse (leb 251 s.count) 2 (got (grown s (suc s.count) s.instructions 2 b)))) (le-ltb 2 s.stage h))

    pub constant-many : 251 ≤ s.count → refused 2 ≡ with_line s constant_line b
    constant-many k = sym (ap (λ t. refuse t 2 (got (grown s (suc s.count) s.instructions 2 b))) (le-leb 251 s.count k)) ∙ constant-on

    pub constant-put : s.count < 251 → got (grown s (s.count + 1) s.instructions 2 b) ≡ with_line s constant_line b
    constant-put k =
        ap (λ n. got (grown s n s.instructions 2 b)) (add-one s.count)
        ∙ sym (ap (λ t. refuse t 2 (got (grown s (suc s.count) s.instructions 2 b))) (lt-leb 251 s.count k))
        ∙ constant-on

  -- an instruction that is not one too many
  abbrev longer-by : ℕ → Read Instruction → Read Draft
  longer-by n y = refuse (not (is_got y)) 3 (got (grown s s.count n 3 b))

  pub instruction-many : 612 ≤ s.instructions → refused 4 ≡ with_line s instruction b
  unfolding with_line
  instruction-many h =
      sym (ap (λ t. refuse t 4 (longer-by (suc s.instructions) (instruction_from s.count b))) (le-leb 612 s.instructions h))

  module _ {r : Read (Item Instruction)} (h : s.instructions < 612) (e : r ≡ instruction_at s.count b 0) where
    instruction-on : longer-by (suc s.instructions) (instruction_from s.count b) ≡ with_line s instruction b
    unfolding with_line
    instruction-on =
        sym (ap (λ t. refuse t 4 (longer-by (suc s.instructions) (instruction_from s.count b))) (lt-leb 612 s.instructions h))

    pub instruction-none : (n : ℕ) → r ≡ refused n → refused 3 ≡ with_line s instruction b
    unfolding read_at
    instruction-none n f =
        let x = stopped (λ a. record { item = a; next = 0 + u16_at b 0 }) (instruction_from s.count b) n (sym e ∙ f) in
        sym (ap (longer-by (suc s.instructions)) x) ∙ instruction-on

    pub instruction-put : (i : Item Instruction) → r ≡ got i → got (grown s s.count (s.instructions + 1) 3 b) ≡ with_line s instruction b
    unfolding read_at
    instruction-put i f =
        let p = then (instruction_from s.count b) (λ a. got (record { item = a; next = 0 + u16_at b 0 })) i (sym e ∙ f) in
        ap (λ n. got (grown s s.count n 3 b)) (add-one s.instructions)
        ∙ sym (ap (longer-by (suc s.instructions)) p.found)
        ∙ instruction-on

-- by the number of the first word
module _ (s : Draft) (b : List ℕ) {n : ℕ} where
  pub no-second-mode : n ≡ 0 → refused 3 ≡ with_line s (part_of n) b
  unfolding with_line
  no-second-mode e = sym (ap (λ n. with_line s (part_of n) b) e)

  module _ {m : Made} {out : List ℕ} where
    pub is_real : n ≡ 1 → Makes (with_line s real b) m out → Makes (with_line s (part_of n) b) m out
    is_real e h = makes_as (sym (ap (λ n. with_line s (part_of n) b) e)) h

    pub is-constant : n ≡ 2 → Makes (with_line s constant_line b) m out → Makes (with_line s (part_of n) b) m out
    is-constant e h = makes_as (sym (ap (λ n. with_line s (part_of n) b) e)) h

    pub is-instruction : (n ≡ 0 → ⊥) → (n ≡ 1 → ⊥) → (n ≡ 2 → ⊥) → Makes (with_line s instruction b) m out
        → Makes (with_line s (part_of n) b) m out
    is-instruction x y z h =
        let p : part_of n ≡ instruction = simp (ne_eqb n 0 x, ne_eqb n 1 y, ne_eqb n 2 z) in
        makes_as (sym (ap (λ p. with_line s p b) p)) h

-- the first line
closed : (t u : Bool) (b : List ℕ) → refused 1 ≡ opened (cond t real (cond u constant_line instruction)) b
closed true u b = refl
closed false true b = refl
closed false false b = refl

pub no_mode : (n : ℕ) (b : List ℕ) → (n ≡ 0 → ⊥) → refused 1 ≡ opened (part_of n) b
no_mode n b h =
    closed (eqb n 1) (eqb n 2) b
    ∙ sym (ap (λ t. opened (cond t mode (cond (eqb n 1) real (cond (eqb n 2) constant_line instruction))) b) (ne_eqb n 0 h))

pub mode_put : (n : ℕ) (l b : List ℕ) {o o' : List ℕ} → n ≡ 0 → length b ≤ 80 → 69184 ≤ length l → o ≡ stored l 0 b → length o ≡ length l
    → o' ≡ stored o (length b) (replicate 64 0)
    → Makes (opened (part_of n) b) (record { len = length b + 64; count = 0; instructions = 0; stage = 1; why = 0 }) o'
mode_put n l b {o} {o'} z h k e w f =
    let x : take (length b) o ≡ b = ap (take (length b)) e ∙ stored_front l b (length b) refl (omega (arith, h, k)) in
    let y : take (length b + 64) o' ≡ take (length b) o ++ replicate 64 0 =
    put-behind o (replicate 64 0) (length b) (omega (arith, h, k, w)) f in
    makes_as (sym (ap (λ n. opened (part_of n) b) z))
    (record {
      same = ap (λ t. got (record { bytes = t; count = 0; instructions = 0; stage = 1 })) (y ∙ ap (λ t. t ++ replicate 64 0) x);
      low = record { constants = omega arith; instructions = omega arith; bytes = omega (arith, h) };
    })

-- a line that was read
module _ (s : Draft) (p : LineKind) (b : List ℕ) {m : Made} {out : List ℕ} where
  pub read_first : s.stage ≡ 0 → Makes (opened p b) m out → Makes (with_read s p b) m out
  read_first e h = makes_as (sym (ap (λ t. cond t (opened p b) (with_line s p b)) (eq-eqb s.stage 0 e))) h

  pub read-later : (s.stage ≡ 0 → ⊥) → Makes (with_line s p b) m out → Makes (with_read s p b) m out
  read-later e h = makes_as (sym (ap (λ t. cond t (opened p b) (with_line s p b)) (ne_eqb s.stage 0 e))) h

-- a real place's bit set in the sheet
pub real_put : (s : Made) (out b : List ℕ) (i : ℕ) {o : List ℕ} → Room s out → o ≡ marked out i
    → got (record { bytes = marked (take s.len out) i; count = s.count; instructions = s.instructions; stage = 1 }) ≡ with_line (sheet_of s out) real b
    → Makes (with_line (sheet_of s out) real b) (record { len = s.len; count = s.count; instructions = s.instructions; stage = 1; why = 0 }) o
real_put s out b i {o} room e f =
    record {
      same = ap (λ x. got (record { bytes = x; count = s.count; instructions = s.instructions; stage = 1 })) (ap (take s.len) e ∙ front_marked s.len out i) ∙ f;
      low = record { constants = room.1.constants; instructions = room.1.instructions; bytes = room.1.bytes };
    }
