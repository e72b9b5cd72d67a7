-- The lines of a sheet's text, one after the other.
use Prim.Native.Nat.{ℕ, suc, ◌+◌, ◌-◌, ◌≤◌, ◌<◌}
use mathlib.Core.Path.{◌≡◌, refl, sym, ap, ◌∙◌, subst}
use mathlib.Core.Bool.{true, cond}
use mathlib.Core.List.{List, [], ◌∷◌, ◌++◌}
use native.Mathlib.Numerals.{add-one}
use native.Mathlib.Omega.{arith}
use lib.ListN.{length, drop}
use Rattle.mir.specs.declared.records.Instruction.{Instruction}
use Rattle.mir.specs.Decode.{decoded}
use Rattle.mir.proofs.Passing.{either}
use Rattle.mir.proofs.Decoding.{Here, ended}
use borrow.Author.Tests.{ltb-true, ltb-false, eq-eqb, ne_eqb}
use lib.Dec.{ltb, eqb}
use Rattle.sheet.specs.Setup.{Setup, constant_at, constants_from_on, setup}
use Rattle.sheet.proofs.Setting.{right}
use Rattle.reports.specs.Lines.{refusal_line}
use Rattle.std.specs.Prelude.{Err, Result}
use Rattle.mir.specs.declared.refusal.Refusal.{Refusal}
use Rattle.mir.specs.Decode.{as_next}
use Rattle.sheet.specs.Instruction.{instruction_from, instruction_at, cut, instructions, instructions_on}
use Rattle.sheet.proofs.Limit.{nothing, length_cut, on-here, on-done, on-end}
use Rattle.sheet.proofs.Reading.{torn-instruction}
use Rattle.lowering.specs.Realness.{bit_at}
use Rattle.assembly.specs.Lines.{real_line, constant_line, instruction_line}
use Rattle.sheet_text.specs.declared.printing.Seen.{Seen}
use Rattle.sheet_text.specs.Seen.{seen_of}
use Rattle.assembly.specs.SheetText.{real_lines, constant_lines, instruction_lines, of_setup, lines_of, sheet_text, printed_text}

module _ (places : List ℕ) (i : ℕ) where
  pub reals-on : i < 512
      → real_lines places (512 - i) i ≡ cond (bit_at places i) (real_line i) [] ++ real_lines places (512 - (i + 1)) (i + 1)
  unfolding real_lines
  reals-on h =
      let e : 512 - i ≡ suc (512 - (i + 1)) = omega arith in
      ap (λ n. real_lines places n i) e
      ∙ ap (λ j. cond (bit_at places i) (real_line i) [] ++ real_lines places (512 - (i + 1)) j) (sym (add-one i))

  pub reals-end : 512 ≤ i → real_lines places (512 - i) i ≡ []
  unfolding real_lines
  reals-end h = let e : 512 - i ≡ 0 = omega arith in ap (λ n. real_lines places n i) e

module _ (s : List ℕ) (count i : ℕ) where
  pub constants-on : i < count
      → constant_lines (constants_from_on s (count - i) i)
      ≡ constant_line (constant_at s i) ++ constant_lines (constants_from_on s (count - (i + 1)) (i + 1))
  unfolding constant_lines
  constants-on h =
      let e : count - i ≡ suc (count - (i + 1)) = omega arith in
      ap (λ n. constant_lines (constants_from_on s n i)) e
      ∙ ap (λ j. constant_line (constant_at s i) ++ constant_lines (constants_from_on s (count - (i + 1)) j)) (sym (add-one i))

  pub constants-end : count ≤ i → constant_lines (constants_from_on s (count - i) i) ≡ []
  unfolding constant_lines
  constants-end h = let e : count - i ≡ 0 = omega arith in ap (λ n. constant_lines (constants_from_on s n i)) e

no_item : (l : List Instruction) → length l ≤ 0 → l ≡ []
no_item [] h = refl
no_item (i ∷ l) h = absurd (omega (arith, h))

-- the lines of the instructions from an index on
abbrev pub lines_on : ℕ → ℕ → List ℕ → List ℕ
lines_on n count s = instruction_lines (instructions_on n count s).items

module _ (count : ℕ) (s : List ℕ) (at : ℕ) {n : ℕ} where
  pub instructions-on : {next : ℕ} {x : Instruction} → n < 612 → Here (instruction_from count) s at x next
      → lines_on n count (drop at s) ≡ instruction_line x ++ lines_on (n + 1) count (drop next s)
  unfolding instruction_lines
  instructions-on {next} {x} l h =
      ap (λ d. instruction_lines d.items) (on-here count s at l h)
      ∙ ap (λ n. instruction_line x ++ lines_on n count (drop next s)) (sym (add-one n))

  pub instructions-torn : {r : Result (Instruction × ℕ) Refusal} {k : Refusal} → n < 612 → as_next r ≡ instruction_at count s at → r ≡ Err k
      → lines_on n count (drop at s) ≡ []
  unfolding instruction_lines
  instructions-torn l e f =
      either (ltb at (length s))
      (λ t. ap (λ d. instruction_lines d.items) (on-done count s at l (torn-instruction count s at e f (ltb-true at (length s) t))))
      (λ t. ap (λ d. instruction_lines d.items) (on-end count s at n (ended (instruction_from count) s at (ltb-false at (length s) t))))

  pub instructions-all : 612 ≤ n → lines_on n count (drop at s) ≡ []
  unfolding instruction_lines
  instructions-all h =
      let z : 612 - n ≡ 0 = omega (arith, h) in
      let d = decoded (instruction_from count) (drop at s) in
      let l = length_cut 0 d in
      ap (λ k. instruction_lines (cut k d).items) z ∙ ap instruction_lines (no_item (cut 0 d).items l)

-- what was counted, and what stands behind a position, are the whole
pub record Counted (count : ℕ) (s : List ℕ) (first at n : ℕ) : Type 0 where
  pub few : n ≤ 612
  pub many : n + length (instructions_on n count (drop at s)).items ≡ length (instructions count (drop first s)).items
  pub fault : (instructions_on n count (drop at s)).fault ≡ (instructions count (drop first s)).fault

module _ {count : ℕ} {s : List ℕ} {first at n : ℕ} (c : Counted count s first at n) where
  pub counts-on : {next : ℕ} {x : Instruction} → n < 612 → Here (instruction_from count) s at x next → Counted count s first next (n + 1)
  counts-on {next} l h =
      let e = on-here count s at l h in
      let k = ap (λ d. length d.items) e in
      let a = c.many in
      subst (Counted count s first next) (sym (add-one n))
      (record { few = omega (arith, l); many = omega (arith, k, a); fault = sym (ap (λ d. d.fault) e) ∙ c.fault })

  pub counts_end : {k : ℕ} → instructions_on n count (drop at s) ≡ nothing k
      → ◌≡◌ {A = Seen} (record { number = k; index = n }) (seen_of (instructions count (drop first s)))
  counts_end {k} e =
      let p = sym (ap (λ d. d.fault) e) ∙ c.fault in
      let z = ap (λ d. length d.items) e in
      let a = c.many in
      let i : n ≡ length (instructions count (drop first s)).items = omega (arith, z, a) in
      λ j. record { number = p j; index = i j }

-- the three texts, as the code comes to them
module _ (sheet : List ℕ) (u : Setup) (e : u ≡ setup sheet) where
  pub unset : (u.number ≡ 0 → ⊥) → refusal_line 8 0 ≡ printed_text sheet
  unfolding printed_text
  unset h =
      sym (ap (λ b. cond b (cond (eqb (of_setup sheet (setup sheet)).fault 0) (sheet_text sheet) (refusal_line (of_setup sheet (setup sheet)).fault (length (of_setup sheet (setup sheet)).items))) (refusal_line 8 0))
      (ne_eqb (setup sheet).number 0 (λ z. h (ap (λ u. u.number) e ∙ z))))

  module _ (h : u.number ≡ 0) {number index : ℕ} (n : number ≡ (of_setup sheet u).fault) (i : index ≡ length (of_setup sheet u).items) where
    set : eqb (setup sheet).number 0 ≡ true
    set = eq-eqb (setup sheet).number 0 (sym (ap (λ u. u.number) e) ∙ h)

    pub refused : (number ≡ 0 → ⊥) → refusal_line number index ≡ printed_text sheet
    unfolding printed_text
    refused k =
        let f = n ∙ ap (λ u. (of_setup sheet u).fault) e in
        let g = i ∙ ap (λ u. length (of_setup sheet u).items) e in
        (λ x. refusal_line (f x) (g x))
        ∙ sym (ap (λ b. cond b (cond (eqb (of_setup sheet (setup sheet)).fault 0) (sheet_text sheet) (refusal_line (of_setup sheet (setup sheet)).fault (length (of_setup sheet (setup sheet)).items))) (refusal_line 8 0)) set
        ∙ ap (λ b. cond b (sheet_text sheet) (refusal_line (of_setup sheet (setup sheet)).fault (length (of_setup sheet (setup sheet)).items)))
        (ne_eqb (of_setup sheet (setup sheet)).fault 0 (λ z. k (f ∙ z))))

    pub printed : number ≡ 0 → lines_of sheet u ≡ printed_text sheet
    unfolding printed_text sheet_text
    printed k =
        let f = n ∙ ap (λ u. (of_setup sheet u).fault) e in
        ap (lines_of sheet) e
        ∙ sym (ap (λ b. cond b (cond (eqb (of_setup sheet (setup sheet)).fault 0) (sheet_text sheet) (refusal_line (of_setup sheet (setup sheet)).fault (length (of_setup sheet (setup sheet)).items))) (refusal_line 8 0)) set
        ∙ ap (λ b. cond b (sheet_text sheet) (refusal_line (of_setup sheet (setup sheet)).fault (length (of_setup sheet (setup sheet)).items)))
        (eq-eqb (of_setup sheet (setup sheet)).fault 0 (sym f ∙ k)))

  -- what is known of a sheet that is set up
  pub few : u.number ≡ 0 → u.count ≤ 251
  few h = subst (λ u. u.count ≤ 251) (sym e) (right sheet (sym (ap (λ u. u.number) e) ∙ h)).few
