-- The instructions of a sheet, printed and assembled one after the other.
use Prim.Native.Nat.{ℕ, zero, suc, ◌+◌, ◌*◌, ◌≤◌, ◌<◌}
use mathlib.Core.Path.{◌≡◌, refl, sym, ap, ◌∙◌, subst}
use mathlib.Core.Bool.{Bool, true, false, not, cond}
use mathlib.Core.List.{List, [], ◌++◌}
use native.Mathlib.Omega.{arith}
use borrow.Author.Tests.{ltb-true, ltb-false, le-ltb, lt-leb, eq-eqb, eqb-true}
use lib.Dec.{ltb, eqb}
use lib.ListN.{length, take, drop, length-drop, drop_of_length-le}
use lib.Seq.{length-take-le, get_or-take, get_or-drop, take_all, take-add, drop-drop}
use Rattle.mir.specs.declared.records.Instruction.{Instruction}
use Rattle.mir.specs.Length.{lengths, length_of}
use Rattle.mir.specs.Read.{Read, got, refused, refuse, and_then}
use Rattle.mir.specs.Field.{u16_at, takes_kind, head_from}
use Rattle.mir.specs.Decode.{decoded, ahead}
use Rattle.mir.proofs.Passing.{either}
use Rattle.mir.proofs.Heads.{Sized, Headed}
use Rattle.mir.proofs.IfRead.{IfRead, read, told, told_so, if_read, parted, head}
use Rattle.mir.proofs.Decoding.{Bytes, items, fault, decoded-none, decoded-torn, decoded-got}
use Rattle.mir.specs.Kinds.{uni_from, bi_from, mov_from, load_from, save_from, load_const_from, fused_from, if_else_from}
use Rattle.sheet.specs.Instruction.{fields_from, instruction_from, load_math_from, load_const_math_from, label_from, branch_from, branch_if_from}
use Rattle.sheet.proofs.Reading.{whole}
use Rattle.assembly.specs.Lines.{instruction_line}
use Rattle.assembly.specs.SheetText.{instruction_lines}
use Rattle.assembly.specs.Assembled.{Draft, is_got, with_line}
use Rattle.assembly.proofs.Saying.{Onward, stay, ◌▹◌, onward_as, by_line}
use Rattle.assembly.proofs.Spelling.{SaysInstruction, Reads, Kind, nop, uni, bi, mov, load, save, load-const, fused, if-else, load-math, load_const_math, label, branch, branch_if}

module _ {n : ℕ} {s : List ℕ} where
  choose : (kind j : ℕ) {x' x y' y : Read Instruction} → (kind ≡ j → Reads n s x' x) → Reads n s y' y
      → Reads n s (cond (eqb kind j) x' y') (cond (eqb kind j) x y)
  choose kind j {x'} {x} {y'} {y} h k = by (eqb kind j) refl
    where
      by : (b : Bool) → eqb kind j ≡ b → Reads n s (cond b x' y') (cond b x y)
      by true e = h (eqb-true kind j e)
      by false e = k

module _ (s : List ℕ) (kind : ℕ) (bytes : Bytes s) (h : Headed (takes_kind false) s kind) where
  of_kind : (j n : ℕ) (x : List ℕ → Read Instruction) → length_of j ≡ n → Kind n j x → kind ≡ j
      → Reads (u16_at s 0) s (x (take (u16_at s 0) s)) (x s)
  of_kind j n x l k e =
      let v : u16_at s 2 ≡ j = sym h.same ∙ e in
      let w : u16_at s 0 ≡ n = sym h.sized.rule ∙ ap length_of v ∙ l in
      subst (λ m. Reads m s (x (take m s)) (x s)) (sym w) (k s (subst (λ m. m ≤ length s) w h.sized.inside) bytes w v)

  fields : (count : ℕ) → count ≤ 251 → Reads (u16_at s 0) s (fields_from count kind (take (u16_at s 0) s)) (fields_from count kind s)
  unfolding fields_from length_of lengths
  fields count most =
      choose kind 0 (of_kind 0 4 (λ s. got Instruction.Nop) refl nop)
      (choose kind 1 (of_kind 1 7 (uni_from false Instruction.Uni) refl uni)
      (choose kind 2 (of_kind 2 8 (bi_from false Instruction.Bi) refl bi)
      (choose kind 3 (of_kind 3 6 (mov_from false Instruction.Mov) refl mov)
      (choose kind 4 (of_kind 4 8 (load_from false Instruction.Load) refl load)
      (choose kind 5 (of_kind 5 8 (save_from false Instruction.Save) refl save)
      (choose kind 6 (of_kind 6 7 (load_const_from false Instruction.LoadConst count) refl (load-const count most))
      (choose kind 7 (of_kind 7 9 (fused_from false Instruction.Fused) refl fused)
      (choose kind 8 (of_kind 8 10 (if_else_from false Instruction.IfElse) refl if-else)
      (choose kind 9 (of_kind 9 10 load_math_from refl load-math)
      (choose kind 10 (of_kind 10 9 (load_const_math_from count) refl (load_const_math count most))
      (choose kind 14 (of_kind 14 5 label_from refl label)
      (choose kind 15 (of_kind 15 5 branch_from refl branch)
      (choose kind 17 (of_kind 17 7 branch_if_from refl branch_if)
      (record { outcome = told; local = refl }))))))))))))))

-- a head is read from the record's own bytes
head_again : (takes : ℕ → Bool) (t : List ℕ) (n kind : ℕ) → length t ≡ n → u16_at t 0 ≡ n → u16_at t 2 ≡ kind → 4 ≤ n → takes kind ≡ true
    → length_of kind ≡ n
    → head_from takes t ≡ got kind
unfolding head_from
head_again takes t n kind l w v h k e = simp (l, w, v, le-ltb n 4 h, le-ltb n n (omega arith), k, e, eq-eqb n n refl)

front : (s : List ℕ) (n i : ℕ) → i + 1 < n → u16_at (take n s) i ≡ u16_at s i
unfolding u16_at
front s n i h = let a = get_or-take n s i 0 (omega arith) in let b = get_or-take n s (i + 1) 0 h in λ j. a j + 256 * b j

-- an instruction that is read
record Good (count : ℕ) (s : List ℕ) (i : Instruction) : Type 0 where
  spelled : SaysInstruction (u16_at s 0) s i
  again : instruction_from count (take (u16_at s 0) s) ≡ got i
  sized : Sized s

good : (count : ℕ) (s : List ℕ) → count ≤ 251 → Bytes s → IfRead (Good count s) (instruction_from count s)
unfolding instruction_from
good count s most bytes =
    parted (head (takes_kind false) s)
    (λ kind h.
    let r = fields s kind bytes h count most in
    let n = u16_at s 0 in
    let z = h.sized in
    let e : head_from (takes_kind false) (take n s) ≡ got kind =
    head_again (takes_kind false) (take n s) n kind (length-take-le n s z.inside) (front s n 0 (omega (arith, z.least)))
    (front s n 2 (omega (arith, z.least)) ∙ sym h.same) z.least h.taken (ap length_of h.same ∙ z.rule) in
    if_read (λ i p.
    record {
      spelled = p.0;
      again = ap (λ x. and_then x (λ kind. fields_from count kind (take n s))) e ∙ r.local ∙ p.1;
      sized = z;
    }) (told_so r.outcome))

-- where the lines of the instructions from a position on lead, of which the first has an index
pub record Reached (s : List ℕ) (count at index stage : ℕ) (text : List ℕ) : Type 0 where
  pub far : ℕ
  pub some : 1 ≤ far
  pub instructions : ℕ
  pub way : Onward (record { bytes = take at s; count = count; instructions = index; stage = stage }) text
      (record { bytes = s; count = count; instructions = instructions; stage = far })

module _ (s : List ℕ) (count : ℕ) (most : count ≤ 251) (bytes : Bytes s) where
  abbrev reader : List ℕ → Read Instruction
  reader = instruction_from count

  at-end : (at index stage : ℕ) → length s ≤ at → 1 ≤ stage → Reached s count at index stage (instruction_lines (items reader (drop at s)))
  unfolding instruction_lines
  at-end at index stage h k =
      let e : items reader (drop at s) ≡ [] = ap (λ l. items reader l) (drop_of_length-le s h) ∙ ap (λ d. d.items) (decoded-none reader) in
      record {
        far = stage;
        some = k;
        instructions = index;
        way = onward_as (ap instruction_lines (sym e)) (ap (λ b. record { bytes = b; count = count; instructions = index; stage = stage }) (take_all at s h)) stay;
      }

  one : (at index stage : ℕ) (i : Instruction) → index < 612 → 1 ≤ stage → Good count (drop at s) i
      → Onward (record { bytes = take at s; count = count; instructions = index; stage = stage }) (instruction_line i)
      (record { bytes = take (at + u16_at (drop at s) 0) s; count = count; instructions = suc index; stage = 3 })
  unfolding with_line
  one at index stage i h k g =
      let u = drop at s in
      let n = u16_at u 0 in
      let larger : Draft = record { bytes = take at s ++ take n u; count = count; instructions = suc index; stage = 3 } in
      by_line g.spelled k
      (ap (λ t. refuse t 4 (refuse (not (is_got (instruction_from count (take n u)))) 3 (got larger))) (lt-leb 612 index h)
      ∙ ap (λ x. refuse (not (is_got x)) 3 (got larger)) g.again
      ∙ ap (λ b. got (record { bytes = b; count = count; instructions = suc index; stage = 3 })) (sym (take-add at n s)))

  -- the instruction at a position, and those behind it
  next : (at index stage : ℕ) → at < length s → 1 ≤ stage → fault reader (drop at s) ≡ 0 → index + length (items reader (drop at s)) ≤ 612
      → ((m : ℕ) → at < m → m ≤ length s → fault reader (drop m s) ≡ 0 → suc index + length (items reader (drop m s)) ≤ 612
      → Reached s count m (suc index) 3 (instruction_lines (items reader (drop m s))))
      → (x : Read Instruction) → reader (drop at s) ≡ x → IfRead (Good count (drop at s)) x
      → Reached s count at index stage (instruction_lines (items reader (drop at s)))
  unfolding instruction_lines
  next at index stage h k e b more (got i) f (read g) =
      let n = u16_at (drop at s) 0 in
      let d = length-drop at s in
      let z = g.sized in
      let q = decoded-got reader (whole count) (drop at s) i f ∙ ap (λ l. ahead i (decoded reader l)) (drop-drop n at s) in
      let l = ap (λ d. length d.items) q in
      let r = more (at + n) (omega (arith, z.least)) (omega (arith, z.inside, z.least, d)) (sym (ap (λ d. d.fault) q) ∙ e) (omega (arith, b, l)) in
      record {
        far = r.far;
        some = r.some;
        instructions = r.instructions;
        way = onward_as (ap instruction_lines (sym (ap (λ d. d.items) q))) refl (one at index stage i (omega (arith, b, l)) k g ▹ r.way);
      }
  next at index stage h k e b more (refused (suc m)) f told =
      let d = length-drop at s in
      let q = decoded-torn reader (drop at s) (suc m) f (omega (arith, h, d)) in
      let z : suc m ≡ 0 = sym (ap (λ d. d.fault) q) ∙ e in
      absurd (omega (arith, z))
  next at index stage h k e b more (refused zero) f x5 = elim x5 [ ]

  pub all : (fuel at index stage : ℕ) → length s ≤ fuel + at → at ≤ length s → 1 ≤ stage → fault reader (drop at s) ≡ 0
      → index + length (items reader (drop at s)) ≤ 612
      → Reached s count at index stage (instruction_lines (items reader (drop at s)))
  all zero at index stage h l k e b = at-end at index stage (omega arith) k
  all (suc fuel) at index stage h l k e b =
      either (ltb at (length s))
      (λ t.
      next at index stage (ltb-true at (length s) t) k e b (λ m a b f c. all fuel m (suc index) 3 (omega arith) b (omega arith) f c) (reader (drop at s)) refl
      (good count (drop at s) most (λ i. subst (λ x. x < 256) (sym (get_or-drop at s i 0)) (bytes (at + i)))))
      (λ t. at-end at index stage (ltb-false at (length s) t) k)
