-- The role of a record's instruction, by its kind and its bytes.
use Prim.Native.Nat.{ℕ, ◌-◌, ◌≤◌, ◌<◌}
use mathlib.Core.Path.{◌≡◌, refl, sym, ap, ◌∙◌}
use mathlib.Core.Bool.{Bool, true, false, or-false}
use mathlib.Core.List.{List}
use native.Mathlib.Omega.{arith}
use borrow.Author.Tests.{lt-ltb, le-ltb}
use lib.ListN.{length, take, drop, drop_of_length-le}
use lib.Dec.{ltb, eqb}
use Rattle.mir.specs.declared.records.Instruction.{Instruction}
use Rattle.mir.specs.Operation.{arith_ops}
use Rattle.mir.specs.Takes.{takes_arith}
use Rattle.mir.specs.Read.{Read, got, refused, refuse, and_then, above}
use Rattle.mir.specs.Field.{byte_at, bytes_at, u16_at, takes_kind, head_from}
use Rattle.mir.proofs.Parts.{part}
use Rattle.mir.proofs.Heads.{headed}
use Rattle.mir.proofs.IfRead.{IfRead, read, told, parted, chosen, limited, counted, operation, place}
use Rattle.mir.proofs.ByKind.{uni, bi, mov, load, saving, load-const, fused, if-else}
use Rattle.sheet.specs.Instruction.{branch_if_from, fields_from, instruction_from}
use Rattle.lowering.specs.Labels as Labels
use Rattle.lowering.specs.Labels.{role}
use Rattle.refusals.specs.Noted.{role_read}

-- what is read, if it is not refused, works
works_read : {r : Read Instruction} → IfRead (λ i. role i ≡ Labels.works) r → role_read r ≡ Labels.works
works_read (read e) = e
works_read told = refl

-- of a kind that is no label's and no branch's
module _ (count kind : ℕ) (s : List ℕ) (label : kind ≡ 14 → ⊥) (branch : kind ≡ 15 → ⊥) (branch_if : kind ≡ 17 → ⊥) where
  fields-work : IfRead (λ i. role i ≡ Labels.works) (fields_from count kind s)
  unfolding fields_from role
  fields-work =
      let b = byte_at s in
      chosen kind 0 (λ k. read refl)
      (chosen kind 1 (λ k. uni false s Instruction.Uni (λ op d a t x y. refl))
      (chosen kind 2 (λ k. bi false s Instruction.Bi (λ op d a b t x y z. refl))
      (chosen kind 3 (λ k. mov false s Instruction.Mov (λ d a x y. refl))
      (chosen kind 4 (λ k. load false s Instruction.Load (λ d p x q. refl))
      (chosen kind 5 (λ k. saving false s Instruction.Save (λ a p x q. refl))
      (chosen kind 6 (λ k. load-const false s Instruction.LoadConst count (λ d x c. refl))
      (chosen kind 7 (λ k. fused false s Instruction.Fused (λ op d a b c t x y z w. refl))
      (chosen kind 8 (λ k. if-else false s Instruction.IfElse (λ d a b p x y z q. refl))
      (chosen kind 9
      (λ k. parted (operation takes_arith arith_ops (b 4)) (λ op t. limited 31 (bytes_at s 5 2) (λ l. parted (place s 7) (λ p q. read refl))))
      (chosen kind 10
      (λ k. parted (operation takes_arith arith_ops (b 4)) (λ op t. limited 31 (bytes_at s 5 2) (λ l. counted count (u16_at s 7) (λ c. read refl))))
      (chosen kind 14 (λ k. absurd (label k))
      (chosen kind 15 (λ k. absurd (branch k))
      (chosen kind 17 (λ k. absurd (branch_if k)) told)))))))))))))

  pub fields-works : role_read (fields_from count kind s) ≡ Labels.works
  fields-works = works_read fields-work

-- the instruction at a position, by the bytes that the code knows
module _ (count : ℕ) (s : List ℕ) (at : ℕ) where
  abbrev from : List ℕ
  from = take (length s - at) (drop at s)

  here : {r : Read ℕ} → head_from (takes_kind false) from ≡ r
      → role_read (instruction_from count (drop at s)) ≡ role_read (and_then r (λ kind. fields_from count kind from))
  unfolding instruction_from
  here e =
      ap (λ l. role_read (instruction_from count l)) (sym (part s at)) ∙ ap (λ r. role_read (and_then r (λ kind. fields_from count kind from))) e

  pub at-headed : (kind : ℕ) → head_from (takes_kind false) from ≡ got kind
      → role_read (instruction_from count (drop at s)) ≡ role_read (fields_from count kind from)
  at-headed kind e = here e

  pub at-torn : (n : ℕ) → head_from (takes_kind false) from ≡ refused n → role_read (instruction_from count (drop at s)) ≡ Labels.works
  at-torn n e = here e

  -- a kind below a label's and a branch's
  pub at_low : {k : ℕ} → k ≡ u16_at from 2 → k < 14 → role_read (instruction_from count (drop at s)) ≡ Labels.works
  at_low {k} w h = go (head_from (takes_kind false) from) refl
    where
      go : (r : Read ℕ) → head_from (takes_kind false) from ≡ r → role_read (instruction_from count (drop at s)) ≡ Labels.works
      go (got kind) e =
          let z = (headed (takes_kind false) from kind e).same in
          here e
          ∙ fields-works count kind from (λ f. omega (arith, f, z, w, h)) (λ f. omega (arith, f, z, w, h)) (λ f. omega (arith, f, z, w, h))
      go (refused n) e = here e

  -- no bytes are left
  pub at-past : length s ≤ at → role_read (instruction_from count (drop at s)) ≡ Labels.works
  unfolding instruction_from head_from
  at-past h = ap (λ l. role_read (instruction_from count l)) (drop_of_length-le s {i = at} h)

-- a test refuses, or none does
refusing : (b : Bool) (n : ℕ) (r : Read Instruction) → b ≡ true → role_read (refuse b n r) ≡ Labels.works
refusing b n r e = ap (λ (q : Bool). role_read (refuse q n r)) e

passing : (b : Bool) (n : ℕ) (r : Read Instruction) → b ≡ false → role_read (refuse b n r) ≡ role_read r
passing b n r e = ap (λ (q : Bool). role_read (refuse q n r)) e

-- a label, a branch
module _ (count kind : ℕ) (s : List ℕ) {l : ℕ} (e : l ≡ byte_at s 4) where
  pub label-low : kind ≡ 14 → l < 3 → role_read (fields_from count kind s) ≡ Labels.works
  unfolding fields_from
  label-low k h =
      ap (λ (k : ℕ). role_read (fields_from count k s)) k
      ∙ refusing (ltb (byte_at s 4) 3) 10 (got (Instruction.Label (byte_at s 4))) (lt-ltb (byte_at s 4) 3 (omega (arith, e, h)))

  pub label-own : kind ≡ 14 → 3 ≤ l → role_read (fields_from count kind s) ≡ Labels.labels l
  unfolding fields_from role
  label-own k h =
      ap (λ (k : ℕ). role_read (fields_from count k s)) k
      ∙ passing (ltb (byte_at s 4) 3) 10 (got (Instruction.Label (byte_at s 4))) (le-ltb (byte_at s 4) 3 (omega (arith, e, h)))
      ∙ ap Labels.labels (sym e)

  pub branch-low : kind ≡ 15 → l < 3 → role_read (fields_from count kind s) ≡ Labels.works
  unfolding fields_from
  branch-low k h =
      ap (λ (k : ℕ). role_read (fields_from count k s)) k
      ∙ refusing (ltb (byte_at s 4) 3) 10 (got (Instruction.Branch (byte_at s 4))) (lt-ltb (byte_at s 4) 3 (omega (arith, e, h)))

  pub branch-own : kind ≡ 15 → 3 ≤ l → role_read (fields_from count kind s) ≡ Labels.branches l
  unfolding fields_from role
  branch-own k h =
      ap (λ (k : ℕ). role_read (fields_from count k s)) k
      ∙ passing (ltb (byte_at s 4) 3) 10 (got (Instruction.Branch (byte_at s 4))) (le-ltb (byte_at s 4) 3 (omega (arith, e, h)))
      ∙ ap Labels.branches (sym e)

-- a BranchIf
pub branch_if_kind : (count kind : ℕ) (s : List ℕ) → kind ≡ 17 → role_read (fields_from count kind s) ≡ role_read (branch_if_from s)
unfolding fields_from
branch_if_kind count kind s e = ap (λ (k : ℕ). role_read (fields_from count k s)) e

module _ (s : List ℕ) where
  abbrev behind-flag : Read Instruction
  behind-flag = got (Instruction.BranchIf (byte_at s 4) (byte_at s 5) (eqb (byte_at s 6) 1))

  abbrev behind-label : Read Instruction
  behind-label = refuse (ltb 1 (byte_at s 6)) 10 behind-flag

  abbrev behind-register : Read Instruction
  behind-register = refuse (ltb (byte_at s 5) 3) 10 behind-label

  pub if-register : {c : ℕ} → c ≡ byte_at s 4 → 31 < c → role_read (branch_if_from s) ≡ Labels.works
  unfolding branch_if_from
  if-register e h = refusing (above 31 (bytes_at s 4 1)) 3 behind-register (or-false (ltb 31 (byte_at s 4)) ∙ lt-ltb 31 (byte_at s 4) (omega (arith, e, h)))

  module _ {c l : ℕ} (e : c ≡ byte_at s 4) (h : c ≤ 31) (f : l ≡ byte_at s 5) where
    to-label : role_read (branch_if_from s) ≡ role_read behind-register
    unfolding branch_if_from
    to-label = passing (above 31 (bytes_at s 4 1)) 3 behind-register (or-false (ltb 31 (byte_at s 4)) ∙ le-ltb 31 (byte_at s 4) (omega (arith, e, h)))

    pub if-low : l < 3 → role_read (branch_if_from s) ≡ Labels.works
    if-low k = to-label ∙ refusing (ltb (byte_at s 5) 3) 10 behind-label (lt-ltb (byte_at s 5) 3 (omega (arith, f, k)))

    module _ (k : 3 ≤ l) {x : ℕ} (g : x ≡ byte_at s 6) where
      to-flag : role_read (branch_if_from s) ≡ role_read behind-label
      to-flag = to-label ∙ passing (ltb (byte_at s 5) 3) 10 behind-label (le-ltb (byte_at s 5) 3 (omega (arith, f, k)))

      pub if-flag : 1 < x → role_read (branch_if_from s) ≡ Labels.works
      if-flag m = to-flag ∙ refusing (ltb 1 (byte_at s 6)) 10 behind-flag (lt-ltb 1 (byte_at s 6) (omega (arith, g, m)))

      pub if-own : x ≤ 1 → role_read (branch_if_from s) ≡ Labels.branches l
      unfolding role
      if-own m =
          to-flag ∙ passing (ltb 1 (byte_at s 6)) 10 behind-flag (le-ltb 1 (byte_at s 6) (omega (arith, g, m))) ∙ ap Labels.branches (sym f)
