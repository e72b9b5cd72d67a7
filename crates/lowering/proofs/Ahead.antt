-- What looking ahead sees of an instruction that is read: its label.
use Prim.Native.Nat.{ℕ, suc, pred, ◌≤◌}
use mathlib.Core.Path.{◌≡◌, refl, sym, ap, ◌∙◌}
use mathlib.Core.Bool.{false, cond, ◌||◌}
use mathlib.Core.List.{List, [], ◌∷◌}
use mathlib.Core.Option.{Option, none, some}
use native.Mathlib.Omega.{arith}
use borrow.Author.Tests.{le-ltb, eq-eqb}
use lib.ListN.{length, drop}
use lib.Dec.{ltb, eqb}
use Rattle.mir.specs.declared.records.Instruction.{Instruction}
use Rattle.mir.specs.Length.{length_of}
use Rattle.mir.specs.Operation.{arith_ops}
use Rattle.mir.specs.Takes.{takes_arith}
use Rattle.mir.specs.Read.{got}
use Rattle.mir.specs.Field.{byte_at, bytes_at, u16_at, takes_kind, head_from}
use Rattle.mir.specs.Decode.{ahead, decoded_from, decoded}
use Rattle.mir.proofs.Passing.{then}
use Rattle.mir.proofs.Heads.{headed}
use Rattle.mir.proofs.IfRead.{IfRead, read, told, if_got, tested, parted, chosen, limited, counted, operation, place}
use Rattle.mir.proofs.ByKind.{uni, bi, mov, load, saving, load-const, fused, if-else}
use Rattle.mir.proofs.Decoding.{decoded-skip}
use Rattle.sheet.specs.Instruction.{fields_from, instruction_from}
use Rattle.sheet.proofs.Reading.{whole}
use Rattle.lowering.specs.Labels as Labels
use Rattle.lowering.specs.Labels.{Role, role, label_seen, sees, any_sees, later}
use Rattle.lowering.specs.Lower.{past}

-- the label of a role
abbrev pub label_in : Role → Option ℕ
label_in Labels.works = none
label_in (Labels.labels l) = some l
label_in (Labels.branches l) = none

abbrev seen_at : ℕ → List ℕ → Option ℕ
seen_at kind s = cond (eqb kind 14) (some (byte_at s 4)) none

module _ (count kind : ℕ) (s : List ℕ) where
  abbrev Seen : Instruction → Type 0
  Seen i = label_in (role i) ≡ seen_at kind s

  -- an instruction of another kind
  other : (k : ℕ) → kind ≡ k → eqb k 14 ≡ false → none ≡ seen_at kind s
  other k e f = rw (e, f) refl

  fields-seen : IfRead Seen (fields_from count kind s)
  unfolding fields_from role
  fields-seen =
      let b = byte_at s in
      chosen kind 0 (λ k. read (other 0 k refl))
      (chosen kind 1 (λ k. uni false s Instruction.Uni (λ op d a t x y. other 1 k refl))
      (chosen kind 2 (λ k. bi false s Instruction.Bi (λ op d a b t x y z. other 2 k refl))
      (chosen kind 3 (λ k. mov false s Instruction.Mov (λ d a x y. other 3 k refl))
      (chosen kind 4 (λ k. load false s Instruction.Load (λ d p x q. other 4 k refl))
      (chosen kind 5 (λ k. saving false s Instruction.Save (λ a p x q. other 5 k refl))
      (chosen kind 6 (λ k. load-const false s Instruction.LoadConst count (λ d x c. other 6 k refl))
      (chosen kind 7 (λ k. fused false s Instruction.Fused (λ op d a b c t x y z w. other 7 k refl))
      (chosen kind 8 (λ k. if-else false s Instruction.IfElse (λ d a b p x y z q. other 8 k refl))
      (chosen kind 9
      (λ k. parted (operation takes_arith arith_ops (b 4))
      (λ op t. limited 31 (bytes_at s 5 2) (λ l. parted (place s 7) (λ p q. read (other 9 k refl)))))
      (chosen kind 10
      (λ k. parted (operation takes_arith arith_ops (b 4))
      (λ op t. limited 31 (bytes_at s 5 2) (λ l. counted count (u16_at s 7) (λ c. read (other 10 k refl)))))
      (chosen kind 14 (λ k. tested (ltb (b 4) 3) 9 (λ e. read (rw k refl)))
      (chosen kind 15 (λ k. tested (ltb (b 4) 3) 9 (λ e. read (other 15 k refl)))
      (chosen kind 17
      (λ k. limited 31 (bytes_at s 4 1) (λ l. tested (ltb (b 5) 3) 9 (λ e. tested (ltb 1 (b 6)) 9 (λ f. read (other 17 k refl)))))
      told)))))))))))))

  pub fields-label : (i : Instruction) → fields_from count kind s ≡ got i → Seen i
  fields-label i e = if_got fields-seen e

-- what looking ahead sees of an instruction
pub one_seen : (count : ℕ) (s : List ℕ) (i : Instruction) → instruction_from count s ≡ got i → label_seen s ≡ got (label_in (role i))
unfolding instruction_from label_seen
one_seen count s i e =
    let t = then (head_from (takes_kind false) s) (λ kind. fields_from count kind s) i e in
    let h = headed (takes_kind false) s t.first t.found in
    let z = h.sized in
    let l = fields-label count t.first s i t.rest in
    let k = h.same in
    rw (
      le-ltb (length s) 4 (omega (arith, z.least, z.inside)),
      le-ltb (u16_at s 0) 4 z.least,
      le-ltb (length s) (u16_at s 0) z.inside,
      ap (takes_kind false) (sym k) ∙ h.taken,
      eq-eqb (length_of (u16_at s 2)) (u16_at s 0) z.rule,
    )
    (ap got (ap (λ x. seen_at x s) (sym k) ∙ sym l))

-- ---- the first, then those behind it

-- a record that is no torn one
pub ahead_one : (s : List ℕ) (o : Option ℕ) → label_seen s ≡ got o → 4 ≤ u16_at s 0 → u16_at s 0 ≤ length s
    → decoded label_seen s ≡ ahead o (decoded label_seen (past s))
unfolding decoded decoded_from
ahead_one [] o e least inside = absurd (omega (arith, least, inside))
ahead_one (b ∷ s) o e least inside =
    let n = u16_at (b ∷ s) 0 in
    let h : n ≡ suc (pred n) = omega (arith, least) in
    rw e (ap (ahead o) (decoded-skip label_seen s (pred n)) ∙ ap (λ (k : ℕ). ahead o (decoded label_seen (drop k (b ∷ s)))) (sym h))

-- an instruction's label, and those behind it
pub seen_first : (count l : ℕ) (s : List ℕ) (i : Instruction) → instruction_from count s ≡ got i
    → later l s ≡ (sees l (label_in (role i)) || later l (past s))
unfolding later
seen_first count l s i e =
    let z = (whole count).sized s i e in
    ap (λ d. any_sees l d.items) (ahead_one s (label_in (role i)) (one_seen count s i e) z.least z.inside)
