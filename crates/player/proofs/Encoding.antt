-- A record that is read from bytes is the jump that they encode, or a working record where they encode none.
use Prim.Native.Nat.{ℕ}
use mathlib.Core.Path.{◌≡◌, refl, sym, ap, ◌∙◌}
use mathlib.Core.Bool.{Bool, true, false, cond, true≢false}
use mathlib.Core.List.{List}
use mathlib.Core.Option.{Option, none, some}
use lib.Dec.{ltb, eqb}
use borrow.Author.Tests.{eqb-true, ne_eqb}
use Rattle.mir.specs.declared.records.Work.{Work}
use Rattle.mir.specs.declared.records.Record.{Record}
use Rattle.mir.specs.Read.{got}
use Rattle.mir.specs.Operation.{arith_ops}
use Rattle.mir.specs.Takes.{takes_arith}
use Rattle.mir.specs.Field.{byte_at, bytes_at, u16_at, takes_kind, head_from}
use Rattle.mir.proofs.Passing.{then}
use Rattle.mir.proofs.Heads.{headed}
use Rattle.mir.proofs.IfRead.{IfRead, read, told, if_got, tested, parted, chosen, limited, operation, place, save}
use Rattle.mir.proofs.ByKind.{uni, bi, mov, load, saving, load-const, fused, if-else}
use Rattle.records.specs.Record.{fields_from, record_from}
use Rattle.player_machine.specs.Machine.{is_label}
use Rattle.player_machine.specs.Jumps.{is_jump, is_return}
use Rattle.player.specs.Encoded.{jump_of, jump_encoded, jump_in, such}

-- what was read is what a kind and the fields encode
module _ (count kind : ℕ) (s : List ℕ) where
  abbrev Encodes : Record → Type 0
  Encodes r = jump_of kind s ≡ jump_in r

  encodes : {j : Option Record} (n : ℕ) → kind ≡ n → jump_of n s ≡ j → jump_of kind s ≡ j
  encodes n k e = ap (λ k. jump_of k s) k ∙ e

  -- kind by kind
  fields : IfRead Encodes (fields_from count kind s)
  unfolding fields_from
  fields =
      let b = byte_at s in
      chosen kind 1 (λ k. uni true s (λ op d a. Record.Work (Work.Uni op d a)) (λ op d a t x y. encodes 1 k refl))
      (chosen kind 2 (λ k. bi true s (λ op d a b. Record.Work (Work.Bi op d a b)) (λ op d a b t x y z. encodes 2 k refl))
      (chosen kind 3 (λ k. mov true s (λ d a. Record.Work (Work.Mov d a)) (λ d a x y. encodes 3 k refl))
      (chosen kind 4 (λ k. load true s (λ d p. Record.Work (Work.Load d p)) (λ d p x q. encodes 4 k refl))
      (chosen kind 5 (λ k. saving true s (λ a p. Record.Work (Work.Save a p)) (λ a p x q. encodes 5 k refl))
      (chosen kind 6 (λ k. load-const true s (λ d i. Record.Work (Work.LoadConst d i)) count (λ d x c. encodes 6 k refl))
      (chosen kind 7 (λ k. fused true s (λ op d a b c. Record.Work (Work.Fused op d a b c)) (λ op d a b c t x y z w. encodes 7 k refl))
      (chosen kind 8 (λ k. if-else true s (λ d a b p. Record.Work (Work.IfElse d a b p)) (λ d a b p x y z q. encodes 8 k refl))
      (chosen kind 11 (λ k. limited 65 (bytes_at s 4 2) (λ l. parted (place s 6) (λ p q. read (encodes 11 k refl))))
      (chosen kind 12 (λ k. limited 65 (bytes_at s 4 2) (λ l. parted (save s 6) (λ p q. read (encodes 12 k refl))))
      (chosen kind 13
      (λ k. parted (operation takes_arith arith_ops (b 4)) (λ op t. limited 65 (bytes_at s 5 6) (λ l. read (encodes 13 k refl))))
      (chosen kind 14 (λ k. read (encodes 14 k refl))
      (chosen kind 15 (λ k. read (encodes 15 k refl))
      (chosen kind 16 (λ k. read (encodes 16 k refl))
      (chosen kind 17 (λ k. tested (ltb 1 (b 6)) 1 (λ e. limited 65 (bytes_at s 4 1) (λ l. read (encodes 17 k refl))))
      told))))))))))))))

pub encoding : (count : ℕ) (s : List ℕ) (rec : Record) → record_from count s ≡ got rec → jump_encoded s ≡ jump_in rec
unfolding record_from
encoding count s rec e =
    let t = then (head_from (takes_kind true) s) (λ kind. fields_from count kind s) rec e in
    let h = headed (takes_kind true) s t.first t.found in
    if_got (fields count (u16_at s 2) s) (ap (λ kind. fields_from count kind s) (sym h.same) ∙ t.rest)

-- the jump that a record is
jump_by : (rec r : Record) → jump_in rec ≡ some r → rec ≡ r
jump_by (Record.Work w) r e = cc
jump_by (Record.Label l) r e = cc
jump_by (Record.Branch l) r e = cc
jump_by (Record.Call l) r e = cc
jump_by (Record.BranchIf c l x) r e = cc

none_jumps : (rec r : Record) → is_jump rec ≡ true → none ≡ jump_in rec → rec ≡ r
none_jumps (Record.Work w) r j e = absurd (true≢false (sym j))
none_jumps (Record.Label l) r j e = cc
none_jumps (Record.Branch l) r j e = cc
none_jumps (Record.Call l) r j e = cc
none_jumps (Record.BranchIf c l x) r j e = cc

module _ (s : List ℕ) (rec : Record) (e : jump_encoded s ≡ jump_in rec) where
  pub a-jump : (n : ℕ) {r : Record} → u16_at s 2 ≡ n → jump_of n s ≡ some r → rec ≡ r
  a-jump n k f = jump_by rec _ (sym e ∙ ap (λ k. jump_of k s) k ∙ f)

  pub a-branch-if : {l : ℕ} → u16_at s 2 ≡ 17 → l ≡ byte_at s 5 → rec ≡ Record.BranchIf (byte_at s 4) l (eqb (byte_at s 6) 1)
  a-branch-if k f = a-jump 17 k (ap (λ l. some (Record.BranchIf (byte_at s 4) l (eqb (byte_at s 6) 1))) (sym f))

  -- a jump of no other kind
  pub a_call : is_jump rec ≡ true → (u16_at s 2 ≡ 14 → ⊥) → (u16_at s 2 ≡ 15 → ⊥) → (u16_at s 2 ≡ 17 → ⊥) → rec ≡ Record.Call (byte_at s 4)
  a_call j x y z =
      go (eqb (u16_at s 2) 16)
      (sym (simp (ne_eqb _ _ x, ne_eqb _ _ y, ne_eqb _ _ z)) ∙ e)
    where
      go : (b : Bool) → cond b (some (Record.Call (byte_at s 4))) none ≡ jump_in rec → rec ≡ Record.Call (byte_at s 4)
      go true f = jump_by rec _ (sym f)
      go false f = none_jumps rec _ j f

  -- a test that holds of no working record
  such_in : (p : Record → Bool) → ((w : Work) → p (Record.Work w) ≡ false) → such p (jump_encoded s) ≡ p rec
  such_in p h = ap (such p) e ∙ go rec
    where
      go : (r : Record) → such p (jump_in r) ≡ p r
      go (Record.Work w) = sym (h w)
      go (Record.Label m) = refl
      go (Record.Branch m) = refl
      go (Record.Call m) = refl
      go (Record.BranchIf c m x) = refl

  pub such-label : (l : ℕ) → such (is_label l) (jump_encoded s) ≡ is_label l rec
  unfolding is_label
  such-label l = such_in (is_label l) (λ w. refl)

  pub such-return : such is_return (jump_encoded s) ≡ is_return rec
  unfolding is_return
  such-return = such_in is_return (λ w. refl)

-- what each kind encodes
pub label_of : (kind : ℕ) (s : List ℕ) (l : ℕ) → such (is_label l) (jump_of kind s) ≡ cond (eqb kind 14) (eqb (byte_at s 4) l) false
unfolding is_label
label_of kind s l = go (eqb kind 14) (eqb kind 15) (eqb kind 16) (eqb kind 17)
  where
    go : (a b c d : Bool)
        → such (is_label l)
        (cond a (some (Record.Label (byte_at s 4)))
        (cond b (some (Record.Branch (byte_at s 4)))
        (cond c (some (Record.Call (byte_at s 4)))
        (cond d (some (Record.BranchIf (byte_at s 4) (byte_at s 5) (eqb (byte_at s 6) 1))) none))))
        ≡ cond a (eqb (byte_at s 4) l) false
    go true b c d = refl
    go false true c d = refl
    go false false true d = refl
    go false false false true = refl
    go false false false false = refl

pub return_at : (s : List ℕ) → u16_at s 2 ≡ 15 → such is_return (jump_encoded s) ≡ eqb (byte_at s 4) 0
unfolding is_return
return_at s e = ap (λ k. such is_return (jump_of k s)) e

pub return_of : (s : List ℕ) → (u16_at s 2 ≡ 15 → ⊥) → such is_return (jump_encoded s) ≡ false
unfolding is_return
return_of s n =
    go (eqb (u16_at s 2) 14) (eqb (u16_at s 2) 15) (eqb (u16_at s 2) 16) (eqb (u16_at s 2) 17) (λ e. n (eqb-true (u16_at s 2) 15 e))
  where
    go : (a b c d : Bool) → (b ≡ true → ⊥)
        → such is_return
        (cond a (some (Record.Label (byte_at s 4)))
        (cond b (some (Record.Branch (byte_at s 4)))
        (cond c (some (Record.Call (byte_at s 4)))
        (cond d (some (Record.BranchIf (byte_at s 4) (byte_at s 5) (eqb (byte_at s 6) 1))) none))))
        ≡ false
    go true b c d n = refl
    go false true c d n = absurd (n refl)
    go false false true d n = refl
    go false false false true n = refl
    go false false false false n = refl
