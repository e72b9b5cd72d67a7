-- A record that is read has as many bytes as its own.
use Prim.Native.Nat.{ℕ, ◌+◌}
use mathlib.Core.Path.{◌≡◌, refl, sym, ap, ◌∙◌}
use mathlib.Core.Bool.{true}
use mathlib.Core.List.{List}
use lib.ListN.{length, drop}
use lib.Dec.{ltb}
use Rattle.mir.specs.declared.records.Work.{Work}
use Rattle.mir.specs.declared.records.Record.{Record}
use Rattle.mir.specs.Length.{length_of}
use Rattle.mir.specs.Encode.{record_of, encode}
use Rattle.mir.specs.Read.{got}
use Rattle.mir.specs.Operation.{arith_ops}
use Rattle.mir.specs.Takes.{takes_arith}
use Rattle.mir.specs.Field.{byte_at, bytes_at, u16_at, takes_kind, head_from}
use Rattle.mir.specs.Decode.{read_at}
use Rattle.mir.proofs.Passing.{then, got_same}
use Rattle.mir.proofs.Heads.{headed}
use Rattle.mir.proofs.IfRead.{IfRead, read, told, if_got, tested, parted, chosen, limited, operation, place, save}
use Rattle.mir.proofs.ByKind.{uni, bi, mov, load, saving, load-const, fused, if-else}
use Rattle.records.specs.Record.{fields_from, record_from, record_at}

-- what is read of a kind has the kind's length
module _ (count kind : ℕ) (s : List ℕ) where
  abbrev Fits : Record → Type 0
  Fits r = length (encode r) ≡ length_of kind

  fits : {size : ℕ} (n : ℕ) → kind ≡ n → size ≡ length_of n → size ≡ length_of kind
  fits n k e = e ∙ ap length_of (sym k)

  fields-size : IfRead Fits (fields_from count kind s)
  unfolding fields_from record_of
  fields-size =
      let b = byte_at s in
      chosen kind 1 (λ k. uni true s (λ op d a. Record.Work (Work.Uni op d a)) (λ op d a t x y. fits 1 k refl))
      (chosen kind 2 (λ k. bi true s (λ op d a b. Record.Work (Work.Bi op d a b)) (λ op d a b t x y z. fits 2 k refl))
      (chosen kind 3 (λ k. mov true s (λ d a. Record.Work (Work.Mov d a)) (λ d a x y. fits 3 k refl))
      (chosen kind 4 (λ k. load true s (λ d p. Record.Work (Work.Load d p)) (λ d p x q. fits 4 k refl))
      (chosen kind 5 (λ k. saving true s (λ a p. Record.Work (Work.Save a p)) (λ a p x q. fits 5 k refl))
      (chosen kind 6 (λ k. load-const true s (λ d i. Record.Work (Work.LoadConst d i)) count (λ d x c. fits 6 k refl))
      (chosen kind 7 (λ k. fused true s (λ op d a b c. Record.Work (Work.Fused op d a b c)) (λ op d a b c t x y z w. fits 7 k refl))
      (chosen kind 8 (λ k. if-else true s (λ d a b p. Record.Work (Work.IfElse d a b p)) (λ d a b p x y z q. fits 8 k refl))
      (chosen kind 11 (λ k. limited 65 (bytes_at s 4 2) (λ l. parted (place s 6) (λ p q. read (fits 11 k refl))))
      (chosen kind 12 (λ k. limited 65 (bytes_at s 4 2) (λ l. parted (save s 6) (λ p q. read (fits 12 k refl))))
      (chosen kind 13 (λ k. parted (operation takes_arith arith_ops (b 4)) (λ op t. limited 65 (bytes_at s 5 6) (λ l. read (fits 13 k refl))))
      (chosen kind 14 (λ k. read (fits 14 k refl))
      (chosen kind 15 (λ k. read (fits 15 k refl))
      (chosen kind 16 (λ k. read (fits 16 k refl))
      (chosen kind 17 (λ k. tested (ltb 1 (b 6)) 1 (λ e. limited 65 (bytes_at s 4 1) (λ l. read (fits 17 k refl))))
      told))))))))))))))

-- a record at a position reaches to the next
pub sized : (count : ℕ) (s : List ℕ) (at : ℕ) (r : Record) (next : ℕ) → record_at count s at ≡ got (record { item = r; next = next })
    → at + length (encode r) ≡ next
unfolding read_at record_from
sized count s at r next e =
    let t = then (record_from count (drop at s)) (λ a. got (record { item = a; next = at + u16_at (drop at s) 0 })) (record { item = r; next = next }) e in
    let y = got_same _ _ t.rest in
    let h = then (head_from (takes_kind true) (drop at s)) (λ kind. fields_from count kind (drop at s)) t.first t.found in
    let k = headed (takes_kind true) (drop at s) h.first h.found in
    ap (λ r. at + length (encode r)) (sym (ap (λ y. y.item) y))
    ∙ ap (λ n. at + n) (if_got (fields-size count h.first (drop at s)) h.rest ∙ ap length_of k.same ∙ k.sized.rule)
    ∙ ap (λ y. y.next) y
