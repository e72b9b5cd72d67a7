-- What is read from bytes is a record that a listing can hold.
use Prim.Native.Nat.{ℕ}
use mathlib.Core.Path.{◌≡◌}
use mathlib.Core.Bool.{true}
use mathlib.Core.List.{List}
use native.Mathlib.Omega.{arith}
use lib.Dec.{ltb, eqb}
use Rattle.mir.specs.declared.records.Work.{Work}
use Rattle.mir.specs.declared.records.Record.{Record}
use Rattle.mir.specs.Operation.{arith_ops}
use Rattle.mir.specs.Takes.{takes_arith}
use Rattle.mir.specs.Read.{got}
use Rattle.mir.specs.Field.{byte_at, bytes_at, u16_at, takes_kind}
use Rattle.mir.proofs.IfRead.{IfRead, read, told, if_got, tested, parted, chosen, limited, operation, place, save, head}
use Rattle.mir.proofs.ByKind.{uni, bi, mov, load, saving, load-const, fused, if-else}
use Rattle.mir.proofs.Decoding.{Bytes, items, each}
use Rattle.records.specs.Record.{fields_from, record_from}
use Rattle.records.proofs.Holding.{Holds, AllHold}

-- kind by kind
held_fields : (count kind : ℕ) (s : List ℕ) → IfRead (λ r. Bytes s → Holds count r) (fields_from count kind s)
unfolding fields_from u16_at
held_fields count kind s =
    let b = byte_at s in
    chosen kind 1 (λ k. uni true s (λ op d a. Record.Work (Work.Uni op d a)) (λ op d a t x y bytes. (t, x, y)))
    (chosen kind 2 (λ k. bi true s (λ op d a b. Record.Work (Work.Bi op d a b)) (λ op d a b t x y z bytes. (t, x, y, z)))
    (chosen kind 3 (λ k. mov true s (λ d a. Record.Work (Work.Mov d a)) (λ d a x y bytes. (x, y)))
    (chosen kind 4 (λ k. load true s (λ d p. Record.Work (Work.Load d p)) (λ d p x q bytes. (x, q)))
    (chosen kind 5 (λ k. saving true s (λ a p. Record.Work (Work.Save a p)) (λ a p x q bytes. (x, q)))
    (chosen kind 6 (λ k. load-const true s (λ d i. Record.Work (Work.LoadConst d i)) count (λ d x c bytes. (x, c, omega (arith, bytes 5, bytes 6))))
    (chosen kind 7 (λ k. fused true s (λ op d a b c. Record.Work (Work.Fused op d a b c)) (λ op d a b c t x y z w bytes. (t, x, y, z, w)))
    (chosen kind 8 (λ k. if-else true s (λ d a b p. Record.Work (Work.IfElse d a b p)) (λ d a b p x y z q bytes. (x, y, z, q)))
    (chosen kind 11
    (λ k. limited 65 (bytes_at s 4 2)
    (λ l. parted (place s 6) (λ p q. read {a = Record.Work (Work.LoadComplex (b 4) (b 5) p)} (λ bytes. (l.0, l.1.0, q)))))
    (chosen kind 12
    (λ k. limited 65 (bytes_at s 4 2)
    (λ l. parted (save s 6) (λ p q. read {a = Record.Work (Work.SaveComplex (b 4) (b 5) p)} (λ bytes. (l.0, l.1.0, q)))))
    (chosen kind 13
    (λ k. parted (operation takes_arith arith_ops (b 4)) (λ op t. limited 65 (bytes_at s 5 6)
    (λ l. read {a = Record.Work (Work.ComplexBi op (b 5) (b 6) (b 7) (b 8) (b 9) (b 10))}
    (λ bytes. (l.0, l.1.0, l.1.1.0, l.1.1.1.0, l.1.1.1.1.0, l.1.1.1.1.1.0)))))
    (chosen kind 14 (λ k. read {a = Record.Label (b 4)} (λ bytes. tt))
    (chosen kind 15 (λ k. read {a = Record.Branch (b 4)} (λ bytes. tt))
    (chosen kind 16 (λ k. read {a = Record.Call (b 4)} (λ bytes. tt))
    (chosen kind 17
    (λ k. tested (ltb 1 (b 6)) 1
    (λ e. limited 65 (bytes_at s 4 1) (λ l. read {a = Record.BranchIf (b 4) (b 5) (eqb (b 6) 1)} (λ bytes. l.0))))
    told))))))))))))))

pub one_held : (count : ℕ) (s : List ℕ) → IfRead (λ r. Bytes s → Holds count r) (record_from count s)
unfolding record_from
one_held count s = parted (head (takes_kind true) s) (λ kind h. held_fields count kind s)

pub held : (count : ℕ) (s : List ℕ) (r : Record) → Bytes s → record_from count s ≡ got r → Holds count r
held count s r b e = if_got (one_held count s) e b

-- and so is every record that is decoded
pub all_held : (count : ℕ) (s : List ℕ) → Bytes s → AllHold count (items (record_from count) s)
all_held count s b = each (Holds count) (record_from count) (λ s r b e. held count s r b e) s b
