-- The records of a listing: their fields fit their widths, and there are no more of them than bytes.
use Prim.Native.Nat.{ℕ, zero, suc, pred, ◌≤◌, ◌<◌}
use mathlib.Core.Bool.{true}
use mathlib.Core.List.{List, [], ◌∷◌}
use native.Mathlib.Omega.{arith}
use lib.Dec.{ltb, eqb}
use lib.ListN.{length}
use Rattle.mir.specs.declared.records.Loc.{Loc}
use Rattle.mir.specs.declared.records.Work.{Work}
use Rattle.mir.specs.declared.records.Record.{Record}
use Rattle.mir.specs.Operation.{arith_ops}
use Rattle.mir.specs.Takes.{takes_arith}
use Rattle.mir.specs.Read.{Read, got, refused}
use Rattle.mir.specs.Field.{byte_at, bytes_at, u16_at, takes_kind}
use Rattle.mir.specs.Decode.{Decoded, onto, decoded_from, decoded}
use Rattle.mir.proofs.IfRead.{IfRead, read, told, if_got, tested, parted, chosen, limited, operation, place, save, head, Saved, Stacked}
use Rattle.mir.proofs.ByKind.{uni, bi, mov, load, saving, load-const, fused, if-else}
use Rattle.mir.proofs.Decoding.{Bytes, Each, items, each}
use Rattle.records.specs.Record.{fields_from, record_from}
use Rattle.text.specs.Sized.{SizedPlace, SizedRecord}

low : {r : ℕ} → r ≤ 65 → r < 256
low h = omega (arith, h)

near : {i : ℕ} → i ≤ 255 → i < 65536
near h = omega (arith, h)

saved : (p : Loc) → Saved p → SizedPlace p
saved (Loc.Stack i) h = near h
saved (Loc.Mem i) h = near h
saved (Loc.Param i) h = absurd h

stacked : (p : Loc) → Stacked p → SizedPlace p
stacked (Loc.Stack i) h = near h
stacked (Loc.Mem i) h = absurd h
stacked (Loc.Param i) h = absurd h

-- kind by kind
sized_fields : (count kind : ℕ) (s : List ℕ) → IfRead (λ r. Bytes s → SizedRecord r) (fields_from count kind s)
unfolding fields_from u16_at
sized_fields count kind s =
    let b = byte_at s in
    chosen kind 1 (λ k. uni true s (λ op d a. Record.Work (Work.Uni op d a)) (λ op d a t x y bytes. (low x, low y)))
    (chosen kind 2 (λ k. bi true s (λ op d a b. Record.Work (Work.Bi op d a b)) (λ op d a b t x y z bytes. (low x, low y, low z)))
    (chosen kind 3 (λ k. mov true s (λ d a. Record.Work (Work.Mov d a)) (λ d a x y bytes. (low x, low y)))
    (chosen kind 4 (λ k. load true s (λ d p. Record.Work (Work.Load d p)) (λ d p x q bytes. (low x, near q)))
    (chosen kind 5 (λ k. saving true s (λ a p. Record.Work (Work.Save a p)) (λ a p x q bytes. (low x, saved p q)))
    (chosen kind 6 (λ k. load-const true s (λ d i. Record.Work (Work.LoadConst d i)) count (λ d x c bytes. (low x, omega (arith, bytes 5, bytes 6))))
    (chosen kind 7 (λ k. fused true s (λ op d a b c. Record.Work (Work.Fused op d a b c)) (λ op d a b c t x y z w bytes. (low x, low y, low z, low w)))
    (chosen kind 8 (λ k. if-else true s (λ d a b p. Record.Work (Work.IfElse d a b p)) (λ d a b p x y z q bytes. (low x, low y, low z, stacked p q)))
    (chosen kind 11
    (λ k. limited 65 (bytes_at s 4 2)
    (λ l. parted (place s 6) (λ p q. read {a = Record.Work (Work.LoadComplex (b 4) (b 5) p)} (λ bytes. (bytes 4, bytes 5, near q)))))
    (chosen kind 12
    (λ k. limited 65 (bytes_at s 4 2)
    (λ l. parted (save s 6) (λ p q. read {a = Record.Work (Work.SaveComplex (b 4) (b 5) p)} (λ bytes. (bytes 4, bytes 5, saved p q)))))
    (chosen kind 13
    (λ k. parted (operation takes_arith arith_ops (b 4)) (λ op t. limited 65 (bytes_at s 5 6)
    (λ l. read {a = Record.Work (Work.ComplexBi op (b 5) (b 6) (b 7) (b 8) (b 9) (b 10))}
    (λ bytes. (bytes 5, bytes 6, bytes 7, bytes 8, bytes 9, bytes 10)))))
    (chosen kind 14 (λ k. read {a = Record.Label (b 4)} (λ bytes. bytes 4))
    (chosen kind 15 (λ k. read {a = Record.Branch (b 4)} (λ bytes. bytes 4))
    (chosen kind 16 (λ k. read {a = Record.Call (b 4)} (λ bytes. bytes 4))
    (chosen kind 17
    (λ k. tested (ltb 1 (b 6)) 1
    (λ e. limited 65 (bytes_at s 4 1) (λ l. read {a = Record.BranchIf (b 4) (b 5) (eqb (b 6) 1)} (λ bytes. (bytes 4, bytes 5)))))
    told))))))))))))))

sized : (count : ℕ) (s : List ℕ) → IfRead (λ r. Bytes s → SizedRecord r) (record_from count s)
unfolding record_from
sized count s = parted (head (takes_kind true) s) (λ kind h. sized_fields count kind s)

pub all_sized : (count : ℕ) (s : List ℕ) → Bytes s → Each SizedRecord (items (record_from count) s)
all_sized count s b = each SizedRecord (record_from count) (λ s r b e. if_got (sized count s) e b) s b

-- each record takes a byte at least
onto_few : {A : Type 0} (x : Read A) (f : A → Decoded A) (n : ℕ) → ((a : A) → length (f a).items ≤ n) → length (onto x f).items ≤ suc n
onto_few (got a) f n h = let i = h a in omega (arith, i)
onto_few (refused k) f n h = omega arith

few_from : {A : Type 0} (reader : List ℕ → Read A) (s : List ℕ) (k : ℕ) → length (decoded_from reader s k).items ≤ length s
unfolding decoded_from
few_from reader [] k = omega arith
few_from reader (b ∷ s) zero =
    onto_few (reader (b ∷ s)) (λ a. decoded_from reader s (pred (u16_at (b ∷ s) 0))) (length s)
    (λ a. few_from reader s (pred (u16_at (b ∷ s) 0)))
few_from reader (b ∷ s) (suc k) = let i = few_from reader s k in omega (arith, i)

pub few : (count : ℕ) (s : List ℕ) → length (items (record_from count) s) ≤ length s
unfolding decoded
few count s = few_from (record_from count) s 0
