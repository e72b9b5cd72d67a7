-- A walk over the bytes of records: what the first bytes of each say, and that what they add up to is what the records hold.
use Prim.Native.Nat.{ℕ, suc, ◌+◌, ◌≤◌, ◌<◌}
use mathlib.Core.Path.{◌≡◌, refl, sym, ap, ◌∙◌, subst}
use mathlib.Core.Bool.{Bool, true, false, cond}
use mathlib.Core.List.{List, [], ◌∷◌, ◌++◌}
use native.Mathlib.Omega.{arith}
use native.Mathlib.Nat.{zero-add, add-zero}
use borrow.Author.Tests.{lt-ltb, ltb-true, ne_eqb}
use lib.ListN.{length, drop, get_or, length-append, length-drop, drop_of_length-le}
use lib.Seq.{get_or-drop, drop-drop}
use lib.Dec.{ltb, eqb}
use Rattle.mir.specs.declared.records.Work.{Work}
use Rattle.mir.specs.declared.records.Record.{Record}
use Rattle.mir.specs.Length.{length_of}
use Rattle.mir.specs.Encode.{record_of, encode, encode_all}
use Rattle.player_machine.specs.Machine.{works, is_label, seek, block}
use Rattle.player_machine.specs.Jumps.{bit, tally}
use Rattle.player_machine.specs.Count.{is_call}
use Rattle.figures.specs.declared.counting.Count.{Count}
use Rattle.figures.specs.declared.counting.BlockPart.{BlockPart}
use Rattle.figures.specs.declared.counting.BlockStep.{BlockStep}
use Rattle.lowering.specs.Labels.{Role}
use Rattle.figures.specs.Shelf.{block_in, branch_of, counted}
use Rattle.figures.specs.Walk.{calls_of, block_step, StagedBytes}

-- ---- one record

abbrev kind_of : Record → ℕ
kind_of r = get_or (encode r) 2 0

abbrev label_of : Record → ℕ
label_of r = get_or (encode r) 4 0

-- the bytes that the walk reads, whatever stands behind the record
pub record Encoded (r : Record) (l : List ℕ) : Type 0 where
  pub size : get_or (encode r ++ l) 0 0 ≡ length (encode r)
  pub kind : get_or (encode r ++ l) 2 0 ≡ kind_of r
  pub label : get_or (encode r ++ l) 4 0 ≡ label_of r
  pub long : 4 ≤ length (encode r)

pub encoded : (r : Record) (l : List ℕ) → Encoded r l
unfolding record_of length_of
encoded (Record.Work (Work.Uni op dst s1)) l = record { size = refl; kind = refl; label = refl; long = omega arith }
encoded (Record.Work (Work.Bi op dst s1 s2)) l = record { size = refl; kind = refl; label = refl; long = omega arith }
encoded (Record.Work (Work.Mov dst s1)) l = record { size = refl; kind = refl; label = refl; long = omega arith }
encoded (Record.Work (Work.Load dst loc)) l = record { size = refl; kind = refl; label = refl; long = omega arith }
encoded (Record.Work (Work.Save src loc)) l = record { size = refl; kind = refl; label = refl; long = omega arith }
encoded (Record.Work (Work.LoadConst dst idx)) l = record { size = refl; kind = refl; label = refl; long = omega arith }
encoded (Record.Work (Work.Fused op dst a b k)) l = record { size = refl; kind = refl; label = refl; long = omega arith }
encoded (Record.Work (Work.IfElse dst t f loc)) l = record { size = refl; kind = refl; label = refl; long = omega arith }
encoded (Record.Work (Work.LoadComplex xd yd loc)) l = record { size = refl; kind = refl; label = refl; long = omega arith }
encoded (Record.Work (Work.SaveComplex xs ys loc)) l = record { size = refl; kind = refl; label = refl; long = omega arith }
encoded (Record.Work (Work.ComplexBi op xd yd x1 y1 x2 y2)) l = record { size = refl; kind = refl; label = refl; long = omega arith }
encoded (Record.Label m) l = record { size = refl; kind = refl; label = refl; long = omega arith }
encoded (Record.Branch m) l = record { size = refl; kind = refl; label = refl; long = omega arith }
encoded (Record.Call m) l = record { size = refl; kind = refl; label = refl; long = omega arith }
encoded (Record.BranchIf c m e) l = record { size = refl; kind = refl; label = refl; long = omega arith }

-- working records have the kinds below Label's
work_kind : (w : Work) → ltb (kind_of (Record.Work w)) 14 ≡ true
unfolding record_of length_of
work_kind (Work.Uni op dst s1) = refl
work_kind (Work.Bi op dst s1 s2) = refl
work_kind (Work.Mov dst s1) = refl
work_kind (Work.Load dst loc) = refl
work_kind (Work.Save src loc) = refl
work_kind (Work.LoadConst dst idx) = refl
work_kind (Work.Fused op dst a b k) = refl
work_kind (Work.IfElse dst t f loc) = refl
work_kind (Work.LoadComplex xd yd loc) = refl
work_kind (Work.SaveComplex xs ys loc) = refl
work_kind (Work.ComplexBi op xd yd x1 y1 x2 y2) = refl

other_kind : (w : Work) (k : ℕ) → 14 ≤ k → eqb (kind_of (Record.Work w)) k ≡ false
other_kind w k h = let l = ltb-true (kind_of (Record.Work w)) 14 (work_kind w) in ne_eqb _ k (λ e. absurd (omega (arith, l, e, h)))

calls_seen : (r : Record) → bit (is_call r) ≡ calls_of (kind_of r)
unfolding record_of length_of
calls_seen (Record.Work w) = rw (other_kind w 16 (omega arith)) refl
calls_seen (Record.Label l) = refl
calls_seen (Record.Branch l) = refl
calls_seen (Record.Call l) = refl
calls_seen (Record.BranchIf c l e) = refl

-- ---- the block's records among those that are left

abbrev tail : BlockPart → List Record → ℕ
tail BlockPart.Before rs = block_in rs
tail BlockPart.Inside rs = length (works rs)
tail BlockPart.Behind rs = 0

passed : (r : Record) (rs : List Record) → is_label 1 r ≡ false → block_in (r ∷ rs) ≡ 0 + block_in rs
unfolding block_in tally block seek
passed r rs e = rw (e, zero-add (tally (is_label 1) rs)) (sym (zero-add (block_in rs)))

opened : (l : ℕ) (rs : List Record) → eqb l 1 ≡ true → block_in (Record.Label l ∷ rs) ≡ 2 + length (works rs)
unfolding block_in tally block seek is_label
opened l rs e = rw (e, lt-ltb 0 (1 + tally (is_label 1) rs) (omega arith)) refl

tail_none : (p : BlockPart) → tail p [] ≡ 0
unfolding block_in tally works
tail_none BlockPart.Before = refl
tail_none BlockPart.Inside = refl
tail_none BlockPart.Behind = refl

-- Label 1, or another
abbrev opening : Bool → BlockStep
opening x = cond x (record { adds = 2; next = BlockPart.Inside }) (record { adds = 0; next = BlockPart.Before })

labelled : (l : ℕ) (rs : List Record) (x : Bool) → eqb l 1 ≡ x → block_in (Record.Label l ∷ rs) ≡ (opening x).adds + tail (opening x).next rs
labelled l rs true e = opened l rs e
labelled l rs false e = unfold is_label in passed (Record.Label l) rs e

block_seen : (p : BlockPart) (r : Record) (rs : List Record)
    → tail p (r ∷ rs) ≡ (block_step p (kind_of r) (label_of r)).adds + tail (block_step p (kind_of r) (label_of r)).next rs
unfolding record_of length_of works is_label
block_seen BlockPart.Before (Record.Work w) rs = rw (other_kind w 14 (omega arith)) (passed (Record.Work w) rs refl)
block_seen BlockPart.Before (Record.Label l) rs = labelled l rs (eqb l 1) refl
block_seen BlockPart.Before (Record.Branch l) rs = passed (Record.Branch l) rs refl
block_seen BlockPart.Before (Record.Call l) rs = passed (Record.Call l) rs refl
block_seen BlockPart.Before (Record.BranchIf c l e) rs = passed (Record.BranchIf c l e) rs refl
block_seen BlockPart.Inside (Record.Work w) rs = rw (work_kind w) (omega arith)
block_seen BlockPart.Inside (Record.Label l) rs = refl
block_seen BlockPart.Inside (Record.Branch l) rs = refl
block_seen BlockPart.Inside (Record.Call l) rs = refl
block_seen BlockPart.Inside (Record.BranchIf c l e) rs = refl
block_seen BlockPart.Behind (Record.Work w) rs = refl
block_seen BlockPart.Behind (Record.Label l) rs = refl
block_seen BlockPart.Behind (Record.Branch l) rs = refl
block_seen BlockPart.Behind (Record.Call l) rs = refl
block_seen BlockPart.Behind (Record.BranchIf c l e) rs = refl

-- ---- how much a record adds at most

pub calls_few : (k : ℕ) → calls_of k ≤ 1
calls_few k = go (eqb k 16)
  where
    go : (x : Bool) → cond x 1 0 ≤ 1
    go true = omega arith
    go false = omega arith

pub block_few : (p : BlockPart) (k l : ℕ) → (block_step p k l).adds ≤ 2
block_few BlockPart.Before k l = go (eqb k 14) (eqb l 1)
  where
    go : (x y : Bool) → (cond x (opening y) (opening false)).adds ≤ 2
    go true true = omega arith
    go true false = omega arith
    go false y = omega arith
block_few BlockPart.Inside k l = go (ltb k 14)
  where
    inside : Bool → BlockStep
    inside x = cond x (record { adds = 1; next = BlockPart.Inside }) (record { adds = 0; next = BlockPart.Behind })

    go : (x : Bool) → (inside x).adds ≤ 2
    go true = omega arith
    go false = omega arith
block_few BlockPart.Behind k l = omega arith

-- ---- the walk

-- at a position: the records that are left, and what is counted with them is what all hold
pub record Rest (bytes : List ℕ) (c : Count) (rs : List Record) (at n m b : ℕ) (p : BlockPart) : Type 0 where
  pub left : List Record
  pub here : drop at bytes ≡ encode_all left
  pub records : n + length left ≡ c.records + length rs
  pub calls : m + tally is_call left ≡ c.calls + tally is_call rs
  pub block : b + tail p left ≡ c.block + block_in rs

pub begin : (bytes : List ℕ) (c : Count) (rs : List Record) → bytes ≡ encode_all rs → Rest bytes c rs 0 c.records c.calls c.block BlockPart.Before
begin bytes c rs e = record { left = rs; here = e; records = refl; calls = refl; block = refl }

past : (a b : List ℕ) → drop (length a) (a ++ b) ≡ b
past [] b = refl
past (x ∷ a) b = past a b

-- a byte of what stands at a position
read : (bytes l : List ℕ) (at i : ℕ) → drop at bytes ≡ l → get_or bytes (at + i) 0 ≡ get_or l i 0
read bytes l at i e = sym (get_or-drop at bytes i 0) ∙ ap (λ (s : List ℕ). get_or s i 0) e

-- one record
pub record Stepped (bytes : List ℕ) (c : Count) (rs : List Record) (at n m b : ℕ) (p : BlockPart) (size kind label : ℕ) : Type 0 where
  pub rest : Rest bytes c rs (at + size) (n + 1) (m + calls_of kind) (b + (block_step p kind label).adds) (block_step p kind label).next
  pub long : 4 ≤ size
  pub fits : at + size ≤ length bytes

module _ {bytes : List ℕ} {c : Count} {rs : List Record} {at n m b : ℕ} {p : BlockPart} where
  walked : (r : Record) (l : List Record) → at < length bytes → drop at bytes ≡ encode r ++ encode_all l
      → n + suc (length l) ≡ c.records + length rs → m + (bit (is_call r) + tally is_call l) ≡ c.calls + tally is_call rs
      → b + tail p (r ∷ l) ≡ c.block + block_in rs
      → Stepped bytes c rs at n m b p (length (encode r)) (kind_of r) (label_of r)
  walked r l h e x y z =
      let s = encoded r (encode_all l) in
      let g = length-drop at bytes in
      let k : length (drop at bytes) ≡ length (encode r) + length (encode_all l) = ap length e ∙ length-append (encode r) (encode_all l) in
      let q = calls_seen r in
      let v = block_seen p r l in
      record {
        rest = record {
          left = l;
          here = sym (drop-drop (length (encode r)) at bytes) ∙ ap (drop (length (encode r))) e ∙ past (encode r) (encode_all l);
          records = omega (arith, x);
          calls = omega (arith, y, q);
          block = omega (arith, z, v);
        };
        long = s.long;
        fits = omega (arith, g, k, h);
      }

  pub step : Rest bytes c rs at n m b p → at < length bytes → {size kind label : ℕ} → size ≡ get_or bytes at 0 → kind ≡ get_or bytes (at + 2) 0
      → label ≡ get_or bytes (at + 4) 0 → Stepped bytes c rs at n m b p size kind label
  unfolding tally
  step s h {size} {kind} {label} e f g = go s.left s.here s.records s.calls s.block
    where
      go : (l : List Record) → drop at bytes ≡ encode_all l → n + length l ≡ c.records + length rs
          → m + tally is_call l ≡ c.calls + tally is_call rs → b + tail p l ≡ c.block + block_in rs
          → Stepped bytes c rs at n m b p size kind label
      go [] d x y z = let g = length-drop at bytes in let q : length (drop at bytes) ≡ 0 = ap length d in absurd (omega (arith, g, q, h))
      go (r ∷ l) d x y z =
          let t = encoded r (encode_all l) in
          let i : size ≡ length (encode r) = e ∙ ap (λ j. get_or bytes j 0) (sym (add-zero at)) ∙ read bytes (encode r ++ encode_all l) at 0 d ∙ t.size in
          let j : kind ≡ kind_of r = f ∙ read bytes (encode r ++ encode_all l) at 2 d ∙ t.kind in
          let k : label ≡ label_of r = g ∙ read bytes (encode r ++ encode_all l) at 4 d ∙ t.label in
          subst (λ a. Stepped bytes c rs at n m b p a kind label) (sym i)
          (subst (λ a. Stepped bytes c rs at n m b p (length (encode r)) a label) (sym j)
          (subst (λ a. Stepped bytes c rs at n m b p (length (encode r)) (kind_of r) a) (sym k) (walked r l h d x y z)))

  -- where no record is left, all are counted
  pub finish : Rest bytes c rs at n m b p → length bytes ≤ at → {x : ℕ} (i : Role) → x ≡ branch_of i → bytes ≡ encode_all rs
      → record { bytes = c.bytes + length bytes; records = n; calls = m; block = b; branches = c.branches + x } ≡ counted c i rs
  unfolding tally counted
  finish s h {x} i f e = go s.left s.here s.records s.calls s.block
    where
      go : (l : List Record) → drop at bytes ≡ encode_all l → n + length l ≡ c.records + length rs
          → m + tally is_call l ≡ c.calls + tally is_call rs → b + tail p l ≡ c.block + block_in rs
          → record { bytes = c.bytes + length bytes; records = n; calls = m; block = b; branches = c.branches + x } ≡ counted c i rs
      go [] d y z w =
          let u : n ≡ c.records + length rs = omega (arith, y) in
          let v : m ≡ c.calls + tally is_call rs = omega (arith, z) in
          let q : b ≡ c.block + block_in rs = let o = tail_none p in omega (arith, w, o) in
          λ j. record { bytes = c.bytes + length (e j); records = u j; calls = v j; block = q j; branches = c.branches + f j }
      go (r ∷ l) d y z w =
          let s = encoded r (encode_all l) in
          let q : length (encode_all (r ∷ l)) ≡ 0 = ap length (sym d ∙ drop_of_length-le bytes h) in
          let k = length-append (encode r) (encode_all l) in
          absurd (omega (arith, q, k, s.long))

-- ---- the loop

-- what holds before each record; a record has four bytes at least, so the counts grow no faster than the position
pub record Walking (bytes : List ℕ) (c : Count) (at n m b : ℕ) (p : BlockPart) : Type 0 where
  pub rest : (rs : List Record) → bytes ≡ encode_all rs → Rest bytes c rs at n m b p
  pub inside : at ≤ length bytes
  pub records : n ≤ c.records + at
  pub calls : m ≤ c.calls + at
  pub block : b ≤ c.block + at

pub walking_first : (bytes : List ℕ) (c : Count) → Walking bytes c 0 c.records c.calls c.block BlockPart.Before
walking_first bytes c =
    record { rest = λ rs e. begin bytes c rs e; inside = omega arith; records = omega arith; calls = omega arith; block = omega arith }

module _ {bytes : List ℕ} {c : Count} {at n m b : ℕ} {p : BlockPart} (v : Walking bytes c at n m b p) (l : StagedBytes bytes) (h : at < length bytes)
    {size kind label : ℕ} (e : size ≡ get_or bytes at 0) (f : kind ≡ get_or bytes (at + 2) 0) (g : label ≡ get_or bytes (at + 4) 0) where
  pub forth : Stepped bytes c l.records at n m b p size kind label
  forth = step (v.rest l.records l.same) h e f g

  pub walking-next : {cs : ℕ} {t : BlockStep} → cs ≡ calls_of kind → t ≡ block_step p kind label
      → Walking bytes c (at + size) (n + 1) (m + cs) (b + t.adds) t.next
  walking-next {cs} {t} x y =
      let s = forth in
      let i = calls_few kind in
      let j = block_few p kind label in
      let k : t.adds ≡ (block_step p kind label).adds = ap (λ (t : BlockStep). t.adds) y in
      record {
        rest = λ rs q.
            subst (λ cs. Rest bytes c rs (at + size) (n + 1) (m + cs) (b + t.adds) t.next) (sym x)
            (subst (λ (t : BlockStep). Rest bytes c rs (at + size) (n + 1) (m + calls_of kind) (b + t.adds) t.next) (sym y)
            (step (v.rest rs q) h e f g).rest);
        inside = s.fits;
        records = omega (arith, s.long, v.records);
        calls = omega (arith, s.long, v.calls, i, x);
        block = omega (arith, s.long, v.block, j, k);
      }
