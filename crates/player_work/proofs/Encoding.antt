-- A record that is read from bytes is the record that they encode.
use Prim.Native.Nat.{ℕ}
use mathlib.Core.Path.{◌≡◌, refl, sym, ap, ◌∙◌}
use mathlib.Core.Bool.{Bool, true, false, cond}
use mathlib.Core.List.{List, [], ◌∷◌}
use mathlib.Core.Option.{Option, none, some}
use lib.Dec.{ltb, leb, eqb}
use Rattle.mir.specs.declared.records.Loc.{Loc}
use Rattle.mir.specs.declared.records.Work.{Work}
use Rattle.mir.specs.declared.records.Record.{Record}
use Rattle.mir.specs.Operation.{uni_ops, bin_ops, arith_ops, fused_ops, taken}
use Rattle.mir.specs.Read.{Read, got, refused, and_then, above, registers}
use Rattle.mir.specs.Field.{byte_at, u16_at, takes_kind, head_from, place_at, saved_to, save_place, on_stack, cond_place}
use Rattle.mir.proofs.Passing.{passed, then, got_same, clash}
use Rattle.mir.proofs.Heads.{headed}
use Rattle.mir.specs.Takes.{takes_uni, takes_bin, takes_arith, takes_fused}
use Rattle.mir.specs.Kinds.{uni_from, bi_from, mov_from, load_from, save_from, load_const_from, fused_from, if_else_from}
use Rattle.records.specs.Record.{load_complex_from, save_complex_from, complex_bi_from, label_from, branch_from, call_from, branch_if_from, fields_from, record_from}
use Rattle.player_work.specs.Encoded.{of_part, work_in, uni_encoded, bi_encoded, mov_encoded, load_encoded, save_encoded, load_const_encoded, fused_encoded, if_else_encoded, load_complex_encoded, save_complex_encoded, complex_bi_encoded, encoded}

-- registers that were not refused
low : {A : Type 0} (xs : List ℕ) (r : Read A) (a : A) → registers 65 xs r ≡ got a → r ≡ got a
low xs r a e = (passed (above 65 xs) 3 r a e).rest

-- a record of an operation, whose registers are tested after it
with_operation : {A : Type 0} (x : Read A) (xs : List ℕ) (f : A → Work) (r : Record)
    → and_then x (λ a. registers 65 xs (got (Record.Work (f a)))) ≡ got r → of_part x f ≡ work_in r
with_operation (got a) xs f r e = ap work_in (got_same (Record.Work (f a)) r (low xs (got (Record.Work (f a))) r e))
with_operation (refused n) xs f r e = absurd (clash n r e)

-- a record of a place, whose registers are tested before it
with-place : (x : Read Loc) (xs : List ℕ) (f : Loc → Work) (r : Record)
    → registers 65 xs (and_then x (λ p. got (Record.Work (f p)))) ≡ got r → of_part x f ≡ work_in r
with-place (got p) xs f r e = ap work_in (got_same (Record.Work (f p)) r (low xs (got (Record.Work (f p))) r e))
with-place (refused n) xs f r e = absurd (clash n r (low xs (refused n) r e))

-- the same for a place whose class is tested too
with_classed : (x : Read Loc) (test : Loc → Read Loc) → ((q p : Loc) → test q ≡ got p → q ≡ p) → (xs : List ℕ) (f : Loc → Work) (r : Record)
    → registers 65 xs (and_then (and_then x test) (λ p. got (Record.Work (f p)))) ≡ got r → of_part x f ≡ work_in r
with_classed (got q) test same xs f r e =
    let t = then (test q) (λ p. got (Record.Work (f p))) r (low xs _ r e) in
    ap (λ p. some (f p)) (same q t.first t.found) ∙ ap work_in (got_same (Record.Work (f t.first)) r t.rest)
with_classed (refused n) test same xs f r e = absurd (clash n r (low xs (refused n) r e))

saved_same : (q p : Loc) → saved_to q ≡ got p → q ≡ p
saved_same (Loc.Stack i) p e = got_same (Loc.Stack i) p e
saved_same (Loc.Mem i) p e = got_same (Loc.Mem i) p e
saved_same (Loc.Param i) p e = absurd (clash 4 p e)

stacked_same : (q p : Loc) → on_stack q ≡ got p → q ≡ p
stacked_same (Loc.Stack i) p e = got_same (Loc.Stack i) p e
stacked_same (Loc.Mem i) p e = absurd (clash 4 p e)
stacked_same (Loc.Param i) p e = absurd (clash 4 p e)

-- by a test that both sides make, and by one that only the reader makes
both : (b : Bool) (x y : Read Record) (u v : Option Work) (r : Record) → cond b x y ≡ got r → (x ≡ got r → u ≡ work_in r)
    → (y ≡ got r → v ≡ work_in r)
    → cond b u v ≡ work_in r
both true x y u v r e f g = f e
both false x y u v r e f g = g e

by : {P : Type 0} (b : Bool) (x y : Read Record) (r : Record) → cond b x y ≡ got r → (x ≡ got r → P) → (y ≡ got r → P) → P
by true x y r e f g = f e
by false x y r e f g = g e

-- a record of a label has no work
jump : (j r : Record) → none ≡ work_in j → got j ≡ got r → none ≡ work_in r
jump j r n e = n ∙ ap work_in (got_same j r e)

module _ (count : ℕ) (s : List ℕ) (r : Record) where
  uni : uni_from true (λ op dst s1. Record.Work (Work.Uni op dst s1)) s ≡ got r → uni_encoded s ≡ work_in r
  unfolding uni_from uni_encoded
  uni e = with_operation (taken (takes_uni true) uni_ops (byte_at s 4)) (byte_at s 5 ∷ byte_at s 6 ∷ []) _ r e

  bi : bi_from true (λ op dst s1 s2. Record.Work (Work.Bi op dst s1 s2)) s ≡ got r → bi_encoded s ≡ work_in r
  unfolding bi_from bi_encoded
  bi e = with_operation (taken (takes_bin true) bin_ops (byte_at s 4)) (byte_at s 5 ∷ byte_at s 6 ∷ byte_at s 7 ∷ []) _ r e

  mov : mov_from true (λ dst s1. Record.Work (Work.Mov dst s1)) s ≡ got r → mov_encoded s ≡ work_in r
  unfolding mov_from mov_encoded
  mov e = ap work_in (got_same _ r (low (byte_at s 4 ∷ byte_at s 5 ∷ []) _ r e))

  load : load_from true (λ dst loc. Record.Work (Work.Load dst loc)) s ≡ got r → load_encoded s ≡ work_in r
  unfolding load_from load_encoded
  load e = with-place (place_at s 5) (byte_at s 4 ∷ []) _ r e

  save : save_from true (λ src loc. Record.Work (Work.Save src loc)) s ≡ got r → save_encoded s ≡ work_in r
  unfolding save_from save_encoded save_place
  save e = with_classed (place_at s 5) saved_to saved_same (byte_at s 4 ∷ []) _ r e

  load-const : load_const_from true (λ dst idx. Record.Work (Work.LoadConst dst idx)) count s ≡ got r → load_const_encoded s ≡ work_in r
  unfolding load_const_from load_const_encoded
  load-const e = ap work_in (got_same _ r (passed (leb count (u16_at s 5)) 5 _ r (low (byte_at s 4 ∷ []) _ r e)).rest)

  fused : fused_from true (λ op dst a b c. Record.Work (Work.Fused op dst a b c)) s ≡ got r → fused_encoded s ≡ work_in r
  unfolding fused_from fused_encoded
  fused e = with_operation (taken (takes_fused true) fused_ops (byte_at s 4)) (byte_at s 5 ∷ byte_at s 6 ∷ byte_at s 7 ∷ byte_at s 8 ∷ []) _ r e

  if-else : if_else_from true (λ dst t f loc. Record.Work (Work.IfElse dst t f loc)) s ≡ got r → if_else_encoded s ≡ work_in r
  unfolding if_else_from if_else_encoded cond_place
  if-else e = with_classed (place_at s 7) on_stack stacked_same (byte_at s 4 ∷ byte_at s 5 ∷ byte_at s 6 ∷ []) _ r e

  load-complex : load_complex_from s ≡ got r → load_complex_encoded s ≡ work_in r
  unfolding load_complex_from load_complex_encoded
  load-complex e = with-place (place_at s 6) (byte_at s 4 ∷ byte_at s 5 ∷ []) _ r e

  save-complex : save_complex_from s ≡ got r → save_complex_encoded s ≡ work_in r
  unfolding save_complex_from save_complex_encoded save_place
  save-complex e = with_classed (place_at s 6) saved_to saved_same (byte_at s 4 ∷ byte_at s 5 ∷ []) _ r e

  complex-bi : complex_bi_from s ≡ got r → complex_bi_encoded s ≡ work_in r
  unfolding complex_bi_from complex_bi_encoded
  complex-bi e = with_operation (taken takes_arith arith_ops (byte_at s 4)) (byte_at s 5 ∷ byte_at s 6 ∷ byte_at s 7 ∷ byte_at s 8 ∷ byte_at s 9 ∷ byte_at s 10 ∷ []) _ r e

  branch_if : branch_if_from s ≡ got r → none ≡ work_in r
  unfolding branch_if_from
  branch_if e =
      jump (Record.BranchIf (byte_at s 4) (byte_at s 5) (eqb (byte_at s 6) 1)) r refl
      (low (byte_at s 4 ∷ []) _ r (passed (ltb 1 (byte_at s 6)) 2 _ r e).rest)

  jumps : (kind : ℕ)
      → cond (eqb kind 14) (label_from s)
      (cond (eqb kind 15) (branch_from s) (cond (eqb kind 16) (call_from s) (cond (eqb kind 17) (branch_if_from s) (refused 2)))) ≡ got r
      → none ≡ work_in r
  unfolding label_from branch_from call_from
  jumps kind e =
      by (eqb kind 14) (label_from s) _ r e (jump (Record.Label (byte_at s 4)) r refl) (λ e.
      by (eqb kind 15) (branch_from s) _ r e (jump (Record.Branch (byte_at s 4)) r refl) (λ e.
      by (eqb kind 16) (call_from s) _ r e (jump (Record.Call (byte_at s 4)) r refl) (λ e.
      by (eqb kind 17) (branch_if_from s) _ r e branch_if (λ e.
      absurd (clash 2 r e)))))

  fields : fields_from count (u16_at s 2) s ≡ got r → encoded s ≡ work_in r
  unfolding fields_from encoded
  fields e =
      let k = u16_at s 2 in
      both (eqb k 1) _ _ (uni_encoded s) _ r e uni (λ e.
      both (eqb k 2) _ _ (bi_encoded s) _ r e bi (λ e.
      both (eqb k 3) _ _ (mov_encoded s) _ r e mov (λ e.
      both (eqb k 4) _ _ (load_encoded s) _ r e load (λ e.
      both (eqb k 5) _ _ (save_encoded s) _ r e save (λ e.
      both (eqb k 6) _ _ (load_const_encoded s) _ r e load-const (λ e.
      both (eqb k 7) _ _ (fused_encoded s) _ r e fused (λ e.
      both (eqb k 8) _ _ (if_else_encoded s) _ r e if-else (λ e.
      both (eqb k 11) (load_complex_from s) _ (load_complex_encoded s) _ r e load-complex (λ e.
      both (eqb k 12) (save_complex_from s) _ (save_complex_encoded s) _ r e save-complex (λ e.
      both (eqb k 13) (complex_bi_from s) _ (complex_bi_encoded s) _ r e complex-bi (λ e.
      jumps k e)))))))))))

pub encoding : (count : ℕ) (s : List ℕ) (rec : Record) → record_from count s ≡ got rec → encoded s ≡ work_in rec
unfolding record_from
encoding count s rec e =
    let t = then (head_from (takes_kind true) s) (λ kind. fields_from count kind s) rec e in
    let h = headed (takes_kind true) s t.first t.found in
    fields count s rec (ap (λ kind. fields_from count kind s) (sym h.same) ∙ t.rest)
