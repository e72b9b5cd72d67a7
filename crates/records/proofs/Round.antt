-- What is written is read: the records of the bytes of records are these records.
use Prim.Native.Nat.{ℕ, ◌+◌, ◌≤◌}
use mathlib.Core.Path.{◌≡◌, refl, sym, ap, ◌∙◌}
use mathlib.Core.Bool.{Bool, true, false, not}
use mathlib.Core.List.{List, [], ◌∷◌, ◌++◌, append_assoc, append-nil}
use lib.ListN.{length}
use lib.Seq.{drop_at}
use borrow.Author.Tests.{le-ltb, lt-leb}
use Rattle.mir.specs.declared.records.Loc.{Loc}
use Rattle.mir.specs.declared.records.Work.{Work}
use Rattle.mir.specs.declared.records.Record.{Record}
use Rattle.mir.specs.Place.{index}
use Rattle.mir.specs.Length.{length_of}
use Rattle.mir.specs.Operation.{uni_number, bin_number, arith_number, fused_number}
use Rattle.mir.specs.Takes.{takes_uni, takes_bin, takes_arith, takes_fused}
use Rattle.mir.specs.Read.{Read, got, refuse, and_then}
use Rattle.mir.specs.Field.{u16_at, among, takes_kind, head_from, saved_to, on_stack}
use Rattle.mir.specs.Decode.{Decoded, ahead, decoded}
use Rattle.mir.specs.Encode.{two_bytes, place_bytes, flag_byte, record_of, encode, encode_all}
use Rattle.mir.proofs.Numbering.{uni_at, bin_at, arith_at, fused_at}
use Rattle.mir.proofs.Written.{two, length_back, length-of, head-back, place-back, save-back, cond_back}
use Rattle.mir.proofs.IfRead.{Saved, Stacked}
use Rattle.mir.proofs.Decoding.{none, and, decoded-got, decoded-none}
use Rattle.records.specs.Record.{fields_from, record_from}
use Rattle.records.proofs.Reading.{whole}
use Rattle.records.proofs.Holding.{Holds, AllHold}

-- bytes are those of a record of a kind that a listing takes
record Formed (bytes : List ℕ) : Type 0 where
  kind : ℕ
  fields : List ℕ
  same : bytes ≡ record_of kind fields
  taken : takes_kind true kind ≡ true
  sized : 4 + length fields ≡ length_of kind

form : (kind : ℕ) (fields : List ℕ) → takes_kind true kind ≡ true → 4 + length fields ≡ length_of kind → Formed (record_of kind fields)
form kind fields t e = record { kind = kind; fields = fields; same = refl; taken = t; sized = e }

formed : (r : Record) → Formed (encode r)
unfolding takes_kind among length_of
formed (Record.Work (Work.Uni op dst s1)) = form 1 (uni_number op ∷ dst ∷ s1 ∷ []) refl refl
formed (Record.Work (Work.Bi op dst s1 s2)) = form 2 (bin_number op ∷ dst ∷ s1 ∷ s2 ∷ []) refl refl
formed (Record.Work (Work.Mov dst s1)) = form 3 (dst ∷ s1 ∷ []) refl refl
formed (Record.Work (Work.Load dst loc)) = form 4 (dst ∷ place_bytes loc) refl refl
formed (Record.Work (Work.Save src loc)) = form 5 (src ∷ place_bytes loc) refl refl
formed (Record.Work (Work.LoadConst dst idx)) = form 6 (dst ∷ two_bytes idx) refl refl
formed (Record.Work (Work.Fused op dst a b c)) = form 7 (fused_number op ∷ dst ∷ a ∷ b ∷ c ∷ []) refl refl
formed (Record.Work (Work.IfElse dst t f loc)) = form 8 (dst ∷ t ∷ f ∷ place_bytes loc) refl refl
formed (Record.Work (Work.LoadComplex xd yd loc)) = form 11 (xd ∷ yd ∷ place_bytes loc) refl refl
formed (Record.Work (Work.SaveComplex xs ys loc)) = form 12 (xs ∷ ys ∷ place_bytes loc) refl refl
formed (Record.Work (Work.ComplexBi op xd yd x1 y1 x2 y2)) = form 13 (arith_number op ∷ xd ∷ yd ∷ x1 ∷ y1 ∷ x2 ∷ y2 ∷ []) refl refl
formed (Record.Label l) = form 14 (l ∷ []) refl refl
formed (Record.Branch l) = form 15 (l ∷ []) refl refl
formed (Record.Call l) = form 16 (l ∷ []) refl refl
formed (Record.BranchIf c l e) = form 17 (c ∷ l ∷ flag_byte e ∷ []) refl refl

-- the length of a record's bytes is what stands first in them
pub encoded-length : (r : Record) (rest : List ℕ) → u16_at (encode r ++ rest) 0 ≡ length (encode r)
encoded-length r rest =
    let w = formed r in
    ap (λ l. u16_at (l ++ rest) 0) w.same
    ∙ length_back w.kind w.fields rest
    ∙ sym w.sized
    ∙ sym (length-of w.kind w.fields rest)
    ∙ ap length (sym w.same)

saved : (p : Loc) → Saved p → saved_to p ≡ got p
saved (Loc.Stack i) h = refl
saved (Loc.Mem i) h = refl
saved (Loc.Param i) h = absurd h

saved_index : (p : Loc) → Saved p → index p ≤ 255
saved_index (Loc.Stack i) h = h
saved_index (Loc.Mem i) h = h
saved_index (Loc.Param i) h = absurd h

stacked : (p : Loc) → Stacked p → on_stack p ≡ got p
stacked (Loc.Stack i) h = refl
stacked (Loc.Mem i) h = absurd h
stacked (Loc.Param i) h = absurd h

stacked_index : (p : Loc) → Stacked p → index p ≤ 255
stacked_index (Loc.Stack i) h = h
stacked_index (Loc.Mem i) h = absurd h
stacked_index (Loc.Param i) h = absurd h

-- an operation that is taken is read at its number
named : {A : Type 0} (takes : A → Bool) (op : A) {x : Read A} → x ≡ refuse (not (takes op)) 2 (got op) → takes op ≡ true → x ≡ got op
named takes op e h = e ∙ ap (λ t. refuse (not t) 2 (got op)) h

module _ (count : ℕ) where
  -- the fields are read from a record's bytes
  fields_back : (r : Record) (rest : List ℕ) → Holds count r → fields_from count (formed r).kind (encode r ++ rest) ≡ got r
  unfolding formed form fields_from record_of u16_at
  fields_back (Record.Work (Work.Uni op dst s1)) rest h = simp (named (takes_uni true) op (uni_at (takes_uni true) op) h.0, le-ltb 65 dst h.1, le-ltb 65 s1 h.2)
  fields_back (Record.Work (Work.Bi op dst s1 s2)) rest h =
      simp (named (takes_bin true) op (bin_at (takes_bin true) op) h.0, le-ltb 65 dst h.1, le-ltb 65 s1 h.2, le-ltb 65 s2 h.3)
  fields_back (Record.Work (Work.Mov dst s1)) rest h = simp (le-ltb 65 dst h.0, le-ltb 65 s1 h.1)
  fields_back (Record.Work (Work.Load dst loc)) rest h =
      let s = encode (Record.Work (Work.Load dst loc)) ++ rest in
      simp (le-ltb 65 dst h.0, place-back s 5 loc refl (two (index loc)) h.1)
  fields_back (Record.Work (Work.Save src loc)) rest h =
      let s = encode (Record.Work (Work.Save src loc)) ++ rest in
      let p = place-back s 5 loc refl (two (index loc)) (saved_index loc h.1) in
      simp (le-ltb 65 src h.0, save-back s 5 loc p (saved loc h.1))
  fields_back (Record.Work (Work.LoadConst dst idx)) rest h = simp (le-ltb 65 dst h.0, two idx, lt-leb count idx h.1)
  fields_back (Record.Work (Work.Fused op dst a b c)) rest h =
      simp (named (takes_fused true) op (fused_at (takes_fused true) op) h.0, le-ltb 65 dst h.1, le-ltb 65 a h.2, le-ltb 65 b h.3, le-ltb 65 c h.4)
  fields_back (Record.Work (Work.IfElse dst t f loc)) rest h =
      let s = encode (Record.Work (Work.IfElse dst t f loc)) ++ rest in
      let p = place-back s 7 loc refl (two (index loc)) (stacked_index loc h.3) in
      simp (le-ltb 65 dst h.0, le-ltb 65 t h.1, le-ltb 65 f h.2, cond_back s 7 loc p (stacked loc h.3))
  fields_back (Record.Work (Work.LoadComplex xd yd loc)) rest h =
      let s = encode (Record.Work (Work.LoadComplex xd yd loc)) ++ rest in
      simp (le-ltb 65 xd h.0, le-ltb 65 yd h.1, place-back s 6 loc refl (two (index loc)) h.2)
  fields_back (Record.Work (Work.SaveComplex xs ys loc)) rest h =
      let s = encode (Record.Work (Work.SaveComplex xs ys loc)) ++ rest in
      let p = place-back s 6 loc refl (two (index loc)) (saved_index loc h.2) in
      simp (le-ltb 65 xs h.0, le-ltb 65 ys h.1, save-back s 6 loc p (saved loc h.2))
  fields_back (Record.Work (Work.ComplexBi op xd yd x1 y1 x2 y2)) rest h =
      simp (arith_at takes_arith op, le-ltb 65 xd h.0, le-ltb 65 yd h.1, le-ltb 65 x1 h.2, le-ltb 65 y1 h.3, le-ltb 65 x2 h.4, le-ltb 65 y2 h.5)
  fields_back (Record.Label l) rest h = refl
  fields_back (Record.Branch l) rest h = refl
  fields_back (Record.Call l) rest h = refl
  fields_back (Record.BranchIf c l true) rest h = simp (le-ltb 65 c h)
  fields_back (Record.BranchIf c l false) rest h = simp (le-ltb 65 c h)

  -- a record is read from its bytes, whatever follows them
  pub read_back : (r : Record) (rest : List ℕ) → Holds count r → record_from count (encode r ++ rest) ≡ got r
  unfolding record_from
  read_back r rest h =
      let w = formed r in
      ap (λ x. and_then x (λ kind. fields_from count kind (encode r ++ rest)))
      (ap (λ l. head_from (takes_kind true) (l ++ rest)) w.same
      ∙ head-back w.kind w.fields rest (takes_kind true) w.taken w.sized)
      ∙ fields_back r rest h

-- records that stand before what is decoded
abbrev pub ahead_all : List Record → Decoded Record → Decoded Record
ahead_all rs d = record { items = rs ++ d.items; fault = d.fault }

pub encode_all_append : (a b : List Record) → encode_all (a ++ b) ≡ encode_all a ++ encode_all b
encode_all_append [] b = refl
encode_all_append (r ∷ a) b = ap (λ l. encode r ++ l) (encode_all_append a b) ∙ sym (append_assoc (encode r) (encode_all a) (encode_all b))

module _ (count : ℕ) where
  pub round-ahead : (rs : List Record) (rest : List ℕ) → AllHold count rs
      → decoded (record_from count) (encode_all rs ++ rest) ≡ ahead_all rs (decoded (record_from count) rest)
  round-ahead [] rest none = refl
  round-ahead (r ∷ rs) rest (and h k) =
      let l = encode_all rs ++ rest in
      ap (decoded (record_from count)) (append_assoc (encode r) (encode_all rs) rest)
      ∙ decoded-got (record_from count) (whole count) (encode r ++ l) r (read_back count r l h)
      ∙ ap (λ x. ahead r (decoded (record_from count) x)) (drop_at (encode r) l (u16_at (encode r ++ l) 0) (sym (encoded-length r l)))
      ∙ ap (ahead r) (round-ahead rs rest k)

  pub round : (rs : List Record) → AllHold count rs → decoded (record_from count) (encode_all rs) ≡ record { items = rs; fault = 0 }
  round rs h =
      ap (decoded (record_from count)) (sym (append-nil (encode_all rs)))
      ∙ round-ahead rs [] h
      ∙ ap (ahead_all rs) (decoded-none (record_from count))
      ∙ (λ i. record { items = append-nil rs i; fault = 0 })
