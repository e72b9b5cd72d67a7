-- The bytes of a listing's records, and records written to a lent slice (document 01, Sheet).
use Rattle.std.specs.Prelude.{ℕ, ◌+◌, ◌/◌, ◌%◌, Bool, cond, List, [], ◌∷◌, ◌++◌, length, leb}
use Rattle.std.proofs.lemmas.List.Edits.{sets}
use Rattle.mir.specs.declared.records.Loc.{Loc}
use Rattle.mir.specs.declared.records.Work.{Work}
use Rattle.mir.specs.declared.records.Record.{Record}
use Rattle.mir.specs.Place.{class, index}
use Rattle.mir.specs.Operation.{uni_number, bin_number, arith_number, fused_number}
use Rattle.mir.specs.Length.{length_of}

-- "all little-endian"
abbrev pub two_bytes : ℕ → List ℕ
two_bytes n = n % 256 ∷ n / 256 ∷ []

abbrev pub place_bytes : Loc → List ℕ
place_bytes p = class p ∷ two_bytes (index p)

-- document 02, d): "a byte 0 or 1 that is `is_else`"
abbrev pub flag_byte : Bool → ℕ
flag_byte e = cond e 1 0

-- "A record is a two-byte length of the whole record, a two-byte kind, then fields"
unfoldable pub record_of : ℕ → List ℕ → List ℕ
unfolding length_of
record_of kind fields = two_bytes (length_of kind) ++ (two_bytes kind ++ fields)

-- the fields of each kind, in the table's order
abbrev pub encode_work : Work → List ℕ
encode_work (Work.Uni op dst s1) = record_of 1 (uni_number op ∷ dst ∷ s1 ∷ [])
encode_work (Work.Bi op dst s1 s2) = record_of 2 (bin_number op ∷ dst ∷ s1 ∷ s2 ∷ [])
encode_work (Work.Mov dst s1) = record_of 3 (dst ∷ s1 ∷ [])
encode_work (Work.Load dst loc) = record_of 4 (dst ∷ place_bytes loc)
encode_work (Work.Save src loc) = record_of 5 (src ∷ place_bytes loc)
encode_work (Work.LoadConst dst idx) = record_of 6 (dst ∷ two_bytes idx)
encode_work (Work.Fused op dst a b c) = record_of 7 (fused_number op ∷ dst ∷ a ∷ b ∷ c ∷ [])
encode_work (Work.IfElse dst t f loc) = record_of 8 (dst ∷ t ∷ f ∷ place_bytes loc)
encode_work (Work.LoadComplex xd yd loc) = record_of 11 (xd ∷ yd ∷ place_bytes loc)
encode_work (Work.SaveComplex xs ys loc) = record_of 12 (xs ∷ ys ∷ place_bytes loc)
encode_work (Work.ComplexBi op xd yd x1 y1 x2 y2) = record_of 13 (arith_number op ∷ xd ∷ yd ∷ x1 ∷ y1 ∷ x2 ∷ y2 ∷ [])

abbrev pub encode : Record → List ℕ
encode (Record.Work w) = encode_work w
encode (Record.Label l) = record_of 14 (l ∷ [])
encode (Record.Branch l) = record_of 15 (l ∷ [])
encode (Record.Call l) = record_of 16 (l ∷ [])
encode (Record.BranchIf c l e) = record_of 17 (c ∷ l ∷ flag_byte e ∷ [])

abbrev pub encode_all : List Record → List ℕ
encode_all [] = []
encode_all (r ∷ rs) = encode r ++ encode_all rs

-- a lent slice, and the position in it where the next record goes
pub data Buf : Type 0 where
  buf : List ℕ → ℕ → Buf

-- bytes written at the position; where there is no room for all of them, nothing changes
unfoldable pub placed : Buf → List ℕ → Buf
placed (buf l at) bytes = cond (leb (at + length bytes) (length l)) (buf (sets l at bytes) (at + length bytes)) (buf l at)

-- one record written
abbrev pub pushed : Buf → Record → Buf
pushed b r = placed b (encode r)
