-- The kinds that sheets and listings share: what the fields make, from the bytes that begin with the record (document 01, the table of Sheet,
-- and the numbers 2 to 5). `listing` tells a listing (true) from a sheet (false); `make` makes the instruction or the record; `count` is the
-- count of the sheet's own constants, or of the table lent with the listing.
-- Registers are tested after the operation, and before the place or the constant.
use Rattle.std.specs.Prelude.{ℕ, Bool, true, false, List}
use Rattle.mir.specs.declared.ops.UniOp.{UniOp}
use Rattle.mir.specs.declared.ops.BinOp.{BinOp}
use Rattle.mir.specs.declared.ops.FusedOp.{FusedOp}
use Rattle.mir.specs.declared.records.Loc.{Loc}
use Rattle.mir.specs.Operation.{uni_ops, bin_ops, fused_ops, taken}
use Rattle.mir.specs.Takes.{takes_uni, takes_bin, takes_fused}
use Rattle.mir.specs.Read.{Read, got, and_then, registers, constant}
use Rattle.mir.specs.Field.{byte_at, bytes_at, u16_at, place_at, save_place, cond_place}

-- Temp: 3, "byte above 31 in a sheet, above 65 in a listing"
abbrev pub last_register : Bool → ℕ
last_register false = 31
last_register true = 65

-- 1 Uni: op, dst, s1
unfoldable pub uni_from : {A : Type 0} → Bool → (UniOp → ℕ → ℕ → A) → List ℕ → Read A
uni_from listing make s =
    and_then (taken (takes_uni listing) uni_ops (byte_at s 4))
    (λ op. registers (last_register listing) (bytes_at s 5 2) (got (make op (byte_at s 5) (byte_at s 6))))

-- 2 Bi: op, dst, s1, s2
unfoldable pub bi_from : {A : Type 0} → Bool → (BinOp → ℕ → ℕ → ℕ → A) → List ℕ → Read A
bi_from listing make s =
    and_then (taken (takes_bin listing) bin_ops (byte_at s 4))
    (λ op. registers (last_register listing) (bytes_at s 5 3) (got (make op (byte_at s 5) (byte_at s 6) (byte_at s 7))))

-- 3 Mov: dst, s1
unfoldable pub mov_from : {A : Type 0} → Bool → (ℕ → ℕ → A) → List ℕ → Read A
mov_from listing make s = registers (last_register listing) (bytes_at s 4 2) (got (make (byte_at s 4) (byte_at s 5)))

-- 4 Load: register, place
unfoldable pub load_from : {A : Type 0} → Bool → (ℕ → Loc → A) → List ℕ → Read A
load_from listing make s =
    registers (last_register listing) (bytes_at s 4 1) (and_then (place_at s 5) (λ loc. got (make (byte_at s 4) loc)))

-- 5 Save: register, place
unfoldable pub save_from : {A : Type 0} → Bool → (ℕ → Loc → A) → List ℕ → Read A
save_from listing make s =
    registers (last_register listing) (bytes_at s 4 1) (and_then (save_place s 5) (λ loc. got (make (byte_at s 4) loc)))

-- 6 LoadConst: dst, constant
unfoldable pub load_const_from : {A : Type 0} → Bool → (ℕ → ℕ → A) → ℕ → List ℕ → Read A
load_const_from listing make count s =
    registers (last_register listing) (bytes_at s 4 1) (constant count (u16_at s 5) (got (make (byte_at s 4) (u16_at s 5))))

-- 7 Fused: op, dst, a, b, c
unfoldable pub fused_from : {A : Type 0} → Bool → (FusedOp → ℕ → ℕ → ℕ → ℕ → A) → List ℕ → Read A
fused_from listing make s =
    and_then (taken (takes_fused listing) fused_ops (byte_at s 4))
    (λ op.
    registers (last_register listing) (bytes_at s 5 4)
    (got (make op (byte_at s 5) (byte_at s 6) (byte_at s 7) (byte_at s 8))))

-- 8 IfElse: dst, true, false, place
unfoldable pub if_else_from : {A : Type 0} → Bool → (ℕ → ℕ → ℕ → Loc → A) → List ℕ → Read A
if_else_from listing make s =
    registers (last_register listing) (bytes_at s 4 3)
    (and_then (cond_place s 7) (λ loc. got (make (byte_at s 4) (byte_at s 5) (byte_at s 6) loc)))
