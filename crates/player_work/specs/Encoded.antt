-- The working record that bytes encode (document 01, Sheet). Every record of a listing is tested before the first is
-- played; it is then played from its bytes, and here registers, constants, and the class of a place that is saved to or is a condition, are
-- not tested again.
use Rattle.std.specs.Prelude.{ℕ, Bool, true, false, cond, List, eqb}
use Rattle.std.proofs.Math.Option.{Option, none, some}
use Rattle.mir.specs.declared.records.Work.{Work}
use Rattle.mir.specs.declared.records.Record.{Record}
use Rattle.mir.specs.Operation.{uni_ops, bin_ops, arith_ops, fused_ops, taken}
use Rattle.mir.specs.Read.{Read, got, refused}
use Rattle.mir.specs.Field.{byte_at, u16_at, place_at}
use Rattle.mir.specs.Takes.{takes_uni, takes_bin, takes_arith, takes_fused}
use Rattle.player_machine.specs.Machine.{Store, exec}

-- the record of an operation or a place that is read; none where it is refused
abbrev pub of_part : {A : Type 0} → Read A → (A → Work) → Option Work
of_part (got a) f = some (f a)
of_part (refused n) f = none

-- 1 Uni: op, dst, s1
unfoldable pub uni_encoded : List ℕ → Option Work
uni_encoded s = of_part (taken (takes_uni true) uni_ops (byte_at s 4)) (λ op. Work.Uni op (byte_at s 5) (byte_at s 6))

-- 2 Bi: op, dst, s1, s2
unfoldable pub bi_encoded : List ℕ → Option Work
bi_encoded s =
    of_part (taken (takes_bin true) bin_ops (byte_at s 4)) (λ op. Work.Bi op (byte_at s 5) (byte_at s 6) (byte_at s 7))

-- 3 Mov: dst, s1
unfoldable pub mov_encoded : List ℕ → Option Work
mov_encoded s = some (Work.Mov (byte_at s 4) (byte_at s 5))

-- 4 Load: register, place
unfoldable pub load_encoded : List ℕ → Option Work
load_encoded s = of_part (place_at s 5) (λ loc. Work.Load (byte_at s 4) loc)

-- 5 Save: register, place
unfoldable pub save_encoded : List ℕ → Option Work
save_encoded s = of_part (place_at s 5) (λ loc. Work.Save (byte_at s 4) loc)

-- 6 LoadConst: dst, constant
unfoldable pub load_const_encoded : List ℕ → Option Work
load_const_encoded s = some (Work.LoadConst (byte_at s 4) (u16_at s 5))

-- 7 Fused: op, dst, a, b, c
unfoldable pub fused_encoded : List ℕ → Option Work
fused_encoded s =
    of_part (taken (takes_fused true) fused_ops (byte_at s 4))
    (λ op. Work.Fused op (byte_at s 5) (byte_at s 6) (byte_at s 7) (byte_at s 8))

-- 8 IfElse: dst, true, false, place
unfoldable pub if_else_encoded : List ℕ → Option Work
if_else_encoded s = of_part (place_at s 7) (λ loc. Work.IfElse (byte_at s 4) (byte_at s 5) (byte_at s 6) loc)

-- 11 LoadComplex: two registers, place
unfoldable pub load_complex_encoded : List ℕ → Option Work
load_complex_encoded s = of_part (place_at s 6) (λ loc. Work.LoadComplex (byte_at s 4) (byte_at s 5) loc)

-- 12 SaveComplex: two registers, place
unfoldable pub save_complex_encoded : List ℕ → Option Work
save_complex_encoded s = of_part (place_at s 6) (λ loc. Work.SaveComplex (byte_at s 4) (byte_at s 5) loc)

-- 13 ComplexBi: op, xd, yd, x1, y1, x2, y2
unfoldable pub complex_bi_encoded : List ℕ → Option Work
complex_bi_encoded s =
    of_part (taken takes_arith arith_ops (byte_at s 4))
    (λ op. Work.ComplexBi op (byte_at s 5) (byte_at s 6) (byte_at s 7) (byte_at s 8) (byte_at s 9) (byte_at s 10))

-- by kind; Label, Branch, Call and BranchIf encode no work
unfoldable pub encoded : List ℕ → Option Work
unfolding uni_encoded bi_encoded mov_encoded load_encoded save_encoded load_const_encoded fused_encoded if_else_encoded load_complex_encoded save_complex_encoded complex_bi_encoded
encoded s =
    cond (eqb (u16_at s 2) 1) (uni_encoded s)
    (cond (eqb (u16_at s 2) 2) (bi_encoded s)
    (cond (eqb (u16_at s 2) 3) (mov_encoded s)
    (cond (eqb (u16_at s 2) 4) (load_encoded s)
    (cond (eqb (u16_at s 2) 5) (save_encoded s)
    (cond (eqb (u16_at s 2) 6) (load_const_encoded s)
    (cond (eqb (u16_at s 2) 7) (fused_encoded s)
    (cond (eqb (u16_at s 2) 8) (if_else_encoded s)
    (cond (eqb (u16_at s 2) 11) (load_complex_encoded s)
    (cond (eqb (u16_at s 2) 12) (save_complex_encoded s)
    (cond (eqb (u16_at s 2) 13) (complex_bi_encoded s)
    none))))))))))

-- the work of a record that was read
abbrev pub work_in : Record → Option Work
work_in (Record.Work w) = some w
work_in (Record.Label l) = none
work_in (Record.Branch l) = none
work_in (Record.Call l) = none
work_in (Record.BranchIf c l e) = none

-- whether there is work
abbrev pub has_work : Option Work → Bool
has_work none = false
has_work (some w) = true

-- the store after the work, where there is one
abbrev pub worked : List ℕ → Option Work → Store → Store
worked constants none σ = σ
worked constants (some w) σ = exec constants w σ
