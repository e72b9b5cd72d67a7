-- A kind that sheets share, read as a sheet's instruction, is the definition's record.
use Prim.Native.Nat.{ℕ}
use mathlib.Core.Path.{◌≡◌, refl}
use mathlib.Core.Bool.{Bool, true, false}
use mathlib.Core.List.{List}
use lib.Dec.{leb}
use Rattle.mir.specs.declared.records.Instruction.{Instruction}
use Rattle.mir.specs.declared.records.Loc.{Loc}
use Rattle.mir.specs.declared.records.Record.{Record}
use Rattle.mir.specs.declared.records.Work.{Work}
use Rattle.mir.specs.Operation.{uni_ops, bin_ops, fused_ops, taken}
use Rattle.mir.specs.Takes.{takes_uni, takes_bin, takes_fused}
use Rattle.mir.specs.Read.{Read, got, refused, refuse, and_then, above}
use Rattle.mir.specs.Field.{byte_at, bytes_at, u16_at, place_at, save_place, cond_place}
use Rattle.mir.specs.Kinds.{uni_from, bi_from, mov_from, load_from, save_from, load_const_from, fused_from, if_else_from}
use Rattle.records.specs.Shared.{work_of, as_record}

-- by what is tested: registers; and behind them a constant, a place; and before them an operation
plain : (t : Bool) (i : Instruction) → as_record (refuse t 3 (got i)) ≡ refuse t 3 (got (Record.Work (work_of i)))
plain true i = refl
plain false i = refl

counted : (t u : Bool) (i : Instruction) → as_record (refuse t 3 (refuse u 5 (got i))) ≡ refuse t 3 (refuse u 5 (got (Record.Work (work_of i))))
counted true u i = refl
counted false true i = refl
counted false false i = refl

placed : (t : Bool) (p : Read Loc) (f : Loc → Instruction)
    → as_record (refuse t 3 (and_then p (λ l. got (f l)))) ≡ refuse t 3 (and_then p (λ l. got (Record.Work (work_of (f l)))))
placed true p f = refl
placed false (got l) f = refl
placed false (refused n) f = refl

worked : {Op : Type 0} (p : Read Op) (t : Bool) (f : Op → Instruction)
    → as_record (and_then p (λ op. refuse t 3 (got (f op)))) ≡ and_then p (λ op. refuse t 3 (got (Record.Work (work_of (f op)))))
worked (got op) t f = plain t (f op)
worked (refused n) t f = refl

module _ (s : List ℕ) where
  pub uni : as_record (uni_from true Instruction.Uni s) ≡ uni_from true (λ op dst s1. Record.Work (Work.Uni op dst s1)) s
  unfolding uni_from
  uni = worked (taken (takes_uni true) uni_ops (byte_at s 4)) (above 65 (bytes_at s 5 2)) (λ op. Instruction.Uni op (byte_at s 5) (byte_at s 6))

  pub bi : as_record (bi_from true Instruction.Bi s) ≡ bi_from true (λ op dst s1 s2. Record.Work (Work.Bi op dst s1 s2)) s
  unfolding bi_from
  bi = worked (taken (takes_bin true) bin_ops (byte_at s 4)) (above 65 (bytes_at s 5 3)) (λ op. Instruction.Bi op (byte_at s 5) (byte_at s 6) (byte_at s 7))

  pub mov : as_record (mov_from true Instruction.Mov s) ≡ mov_from true (λ dst s1. Record.Work (Work.Mov dst s1)) s
  unfolding mov_from
  mov = plain (above 65 (bytes_at s 4 2)) (Instruction.Mov (byte_at s 4) (byte_at s 5))

  pub load : as_record (load_from true Instruction.Load s) ≡ load_from true (λ dst loc. Record.Work (Work.Load dst loc)) s
  unfolding load_from
  load = placed (above 65 (bytes_at s 4 1)) (place_at s 5) (Instruction.Load (byte_at s 4))

  pub save : as_record (save_from true Instruction.Save s) ≡ save_from true (λ src loc. Record.Work (Work.Save src loc)) s
  unfolding save_from
  save = placed (above 65 (bytes_at s 4 1)) (save_place s 5) (Instruction.Save (byte_at s 4))

  pub load-const : (count : ℕ) → as_record (load_const_from true Instruction.LoadConst count s) ≡ load_const_from true (λ dst idx. Record.Work (Work.LoadConst dst idx)) count s
  unfolding load_const_from
  load-const count = counted (above 65 (bytes_at s 4 1)) (leb count (u16_at s 5)) (Instruction.LoadConst (byte_at s 4) (u16_at s 5))

  pub fused : as_record (fused_from true Instruction.Fused s) ≡ fused_from true (λ op dst a b c. Record.Work (Work.Fused op dst a b c)) s
  unfolding fused_from
  fused = worked (taken (takes_fused true) fused_ops (byte_at s 4)) (above 65 (bytes_at s 5 4)) (λ op. Instruction.Fused op (byte_at s 5) (byte_at s 6) (byte_at s 7) (byte_at s 8))

  pub if-else : as_record (if_else_from true Instruction.IfElse s) ≡ if_else_from true (λ dst t f loc. Record.Work (Work.IfElse dst t f loc)) s
  unfolding if_else_from
  if-else = placed (above 65 (bytes_at s 4 3)) (cond_place s 7) (Instruction.IfElse (byte_at s 4) (byte_at s 5) (byte_at s 6))
