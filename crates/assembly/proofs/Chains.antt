-- The lines of LoadMath and LoadConstMath, from what was added for each part.
use Prim.Native.Nat.{ℕ, ◌<◌}
use mathlib.Core.Path.{◌≡◌, sym, subst}
use lib.Dec.{lit≤}
use mathlib.Core.Bool.{Bool}
use mathlib.Core.List.{[], ◌∷◌, ◌++◌}
use Rattle.mir.specs.declared.ops.UniOp.{UniOp}
use Rattle.mir.specs.declared.ops.BinOp.{BinOp}
use Rattle.mir.specs.declared.ops.ArithOp.{ArithOp}
use Rattle.mir.specs.declared.ops.FusedOp.{FusedOp}
use Rattle.mir.specs.declared.records.Loc.{Loc}
use Rattle.mir.specs.declared.records.Work.{Work}
use Rattle.mir.specs.declared.records.Record.{Record}
use Rattle.mir.specs.declared.records.Instruction.{Instruction}
use Rattle.text.specs.declared.line.Line.{Line}
use Rattle.text.specs.Line.{Adds, Prints, empty_line}
use Rattle.text.specs.Sized.{SizedPlace}
use Rattle.text.specs.Text.{ascii, decimal, space, place, registers, line, record_line}
use Rattle.text.proofs.Whole.{prints}
use Rattle.assembly.specs.Lines.{named, math_name, real_place, real_line, work_line, instruction_line}
use Rattle.assembly.proofs.Short.{load-short, const-short, real_short}

module _ (op : ArithOp) (dst s1 : ℕ) {a b : ℕ} (e : a ≡ named dst) (f : b ≡ named s1) {l m : Line} (start : l ≡ empty_line) where
  pub load-math : (loc : Loc) → SizedPlace loc
      → Adds l (line (math_name op ++ ascii "Load" ++ registers (a ∷ b ∷ []) ++ space (place loc))) m
      → Prints (instruction_line (Instruction.LoadMath op dst s1 loc)) m
  unfolding instruction_line
  load-math loc h p =
      prints start
      (subst (λ t. Adds l t m) (λ i. line (math_name op ++ ascii "Load" ++ registers (e i ∷ f i ∷ []) ++ space (place loc))) p)
      (load-short op dst s1 loc h)

  pub const-math : (idx : ℕ) → idx < 65536
      → Adds l (line (math_name op ++ ascii "Const" ++ registers (a ∷ b ∷ []) ++ space (decimal idx))) m
      → Prints (instruction_line (Instruction.LoadConstMath op dst s1 idx)) m
  unfolding instruction_line
  const-math idx h p =
      prints start
      (subst (λ t. Adds l t m) (λ i. line (math_name op ++ ascii "Const" ++ registers (e i ∷ f i ∷ []) ++ space (decimal idx))) p)
      (const-short op dst s1 idx h)

pub real_chain : (i : ℕ) {loc : Loc} {l m : Line} → loc ≡ real_place i → l ≡ empty_line → SizedPlace loc
    → Adds l (line (ascii "real" ++ space (place loc))) m → Prints (real_line i) m
unfolding real_line
real_chain i {loc} {l} {m} e start h p =
    prints start (subst (λ t. Adds l t m) (λ k. line (ascii "real" ++ space (place (e k)))) p) (real_short i (subst SizedPlace e h))

-- a line whose registers were named, of an instruction that is this one
module _ {r : Line} {x : Instruction} where
  pub uni : (op : UniOp) (dst : ℕ) (s1 : ℕ) {dst' : ℕ} {s1' : ℕ} → x ≡ Instruction.Uni op dst s1 → dst' ≡ named dst → s1' ≡ named s1
      → Prints (work_line (Work.Uni op dst' s1')) r → Prints (instruction_line x) r
  unfolding instruction_line
  uni op dst s1 e e0 e1 p =
      subst (λ x. Prints (instruction_line x) r) (sym e) (subst (λ t. Prints t r) (λ i. work_line (Work.Uni op (e0 i) (e1 i))) p)

  pub bi : (op : BinOp) (dst : ℕ) (s1 : ℕ) (s2 : ℕ) {dst' : ℕ} {s1' : ℕ} {s2' : ℕ} → x ≡ Instruction.Bi op dst s1 s2 → dst' ≡ named dst → s1' ≡ named s1 → s2' ≡ named s2
      → Prints (work_line (Work.Bi op dst' s1' s2')) r → Prints (instruction_line x) r
  unfolding instruction_line
  bi op dst s1 s2 e e0 e1 e2 p =
      subst (λ x. Prints (instruction_line x) r) (sym e) (subst (λ t. Prints t r) (λ i. work_line (Work.Bi op (e0 i) (e1 i) (e2 i))) p)

  pub mov : (dst : ℕ) (s1 : ℕ) {dst' : ℕ} {s1' : ℕ} → x ≡ Instruction.Mov dst s1 → dst' ≡ named dst → s1' ≡ named s1
      → Prints (work_line (Work.Mov dst' s1')) r → Prints (instruction_line x) r
  unfolding instruction_line
  mov dst s1 e e0 e1 p =
      subst (λ x. Prints (instruction_line x) r) (sym e) (subst (λ t. Prints t r) (λ i. work_line (Work.Mov (e0 i) (e1 i))) p)

  pub load : (loc : Loc) (dst : ℕ) {dst' : ℕ} → x ≡ Instruction.Load dst loc → dst' ≡ named dst
      → Prints (work_line (Work.Load dst' loc)) r → Prints (instruction_line x) r
  unfolding instruction_line
  load loc dst e e0 p =
      subst (λ x. Prints (instruction_line x) r) (sym e) (subst (λ t. Prints t r) (λ i. work_line (Work.Load (e0 i) loc)) p)

  pub save : (loc : Loc) (src : ℕ) {src' : ℕ} → x ≡ Instruction.Save src loc → src' ≡ named src
      → Prints (work_line (Work.Save src' loc)) r → Prints (instruction_line x) r
  unfolding instruction_line
  save loc src e e0 p =
      subst (λ x. Prints (instruction_line x) r) (sym e) (subst (λ t. Prints t r) (λ i. work_line (Work.Save (e0 i) loc)) p)

  pub load-const : (idx : ℕ) (dst : ℕ) {dst' : ℕ} → x ≡ Instruction.LoadConst dst idx → dst' ≡ named dst
      → Prints (work_line (Work.LoadConst dst' idx)) r → Prints (instruction_line x) r
  unfolding instruction_line
  load-const idx dst e e0 p =
      subst (λ x. Prints (instruction_line x) r) (sym e) (subst (λ t. Prints t r) (λ i. work_line (Work.LoadConst (e0 i) idx)) p)

  pub fused : (op : FusedOp) (dst : ℕ) (a : ℕ) (b : ℕ) (c : ℕ) {dst' : ℕ} {a' : ℕ} {b' : ℕ} {c' : ℕ} → x ≡ Instruction.Fused op dst a b c → dst' ≡ named dst → a' ≡ named a → b' ≡ named b → c' ≡ named c
      → Prints (work_line (Work.Fused op dst' a' b' c')) r → Prints (instruction_line x) r
  unfolding instruction_line
  fused op dst a b c e e0 e1 e2 e3 p =
      subst (λ x. Prints (instruction_line x) r) (sym e) (subst (λ t. Prints t r) (λ i. work_line (Work.Fused op (e0 i) (e1 i) (e2 i) (e3 i))) p)

  pub if-else : (loc : Loc) (dst : ℕ) (t : ℕ) (f : ℕ) {dst' : ℕ} {t' : ℕ} {f' : ℕ} → x ≡ Instruction.IfElse dst t f loc → dst' ≡ named dst → t' ≡ named t → f' ≡ named f
      → Prints (work_line (Work.IfElse dst' t' f' loc)) r → Prints (instruction_line x) r
  unfolding instruction_line
  if-else loc dst t f e e0 e1 e2 p =
      subst (λ x. Prints (instruction_line x) r) (sym e) (subst (λ t. Prints t r) (λ i. work_line (Work.IfElse (e0 i) (e1 i) (e2 i) loc)) p)

  pub branch_if : (c l : ℕ) (is-else : Bool) {c' : ℕ} → x ≡ Instruction.BranchIf c l is-else → c' ≡ named c
      → Prints (record_line (Record.BranchIf c' l is-else)) r → Prints (instruction_line x) r
  unfolding instruction_line
  branch_if c l is-else e e0 p =
      subst (λ x. Prints (instruction_line x) r) (sym e) (subst (λ t. Prints t r) (λ i. record_line (Record.BranchIf (e0 i) l is-else)) p)

  pub nop : {l : Line} → x ≡ Instruction.Nop → l ≡ empty_line → Adds l (ascii "Nop\n") r → Prints (instruction_line x) r
  unfolding ascii instruction_line
  nop e start p = subst (λ x. Prints (instruction_line x) r) (sym e) (prints start p (lit≤ tt))
