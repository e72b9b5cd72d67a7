-- No line of a sheet's text is cut: each has at most 80 bytes.
use Prim.Native.Nat.{ℕ, ◌≤◌, ◌<◌}
use native.Mathlib.Omega.{arith}
use lib.Dec.{eqb, lit≤}
use lib.ListN.{length, length-append}
use Rattle.mir.specs.declared.ops.ArithOp.{ArithOp}
use Rattle.mir.specs.Operation.{arith_number}
use Rattle.mir.specs.declared.records.Loc.{Loc}
use Rattle.mir.specs.declared.records.Instruction.{Instruction}
use Rattle.sheet.specs.declared.setup.Mode.{Mode}
use Rattle.text.specs.Sized.{SizedPlace}
use Rattle.text.specs.Text.{ascii, register, place}
use Rattle.text.proofs.Short.{name_short}
use Rattle.reports.proofs.Brief.{either, number_short, hex_long, digits}
use Rattle.assembly.specs.Lines.{mode_line, real_place, real_line, constant_line, named, math_names, math_name, instruction_line, reasons, refused_text}

pub mode_short : (mode : Mode) → length (mode_line mode) ≤ 80
unfolding ascii mode_line
mode_short Mode.Plain = lit≤ tt
mode_short Mode.Stable = lit≤ tt
mode_short Mode.Minding = lit≤ tt

place_short : (loc : Loc) → SizedPlace loc → length (place loc) ≤ 11
unfolding ascii place
place_short (Loc.Stack i) h = let d = digits 4 19 i (omega arith) in omega arith
place_short (Loc.Mem i) h = let d = digits 4 19 i (omega arith) in omega arith
place_short (Loc.Param i) h = let d = digits 4 19 i (omega arith) in omega arith

pub real_short : (i : ℕ) → SizedPlace (real_place i) → length (real_line i) ≤ 80
unfolding ascii real_line
real_short i h = let p = place_short (real_place i) h in simp length-append (omega (arith, p))

pub constant_short : (w : ℕ) → length (constant_line w) ≤ 80
unfolding ascii constant_line
constant_short w = simp length-append (omega (arith, hex_long 16 w))

register_short : (r : ℕ) → length (register r) ≤ 21
unfolding ascii register
register_short r =
    let i = number_short r in
    either (eqb r 64) _ _ 21 (lit≤ tt) (either (eqb r 65) _ _ 21 (lit≤ tt) (omega arith))

math_short : (op : ArithOp) → length (math_name op) ≤ 6
unfolding ascii math_name
math_short op = name_short 6 math_names tt (arith_number op)

module _ (op : ArithOp) (dst s1 : ℕ) where
  pub load-short : (loc : Loc) → SizedPlace loc → length (instruction_line (Instruction.LoadMath op dst s1 loc)) ≤ 80
  unfolding ascii instruction_line
  load-short loc h =
      let n = math_short op in
      let r = register_short (named dst) in
      let q = register_short (named s1) in
      let p = place_short loc h in
      simp length-append (omega (arith, n, r, q, p))

  pub const-short : (idx : ℕ) → idx < 65536 → length (instruction_line (Instruction.LoadConstMath op dst s1 idx)) ≤ 80
  unfolding ascii instruction_line
  const-short idx h =
      let n = math_short op in
      let r = register_short (named dst) in
      let q = register_short (named s1) in
      let d = digits 4 19 idx (omega arith) in
      simp length-append (omega (arith, n, r, q, d))

pub refused_short : (number reason : ℕ) → length (refused_text number reason) ≤ 80
unfolding ascii refused_text
refused_short number reason =
    let d = number_short number in
    let w = name_short 14 reasons tt reason in
    simp length-append (omega (arith, d, w))
