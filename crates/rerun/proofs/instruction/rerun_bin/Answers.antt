use Rattle.std.proofs.Common.{◌≡◌, ℕ, ◌⊎◌, refl, inl, inr}
use Rattle.mir.specs.declared.ops.BinOp.{BinOp}
use Rattle.sheet.specs.declared.setup.Mode.{Mode}
use Rattle.lowering.specs.Lines.{order_lines}
use Rattle.lowering.specs.Complexifier.{by_two, both_as_real, bits}
use Rattle.lowering.specs.Rerun.{rerun_bin}
use Rattle.rerun.specs.Adds.{plainly, stay}
use Rattle.rerun.proofs.instruction.rerun_bin.Goals as goal
use Rattle.rerun.proofs.instruction.rerun_bin.Goals.{in-Plus, in-Minus, in-Times, in-GreaterThan, in-Equal, in-NotEqual, in-And, in-AndNot, in-Complex}

-- the operations of one arm
module _ (m : Mode) (op : BinOp) (d a b : ℕ) where
  ordered : (op ≡ BinOp.GreaterThan) ⊎ ((op ≡ BinOp.GreaterThanEqual) ⊎ ((op ≡ BinOp.LittleThan) ⊎ (op ≡ BinOp.LittleThanEqual)))
      → by_two (order_lines op) both_as_real d a b ≡ rerun_bin m op d a b
  unfolding rerun_bin
  ordered (inl e) = rw e refl
  ordered (inr (inl e)) = rw e refl
  ordered (inr (inr (inl e))) = rw e refl
  ordered (inr (inr (inr e))) = rw e refl

  bitwise : (op ≡ BinOp.And) ⊎ ((op ≡ BinOp.Or) ⊎ (op ≡ BinOp.Xor)) → bits op d a b ≡ rerun_bin m op d a b
  unfolding rerun_bin
  bitwise (inl e) = rw e refl
  bitwise (inr (inl e)) = rw e refl
  bitwise (inr (inr e)) = rw e refl

pub returns-in-Divide : goal.returns-in-Divide
unfolding rerun_bin
returns-in-Divide c = simp c.in-Divide.is c.divide.ensures

pub returns : goal.returns
unfolding rerun_bin
returns c =
    let a = c.args in
    elim c.match-op.branch [
      | in-Plus w ↦ simp (w.in-Plus.is, w.low-is, w.out-is) (plainly w.plus.ensures c.nothing.ensures)
      | in-Minus w ↦ simp (w.in-Minus.is, w.low-is, w.out-is) (plainly w.minus.ensures c.nothing.ensures)
      | in-Times w ↦ simp (w.in-Times.is, w.low-is, w.out-is) (plainly w.times.ensures c.nothing.ensures)
      | in-GreaterThan w ↦ simp (w.low-is, w.out-is, ← ordered a.mode a.op a.dst a.s1 a.s2 w.in-GreaterThan.is) (plainly w.order.ensures c.nothing.ensures)
      | in-Equal w ↦ simp (w.in-Equal.is, w.low-is, w.out-is) (plainly w.compare.ensures c.nothing.ensures)
      | in-NotEqual w ↦ simp (w.in-NotEqual.is, w.low-is, w.out-is) (plainly w.compare-in-NotEqual.ensures c.nothing.ensures)
      | in-And w ↦ simp (w.low-is, w.out-is, ← bitwise a.mode a.op a.dst a.s1 a.s2 w.in-And.is) (plainly w.bits.ensures c.nothing.ensures)
      | in-AndNot w ↦ simp (w.in-AndNot.is, w.low-is, w.out-is) (plainly stay c.nothing.ensures)
      | in-Complex w ↦ simp (w.in-Complex.is, w.low-is, w.out-is) (plainly w.complex.ensures c.nothing.ensures)
    ]
