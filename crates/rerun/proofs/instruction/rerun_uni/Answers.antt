use Rattle.std.proofs.Common.{◌≡◌, ℕ, ◌⊎◌, refl, inl, inr}
use Rattle.mir.specs.declared.ops.UniOp.{UniOp}
use Rattle.sheet.specs.declared.setup.Mode.{Mode}
use Rattle.lowering.specs.Lines.{each_lines}
use Rattle.lowering.specs.Complexifier.{one_by_one, copied, abs, root, real_root, recip}
use Rattle.lowering.specs.Rerun.{rerun_uni}
use Rattle.rerun.specs.Adds.{plainly, by_mode}
use Rattle.rerun.proofs.instruction.rerun_uni.Goals as goal
use Rattle.rerun.proofs.instruction.rerun_uni.Goals.{in-Neg, in-Not, in-Real, in-Imaginary, in-Conjugate, in-Half, in-IsZero, in-IsNotZero, in-Abs2, in-TimesI, in-TimesNegI}

-- the operations that each half takes by itself
by_halves : (m : Mode) (op : UniOp) (d a : ℕ)
    → (op ≡ UniOp.Neg) ⊎ ((op ≡ UniOp.Round) ⊎ ((op ≡ UniOp.Floor) ⊎ ((op ≡ UniOp.Ceiling) ⊎ ((op ≡ UniOp.Trunc) ⊎ (op ≡ UniOp.Sign)))))
    → one_by_one (each_lines op) copied d a ≡ rerun_uni m op d a
unfolding rerun_uni
by_halves m op d a (inl e) = rw e refl
by_halves m op d a (inr (inl e)) = rw e refl
by_halves m op d a (inr (inr (inl e))) = rw e refl
by_halves m op d a (inr (inr (inr (inl e)))) = rw e refl
by_halves m op d a (inr (inr (inr (inr (inl e))))) = rw e refl
by_halves m op d a (inr (inr (inr (inr (inr e))))) = rw e refl

pub returns-in-Abs : goal.returns-in-Abs
unfolding rerun_uni
returns-in-Abs c = simp c.in-Abs.is (by_mode (λ x. abs x c.args.dst c.args.s1) c.is_stable-stable.ensures c.abs.ensures)

pub returns-in-Root : goal.returns-in-Root
unfolding rerun_uni
returns-in-Root c = simp c.in-Root.is (by_mode (λ x. root x c.args.dst c.args.s1) c.is_stable-stable.ensures c.root.ensures)

pub returns-in-RealRoot : goal.returns-in-RealRoot
unfolding rerun_uni
returns-in-RealRoot c = simp c.in-RealRoot.is (by_mode (λ x. real_root x c.args.dst c.args.s1) c.is_stable-stable.ensures c.real_root.ensures)

pub returns-in-Recip : goal.returns-in-Recip
unfolding rerun_uni
returns-in-Recip c = simp c.in-Recip.is (by_mode (λ x. recip x c.args.dst c.args.s1) c.is_stable-stable.ensures c.recip.ensures)

pub returns : goal.returns
unfolding rerun_uni
returns c =
    let a = c.args in
    elim c.match-op.branch [
      | in-Neg w ↦ simp (w.low-is, w.out-is, ← by_halves a.mode a.op a.dst a.s1 w.in-Neg.is) (plainly w.each.ensures c.nothing.ensures)
      | in-Not w ↦ simp (w.in-Not.is, w.low-is, w.out-is) (plainly w.not.ensures c.nothing.ensures)
      | in-Real w ↦ simp (w.in-Real.is, w.low-is, w.out-is) (plainly w.real.ensures c.nothing.ensures)
      | in-Imaginary w ↦ simp (w.in-Imaginary.is, w.low-is, w.out-is) (plainly w.imaginary.ensures c.nothing.ensures)
      | in-Conjugate w ↦ simp (w.in-Conjugate.is, w.low-is, w.out-is) (plainly w.conjugate.ensures c.nothing.ensures)
      | in-Half w ↦ simp (w.in-Half.is, w.low-is, w.out-is) (plainly w.half.ensures c.nothing.ensures)
      | in-IsZero w ↦ simp (w.in-IsZero.is, w.low-is, w.out-is) (plainly w.compare_zero.ensures c.nothing.ensures)
      | in-IsNotZero w ↦ simp (w.in-IsNotZero.is, w.low-is, w.out-is) (plainly w.compare_zero-in-IsNotZero.ensures c.nothing.ensures)
      | in-Abs2 w ↦ simp (w.in-Abs2.is, w.low-is, w.out-is) (plainly w.abs2.ensures c.nothing.ensures)
      | in-TimesI w ↦ simp (w.in-TimesI.is, w.low-is, w.out-is) (plainly w.times_i.ensures c.nothing.ensures)
      | in-TimesNegI w ↦ simp (w.in-TimesNegI.is, w.low-is, w.out-is) (plainly w.times_neg_i.ensures c.nothing.ensures)
    ]
