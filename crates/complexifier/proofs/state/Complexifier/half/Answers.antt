use mathlib.Core.Path.{refl}
use Rattle.complexifier.proofs.Halving.{minding, as-rust}
use Rattle.complexifier.proofs.state.Complexifier.half.Goals as goal

pub returns-then-is_minding : goal.returns-then-is_minding
returns-then-is_minding c = minding c.args.mode c.args.dst c.args.s1 c.if-is_minding.true c.is_minding.ensures c.is_real_reg-x.ensures c.minding_half_lines.ensures c.copy_real.ensures

pub returns : goal.returns
returns c = as-rust c.args.mode c.args.dst c.args.s1 c.if-is_minding.false c.is_minding.ensures refl c.half_lines.ensures
