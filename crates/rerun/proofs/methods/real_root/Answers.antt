use Rattle.std.proofs.Common.{true, sym, ◌∙◌}
use Rattle.lowering.specs.Lines.{real_root_lines}
use Rattle.lowering.specs.Complexifier.{real_root_by, real_root}
use Rattle.complexifier.specs.Does.{made}
use Rattle.rerun.specs.Adds.{plainly, by_flag}
use Rattle.rerun.proofs.methods.real_root.Goals as goal

pub returns-then-x : goal.returns-then-x
unfolding real_root
returns-then-x c = by_flag (λ x. real_root_by c.args.stable x c.args.dst c.args.s1) _ (sym c.if-x.true ∙ c.is_real_reg-x.ensures) (plainly (made (real_root_lines _ _) _ true c.real_root_lines.ensures c.set_reg_real.ensures) c.nothing.ensures)

pub returns : goal.returns
unfolding real_root
returns c = by_flag (λ x. real_root_by c.args.stable x c.args.dst c.args.s1) _ (sym c.if-x.false ∙ c.is_real_reg-x.ensures) c.root.ensures
