use Rattle.std.proofs.Common.{true, false, sym, ◌∙◌}
use Rattle.lowering.specs.Lines.{recip_lines}
use Rattle.lowering.specs.Complexifier.{recip_by, recip}
use Rattle.complexifier.specs.Does.{made}
use Rattle.rerun.specs.Adds.{plainly, by_flag}
use Rattle.rerun.proofs.methods.recip.Goals as goal

pub returns-then-x : goal.returns-then-x
unfolding recip
returns-then-x c = by_flag (λ x. recip_by c.args.stable x c.args.dst c.args.s1) _ (sym c.if-x.true ∙ c.is_real_reg-x.ensures) (plainly (made (recip_lines true _ _) _ true c.recip_lines.ensures c.set_reg_real.ensures) c.nothing.ensures)

pub returns-then-stable : goal.returns-then-stable
unfolding recip
returns-then-stable c = simp c.if-stable.true (by_flag (λ x. recip_by true x c.args.dst c.args.s1) _ (sym c.if-x.false ∙ c.is_real_reg-x.ensures) c.stable_recip.ensures)

pub returns : goal.returns
unfolding recip
returns c = simp c.if-stable.false (by_flag (λ x. recip_by false x c.args.dst c.args.s1) _ (sym c.if-x.false ∙ c.is_real_reg-x.ensures) (plainly (made (recip_lines false _ _) _ false c.recip_lines-2.ensures c.set_reg_complex.ensures) c.nothing-2.ensures))
