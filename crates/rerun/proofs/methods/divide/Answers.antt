use Rattle.std.proofs.Common.{sym, ◌∙◌}
use Rattle.sheet.specs.declared.setup.Mode.{Mode}
use Rattle.lowering.specs.Complexifier.{divide_by, divide}
use Rattle.rerun.specs.Adds.{plainly, by_flags}
use Rattle.rerun.proofs.Divides.{by-real, by-complex, by_stable, by_minding}
use Rattle.rerun.proofs.methods.divide.Goals as goal

pub returns-then-y : goal.returns-then-y
unfolding divide
returns-then-y c = by_flags (λ x y. divide_by c.args.mode x y c.args.dst c.args.s1 c.args.s2) _ _ c.is_real_reg-x.ensures (sym c.if-y.true ∙ c.is_real_reg-y.ensures) (plainly (by-real c.is_real_reg-x.result c.args.dst c.args.s1 c.args.s2 c.args.mode c.divide_lines.ensures c.set_reg.ensures) c.nothing.ensures)

pub returns-in-Plain : goal.returns-in-Plain
unfolding divide
returns-in-Plain c = simp c.in-Plain.is (by_flags (λ x y. divide_by Mode.Plain x y c.args.dst c.args.s1 c.args.s2) _ _ c.is_real_reg-x.ensures (sym c.if-y.false ∙ c.is_real_reg-y.ensures) (plainly (by-complex c.is_real_reg-x.result c.args.dst c.args.s1 c.args.s2 c.divide_lines-in-Plain.ensures c.set_reg_complex.ensures) c.nothing-in-Plain.ensures))

pub returns-in-Stable : goal.returns-in-Stable
unfolding divide
returns-in-Stable c = simp c.in-Stable.is (by_flags (λ x y. divide_by Mode.Stable x y c.args.dst c.args.s1 c.args.s2) _ _ c.is_real_reg-x.ensures (sym c.if-y.false ∙ c.is_real_reg-y.ensures) (by_stable c.is_real_reg-x.result c.args.dst c.args.s1 c.args.s2 c.stable_divide.ensures))

pub returns-in-Minding : goal.returns-in-Minding
unfolding divide
returns-in-Minding c = simp c.in-Minding.is (by_flags (λ x y. divide_by Mode.Minding x y c.args.dst c.args.s1 c.args.s2) _ _ c.is_real_reg-x.ensures (sym c.if-y.false ∙ c.is_real_reg-y.ensures) (by_minding c.is_real_reg-x.result c.args.dst c.args.s1 c.args.s2 c.minding_divide.ensures))
