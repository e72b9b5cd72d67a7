use borrow.Author.Tests.{eq-eqb, ne_eqb}
use Rattle.rerun.proofs.Divides.{into-temp, into_other}
use Rattle.rerun.proofs.methods.minding_divide.Goals as goal

pub returns-then-dst-eq-TEMP : goal.returns-then-dst-eq-TEMP
returns-then-dst-eq-TEMP c = into-temp c.args.x c.args.dst c.args.s1 c.args.s2 (eq-eqb _ _ c.if-dst-eq-TEMP.true) c.stable_divide-added.ensures c.fmov.ensures

pub returns : goal.returns
returns c = into_other c.args.x c.args.dst c.args.s1 c.args.s2 (ne_eqb _ _ c.if-dst-eq-TEMP.false) c.stable_divide.ensures
