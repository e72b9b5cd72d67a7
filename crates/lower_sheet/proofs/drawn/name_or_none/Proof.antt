-- `name_or_none` meets its contract.
use borrow.Author.Rules.{rules}
use borrow.Author.Tests.{eq-eqb, ne_eqb}
use native.Mathlib.Omega.{arith}
use mathlib.Core.Path.{sym, subst}
use mathlib.Core.Bool.{cond}
use mathlib.Core.List.{[]}
use Rattle.text.specs.Line.{Prints, none, ◌▹◌}
use Rattle.text.specs.Text.{space, register}
use Rattle.text.proofs.Whole.{prints}
use Rattle.reports.proofs.Brief.{register_short}
use Rattle.lower_sheet.proofs.drawn.name_or_none.Statement.{statement}
use Rattle.lower_sheet.proofs.drawn.name_or_none.Tie as tie

pub name_or_none_spec : {M : Type 1} → statement M
name_or_none_spec =
    tie.close
    (tie.spec
    (λ c κs. search rules)
    (λ c. subst (λ b. Prints (cond b [] (space (register c.args.i))) c.empty_line.result) (sym (eq-eqb _ 0 c.if-mark-eq0.true)) (prints c.empty_line.ensures none (omega arith)))
    (λ c κs. search rules) (λ c κs. search rules) (λ c κs. search rules)
    (λ c.
    let h = register_short c.args.i in
    subst (λ b. Prints (cond b [] (space (register c.args.i))) c.register.result) (sym (ne_eqb _ 0 c.if-mark-eq0.false))
    (prints c.empty_line-2.ensures (c.byte.ensures ▹ c.register.ensures) (omega (arith, h)))))
