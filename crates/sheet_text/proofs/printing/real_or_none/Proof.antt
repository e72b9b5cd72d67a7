-- `real_or_none` meets its contract.
use borrow.Author.Rules.{rules}
use native.Mathlib.Omega.{arith}
use mathlib.Core.Path.{refl, sym}
use mathlib.Core.Path.{subst}
use mathlib.Core.Bool.{cond}
use mathlib.Core.List.{[]}
use Rattle.text.specs.Line.{Prints}
use Rattle.assembly.specs.Lines.{real_line}
use Rattle.sheet_text.proofs.printing.real_or_none.Statement.{statement}
use Rattle.sheet_text.proofs.printing.real_or_none.Tie as tie

pub real_or_none_spec : {M : Type 1} → statement M
real_or_none_spec =
    tie.close
    (tie.spec
    (λ c κs. search rules)
    (λ c. subst (λ b. Prints (cond b (real_line c.args.i) []) c.real_line.result) (sym c.if-real.true) c.real_line.ensures)
    (λ c κs. search rules)
    (λ c.
    subst (λ b. Prints (cond b (real_line c.args.i) []) c.empty_line.result) (sym c.if-real.false)
    (subst (Prints []) (sym c.empty_line.ensures)
    (record { same = refl; whole = record { size = refl; count = refl; fits = omega arith; bytes = refl } }))))
