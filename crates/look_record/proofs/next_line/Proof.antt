-- `look_record::next_line` meets its contract.
use borrow.Author.Rules.{rules}
use borrow.Author.Tests.{eq-eqb, ne_eqb}
use native.Mathlib.Omega.{arith}
use Rattle.text.specs.Line.{◌▹◌}
use Rattle.text.specs.Text.{ascii}
use Rattle.text.proofs.Whole.{prints}
use Rattle.look_record.specs.Looks.{next_line}
use Rattle.look_record.proofs.Texts.{next_short}
use Rattle.look_record.proofs.next_line.Statement.{statement}
use Rattle.look_record.proofs.next_line.Tie as tie

pub next_line_spec : {M : Type 1} → statement M
unfolding ascii next_line
next_line_spec =
    tie.close
    (tie.spec
    (λ c κs. search rules) (λ c. search rules)
    (λ c. simp (eq-eqb _ _ c.if-follows-count.true) (prints c.empty_line.ensures c.text.ensures (omega arith)))
    (λ c κs. search rules) (λ c. search rules) (λ c κs. search rules) (λ c κs. search rules)
    (λ c. simp (ne_eqb _ _ c.if-follows-count.false) (prints c.empty_line-2.ensures (c.text-2.ensures ▹ c.number.ensures ▹ c.byte.ensures) (next_short c.args.follows))))
