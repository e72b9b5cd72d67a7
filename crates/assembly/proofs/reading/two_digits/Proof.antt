-- `reading::two_digits` meets its contract.
use borrow.Author.Rules.{rules}
use native.Mathlib.Omega.{arith}
use mathlib.Core.Path.{ap, ◌∙◌}
use Rattle.assembly.specs.Assembled.{digit}
use Rattle.assembly.proofs.Digits.{paired}
use Rattle.assembly.proofs.reading.two_digits.Statement.{statement}
use Rattle.assembly.proofs.reading.two_digits.Tie as tie

pub two_digits_spec : {M : Type 1} → statement M
two_digits_spec =
    tie.close
    (tie.spec
    (λ c κs. search rules) (λ c κs. search rules) (λ c. omega arith) (λ c κs. search rules) (λ c κs. search rules)
    (λ c. omega arith) (λ c. omega arith) (λ c. omega arith) (λ c. omega arith) (λ c. omega arith)
    (λ c.
    paired
    (c.hex_digit-high.ensures ∙ ap digit c.byte.ensures)
    (c.hex_digit-low.ensures ∙ ap digit c.byte-2.ensures)))
