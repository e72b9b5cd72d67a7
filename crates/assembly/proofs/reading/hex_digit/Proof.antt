-- `reading::hex_digit` meets its contract.
use native.Mathlib.Omega.{arith}
use Rattle.assembly.proofs.Digits.{digit_low, digit_decimal, digit_between, digit_letter, digit_high}
use Rattle.assembly.proofs.reading.hex_digit.Statement.{statement}
use Rattle.assembly.proofs.reading.hex_digit.Tie as tie

pub hex_digit_spec : {M : Type 1} → statement M
hex_digit_spec =
    tie.close
    (tie.spec
    (λ c. digit_low c.args.b (omega arith))
    (λ c. digit_decimal c.args.b (omega arith) (omega arith))
    (λ c. digit_between c.args.b (omega arith) (omega arith))
    (λ c. omega arith)
    (λ c. digit_letter c.args.b (omega arith) (omega arith))
    (λ c. digit_high c.args.b (omega arith)))
