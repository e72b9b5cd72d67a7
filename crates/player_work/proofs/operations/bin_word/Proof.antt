-- `work::operations::bin_word` meets its contract, operation by operation.
use borrow.Author.Rules.{rules}
use Rattle.player_machine.specs.Machine.{bin_word}
use Rattle.player_work.proofs.operations.bin_word.Statement.{statement}
use Rattle.player_work.proofs.operations.bin_word.Tie as tie

pub bin_word_spec : {M : Type 1} → statement M
unfolding bin_word
bin_word_spec =
    tie.close
    (tie.spec
    (λ c. search rules) (λ c κs. search rules) (λ c. search rules) (λ c κs. search rules) (λ c. search rules) (λ c κs. search rules)
    (λ c. search rules) (λ c κs. search rules) (λ c. search rules) (λ c κs. search rules) (λ c. search rules) (λ c κs. search rules)
    (λ c. search rules) (λ c κs. search rules) (λ c. search rules) (λ c κs. search rules) (λ c. search rules) (λ c κs. search rules)
    (λ c. search rules) (λ c κs. search rules) (λ c. search rules) (λ c κs. search rules) (λ c. search rules) (λ c. search rules)
    (λ c κs. search rules) (λ c. search rules) (λ c κs. search rules) (λ c. search rules)
    (λ c. simp (c.in-Plus.in-Plus-own.keys1, c.in-Plus.is) c.plus.ensures)
    (λ c. simp (c.in-Minus.in-Minus-own.keys2, c.in-Minus.is) c.minus.ensures)
    (λ c. simp (c.in-Times.in-Times-own.keys3, c.in-Times.is) c.times.ensures)
    (λ c. simp (c.in-Divide.in-Divide-own.keys4, c.in-Divide.is) c.divide.ensures)
    (λ c. simp (c.in-GreaterThan.in-GreaterThan-own.keys5, c.in-GreaterThan.is) c.greater_than.ensures)
    (λ c. simp (c.in-GreaterThanEqual.in-GreaterThanEqual-own.keys6, c.in-GreaterThanEqual.is) c.greater_than_equal.ensures)
    (λ c. simp (c.in-LittleThan.in-LittleThan-own.keys7, c.in-LittleThan.is) c.little_than.ensures)
    (λ c. simp (c.in-LittleThanEqual.in-LittleThanEqual-own.keys8, c.in-LittleThanEqual.is) c.little_than_equal.ensures)
    (λ c. simp (c.in-Equal.in-Equal-own.keys9, c.in-Equal.is) c.equal.ensures)
    (λ c. simp (c.in-NotEqual.in-NotEqual-own.keys10, c.in-NotEqual.is) c.not_equal.ensures)
    (λ c. simp (c.in-And.in-And-own.keys11, c.in-And.is) c.and.ensures)
    (λ c. simp (c.in-AndNot.in-AndNot-own.keys12, c.in-AndNot.is))
    (λ c. simp (c.in-Or.in-Or-own.keys13, c.in-Or.is) c.or.ensures)
    (λ c. simp (c.in-Xor.in-Xor-own.keys14, c.in-Xor.is) c.xor.ensures)
    (λ c. simp (c.in-Complex.in-Complex-own.keys15, c.in-Complex.is)))
