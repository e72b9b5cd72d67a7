-- `work::operations::complex_words` meets its contract, operation by operation.
use borrow.Author.Rules.{rules}
use Rattle.player_machine.specs.Machine.{complex_words}
use Rattle.player_work.proofs.operations.complex_words.Statement.{statement}
use Rattle.player_work.proofs.operations.complex_words.Tie as tie

pub complex_words_spec : {M : Type 1} → statement M
unfolding complex_words
complex_words_spec =
    tie.close
    (tie.spec
    (λ c. search rules) (λ c κs. search rules) (λ c. search rules) (λ c κs. search rules) (λ c. search rules) (λ c κs. search rules)
    (λ c. search rules) (λ c κs. search rules)
    (λ c. (simp (c.in-Plus.in-Plus-own.keys1, c.in-Plus.is) c.complex_plus.ensures.0, simp (c.in-Plus.in-Plus-own.keys1, c.in-Plus.is) c.complex_plus.ensures.1))
    (λ c. (simp (c.in-Minus.in-Minus-own.keys2, c.in-Minus.is) c.complex_minus.ensures.0, simp (c.in-Minus.in-Minus-own.keys2, c.in-Minus.is) c.complex_minus.ensures.1))
    (λ c. (simp (c.in-Times.in-Times-own.keys3, c.in-Times.is) c.complex_times.ensures.0, simp (c.in-Times.in-Times-own.keys3, c.in-Times.is) c.complex_times.ensures.1))
    (λ c. (simp (c.in-Divide.in-Divide-own.keys4, c.in-Divide.is) c.complex_divide.ensures.0, simp (c.in-Divide.in-Divide-own.keys4, c.in-Divide.is) c.complex_divide.ensures.1)))
