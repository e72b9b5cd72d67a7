-- `work::operations::fused_word` meets its contract, operation by operation.
use borrow.Author.Rules.{rules}
use Rattle.player_machine.specs.Machine.{fused_word}
use Rattle.player_work.proofs.operations.fused_word.Statement.{statement}
use Rattle.player_work.proofs.operations.fused_word.Tie as tie

pub fused_word_spec : {M : Type 1} → statement M
unfolding fused_word
fused_word_spec =
    tie.close
    (tie.spec
    (λ c. search rules) (λ c κs. search rules) (λ c. search rules) (λ c. search rules) (λ c. search rules)
    (λ c. simp (c.in-MulAdd.in-MulAdd-own.keys1, c.in-MulAdd.is) c.mul_add.ensures)
    (λ c. simp (c.in-MulSub.in-MulSub-own.keys2, c.in-MulSub.is))
    (λ c. simp (c.in-NegMulAdd.in-NegMulAdd-own.keys3, c.in-NegMulAdd.is))
    (λ c. simp (c.in-NegMulSub.in-NegMulSub-own.keys4, c.in-NegMulSub.is)))
