-- `work::operations::uni_word` meets its contract, operation by operation.
use borrow.Author.Rules.{rules}
use Rattle.player_machine.specs.Machine.{uni_word}
use Rattle.player_work.proofs.operations.uni_word.Statement.{statement}
use Rattle.player_work.proofs.operations.uni_word.Tie as tie

pub uni_word_spec : {M : Type 1} → statement M
unfolding uni_word
uni_word_spec =
    tie.close
    (tie.spec
    (λ c. search rules) (λ c κs. search rules) (λ c. search rules) (λ c κs. search rules) (λ c. search rules) (λ c κs. search rules)
    (λ c. search rules) (λ c κs. search rules) (λ c. search rules) (λ c. search rules) (λ c κs. search rules) (λ c. search rules)
    (λ c κs. search rules) (λ c. search rules) (λ c κs. search rules) (λ c. search rules) (λ c κs. search rules) (λ c. search rules)
    (λ c κs. search rules) (λ c. search rules) (λ c. search rules) (λ c. search rules) (λ c. search rules) (λ c κs. search rules)
    (λ c. search rules) (λ c κs. search rules) (λ c. search rules) (λ c. search rules) (λ c κs. search rules) (λ c. search rules)
    (λ c. search rules) (λ c. search rules)
    (λ c. simp (c.in-Neg.in-Neg-own.keys1, c.in-Neg.is) c.neg.ensures)
    (λ c. simp (c.in-Not.in-Not-own.keys2, c.in-Not.is) c.not.ensures)
    (λ c. simp (c.in-Abs.in-Abs-own.keys3, c.in-Abs.is) c.abs.ensures)
    (λ c. simp (c.in-Root.in-Root-own.keys4, c.in-Root.is) c.root.ensures)
    (λ c. simp (c.in-RealRoot.in-RealRoot-own.keys5, c.in-RealRoot.is))
    (λ c. simp (c.in-Recip.in-Recip-own.keys6, c.in-Recip.is) c.recip.ensures)
    (λ c. simp (c.in-Round.in-Round-own.keys7, c.in-Round.is) c.round.ensures)
    (λ c. simp (c.in-Floor.in-Floor-own.keys8, c.in-Floor.is) c.floor.ensures)
    (λ c. simp (c.in-Ceiling.in-Ceiling-own.keys9, c.in-Ceiling.is) c.ceiling.ensures)
    (λ c. simp (c.in-Trunc.in-Trunc-own.keys10, c.in-Trunc.is) c.trunc.ensures)
    (λ c. simp (c.in-Real.in-Real-own.keys11, c.in-Real.is))
    (λ c. simp (c.in-Imaginary.in-Imaginary-own.keys12, c.in-Imaginary.is))
    (λ c. simp (c.in-Conjugate.in-Conjugate-own.keys13, c.in-Conjugate.is))
    (λ c. simp (c.in-Half.in-Half-own.keys14, c.in-Half.is) c.half.ensures)
    (λ c. simp (c.in-IsZero.in-IsZero-own.keys15, c.in-IsZero.is) c.is_zero.ensures)
    (λ c. simp (c.in-IsNotZero.in-IsNotZero-own.keys16, c.in-IsNotZero.is))
    (λ c. simp (c.in-Sign.in-Sign-own.keys17, c.in-Sign.is) c.sign.ensures)
    (λ c. simp (c.in-Abs2.in-Abs2-own.keys18, c.in-Abs2.is))
    (λ c. simp (c.in-TimesI.in-TimesI-own.keys19, c.in-TimesI.is))
    (λ c. simp (c.in-TimesNegI.in-TimesNegI-own.keys20, c.in-TimesNegI.is)))
