-- `look_record::word_part` meets its contract.
use borrow.Author.Rules.{rules}
use borrow.Author.Tests.{lt-ltb, le-ltb}
use Rattle.look_record.proofs.Texts.{blank}
use Rattle.look_record.proofs.word_part.Statement.{statement}
use Rattle.look_record.proofs.word_part.Tie as tie

pub word_part_spec : {M : Type 1} → statement M
word_part_spec =
    tie.close
    (tie.spec
    (λ c κs. search rules)
    (λ c. simp (lt-ltb _ _ c.if-k-n.true) c.word_line.ensures)
    (λ c κs. search rules)
    (λ c. simp (le-ltb _ _ c.if-k-n.false) (blank c.empty_line.ensures)))
