-- `mark_bytes` meets its contract: the two rows of marks fill the bytes.
use borrow.Author.Rules.{rules}
use Rattle.sheet_replay.proofs.Judging.{marks_made}
use Rattle.sheet_replay.proofs.case.mark_bytes.Statement.{statement}
use Rattle.sheet_replay.proofs.case.mark_bytes.Tie as tie

pub mark_bytes_spec : {M : Type 1} → statement M
mark_bytes_spec =
    tie.close
    (tie.spec
    (λ c. search rules) (λ c. search rules) (λ c κs. search rules) (λ c. search rules) (λ c. search rules) (λ c κs. search rules)
    (λ c. marks_made c.args.filled c.args.drawn (search rules) (search rules) c.put_flags.ensures c.put_flags-2.ensures))
