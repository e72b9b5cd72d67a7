-- `stop_at` meets its contract.
use borrow.Author.Rules.{rules}
use Rattle.complexify.proofs.entry.stop_at.Statement.{statement}
use Rattle.complexify.proofs.entry.stop_at.Tie as tie

pub stop_at_spec : {M : Type 1} → statement M
stop_at_spec =
    tie.close
    (tie.spec
    (λ c. search rules))
