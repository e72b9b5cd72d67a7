-- `wrong_setup` meets its contract.
use borrow.Author.Rules.{rules}
use Rattle.complexify.proofs.entry.wrong_setup.Statement.{statement}
use Rattle.complexify.proofs.entry.wrong_setup.Tie as tie

pub wrong_setup_spec : {M : Type 1} → statement M
wrong_setup_spec =
    tie.close
    (tie.spec
    (λ c κs. search rules)
    (λ c. simp c.fresh.ensures))
