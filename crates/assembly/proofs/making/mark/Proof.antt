-- `making::mark` meets its contract.
use borrow.Author.Rules.{rules}
use native.Mathlib.Omega.{arith}
use Rattle.assembly.proofs.Marking.{mark-out, mark-in}
use Rattle.assembly.proofs.making.mark.Statement.{statement}
use Rattle.assembly.proofs.making.mark.Tie as tie

pub mark_spec : {M : Type 1} → statement M
mark_spec =
    tie.close
    (tie.spec
    (λ c. search rules)
    (λ c. mark-out c.args.out.now c.args.i (omega arith))
    (λ c. search rules) (λ c κs. search rules) (λ c. search rules) (λ c. search rules)
    (λ c. mark-in c.args.out.now c.args.i c.with_bit.ensures))
