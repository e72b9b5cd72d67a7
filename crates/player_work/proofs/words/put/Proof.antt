-- `work::words::put` meets its contract.
use borrow.Author.Rules.{rules}
use native.Mathlib.Omega.{arith}
use mathlib.Core.Path.{sym}
use lib.Seq.{set_out}
use Rattle.player_work.proofs.words.put.Statement.{statement}
use Rattle.player_work.proofs.words.put.Tie as tie

pub put_spec : {M : Type 1} → statement M
put_spec =
    tie.close
    (tie.spec
    (λ c. search rules) (λ c. search rules) (λ c. search rules) (λ c. search rules)
    (λ c. sym (set_out c.args.words.now c.args.i c.args.v (omega arith))))
