-- `work::words::get` meets its contract.
use borrow.Author.Rules.{rules}
use native.Mathlib.Omega.{arith}
use mathlib.Core.Path.{sym}
use lib.ListN.{get_or-eq_default}
use Rattle.player_work.proofs.words.get.Statement.{statement}
use Rattle.player_work.proofs.words.get.Tie as tie

pub get_spec : {M : Type 1} → statement M
get_spec =
    tie.close
    (tie.spec
    (λ c. search rules) (λ c. search rules) (λ c. search rules)
    (λ c. sym (get_or-eq_default c.args.words.now 0 {n = c.args.i} (omega arith))))
