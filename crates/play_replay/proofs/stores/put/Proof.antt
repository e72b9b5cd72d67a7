-- `stores::put` meets its contract: past the end nothing is set. Assumes nothing.
use native.Mathlib.Omega.{arith}
use borrow.Author.Rules.{rules}
use mathlib.Core.Path.{sym}
use lib.Seq.{set_out}
use Rattle.play_replay.proofs.stores.put.Statement.{statement}
use Rattle.play_replay.proofs.stores.put.Tie as tie

pub put_spec : {M : Type 1} → statement M
put_spec =
    tie.close
    (tie.spec
    (λ c. search rules) (λ c. search rules) (λ c. search rules) (λ c. search rules)
    (λ c. sym (set_out _ _ _ (omega arith))))
