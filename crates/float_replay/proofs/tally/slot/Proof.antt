-- `tally::slot` meets its contract, below 35 and above.
-- Assumes nothing.
use native.Mathlib.Omega.{arith}
use borrow.Author.Tests.{lt-ltb, le-ltb}
use Rattle.float_replay.proofs.tally.slot.Statement.{statement}
use Rattle.float_replay.proofs.tally.slot.Tie as tie

pub slot_spec : {M : Type 1} → statement M
slot_spec =
    tie.close
    (tie.spec
    (λ c. (simp (lt-ltb _ 35 c.if-op-lt35.true), omega arith))
    (λ c. (simp (le-ltb _ 35 c.if-op-lt35.false), omega arith)))
