-- `case::all_bytes` meets its contract. Assumes nothing.
use borrow.Author.Rules.{rules}
use mathlib.Core.Path.{refl}
use Rattle.sheet_replay.specs.Case.{lent_bytes}
use Rattle.sheet_replay.proofs.case.all_bytes.Statement.{statement}
use Rattle.sheet_replay.proofs.case.all_bytes.Tie as tie

pub all_bytes_spec : {M : Type 1} → statement M
unfolding lent_bytes
all_bytes_spec =
    tie.close
    (tie.spec
    (λ c. (refl, search rules)))
