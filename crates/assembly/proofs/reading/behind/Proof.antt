-- `reading::behind` meets its contract.
use native.Mathlib.Omega.{arith}
use mathlib.Core.Path.{refl}
use Rattle.assembly.proofs.Wording.{behind_end}
use Rattle.assembly.proofs.reading.behind.Statement.{statement}
use Rattle.assembly.proofs.reading.behind.Tie as tie

pub behind_spec : {M : Type 1} → statement M
behind_spec =
    tie.close
    (tie.spec
    (λ c. omega arith)
    (λ c. refl)
    (λ c. behind_end c.args.s.now c.args.end (omega arith)))
