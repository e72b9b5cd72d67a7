-- `nearest::wins` meets its contract.
use mathlib.Core.Path.{sym, ap, ◌∙◌}
use mathlib.Core.Bool.{◌||◌}
use lib.Ieee.{ne}
use Rattle.nearest.proofs.wins.Statement.{statement}
use Rattle.nearest.proofs.wins.Tie as tie

pub wins_spec : {M : Type 1} → statement M
wins_spec =
    tie.close
    (tie.spec
    (λ c. c.if-far-least.true ∙ ap (λ b. b || ne c.args.least c.args.least) (sym c.if-far-least.true))
    (λ c. ap (λ b. b || ne c.args.least c.args.least) (sym c.if-far-least.false)))
