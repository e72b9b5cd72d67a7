-- `marks_pass::both` meets its contract.
use borrow.Author.Rules.{rules}
use mathlib.Core.Path.{ap₂}
use mathlib.Core.Bool.{Bool}
use mathlib.Core.List.{List}
use Rattle.marks_pass.proofs.Passing as P
use Rattle.marks_pass.proofs.both.Statement.{statement}
use Rattle.marks_pass.proofs.both.Tie as tie

returns : tie.Need-returns
returns c =
    λ rs s.
    ap₂ (λ (f d : List Bool). record { filled = f; drawn = d })
    (P.first-is _ _ _ (search rules) c.first-a.ensures s.filled)
    (P.first-is _ _ _ (search rules) c.first-b.ensures s.drawn)

pub both_spec : {M : Type 1} → statement M
both_spec =
    tie.close
    (tie.spec
    (λ c κs. search rules) (λ c κs. search rules) returns)
