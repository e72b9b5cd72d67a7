-- `marks_pass::marks_of` meets its contract.
use borrow.Author.Rules.{rules}
use mathlib.Core.Path.{◌∙◌}
use mathlib.Core.Bool.{false}
use lib.ListN.{length-replicate}
use Rattle.marks_pass.proofs.Passing as P
use Rattle.marks_pass.proofs.marks_of.Statement.{statement}
use Rattle.marks_pass.proofs.marks_of.Tie as tie

straight-requires : tie.Need-straight-at-requires
straight-requires c κs = (length-replicate 256 false, length-replicate 256 false)

both-requires : tie.Need-both-requires
both-requires c κs = (c.straight-at.auto.filled ∙ length-replicate 256 false, c.straight-at.auto.drawn ∙ length-replicate 256 false)

returns : tie.Need-returns-then-listing-at
returns c = λ rs e. c.both.ensures rs (P.led_end _ rs _ c.if-listing-at.true (P.begun _ _ c.straight-at.ensures rs e))

few-ways-requires : tie.Need-few_ways-requires
few-ways-requires c κs = ((c.straight-at.auto.filled ∙ length-replicate 256 false, c.straight-at.auto.drawn ∙ length-replicate 256 false), P.begun _ _ c.straight-at.ensures)

both-requires-2 : tie.Need-both-requires-then-few_ways
both-requires-2 c κs = (c.few_ways.auto.filled ∙ c.straight-at.auto.filled ∙ length-replicate 256 false, c.few_ways.auto.drawn ∙ c.straight-at.auto.drawn ∙ length-replicate 256 false)

returns-2 : tie.Need-returns-then-few_ways
returns-2 c = λ rs e. c.both-then-few_ways.ensures rs (c.few_ways.ensures rs e c.if-few_ways.true)

returns-3 : tie.Need-returns
returns-3 c = c.all_ways.ensures

pub marks_of_spec : {M : Type 1} → statement M
marks_of_spec =
    tie.close
    (tie.spec
    (λ c. search rules) (λ c. search rules) straight-requires (λ c. search rules) (λ c. search rules) both-requires
    returns (λ c. search rules) (λ c. search rules) few-ways-requires (λ c. search rules) (λ c. search rules)
    both-requires-2 returns-2 (λ c κs. search rules) returns-3)
