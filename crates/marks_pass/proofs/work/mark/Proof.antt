-- `marks_pass::work::mark` meets its contract.
use borrow.Author.Rules.{rules}
use mathlib.Core.Path.{◌∙◌}
use Rattle.marks_pass.proofs.Arrays as A
use Rattle.marks_pass.proofs.work.mark.Statement.{statement}
use Rattle.marks_pass.proofs.work.mark.Tie as tie

fill-requires-2 : tie.Need-fill-requires-2
fill-requires-2 c κs = c.fill.auto.filled ∙ c.requires.1.0

returns : tie.Need-returns
returns c =
    record {
      drawn = A.drawn-more _ _ c.draw.ensures (A.drawn-more _ _ c.draw-2.ensures (A.drawn-more _ _ c.draw-3.ensures c.draw-4.ensures));
      filled = A.filled_more _ c.fill.ensures c.fill-2.ensures;
    }

pub mark_spec : {M : Type 1} → statement M
mark_spec =
    tie.close
    (tie.spec
    (λ c. search rules) (λ c. search rules) (λ c κs. search rules) (λ c. search rules) (λ c. search rules)
    (λ c κs. search rules) (λ c. search rules) (λ c. search rules) (λ c κs. search rules) (λ c. search rules)
    (λ c. search rules) (λ c κs. search rules) (λ c. search rules) (λ c. search rules) (λ c κs. search rules)
    (λ c. search rules) (λ c. search rules) fill-requires-2 (λ c. search rules) (λ c. search rules) returns)
