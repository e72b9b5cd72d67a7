-- `marks_pass::few_ways` meets its contract.
use borrow.Author.Rules.{rules}
use Rattle.marks_pass.proofs.Passing as P
use Rattle.marks_pass.proofs.few_ways.Statement.{statement}
use Rattle.marks_pass.proofs.few_ways.Tie as tie

pass-requires : tie.Need-pass-requires
pass-requires c κs = (c.requires.0, (c.requires.1, P.no_ways 198))

same_length : tie.Need-shape_of-filled
same_length c = c.pass.auto.filled

same-length-2 : tie.Need-shape_of-drawn
same-length-2 c = c.pass.auto.drawn

returns : tie.Need-returns
returns c = λ rs e t. c.pass.ensures.marks rs e t

pub few_ways_spec : {M : Type 1} → statement M
few_ways_spec =
    tie.close
    (tie.spec
    (λ c. search rules) pass-requires same_length same-length-2 returns)
