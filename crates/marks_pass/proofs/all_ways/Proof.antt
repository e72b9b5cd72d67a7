-- `marks_pass::all_ways` meets its contract.
use borrow.Author.Rules.{rules}
use mathlib.Core.Path.{◌∙◌}
use mathlib.Core.Bool.{true, false}
use native.Mathlib.Omega.{arith}
use lib.ListN.{length-replicate}
use Rattle.marks_pass.proofs.Passing as P
use Rattle.marks_pass.proofs.all_ways.Statement.{statement}
use Rattle.marks_pass.proofs.all_ways.Tie as tie

straight-requires : tie.Need-straight-at-requires
straight-requires c κs = (length-replicate 256 false, length-replicate 256 false)

pass-requires : tie.Need-pass-requires
pass-requires c κs = ((c.straight-at.auto.filled ∙ length-replicate 256 false, c.straight-at.auto.drawn ∙ length-replicate 256 false), (P.begun _ _ c.straight-at.ensures, P.no_ways 16896))

both-requires : tie.Need-both-requires
both-requires c κs = (c.pass.auto.filled ∙ c.straight-at.auto.filled ∙ length-replicate 256 false, c.pass.auto.drawn ∙ c.straight-at.auto.drawn ∙ length-replicate 256 false)

returns : tie.Need-returns
returns c =
    λ rs e.
    let p = c.pass.ensures in
    c.both.ensures rs (p.marks rs e (p.whole rs e (let z = length-replicate 16896 true in omega (arith, z))))

pub all_ways_spec : {M : Type 1} → statement M
all_ways_spec =
    tie.close
    (tie.spec
    (λ c. search rules) (λ c. search rules) straight-requires (λ c. search rules) (λ c. search rules) (λ c. search rules)
    pass-requires (λ c. search rules) (λ c. search rules) both-requires returns)
