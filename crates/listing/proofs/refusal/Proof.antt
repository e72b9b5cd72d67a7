-- `refusal` meets its contract. Assumes nothing.
use borrow.Author.Rules.{rules}
use mathlib.Core.Path.{sym, ap, subst}
use mathlib.Core.Bool.{Bool}
use Rattle.text.specs.Line.{Prints}
use Rattle.listing.specs.Printed.{refusal_of}
use Rattle.listing.proofs.refusal.Statement.{statement}
use Rattle.listing.proofs.refusal.Tie as tie

pub refusal_spec : {M : Type 1} → statement M
refusal_spec =
    tie.close
    (tie.spec
    (λ c κs. search rules)
    (λ c. let a = c.args in subst (λ l. Prints l c.refusal_line.result) (sym (ap (λ (q : Bool). refusal_of q a.number a.index) c.if-named.true)) c.refusal_line.ensures)
    (λ c κs. search rules)
    (λ c. let a = c.args in subst (λ l. Prints l c.refused_line.result) (sym (ap (λ (q : Bool). refusal_of q a.number a.index) c.if-named.false)) c.refused_line.ensures))
