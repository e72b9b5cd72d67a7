-- `making::text_start` meets its contract.
use borrow.Author.Rules.{rules}
use mathlib.Core.Path.{refl, sym, ◌∙◌}
use mathlib.Core.Bool.{true, false}
use borrow.Author.Tests.{eq-eqb, ne_eqb}
use Rattle.assembly.proofs.Stepping.{by-marks}
use Rattle.assembly.proofs.making.text_start.Statement.{statement}
use Rattle.assembly.proofs.making.text_start.Tie as tie

pub text_start_spec : {M : Type 1} → statement M
text_start_spec =
    tie.close
    (tie.spec
    (λ c κs. search rules)
    (λ c. by-marks c.args.t.now false _ _ (ne_eqb _ _ (λ e. c.if-byte-ne239.true (c.byte.ensures ∙ e))) refl refl)
    (λ c κs. search rules)
    (λ c.
    by-marks c.args.t.now true false _
    (eq-eqb _ _ (sym c.byte.ensures ∙ c.if-byte-ne239.false))
    (ne_eqb _ _ (λ e. c.if-byte-ne187.true (c.byte-2.ensures ∙ e))) refl)
    (λ c κs. search rules)
    (λ c.
    by-marks c.args.t.now true true true
    (eq-eqb _ _ (sym c.byte.ensures ∙ c.if-byte-ne239.false))
    (eq-eqb _ _ (sym c.byte-2.ensures ∙ c.if-byte-ne187.false))
    (eq-eqb _ _ (sym c.byte-3.ensures ∙ c.if-byte-eq191.true)))
    (λ c.
    by-marks c.args.t.now true true false
    (eq-eqb _ _ (sym c.byte.ensures ∙ c.if-byte-ne239.false))
    (eq-eqb _ _ (sym c.byte-2.ensures ∙ c.if-byte-ne187.false))
    (ne_eqb _ _ (λ e. c.if-byte-eq191.false (c.byte-3.ensures ∙ e)))))
