-- `lower_bytes` meets its contract: the call's own promise, and the text for its answer.
use borrow.Author.Rules.{rules}
use mathlib.Core.Path.{ap, subst}
use Rattle.text.specs.Puts.{Puts}
use Rattle.lower_sheet.specs.Lowers.{answer_text}
use Rattle.lower_sheet.proofs.lower_bytes.Statement.{statement}
use Rattle.lower_sheet.proofs.lower_bytes.Tie as tie

pub lower_bytes_spec : {M : Type 1} → statement M
lower_bytes_spec =
    tie.close
    (tie.spec
    (λ c κs. search rules)
    (λ c κs. (c.requires.0, search rules))
    (λ c. search rules) (λ c. search rules) (λ c. search rules) (λ c. search rules) (λ c. search rules)
    (λ c.
    let e = c.tulipcricket_lower_unguarded.ensures in
    let p = c.put_answer in
    record {
      of_listing = ap (λ x. x.listing) e;
      of_constants = ap (λ x. x.constants) e;
      of_origins = ap (λ x. x.origins) e;
      of_answer = ap (λ x. x.answer) e;
      prints = subst (λ a. Puts c.args.out.now 0 (answer_text a) p.new.out p.result) (ap (λ x. x.answer) e) p.ensures;
    }))
