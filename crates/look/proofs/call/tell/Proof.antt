-- `look::call::tell` meets its contract.
use borrow.Author.Rules.{rules}
use mathlib.Core.Path.{refl, ap, ◌∙◌}
use Rattle.words.specs.Bytes.{bytes_of, stored}
use Rattle.look.proofs.call.tell.Statement.{statement}
use Rattle.look.proofs.call.tell.Tie as tie

pub tell_spec : {M : Type 1} → statement M
tell_spec =
    tie.close
    (tie.spec
    (λ c κs. search rules) (λ c. search rules) (λ c κs. search rules) (λ c. search rules) (λ c. search rules)
    (λ c. (refl, c.save.ensures ∙ ap (λ l. stored c.args.answer.now 0 (bytes_of l)) c.numbers_of-told.ensures)))
