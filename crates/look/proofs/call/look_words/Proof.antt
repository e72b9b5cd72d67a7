-- `look::call::look_words` meets its contract: too many constants are refused as the entry refuses them, and the table holds the words.
use borrow.Author.Rules.{rules}
use mathlib.Core.Path.{sym, ap, ◌∙◌}
use lib.Seq.{length-take-le}
use Rattle.words.proofs.Stored.{loaded}
use Rattle.player_machine.specs.Look as Machine
use Rattle.look.specs.Numbers.{told}
use Rattle.look.proofs.Calls.{too_many}
use Rattle.look.proofs.call.look_words.Statement.{statement}
use Rattle.look.proofs.call.look_words.Tie as tie

pub look_words_spec : {M : Type 1} → statement M
look_words_spec =
    tie.close
    (tie.spec
    (λ c κs. search rules)
    (λ c. let a = c.args in too_many a.listing.now a.constants.now a.store.now a.start c.if-n-gt256.true c.unshown.ensures)
    (λ c. search rules) (λ c κs. search rules) (λ c. search rules)
    (λ c. sym (length-take-le _ _ (search rules)))
    (λ c κs. search rules)
    (λ c. let a = c.args in c.look.ensures ∙ ap (λ w. told (Machine.look a.listing.now w a.store.now a.start)) (loaded _ a.constants.now c.load.ensures (search rules))))
