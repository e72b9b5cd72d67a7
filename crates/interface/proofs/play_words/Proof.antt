-- `interface::play_words` meets its contract: too many constants are refused as the entry refuses them, and the table holds the constants' words.
use borrow.Author.Rules.{rules}
use mathlib.Core.Path.{sym, ap, ◌∙◌}
use lib.Seq.{length-take-le}
use Rattle.player_machine.specs.Answer.{answer}
use Rattle.words.proofs.Stored.{loaded}
use Rattle.interface.proofs.Playing.{too_many}
use Rattle.interface.proofs.play_words.Statement.{statement}
use Rattle.interface.proofs.play_words.Tie as tie

pub play_words_spec : {M : Type 1} → statement M
play_words_spec =
    tie.close
    (tie.spec
    (λ c.
    let a = c.args in
    too_many a.listing.now a.constants.now a.start a.store.now c.if-n-gt256.true)
    (λ c. search rules) (λ c κs. search rules) (λ c. search rules)
    (λ c. sym (length-take-le _ _ (search rules)))
    (λ c κs. search rules) (λ c. search rules)
    (λ c.
    let a = c.args in
    c.play.ensures
    ∙ ap (λ w. answer a.listing.now w a.start a.store.now) (loaded _ a.constants.now c.load.ensures (search rules))))
