-- `player::play` meets its contract: refused by the verdict, or played from its positions.
use borrow.Author.Rules.{rules}
use lib.ListN.{length}
use Rattle.player.proofs.Answering.{judged, refused-play, answered}
use Rattle.player.proofs.play.Statement.{statement}
use Rattle.player.proofs.play.Tie as tie

pub play_spec : {M : Type 1} → statement M
play_spec =
    tie.close
    (tie.spec
    (λ c κs. search rules)
    (λ c.
    let a = c.args in
    refused-play a.constants.now a.listing.now a.start a.store.now c.judge-v.ensures c.if-v-ne0.true)
    (λ c κs.
    let a = c.args in
    let v = c.judge-v.ensures in
    let z = c.if-v-ne0.false in
    let p = judged v z in
    (p.short, ((v.body z).sound p.sound, (v.from z).sound (length a.constants.now) p.sound)))
    (λ c. search rules)
    (λ c.
    let a = c.args in
    answered a.constants.now a.listing.now a.start a.store.now c.judge-v.ensures c.if-v-ne0.false c.run-played.ensures))
