-- `player::run::run_record` meets its contract: a working record, or else a jump on the store as it was.
use borrow.Author.Rules.{rules}
use lib.ListN.{length}
use Rattle.player.proofs.Steps.{play-work, play-from}
use Rattle.player.proofs.Looks.{Tried, readable, did, jumps, kept}
use Rattle.player.proofs.run.run_record.Statement.{statement}
use Rattle.player.proofs.run.run_record.Tie as tie

pub run_record_spec : {M : Type 1} → statement M
run_record_spec =
    tie.close
    (tie.spec
    (λ c. search rules) (λ c. search rules) (λ c. search rules) (λ c κs. search rules) (λ c κs. search rules) (λ c. search rules)
    (λ c. search rules) (λ c. search rules)
    (λ c.
    let a = c.args in
    let p = c.requires in
    let x = c.exec-worked.ensures in
    let t : Tried a.constants.now a.listing.now a.at _ a.store.now _ = record { went = x.0; after = x.1 } in
    let f = readable (length a.constants.now) a.listing.now a.at p.1.1.0 p.1.1.1 in
    let d = did a.constants.now a.listing.now a.at f t c.u16_at-k.ensures c.if-worked.true in
    play-work p.1.1.0 d.here d.same)
    (λ c κs.
    let a = c.args in
    let p = c.requires in
    let x = c.exec-worked.ensures in
    let t : Tried a.constants.now a.listing.now a.at _ a.store.now _ = record { went = x.0; after = x.1 } in
    let f = readable (length a.constants.now) a.listing.now a.at p.1.1.0 p.1.1.1 in
    (p.0, (p.1.0, (p.1.1.0, (jumps a.constants.now a.listing.now a.at f t c.if-worked.false, p.1.1.1)))))
    (λ c. search rules)
    (λ c.
    let a = c.args in
    let p = c.requires in
    let x = c.exec-worked.ensures in
    let t : Tried a.constants.now a.listing.now a.at _ a.store.now _ = record { went = x.0; after = x.1 } in
    let f = readable (length a.constants.now) a.listing.now a.at p.1.1.0 p.1.1.1 in
    play-from (kept a.constants.now a.listing.now a.at f t c.if-worked.false) c.run_jump.ensures))
