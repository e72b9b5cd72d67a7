-- `play_bytes` meets its contract: the call's own promise, and the line of its answer.
use borrow.Author.Rules.{rules}
use mathlib.Core.Path.{ap, subst}
use Rattle.text.specs.Line.{Prints}
use Rattle.play_listing.specs.Plays.{answer_line}
use Rattle.play_listing.proofs.play_bytes.Statement.{statement}
use Rattle.play_listing.proofs.play_bytes.Tie as tie

pub play_bytes_spec : {M : Type 1} → statement M
play_bytes_spec =
    tie.close
    (tie.spec
    (λ c κs. search rules) (λ c κs. search rules) (λ c. search rules) (λ c. search rules)
    (λ c.
    let e = c.tulipcricket_play_unguarded.ensures in
    let p = c.answer_line in
    record {
      of_store = ap (λ x. x.store) e;
      of_answer = ap (λ x. x.answer) e;
      prints = subst (λ a. Prints (answer_line a) p.result) (ap (λ x. x.answer) e) p.ensures;
    }))
