-- A whole word, one that the bytes break off in, and none.
use Rattle.std.proofs.Common.{◌-◌, length, take, drop, sym, ap, ◌∙◌, arith, lit≤}
use Rattle.std.proofs.lemmas.List.{take-take}
use Rattle.std.specs.Int.{w64, from_le_bytes}
use Rattle.words.specs.Bytes.{number}
use Rattle.words.proofs.Copying.{le_number}
use Rattle.words.proofs.Padding.{from, past}
use Rattle.words.proofs.word_at.Goals as goal

pub returns-then-s-at : goal.returns-then-s-at
returns-then-s-at c = sym (past c.args.s.now c.args.at (omega arith))

pub returns-in-Some : goal.returns-in-Some
returns-in-Some c =
    let part = take (length c.args.s.now - c.args.at) (drop c.args.at c.args.s.now) in
    from c.args.s.now c.args.at
    (c.from_le_bytes.ensures ∙ ap (from_le_bytes w64) c.in-Some.ensures.cases.same ∙ le_number (take 8 part) ∙ ap number (take-take 8 8 part (lit≤ tt)))

pub returns-in-None : goal.returns-in-None
returns-in-None c = from c.args.s.now c.args.at c.short_word.ensures
