-- `put_answer` meets its contract: the answer's line, and the line of the registers drawn on.
use borrow.Author.Rules.{rules}
use native.Mathlib.Omega.{arith}
use Rattle.text.proofs.Putting.{long, line-put, renamed, ◌▹◌}
use Rattle.lower_sheet.proofs.Telling.{setup-wrong, setup-right}
use Rattle.lower_sheet.proofs.put_answer.Statement.{statement}
use Rattle.lower_sheet.proofs.put_answer.Tie as tie

pub put_answer_spec : {M : Type 1} → statement M
put_answer_spec =
    tie.close
    (tie.spec
    (λ c κs. search rules) (λ c κs. search rules) (λ c κs. search rules) (λ c. search rules)
    (λ c.
    let room = c.requires.0 in
    let p = c.answer_line.ensures in
    let f = p.whole.fits in
    renamed (setup-wrong c.args.answer.now c.word_at.ensures c.if-word_at-eq8.true) (line-put p (omega (arith, f, room)) c.put_line-at.ensures))
    (λ c. search rules) (λ c. search rules) (λ c. search rules)
    (λ c κs.
    let room = c.requires.0 in
    let long-answer = c.requires.1 in
    let p = c.answer_line.ensures in
    let f = p.whole.fits in
    let n = p.whole.count in
    let q = line-put p (omega (arith, f, room)) c.put_line-at.ensures in
    let k = q.ends in
    let g = long q in
    (search rules, omega (arith, room, f, n, k, g)))
    (λ c. search rules)
    (λ c.
    let room = c.requires.0 in
    let p = c.answer_line.ensures in
    let f = p.whole.fits in
    renamed (setup-right c.args.answer.now c.word_at.ensures c.if-word_at-eq8.false)
    (line-put p (omega (arith, f, room)) c.put_line-at.ensures ▹ c.put_drawn.ensures)))
