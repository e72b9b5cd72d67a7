-- `put_drawn` meets its contract: the line's beginning, the names, and its end.
use borrow.Author.Rules.{rules}
use native.Mathlib.Omega.{arith}
use Rattle.text.specs.Text.{ascii}
use Rattle.text.proofs.Putting.{putting, long, renamed, ◌▹◌}
use Rattle.lower_sheet.proofs.Telling.{with_nothing, with-names}
use Rattle.lower_sheet.proofs.drawn.put_drawn.Statement.{statement}
use Rattle.lower_sheet.proofs.drawn.put_drawn.Tie as tie

pub put_drawn_spec : {M : Type 1} → statement M
unfolding ascii
put_drawn_spec =
    tie.close
    (tie.spec
    (λ c. search rules)
    (λ c κs.
    let few = c.requires.0 in
    let room = c.requires.1 in
    let p = putting (omega (arith, room)) c.put-from.ensures in
    let k = p.ends in
    let g = long p in
    (few, omega (arith, few, room, k, g)))
    (λ c. search rules) (λ c. search rules)
    (λ c.
    let few = c.requires.0 in
    let room = c.requires.1 in
    let p = putting (omega (arith, room)) c.put-from.ensures in
    let k = p.ends in
    let g = long p in
    let q = c.put_names-to.ensures in
    let h = long q.0 in
    let m = q.1 in
    let r = putting (omega (arith, few, room, k, g, h, m)) c.put.ensures in
    renamed (with_nothing c.args.marks.now q.0.ends c.if-to-from.true) (p ▹ q.0 ▹ r))
    (λ c. search rules) (λ c. search rules)
    (λ c.
    let few = c.requires.0 in
    let room = c.requires.1 in
    let p = putting (omega (arith, room)) c.put-from.ensures in
    let k = p.ends in
    let g = long p in
    let q = c.put_names-to.ensures in
    let h = long q.0 in
    let m = q.1 in
    let r = putting (omega (arith, few, room, k, g, h, m)) c.put-2.ensures in
    renamed (with-names c.args.marks.now q.0.ends c.if-to-from.false) (p ▹ q.0 ▹ r)))
