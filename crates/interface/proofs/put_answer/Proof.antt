-- `interface::put_answer` meets its contract: the numbers, the record of realness and the marks fill the answer.
use borrow.Author.Rules.{rules}
use Rattle.interface.proofs.Lowering.{told}
use Rattle.interface.proofs.put_answer.Statement.{statement}
use Rattle.interface.proofs.put_answer.Tie as tie

pub put_answer_spec : {M : Type 1} → statement M
put_answer_spec =
    tie.close
    (tie.spec
    (λ c. search rules) (λ c. search rules) (λ c κs. search rules) (λ c κs. search rules) (λ c. search rules) (λ c κs. search rules)
    (λ c κs. search rules) (λ c. search rules)
    (λ c.
    let s = c.before.before.before.before.before.before.before.before.before.before.before.before.before.before.before.before.before.before.before in
    let m = c.put_marks.ensures in
    told s.args.a s.args.out.now s.requires (search rules) (search rules) m.1 m.2 c.save.ensures c.record_bytes-record.ensures
    c.put.ensures m.0))
