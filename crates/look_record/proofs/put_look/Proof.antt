-- `look_record::put_look` meets its contract.
use borrow.Author.Rules.{rules}
use native.Mathlib.Omega.{arith}
use Rattle.text.proofs.Putting.{long, line-put}
use Rattle.look_record.proofs.Texts.{refused-text, looked-text}
use Rattle.look_record.proofs.put_look.Statement.{statement}
use Rattle.look_record.proofs.put_look.Tie as tie

pub put_look_spec : {M : Type 1} → statement M
put_look_spec =
    tie.close
    (tie.spec
    (λ c κs. search rules) (λ c κs. search rules) (λ c κs. search rules) (λ c κs. search rules) (λ c. search rules)
    (λ c.
    let a = c.args in
    let z = c.requires in
    let p1 = c.refusal_line.ensures in let f1 = p1.whole.fits in
    refused-text a.listing.now a.count a.start a.answer.now c.word_at-number.ensures c.word_at-index.ensures c.if-number-ne0.true (line-put p1 (omega (arith, z, f1)) c.put_line.ensures))
    (λ c κs. search rules) (λ c κs. search rules) (λ c κs. search rules) (λ c κs. search rules) (λ c κs. search rules)
    (λ c κs. search rules) (λ c κs. search rules) (λ c κs. search rules) (λ c κs. search rules) (λ c κs. search rules)
    (λ c κs. search rules) (λ c κs. search rules) (λ c κs. search rules) (λ c κs. search rules) (λ c. search rules)
    (λ c.
    let a = c.args in
    let z = c.requires in
    let p1 = c.record_part.ensures in let f1 = p1.whole.fits in let n1 = p1.whole.count in let q1 = line-put p1 (omega (arith, z, f1)) c.put_line-a.ensures in let g1 = long q1 in let k1 = q1.ends in
    let p2 = c.word_part-first.ensures in let f2 = p2.whole.fits in let n2 = p2.whole.count in let q2 = line-put p2 (omega (arith, z, f1, n1, g1, k1, f2)) c.put_line-b.ensures in let g2 = long q2 in let k2 = q2.ends in
    let p3 = c.word_part-second.ensures in let f3 = p3.whole.fits in let n3 = p3.whole.count in let q3 = line-put p3 (omega (arith, z, f1, n1, g1, k1, f2, n2, g2, k2, f3)) c.put_line-c.ensures in let g3 = long q3 in let k3 = q3.ends in
    let p4 = c.next_line-next.ensures in let f4 = p4.whole.fits in let n4 = p4.whole.count in let q4 = line-put p4 (omega (arith, z, f1, n1, g1, k1, f2, n2, g2, k2, f3, n3, g3, k3, f4)) c.put_line-2.ensures in let g4 = long q4 in let k4 = q4.ends in
    looked-text a.listing.now a.count a.start a.answer.now c.word_at-number.ensures c.word_at-index.ensures c.if-number-ne0.false c.word_at-n.ensures c.word_at.ensures c.word_at-2.ensures c.word_at-3.ensures c.word_at-4.ensures c.word_at-5.ensures q1 q2 q3 q4))
