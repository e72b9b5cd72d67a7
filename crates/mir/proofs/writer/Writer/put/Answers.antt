use Rattle.std.proofs.Common.{rules, refl, arith, ◌+◌, ◌<◌, ◌≤◌, ◌∙◌, length, ap}
use lib.Seq.{sets}
use Rattle.std.proofs.lemmas.Grind.{common_steps}
use Rattle.mir.specs.Length.{length_of}
use Rattle.mir.proofs.Puts.{longest, put_full, put_fits, put_mid-sets}
use Rattle.mir.proofs.writer.Writer.put.Goals as goal
use Rattle.mir.proofs.writer.Writer.put.Goals.{then-self-n-via-then-self-n, then-self-n-via-else-self-n+then-self-n-2}

pub returns-then-self-n-clause-holds : goal.returns-then-self-n-clause-holds
unfolding length_of
returns-then-self-n-clause-holds c =
    let a = c.args in
    let full : length a.self.now.bytes.now < a.self.now.at + length_of a.kind =
    elim c.then-self-n.branch [
      | then-self-n-via-then-self-n w ↦ omega (arith, w.if-self-n.true)
      | then-self-n-via-else-self-n+then-self-n-2 w ↦ omega (arith, w.if-self-n.false, w.if-self-n-2.true)
    ] in
    put_full a.self.now.bytes.now a.self.now.at a.kind a.f (search rules) (search rules) full

pub returns-clause-holds : goal.returns-clause-holds
unfolding length_of
returns-clause-holds c =
    let a = c.args in
    let n : length_of a.kind ≤ 11 = longest a.kind (search rules) in
    let room : a.self.now.at + length_of a.kind ≤ length a.self.now.bytes.now = omega (arith, c.if-self-n.false, c.if-self-n-2.false) in
    put_fits a.self.now.bytes.now _ a.self.now.at a.kind a.f (search rules) (search rules) room
    (put_mid-sets a.self.now.at _ a.self.now.bytes.now c.copy_from_slice.new.self (grind (arith, common_steps)) (omega (arith, room)) ∙ ap (sets a.self.now.bytes.now a.self.now.at) c.copy_from_slice.ensures.after)
