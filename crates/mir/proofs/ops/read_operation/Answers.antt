-- `mir::ops::read_operation`: the list of the operations is read as the definition says.
use Rattle.std.proofs.Common.{ap, sym, ◌∙◌}
use mathlib.Core.Bool.{not}
use Rattle.mir.specs.Read.{got, refuse}
use Rattle.mir.specs.Operation.{taken}
use Rattle.mir.proofs.Tables.{taken_read, taken_past}
use Rattle.mir.proofs.ops.read_operation.Goals as goal
use Rattle.mir.proofs.ops.read_operation.Goals.{in_default-via-in-Some+else-is_taken, in_default-via-in_default}

pub returns-in-Some : goal.returns-in-Some
returns-in-Some g c =
    let takes = g.O.Operation.takes c.args.in_listing in
    let e = c.in-Some.ensures.lookup in
    ap (λ b. refuse (not b) 2 (got c.in-Some.op.now)) (sym c.if-is_taken.true ∙ c.is_taken.ensures)
    ∙ taken_read takes c.all.result.now c.args.n c.in-Some.op.now e.3.0 e.1
    ∙ ap (λ ops. taken takes ops c.args.n) c.all.ensures

pub returns-in_default : goal.returns-in_default
returns-in_default g c =
    let takes = g.O.Operation.takes c.args.in_listing in
    elim c.in_default.branch [
      | in_default-via-in-Some+else-is_taken w ↦
          let e = w.in-Some.ensures.lookup in
          ap (λ b. refuse (not b) 2 (got w.in-Some.op.now)) (sym w.if-is_taken.false ∙ w.is_taken.ensures)
          ∙ taken_read takes c.all.result.now c.args.n w.in-Some.op.now e.3.0 e.1
          ∙ ap (λ ops. taken takes ops c.args.n) c.all.ensures
      | in_default-via-in_default w ↦
          sym (taken_past takes c.all.result.now c.args.n w.in_default.ensures.lookup.3)
          ∙ ap (λ ops. taken takes ops c.args.n) c.all.ensures
    ]
