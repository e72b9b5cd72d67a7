-- `sheet::reader::read_instruction`: the instruction is read from the part of the slice that begins at the position.
use Rattle.std.proofs.Common.{rules, ◌≡◌, refl, sym, ap, ◌∙◌, arith}
use Rattle.mir.specs.Field.{head_from}
use Rattle.mir.specs.Read.{refused}
use Rattle.mir.specs.Refusal.{number, as_read}
use Rattle.mir.specs.Decode.{as_next}
use Rattle.mir.proofs.Decoding.{next-got, next-refused, next_past}
use Rattle.sheet.specs.Instruction.{instruction_from}
use Rattle.sheet.proofs.reader.read_instruction.Goals as goal

pub returns-then-sheet-at : goal.returns-then-sheet-at
unfolding instruction_from head_from
returns-then-sheet-at c =
    let a = c.args in sym (next_past (instruction_from a.count) a.sheet.now a.at refl (omega arith))

pub returns-in_err-instruction : goal.returns-in_err-instruction
returns-in_err-instruction c =
    let a = c.args in
    let e : as_next c.from_residual.result ≡ refused (number c.in_err-instruction.field-0.0) = search rules in
    e ∙ sym (next-refused (instruction_from a.count) a.sheet.now a.at _ (sym c.read_first.ensures ∙ ap as_read c.in_err-instruction.was))

pub returns : goal.returns
returns c =
    let a = c.args in
    sym (next-got (instruction_from a.count) a.sheet.now a.at _ _ (sym c.read_first.ensures ∙ ap as_read c.in_ok-instruction.was) c.u16_at-n.ensures)
