-- `examined`, instruction by instruction.
use native.Mathlib.Omega.{arith}
use mathlib.Core.Path.{refl, sym, subst}
use Rattle.mir.proofs.Decoding.{Done, ended}
use Rattle.sheet.specs.Instruction.{instruction_from}
use Rattle.sheet.proofs.Limit.{still, on-done, on-end, on-full}
use Rattle.sheet.proofs.Reading.{here-instruction, torn-instruction}
use Rattle.sheet_text.proofs.Turns.{Counted, counts-on, counts_end}
use Rattle.sheet_text.proofs.printing.examined.Goals as goal

pub loop-at-init : goal.loop-at-init
loop-at-init c = record { few = omega arith; many = omega arith; fault = refl }

pub returns-then-n : goal.returns-then-n
returns-then-n c =
    let a = c.args in
    let l = c.loop-at in
    counts_end l.invariant (on-full a.count a.sheet.now l.at c.if-n.true (omega arith))

pub returns-in-Err : goal.returns-in-Err
returns-in-Err c =
    let a = c.args in
    let l = c.loop-at in
    let f = still l.invariant.few c.if-n.false in
    let d = torn-instruction a.count a.sheet.now l.at c.read_instruction.ensures c.in-Err.is (omega arith) in
    counts_end l.invariant (on-done a.count a.sheet.now l.at f (subst (Done (instruction_from a.count) a.sheet.now l.at) (sym c.number.ensures) d))

pub loop-at-smaller : goal.loop-at-smaller
loop-at-smaller c =
    let a = c.args in
    let l = c.loop-at in
    let h = (here-instruction a.count a.sheet.now l.at c.read_instruction.ensures c.in-Ok.is).on in
    omega (arith, h)

pub loop-at-preserved : goal.loop-at-preserved
loop-at-preserved c =
    let a = c.args in
    let l = c.loop-at in
    let f = still l.invariant.few c.if-n.false in
    counts-on l.invariant f (here-instruction a.count a.sheet.now l.at c.read_instruction.ensures c.in-Ok.is)

pub returns : goal.returns
returns c =
    let a = c.args in
    let l = c.loop-at in
    counts_end l.invariant (on-end a.count a.sheet.now l.at l.n (ended (instruction_from a.count) a.sheet.now l.at (omega arith)))
