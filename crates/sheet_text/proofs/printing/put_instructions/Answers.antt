-- `put_instructions`, line by line.
use native.Mathlib.Omega.{arith}
use Rattle.sheet.proofs.Reading.{here-instruction}
use Rattle.text.proofs.Putting.{long, line-put, all, less, none}
use Rattle.sheet_text.proofs.Turns.{instructions-on, instructions-torn, instructions-all}
use Rattle.sheet_text.proofs.printing.put_instructions.Goals as goal

pub loop-n-init : goal.loop-n-init
loop-n-init c = (omega arith, all (omega arith))

pub returns-in_default : goal.returns-in_default
returns-in_default c =
    let a = c.args in
    let l = c.loop-n in
    none l.invariant.1 (instructions-torn a.count a.sheet.now l.from (omega arith) c.read_instruction.ensures c.in_default.is)

pub loop-n-preserved : goal.loop-n-preserved
loop-n-preserved c =
    let a = c.args in
    let l = c.loop-n in
    let p = c.instruction_line-line.ensures in
    let h = here-instruction a.count a.sheet.now l.from c.read_instruction.ensures c.in-Ok.is in
    let f = p.whole.fits in
    let n = p.whole.count in
    let room = l.invariant.0 in
    let q = line-put p (omega (arith, f, room)) c.put_line-at.ensures in
    let g = long q in
    let k = q.ends in
    (omega (arith, n, f, g, k, room), less l.invariant.1 (instructions-on a.count a.sheet.now l.from (omega arith) h) q)

pub returns : goal.returns
returns c =
    let a = c.args in
    let l = c.loop-n in
    none l.invariant.1 (instructions-all a.count a.sheet.now l.from (omega arith))
