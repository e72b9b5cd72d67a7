-- No record is passed, a torn one, one more, and the end.
use Rattle.std.proofs.Common.{arith, refl}
use Rattle.refusals.specs.Noted.{label_here}
use Rattle.refusals.proofs.Searching.{from, torn_seen, whole_seen, step-on, step-seen, torn-none, ended-none, halfway_first, halfway-on, halfway-done}
use Rattle.refusals.proofs.labels.find_labels.Goals as goal

pub loop-at-init : goal.loop-at-init
loop-at-init c = halfway_first

pub returns-then-is_torn : goal.returns-then-is_torn
returns-then-is_torn c =
    let s = c.args.sheet.now in
    let l = c.loop-at in
    halfway-done l.invariant (torn-none s l.at 1 c.loop-at-test.true (torn_seen (from s l.at) c.is_torn.ensures c.if-is_torn.true))

pub loop-at-smaller : goal.loop-at-smaller
loop-at-smaller c =
    let s = from c.args.sheet.now c.loop-at.at in
    let w = step-on c.args.sheet.now c.loop-at.at (label_here s) (whole_seen s c.is_torn.ensures c.if-is_torn.false) c.u16_at-n.result c.u16_at-n.ensures in
    omega (arith, w.0, w.1)

pub loop-at-preserved : goal.loop-at-preserved
loop-at-preserved c =
    let l = c.loop-at in
    let s = from c.args.sheet.now l.at in
    let k = c.mark_label-found.ensures in
    halfway-on l.invariant
    (step-seen c.args.sheet.now l.at (label_here s) (whole_seen s c.is_torn.ensures c.if-is_torn.false) c.u16_at-n.result c.u16_at-n.ensures) k.0 k.1 refl

pub returns : goal.returns
returns c =
    let s = c.args.sheet.now in
    let l = c.loop-at in
    halfway-done l.invariant (ended-none s l.at (omega arith))
