-- Nothing is played, a record ends the play, one more is played, and the end.
use Rattle.std.proofs.Common.{arith, rules, sym, ◌∙◌, length}
use Rattle.mir.proofs.Decoding.{ended}
use Rattle.records.specs.Record.{record_from}
use Rattle.player.proofs.Steps.{run_start, run_on, run_stop, run_end}
use Rattle.player.proofs.run.run.Goals as goal

pub loop-at-init : goal.loop-at-init
loop-at-init c = record { few = omega arith; same = run_start _; sound = search rules }

pub overflow_add-played : goal.overflow_add-played
overflow_add-played c = let h = c.run_record-t.ensures.small in omega (arith, h)

pub returns-in_default : goal.returns-in_default
returns-in_default c =
    let l = c.loop-at in
    record { same = sym l.invariant.same ∙ run_stop l.played c.run_record-t.ensures c.in_default.is }

pub loop-at-smaller : goal.loop-at-smaller
loop-at-smaller c = let h = c.run_record-t.ensures.on c.in-Some.next c.in-Some.is in omega (arith, h)

pub loop-at-preserved : goal.loop-at-preserved
loop-at-preserved c =
    let l = c.loop-at in
    let w = c.run_record-t.ensures in
    let h = w.on c.in-Some.next c.in-Some.is in
    let k = w.small in record {
      few = omega (arith, h, k);
      same = sym (run_on l.played w c.in-Some.is) ∙ l.invariant.same;
      sound = w.sound c.in-Some.next c.in-Some.is;
    }

pub returns : goal.returns
returns c =
    let a = c.args in
    let l = c.loop-at in
    record { same = sym l.invariant.same ∙ run_end a.constants.now a.body l.store l.played (ended (record_from (length a.constants.now)) a.listing.now l.at (omega arith)) }
