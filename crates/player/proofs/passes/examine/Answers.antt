-- `player::passes::examine`, record by record.
use native.Mathlib.Omega.{arith}
use native.Mathlib.Nat.{zero-add}
use mathlib.Core.Path.{refl, sym, ap, ◌∙◌, subst}
use lib.ListN.{length}
use Rattle.mir.proofs.Decoding.{Done, ended}
use Rattle.records.specs.Record.{record_from}
use Rattle.player_machine.specs.Jumps.{is_jump, bit}
use Rattle.player.specs.Positions.{label_seen, jump_seen}
use Rattle.player.proofs.Walks.{bit_small, tally-on, Noted, not_yet, noted-on, examined-end}
use Rattle.player.proofs.Looks.{label-seen, jump-seen, stepped, refused-step}
use Rattle.player.proofs.passes.examine.Goals as goal

pub loop-at-init : goal.loop-at-init
loop-at-init c = ((omega arith, omega arith), zero-add _, refl, zero-add _, not_yet refl refl)

pub returns-in-Err : goal.returns-in-Err
returns-in-Err c =
    let a = c.args in
    let l = c.loop-at in
    let d = refused-step a.count a.listing.now l.at c.read_step.result c.read_step.ensures c.in-Err.refusal c.in-Err.is (omega arith) in
    examined-end l.invariant.1 l.invariant.2 l.invariant.3 l.invariant.4
    (subst (Done (record_from a.count) a.listing.now l.at) (sym c.number.ensures) d)

pub loop-at-smaller : goal.loop-at-smaller
loop-at-smaller c =
    let a = c.args in
    let l = c.loop-at in
    let x = stepped a.count a.listing.now l.at c.read_step.result c.read_step.ensures c.u16_at-n.ensures c.in-Ok.is in
    let h = x.here.on in
    omega (arith, h)

pub loop-at-preserved : goal.loop-at-preserved
loop-at-preserved c =
    let a = c.args in
    let l = c.loop-at in
    let x = stepped a.count a.listing.now l.at c.read_step.result c.read_step.ensures c.u16_at-n.ensures c.in-Ok.is in
    let h = x.here in
    let g = h.on in
    let k = ap length h.same in
    let i1 = l.invariant.1 in
    let a3 = tally-on is_jump h in
    let b3 = c.one_if-jumps.ensures ∙ ap bit (c.jump_seen.ensures ∙ ap jump_seen x.same ∙ jump-seen x.rec) in
    let c3 = bit_small (is_jump x.rec) in
    let i3 = l.invariant.3 in
    let e = sym (label-seen 1 x.rec) ∙ sym (ap (label_seen 1) x.same) ∙ sym c.label_seen.ensures in
    ((omega (arith, g), omega (arith, g, b3, c3)), omega (arith, k, i1), sym h.sound ∙ l.invariant.2, omega (arith, a3, b3, i3), subst (Noted a.count a.listing.now _) (sym c.block_start-body.ensures) (noted-on c.label_seen.result h l.invariant.2 e l.invariant.4))

pub returns : goal.returns
returns c =
    let a = c.args in
    let l = c.loop-at in
    examined-end l.invariant.1 l.invariant.2 l.invariant.3 l.invariant.4 (ended (record_from a.count) a.listing.now l.at (omega arith))
