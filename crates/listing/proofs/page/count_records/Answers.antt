-- `page::count_records`, record by record.
use native.Mathlib.Omega.{arith}
use mathlib.Core.Path.{ap}
use lib.ListN.{length}
use Rattle.mir.proofs.Decoding.{ended}
use Rattle.records.specs.Record.{record_from}
use Rattle.records.proofs.Reading.{here-record, torn-record}
use Rattle.listing.proofs.page.count_records.Goals as goal

pub returns-in_default : goal.returns-in_default
returns-in_default c =
    let a = c.args in
    let l = c.loop-at in
    let d = ap length (torn-record a.count a.listing.now l.at c.read_record.ensures c.in_default.is (omega arith)).same in
    let i = l.invariant.1 in
    omega (arith, d, i)

pub loop-at-smaller : goal.loop-at-smaller
loop-at-smaller c =
    let a = c.args in
    let l = c.loop-at in
    let h = (here-record a.count a.listing.now l.at c.read_record.ensures c.in-Ok.is).on in
    omega (arith, h)

pub loop-at-preserved : goal.loop-at-preserved
loop-at-preserved c =
    let a = c.args in
    let l = c.loop-at in
    let h = here-record a.count a.listing.now l.at c.read_record.ensures c.in-Ok.is in
    let g = h.on in
    let k = ap length h.same in
    let i = l.invariant.1 in
    (omega (arith, g), omega (arith, k, i))

pub returns : goal.returns
returns c =
    let a = c.args in
    let l = c.loop-at in
    let d = ap length (ended (record_from a.count) a.listing.now l.at (omega arith)).same in
    let i = l.invariant.1 in
    omega (arith, d, i)
