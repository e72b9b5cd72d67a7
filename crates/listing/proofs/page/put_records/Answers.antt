-- `page::put_records`, line by line.
use native.Mathlib.Omega.{arith}
use mathlib.Core.Path.{sym, ap, ◌∙◌}
use Rattle.mir.specs.Decode.{as_next}
use Rattle.mir.proofs.Decoding.{ended}
use Rattle.records.specs.Record.{record_from}
use Rattle.records.proofs.Reading.{here-record, torn-record}
use Rattle.text.proofs.Putting.{long, whole-fits, printing, all, less, none}
use Rattle.listing.proofs.Putting.{records-on, records-end}
use Rattle.listing.proofs.Sizes.{sized}
use Rattle.listing.proofs.page.put_records.Goals as goal

pub loop-from-init : goal.loop-from-init
loop-from-init c = (omega arith, all (omega arith))

pub returns-in_default : goal.returns-in_default
returns-in_default c =
    let a = c.args in
    let l = c.loop-from in
    none l.invariant.1 (records-end (torn-record a.count a.listing.now l.from c.read_record.ensures c.in_default.is (omega arith)))

pub put_line-at-requires-clause-len_in_bounds : goal.put_line-at-requires-clause-len_in_bounds
put_line-at-requires-clause-len_in_bounds c =
    let a = c.args in
    let l = c.loop-from in
    let p = c.record_line.ensures in
    let e = sym c.read_record.ensures ∙ ap as_next c.in-Ok.is in
    let h = (here-record a.count a.listing.now l.from c.read_record.ensures c.in-Ok.is).inside in
    let z = sized a.count a.listing.now l.from c.in-Ok.record c.in-Ok.next e in
    let f = p.1 in
    omega (arith, h, z, f)

pub loop-from-smaller : goal.loop-from-smaller
loop-from-smaller c =
    let a = c.args in
    let l = c.loop-from in
    let h = (here-record a.count a.listing.now l.from c.read_record.ensures c.in-Ok.is).on in
    omega (arith, h)

pub loop-from-preserved : goal.loop-from-preserved
loop-from-preserved c =
    let a = c.args in
    let l = c.loop-from in
    let p = c.record_line.ensures in
    let q = printing p.0 c.put_line-at.ensures in
    let e = sym c.read_record.ensures ∙ ap as_next c.in-Ok.is in
    let h = here-record a.count a.listing.now l.from c.read_record.ensures c.in-Ok.is in
    let i = h.inside in
    let z = sized a.count a.listing.now l.from c.in-Ok.record c.in-Ok.next e in
    let w = l.invariant.1 in
    let n = p.0.whole.count in
    let f = p.1 in
    let g = long q in
    let k = q.ends in
    (omega (arith, i, z, n, f, g, k), less w (records-on h) q)

pub returns : goal.returns
returns c =
    let a = c.args in
    let l = c.loop-from in
    none l.invariant.1 (records-end (ended (record_from a.count) a.listing.now l.from (omega arith)))
