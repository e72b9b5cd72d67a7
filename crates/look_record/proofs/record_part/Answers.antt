-- `look_record::record_part`, record by record.
use native.Mathlib.Omega.{arith}
use Prim.Native.Nat.{suc, ◌-◌}
use mathlib.Core.Path.{◌≡◌, sym, ap, ◌∙◌}
use lib.ListN.{drop, get_elem?}
use Rattle.mir.proofs.Decoding.{items, ended}
use Rattle.records.specs.Record.{record_from}
use Rattle.records.proofs.Reading.{here-record, torn-record}
use Rattle.look_record.specs.Looks.{record_part}
use Rattle.look_record.proofs.Texts.{part-here, part-on, part_none, spelled, blank}
use Rattle.look_record.proofs.record_part.Goals as goal

pub returns-in_default : goal.returns-in_default
returns-in_default c =
    let a = c.args in
    let l = c.loop-at in
    let d = torn-record a.count a.listing.now l.at c.read_record.ensures c.in_default.is (omega arith) in
    spelled (ap record_part (sym (part_none l.left d) ∙ l.invariant)) (blank c.empty_line.ensures)

pub returns-then-left-eq0 : goal.returns-then-left-eq0
returns-then-left-eq0 c =
    let a = c.args in
    let l = c.loop-at in
    let h = here-record a.count a.listing.now l.at c.read_record.ensures c.in-Ok.is in
    let e = sym (part-here h) ∙ ap (get_elem? (items (record_from a.count) (drop l.at a.listing.now))) (sym c.if-left-eq0.true) ∙ l.invariant in
    spelled (ap record_part e) c.record_line.ensures.0

pub loop-at-smaller : goal.loop-at-smaller
loop-at-smaller c =
    let a = c.args in
    let l = c.loop-at in
    let h = (here-record a.count a.listing.now l.at c.read_record.ensures c.in-Ok.is).on in
    omega (arith, h)

pub loop-at-preserved : goal.loop-at-preserved
loop-at-preserved c =
    let a = c.args in
    let l = c.loop-at in
    let h = here-record a.count a.listing.now l.at c.read_record.ensures c.in-Ok.is in
    let e : l.left ≡ suc (l.left - 1) = omega arith in
    sym (part-on (l.left - 1) h) ∙ ap (get_elem? (items (record_from a.count) (drop l.at a.listing.now))) (sym e) ∙ l.invariant

pub returns : goal.returns
returns c =
    let a = c.args in
    let l = c.loop-at in
    let d = ended (record_from a.count) a.listing.now l.at (omega arith) in
    spelled (ap record_part (sym (part_none l.left d) ∙ l.invariant)) (blank c.empty_line-2.ensures)
