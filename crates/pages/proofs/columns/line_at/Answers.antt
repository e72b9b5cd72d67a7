-- `pages::columns::line_at`: a constant, a record, or nothing.
use native.Mathlib.Omega.{arith}
use lib.ListN.{length}
use Rattle.mir.proofs.Decoding.{ended}
use Rattle.records.specs.Record.{record_from}
use Rattle.records.proofs.Reading.{here-record, torn-record}
use Rattle.pages.proofs.Standing.{constant-first, record-first, blank-first}
use Rattle.pages.proofs.columns.line_at.Goals as goal

pub returns-then-i-constants : goal.returns-then-i-constants
returns-then-i-constants c = constant-first (omega arith) c.constant_line.ensures

pub returns-then-listing-from : goal.returns-then-listing-from
returns-then-listing-from c =
    let a = c.args in
    blank-first (omega arith) (ended (record_from (length a.constants.now)) a.listing.now a.from (omega arith)) c.blank_line.ensures

pub returns-in-Ok : goal.returns-in-Ok
returns-in-Ok c =
    let a = c.args in
    record-first (omega arith)
    (here-record (length a.constants.now) a.listing.now a.from c.read_record.ensures c.in-Ok.is)
    c.record_line.ensures

pub returns-in-Err : goal.returns-in-Err
returns-in-Err c =
    let a = c.args in
    blank-first (omega arith)
    (torn-record (length a.constants.now) a.listing.now a.from c.read_record.ensures c.in-Err.is (omega arith))
    c.blank_line-in-Err.ensures
