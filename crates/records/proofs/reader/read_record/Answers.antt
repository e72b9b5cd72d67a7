-- `records::reader::read_record`: the record is read from the part of the slice that begins at the position.
use Rattle.std.proofs.Common.{rules, ◌≡◌, refl, sym, ap, ◌∙◌, arith}
use Rattle.mir.specs.Field.{head_from}
use Rattle.mir.specs.Read.{refused}
use Rattle.mir.specs.Refusal.{number, as_read}
use Rattle.mir.specs.Decode.{as_next}
use Rattle.mir.proofs.Decoding.{next-got, next-refused, next_past}
use Rattle.records.specs.Record.{record_from}
use Rattle.records.proofs.reader.read_record.Goals as goal

pub returns-then-listing-at : goal.returns-then-listing-at
unfolding record_from head_from
returns-then-listing-at c =
    let a = c.args in sym (next_past (record_from a.count) a.listing.now a.at refl (omega arith))

pub returns-in_err-record : goal.returns-in_err-record
returns-in_err-record c =
    let a = c.args in
    let e : as_next c.from_residual.result ≡ refused (number c.in_err-record.field-0.0) = search rules in
    e ∙ sym (next-refused (record_from a.count) a.listing.now a.at _ (sym c.read_first.ensures ∙ ap as_read c.in_err-record.was))

pub returns : goal.returns
returns c =
    let a = c.args in
    sym (next-got (record_from a.count) a.listing.now a.at _ _ (sym c.read_first.ensures ∙ ap as_read c.in_ok-record.was) c.u16_at-n.ensures)
