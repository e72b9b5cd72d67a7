-- A word by its sort.
use Rattle.assembly.proofs.Sorting.{put-register, put-class, put-index, put_byte, put-mode, put-bits}
use Rattle.assembly.proofs.reading.put_word.Goals as goal

pub returns-then-sort-eq114 : goal.returns-then-sort-eq114
returns-then-sort-eq114 c =
    put-register c.args.line c.args.w.now c.args.sort c.if-sort-eq114.true c.register_number.ensures c.put_number.ensures

pub returns-then-sort-eq99 : goal.returns-then-sort-eq99
returns-then-sort-eq99 c =
    put-class c.args.line c.args.w.now c.args.sort c.if-sort-eq99.true c.class_number.ensures c.put_number-then-sort-eq99.ensures

pub returns-then-sort-eq105 : goal.returns-then-sort-eq105
returns-then-sort-eq105 c =
    put-index c.args.line c.args.w.now c.args.sort c.if-sort-eq105.true c.index_number.ensures c.put_index.ensures

pub returns-then-sort-eq110 : goal.returns-then-sort-eq110
returns-then-sort-eq110 c =
    put_byte c.args.line c.args.w.now c.args.sort c.if-sort-eq110.true c.index_number-then-sort-eq110.ensures c.put_number-then-sort-eq110.ensures

pub returns-then-sort-eq109 : goal.returns-then-sort-eq109
returns-then-sort-eq109 c =
    put-mode c.args.line c.args.w.now c.args.sort c.if-sort-eq109.true c.mode_number.ensures c.put_number-then-sort-eq109.ensures

pub returns : goal.returns
returns c =
    put-bits c.args.line c.args.w.now c.args.sort
    (c.if-sort-eq114.false, c.if-sort-eq99.false, c.if-sort-eq105.false, c.if-sort-eq110.false, c.if-sort-eq109.false) c.put_bits.ensures
