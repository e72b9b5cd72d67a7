-- `reading::put_rest` meets its contract.
use native.Mathlib.Omega.{arith}
use mathlib.Core.Path.{◌≡◌, ◌∙◌}
use lib.ListN.{drop, get_or}
use Rattle.assembly.specs.Assembled.{words_of}
use Rattle.assembly.proofs.Table.{start_lengths, starts, sort_counts, sorts_of, start_short, sorts_few, row, no_row}
use Rattle.assembly.proofs.reading.put_rest.Goals as goal

pub slice_bounds-text-end : goal.slice_bounds-text-end
unfolding start_lengths starts sort_counts sorts_of
slice_bounds-text-end c =
    let k : c.byte-long.result ≡ get_or start_lengths c.args.n 0 = c.byte-long.ensures in
    let m = start_short c.args.n (omega arith) in
    omega (arith, k, m)

pub slice_bounds-put_words-end : goal.slice_bounds-put_words-end
unfolding start_lengths starts sort_counts sorts_of
slice_bounds-put_words-end c =
    let k : c.byte-count.result ≡ get_or sort_counts c.args.n 0 = c.byte-count.ensures in
    let m = sorts_few c.args.n (omega arith) in
    omega (arith, k, m)

pub returns-then-n-lt59 : goal.returns-then-n-lt59
unfolding start_lengths starts sort_counts sorts_of
returns-then-n-lt59 c =
    let a = c.args in
    c.put_words.ensures
    ∙ row a.n c.byte-long.result c.byte-count.result (words_of (drop a.at a.l.now)) (omega arith) c.byte-long.ensures c.byte-count.ensures
    c.empty_line.ensures c.text-start.ensures.same

pub returns : goal.returns
unfolding start_lengths starts sort_counts sorts_of
returns c =
    let a = c.args in
    c.put_words-2.ensures ∙ no_row a.n (words_of (drop a.at a.l.now)) (omega arith) c.empty_line-2.ensures
