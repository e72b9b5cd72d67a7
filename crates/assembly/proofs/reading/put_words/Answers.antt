-- No word more, a word that is put or is none, and the line's end.
use Rattle.std.proofs.Common.{arith, rules, sym, ap, ◌≡◌, ◌∙◌, None}
use Rattle.mir.specs.Read.{got, refused}
use Rattle.assembly.specs.Reading.{read_of}
use Rattle.assembly.proofs.Runs.{run_inside}
use Rattle.assembly.proofs.Wording.{no_word, through, all-put, too_many}
use Rattle.assembly.proofs.reading.put_words.Goals as goal

pub returns-then-l-word : goal.returns-then-l-word
returns-then-l-word c =
    let a = c.args in
    let v = c.loop-sort in
    let p = c.run_end-word in
    no_word a.sorts.now a.l.now v.sort-index v.at p.result v.line v.invariant p.ensures (omega arith) (omega arith)

pub slice_bounds-put_word-end : goal.slice_bounds-put_word-end
slice_bounds-put_word-end c =
    let k = run_inside 0 c.args.l.now c.run_end-word.result c.run_end-end.result (omega arith) c.run_end-end.ensures in
    omega (arith, k)

pub returns-in_err-line : goal.returns-in_err-line
returns-in_err-line c =
    let a = c.args in
    let v = c.loop-sort in
    let p = c.run_end-word in
    let q = c.run_end-end in
    let n : c.from_residual.result ≡ None = search rules in
    ap read_of n
    ∙ through a.sorts.now a.l.now v.sort-index v.at p.result v.line v.invariant p.ensures q.result (omega arith) (omega arith) q.ensures
    (refused 3) (ap read_of (sym c.in_err-line.was) ∙ c.put_word.ensures)

pub loop-sort-preserved : goal.loop-sort-preserved
loop-sort-preserved c =
    let a = c.args in
    let v = c.loop-sort in
    let p = c.run_end-word in
    let q = c.run_end-end in
    through a.sorts.now a.l.now v.sort-index v.at p.result v.line v.invariant p.ensures q.result (omega arith) (omega arith) q.ensures
    (got c.in_ok-line.line) (ap read_of (sym c.in_ok-line.was) ∙ c.put_word.ensures)

pub returns-then-run_end-l : goal.returns-then-run_end-l
returns-then-run_end-l c =
    let a = c.args in
    let v = c.loop-sort in
    let p = c.run_end in
    too_many a.sorts.now a.l.now v.sort-index v.at p.result v.line v.invariant p.ensures (omega arith) (omega arith)

pub returns : goal.returns
returns c =
    let a = c.args in
    let v = c.loop-sort in
    let p = c.run_end in
    all-put a.sorts.now a.l.now v.sort-index v.at p.result v.line v.invariant p.ensures (omega arith) (omega arith)
