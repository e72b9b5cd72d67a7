-- No word, no first word, no others, and a line.
use Rattle.std.proofs.Common.{arith, rules, refl, sym, ap, ◌≡◌, ◌∙◌, None}
use Rattle.mir.specs.Read.{got, refused}
use Rattle.assembly.specs.Reading.{read_of}
use Rattle.assembly.specs.Making.{as_line}
use Rattle.assembly.proofs.Runs.{run_inside}
use Rattle.assembly.proofs.LineRead.{read_at, read_none, read-empty}
use Rattle.assembly.proofs.reading.read_line.Goals as goal

pub returns-then-l-word : goal.returns-then-l-word
returns-then-l-word c =
    let p = c.run_end-word in
    read-empty c.args.l.now p.result p.ensures c.if-l-word.true refl

pub slice_bounds-head_number-end : goal.slice_bounds-head_number-end
slice_bounds-head_number-end c =
    let k = run_inside 0 c.args.l.now c.run_end-word.result c.run_end-end.result (omega arith) c.run_end-end.ensures in
    omega (arith, k)

pub returns-in_err-head : goal.returns-in_err-head
returns-in_err-head c =
    let p = c.run_end-word in
    let q = c.run_end-end in
    let n : c.from_residual.result ≡ None = search rules in
    ap as_line n
    ∙ read_none c.args.l.now p.result p.ensures q.result (omega arith) q.ensures (ap read_of (sym c.in_err-head.was) ∙ c.head_number.ensures) refl

pub returns-in_err-line : goal.returns-in_err-line
returns-in_err-line c =
    let p = c.run_end-word in
    let q = c.run_end-end in
    let n : c.from_residual-in_err-line.result ≡ None = search rules in
    ap as_line n
    ∙ read_at c.args.l.now p.result p.ensures q.result (omega arith) q.ensures c.in_ok-head.head {p = refused 3}
    (ap read_of (sym c.in_ok-head.was) ∙ c.head_number.ensures) (ap read_of (sym c.in_err-line.was) ∙ c.put_rest.ensures) refl

pub returns : goal.returns
returns c =
    let p = c.run_end-word in
    let q = c.run_end-end in
    read_at c.args.l.now p.result p.ensures q.result (omega arith) q.ensures c.in_ok-head.head {p = got c.in_ok-line.line}
    (ap read_of (sym c.in_ok-head.was) ∙ c.head_number.ensures) (ap read_of (sym c.in_ok-line.was) ∙ c.put_rest.ensures) refl
