-- `put_lines` meets its contract.
use borrow.Author.Rules.{rules}
use native.Mathlib.Omega.{arith}
use Rattle.text.proofs.Putting.{long, line-put, ◌▹◌}
use Rattle.sheet_text.proofs.printing.put_lines.Statement.{statement}
use Rattle.sheet_text.proofs.printing.put_lines.Tie as tie

pub put_lines_spec : {M : Type 1} → statement M
put_lines_spec =
    tie.close
    (tie.spec
    (λ c κs. search rules) (λ c κs. search rules)
    (λ c κs.
    let p = c.mode_line.ensures in
    let f = p.whole.fits in
    let n = p.whole.count in
    let m = line-put p (omega (arith, f)) c.put_line-at.ensures in
    let k = m.ends in
    let g = long m in
    omega (arith, f, n, k, g))
    (λ c κs.
    let p = c.mode_line.ensures in
    let f = p.whole.fits in
    let n = p.whole.count in
    let m = line-put p (omega (arith, f)) c.put_line-at.ensures in
    let k = m.ends in
    let g = long m in
    let r = c.put_reals-at.ensures in
    let x = long r.0 in
    let y = r.1 in
    omega (arith, f, n, k, g, x, y))
    (λ c κs.
    let p = c.mode_line.ensures in
    let f = p.whole.fits in
    let n = p.whole.count in
    let m = line-put p (omega (arith, f)) c.put_line-at.ensures in
    let k = m.ends in
    let g = long m in
    let r = c.put_reals-at.ensures in
    let x = long r.0 in
    let y = r.1 in
    let q = c.put_constants-at.ensures in
    let z = long q.0 in
    let w = q.1 in
    omega (arith, f, n, k, g, x, y, z, w))
    (λ c. search rules)
    (λ c.
    let p = c.mode_line.ensures in
    let f = p.whole.fits in
    let n = p.whole.count in
    let m = line-put p (omega (arith, f)) c.put_line-at.ensures in
    let k = m.ends in
    let g = long m in
    m
    ▹ c.put_reals-at.ensures.0
    ▹ c.put_constants-at.ensures.0
    ▹ c.put_instructions.ensures))
