-- `marks_pass::work::work_last` meets its contract.
use borrow.Author.Rules.{rules}
use mathlib.Core.Path.{◌∙◌}
use native.Mathlib.Omega.{arith}
use Rattle.marks_pass.proofs.Rows as R
use Rattle.marks_pass.proofs.work.work_last.Statement.{statement}
use Rattle.marks_pass.proofs.work.work_last.Tie as tie

returns : tie.Need-returns-then-kind-gt13
returns c = R.does_high _ _ c.u16_at-kind.ensures c.if-kind-gt13.true

start-of-requires : tie.Need-start_of-d-requires
start-of-requires c κs = let e = R.rows_long c.requires.0 in omega (arith, e)

start-of-requires-2 : tie.Need-start_of-f-requires
start-of-requires-2 c κs = let e = R.rows_long c.requires.0 in omega (arith, e)

add-byte : tie.Need-overflow_add-d
add-byte c =
    let d = R.start_low _ _ _ c.requires.0 (omega arith) c.start_of-d.ensures in
    omega (arith, d)

add-byte-2 : tie.Need-overflow_add-d-2
add-byte-2 c =
    let d = R.start_low _ _ _ c.requires.0 (omega arith) c.start_of-d.ensures in
    omega (arith, d)

add-byte-3 : tie.Need-overflow_add-d-3
add-byte-3 c =
    let d = R.start_low _ _ _ c.requires.0 (omega arith) c.start_of-d.ensures in
    omega (arith, d)

add-byte-4 : tie.Need-overflow_add-f
add-byte-4 c =
    let d = R.fill_low _ _ _ c.requires.0 (omega arith) c.start_of-f.ensures in
    omega (arith, d)

mark-requires : tie.Need-mark-requires
mark-requires c κs = let e = R.rows_long c.requires.0 in (omega (arith, e), c.requires.1)

returns-2 : tie.Need-returns
returns-2 c =
    let a = c.args in
    let t = c.requires.0 in
    let k = c.u16_at-kind.ensures in
    let s = a.s.now in
    let kind = c.u16_at-kind.result in
    let d = c.start_of-d.result in
    let f = c.start_of-f.result in
    let e = c.aside-e.result in
    let m = c.mark.ensures in
    R.does-low s kind _ k (omega arith) (search rules)
    (λ w rest q. R.works-by a.rows.now s kind d f e _ t k c.start_of-d.ensures c.start_of-f.ensures (c.aside-e.ensures ∙ R.apart_by kind d _ _ _ s c.byte.ensures c.byte-a.ensures c.byte-b.ensures) c.u16_at.ensures w rest q
    (R.drawn-by a.rows.now s kind d f e _ _ _ _ _ _ c.byte-a.ensures c.byte-b.ensures c.byte-2.ensures c.byte-3.ensures c.byte-4.ensures c.byte-5.ensures m)
    (R.filled-by a.rows.now s kind d f e _ _ _ _ _ _ c.byte-a.ensures c.byte-b.ensures c.byte-2.ensures c.byte-3.ensures c.byte-4.ensures c.byte-5.ensures m))

pub work_last_spec : {M : Type 1} → statement M
work_last_spec =
    tie.close
    (tie.spec
    (λ c κs. search rules) returns (λ c. search rules) (λ c. search rules) start-of-requires (λ c. search rules)
    start-of-requires-2 (λ c κs. search rules) add-byte (λ c κs. search rules) (λ c κs. search rules)
    (λ c κs. search rules) add-byte-2 (λ c κs. search rules) add-byte-3 (λ c κs. search rules) (λ c κs. search rules)
    add-byte-4 (λ c κs. search rules) mark-requires (λ c κs. search rules) (λ c. search rules) (λ c. search rules)
    (λ c. search rules) returns-2)
