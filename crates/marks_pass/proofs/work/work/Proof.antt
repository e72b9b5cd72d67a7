-- `marks_pass::work::work` meets its contract.
use borrow.Author.Rules.{rules}
use mathlib.Core.Path.{refl, ◌∙◌}
use native.Mathlib.Omega.{arith}
use Rattle.marks_pass.proofs.Rows as R
use Rattle.marks_pass.proofs.work.work.Statement.{statement}
use Rattle.marks_pass.proofs.work.work.Tie as tie

returns : tie.Need-returns-then-kind-gt13
returns c = R.does_high _ _ c.u16_at-kind.ensures c.if-kind-gt13.true

start-of-requires : tie.Need-start_of-d-requires
start-of-requires c κs = let e = R.rows_long c.requires.0 in omega (arith, e)

start-of-requires-2 : tie.Need-start_of-f-requires
start-of-requires-2 c κs = let e = R.rows_long c.requires.0 in omega (arith, e)

shared-slice-read-a : tie.Need-bounds-s-d
shared-slice-read-a c =
    let d = R.start_low _ _ _ c.requires.0 (omega arith) c.start_of-d.ensures in
    omega (arith, d)

add-b : tie.Need-overflow_add-b
add-b c =
    let d = R.start_low _ _ _ c.requires.0 (omega arith) c.start_of-d.ensures in
    omega (arith, d)

shared-slice-read-b : tie.Need-bounds-s-d-2
shared-slice-read-b c =
    let d = R.start_low _ _ _ c.requires.0 (omega arith) c.start_of-d.ensures in
    omega (arith, d)

add-mark : tie.Need-overflow_add-d
add-mark c =
    let d = R.start_low _ _ _ c.requires.0 (omega arith) c.start_of-d.ensures in
    omega (arith, d)

shared-slice-read-mark : tie.Need-bounds-s-d-3
shared-slice-read-mark c =
    let d = R.start_low _ _ _ c.requires.0 (omega arith) c.start_of-d.ensures in
    omega (arith, d)

add-mark-2 : tie.Need-overflow_add-d-2
add-mark-2 c =
    let d = R.start_low _ _ _ c.requires.0 (omega arith) c.start_of-d.ensures in
    omega (arith, d)

shared-slice-read-mark-2 : tie.Need-bounds-s-d-4
shared-slice-read-mark-2 c =
    let d = R.start_low _ _ _ c.requires.0 (omega arith) c.start_of-d.ensures in
    omega (arith, d)

shared-slice-read-mark-3 : tie.Need-bounds-s-f
shared-slice-read-mark-3 c =
    let d = R.fill_low _ _ _ c.requires.0 (omega arith) c.start_of-f.ensures in
    omega (arith, d)

add-mark-3 : tie.Need-overflow_add-f
add-mark-3 c =
    let d = R.fill_low _ _ _ c.requires.0 (omega arith) c.start_of-f.ensures in
    omega (arith, d)

shared-slice-read-mark-4 : tie.Need-bounds-s-f-2
shared-slice-read-mark-4 c =
    let d = R.fill_low _ _ _ c.requires.0 (omega arith) c.start_of-f.ensures in
    omega (arith, d)

mark-requires : tie.Need-mark-requires
mark-requires c κs = let e = R.rows_long c.requires.0 in (omega (arith, e), c.requires.1.1)

returns-2 : tie.Need-returns
returns-2 c =
    let a = c.args in
    let t = c.requires.0 in
    let k = c.u16_at-kind.ensures in
    let s = a.s.now in
    let kind = c.u16_at-kind.result in
    let d = c.start_of-d.result in
    let f = c.start_of-f.result in
    let e = c.aside-e.result in
    let m = c.mark.ensures in
    R.does-low s kind _ k (omega arith) (search rules)
    (λ w rest q. R.works-by a.rows.now s kind d f e _ t k c.start_of-d.ensures c.start_of-f.ensures (c.aside-e.ensures ∙ R.apart_by kind d _ _ _ s refl refl refl) c.u16_at.ensures w rest q
    (R.drawn-by a.rows.now s kind d f e _ _ _ _ _ _ refl refl refl refl refl refl m)
    (R.filled-by a.rows.now s kind d f e _ _ _ _ _ _ refl refl refl refl refl refl m))

pub work_spec : {M : Type 1} → statement M
work_spec =
    tie.close
    (tie.spec
    (λ c κs. search rules) returns (λ c. search rules) (λ c. search rules) start-of-requires (λ c. search rules)
    start-of-requires-2 shared-slice-read-a add-b shared-slice-read-b (λ c. search rules) (λ c κs. search rules) add-mark
    shared-slice-read-mark add-mark-2 shared-slice-read-mark-2 shared-slice-read-mark-3 add-mark-3
    shared-slice-read-mark-4 mark-requires (λ c κs. search rules) (λ c. search rules) (λ c. search rules)
    (λ c. search rules) returns-2)
