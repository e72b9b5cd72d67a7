-- What is read of the digits is what the definition reads, digit by digit.
use Rattle.std.proofs.Common.{◌≡◌, sym, ◌∙◌, ◌+◌, ◌*◌, ◌-◌, ◌≤◌, ◌<◌, slice_index_or, arith, None}
use Rattle.std.proofs.lemmas.Grind.{common_steps}
use Rattle.std.proofs.lemmas.Map.Keys.{le_from_is_le}
use Rattle.files.proofs.Digits.{no_digit, some-digit, outside, large, digit, spelled}
use Rattle.files.proofs.start.start_of.Goals as goal

pub returns-then-is_empty : goal.returns-then-is_empty
returns-then-is_empty c = no_digit c.args.s.now (grind (arith, common_steps))

pub returns-then-not-contains : goal.returns-then-not-contains
returns-then-not-contains c =
    let s = c.args.s.now in
    let l = c.loop-b in
    sym (outside s l.n l.b-index c.loop-b-test.true (grind (arith, common_steps))) ∙ l.invariant ∙ some-digit s (omega arith)

pub returns-in_err-checked_mul : goal.returns-in_err-checked_mul
returns-in_err-checked_mul c =
    let s = c.args.s.now in
    let l = c.loop-b in
    let b = slice_index_or s l.b-index 0 in
    let in_range = c.if-not-contains.ensures.cases in
    let low : 48 ≤ b = omega (arith, le_from_is_le c.new.result.start b in_range.0, c.new.ensures.start) in
    let high : b ≤ 57 = omega (arith, le_from_is_le b c.new.result.end in_range.1, c.new.ensures.end) in
    let none : c.from_residual.result ≡ None = grind (arith, common_steps) in
    let over : 18446744073709551615 < 10 * l.n = grind (arith, common_steps) in
    none
    ∙ sym (large s l.n l.b-index c.loop-b-test.true low high (omega arith))
    ∙ l.invariant
    ∙ some-digit s (omega arith)

pub returns-in_err-n : goal.returns-in_err-n
returns-in_err-n c =
    let s = c.args.s.now in
    let l = c.loop-b in
    let b = slice_index_or s l.b-index 0 in
    let in_range = c.if-not-contains.ensures.cases in
    let low : 48 ≤ b = omega (arith, le_from_is_le c.new.result.start b in_range.0, c.new.ensures.start) in
    let high : b ≤ 57 = omega (arith, le_from_is_le b c.new.result.end in_range.1, c.new.ensures.end) in
    let none : c.from_residual-in_err-n.result ≡ None = grind (arith, common_steps) in
    let over : 18446744073709551615 < 10 * l.n + (slice_index_or s l.b-index 0 - 48) = grind (arith, common_steps) in
    none ∙ sym (large s l.n l.b-index c.loop-b-test.true low high over) ∙ l.invariant ∙ some-digit s (omega arith)

pub loop-b-preserved : goal.loop-b-preserved
loop-b-preserved c =
    let s = c.args.s.now in
    let l = c.loop-b in
    let b = slice_index_or s l.b-index 0 in
    let in_range = c.if-not-contains.ensures.cases in
    let low : 48 ≤ b = omega (arith, le_from_is_le c.new.result.start b in_range.0, c.new.ensures.start) in
    let high : b ≤ 57 = omega (arith, le_from_is_le b c.new.result.end in_range.1, c.new.ensures.end) in
    let e : c.in_ok-n.n ≡ 10 * l.n + (slice_index_or s l.b-index 0 - 48) = grind (arith, common_steps) in
    let fits : 10 * l.n + (slice_index_or s l.b-index 0 - 48) ≤ 18446744073709551615 = grind (arith, common_steps) in
    rw e (sym (digit s l.n l.b-index c.loop-b-test.true low high fits) ∙ l.invariant)

pub returns : goal.returns
returns c =
    let s = c.args.s.now in
    let l = c.loop-b in
    sym (spelled s l.n l.b-index (omega arith)) ∙ l.invariant ∙ some-digit s (grind (arith, common_steps))
