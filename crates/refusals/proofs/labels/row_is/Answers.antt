-- A byte that differs, one that does not, and all.
use Rattle.std.proofs.Common.{arith, rules, sym, ap, ◌≡◌, ◌∙◌, ◌*◌, length}
use native.Mathlib.Nat.{add-zero}
use Rattle.mir.specs.Field.{bytes_at}
use Rattle.lowering.specs.Labels.{bytes_same}
use Rattle.refusals.proofs.Marking.{compared_same, compared-apart, compared_all}
use Rattle.refusals.proofs.labels.row_is.Goals as goal

pub loop-i-init : goal.loop-i-init
loop-i-init c = let a = c.args in ap (λ k. bytes_same (bytes_at a.rows.now k 96) a.bytes) (add-zero (96 * a.label))

pub returns-then-byte-bytes : goal.returns-then-byte-bytes
returns-then-byte-bytes c =
    let l = c.loop-i in
    let a = c.args in
    let n : length a.bytes ≡ 96 = search rules in
    sym (compared-apart a.rows.now a.bytes (96 * a.label) 96 l.i (omega arith) n (λ e. c.if-byte-bytes.true (c.byte.ensures ∙ e))) ∙ l.invariant

pub loop-i-preserved : goal.loop-i-preserved
loop-i-preserved c =
    let l = c.loop-i in
    let a = c.args in
    let n : length a.bytes ≡ 96 = search rules in
    compared_same a.rows.now a.bytes (96 * a.label) 96 l.i (omega arith) n (sym c.byte.ensures ∙ c.if-byte-bytes.false) ∙ l.invariant

pub returns : goal.returns
returns c =
    let l = c.loop-i in
    let a = c.args in
    let n : length a.bytes ≡ 96 = search rules in
    sym (compared_all a.rows.now a.bytes (96 * a.label) 96 l.i (omega arith) n) ∙ l.invariant
