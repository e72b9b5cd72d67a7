-- Sixteen digits, and no such word.
use Rattle.std.proofs.Common.{arith, refl, sym, ap, ◌∙◌}
use Rattle.mir.specs.Read.{got}
use Rattle.assembly.proofs.Digits.{cons, bits_put, no_bits, other_count, not_digits}
use Rattle.assembly.proofs.reading.put_bits.Goals as goal
use Rattle.assembly.proofs.reading.put_bits.Goals.{else-w-eq16-via-then-w-eq16+else-are_digits, else-w-eq16-via-else-w-eq16}

pub returns-then-are_digits : goal.returns-then-are_digits
returns-then-are_digits c =
    ap got c.text.ensures.same
    ∙ bits_put _ _ _ (omega arith) (sym c.are_digits.ensures ∙ c.if-are_digits.true)
    (cons c.two_digits.ensures (cons c.two_digits-then-are_digits.ensures (cons c.two_digits-then-are_digits-2.ensures (cons c.two_digits-then-are_digits-3.ensures (cons c.two_digits-then-are_digits-4.ensures (cons c.two_digits-then-are_digits-5.ensures (cons c.two_digits-then-are_digits-6.ensures (cons c.two_digits-then-are_digits-7.ensures refl))))))))

pub returns : goal.returns
returns c =
    elim c.else-w-eq16.branch [
      | else-w-eq16-via-then-w-eq16+else-are_digits w ↦ sym (no_bits _ _ (not_digits _ (omega arith) (sym w.are_digits.ensures ∙ w.if-are_digits.false)))
      | else-w-eq16-via-else-w-eq16 w ↦ sym (no_bits _ _ (other_count _ w.if-w-eq16.false))
    ]
