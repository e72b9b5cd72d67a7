-- Nothing where they do not fit; one flag more; and all of them.
use Rattle.std.proofs.Common.{arith, sym, ◌∙◌, map}
use Rattle.std.proofs.lemmas.List.{length-map}
use native.Mathlib.Nat.{add-zero}
use Rattle.mir.specs.Encode.{flag_byte}
use Rattle.words.proofs.Stored.{stored_fits, stored_full}
use Rattle.lowering.proofs.RecordStored.{flag-stored, flags-ended}
use Rattle.lowering.proofs.bytes.put_flags.Goals as goal

pub returns-then-out-flags : goal.returns-then-out-flags
returns-then-out-flags c =
    let a = c.args in
    let n = length-map a.flags.now flag_byte in
    sym (stored_full a.out.now a.at (map flag_byte a.flags.now) (omega (arith, n)))

pub loop-i-init : goal.loop-i-init
loop-i-init c = simp add-zero

pub loop-i-preserved : goal.loop-i-preserved
loop-i-preserved c =
    let a = c.args in let l = c.loop-i in
    flag-stored l.out a.flags.now a.at l.i c.flag_byte.ensures (omega arith) ∙ l.invariant

pub returns : goal.returns
returns c =
    let a = c.args in let l = c.loop-i in
    sym (flags-ended l.out a.flags.now a.at l.i (omega arith)) ∙ l.invariant
    ∙ sym (stored_fits a.out.now a.at (map flag_byte a.flags.now) (omega (arith, length-map a.flags.now flag_byte)))
