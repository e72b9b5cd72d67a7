-- `text::line::Line::decimal` meets its contract. The invariant: the digits of what is left and then those found are the number's.
use borrow.Author.Rules.{rules}
use Prim.Native.Nat.{◌≤◌, ◌<◌, ◌+◌}
use mathlib.Core.Path.{◌≡◌, ap, ◌∙◌}
use mathlib.Core.List.{◌++◌, append-nil}
use native.Mathlib.Omega.{arith}
use lib.ListN.{length, drop, length-set}
use Rattle.text.specs.Line.{add_all}
use Rattle.text.specs.Text.{decimal_in, decimal}
use Rattle.text.proofs.Digits.{found, all}
use Rattle.text.proofs.line.Line.decimal.Statement.{statement}
use Rattle.text.proofs.line.Line.decimal.Lts.{then-loop-at-test+else-rest-ge10, else-loop-at-test}
use Rattle.text.proofs.line.Line.decimal.Tie as tie

abbrev invariant-loop-at : tie.invariant-loop-at
invariant-loop-at self n digits₀ at₀ rest₀ digits at rest =
    (at ≤ 19) × (length digits ≡ 20) × (decimal_in at rest ++ drop (at + 1) digits ≡ decimal n)

abbrev decreases-loop-at : tie.decreases-loop-at
decreases-loop-at self n digits₀ at₀ rest₀ digits at rest = at

loop-holds : tie.Need-loop-at-init invariant-loop-at decreases-loop-at
loop-holds c = (search rules, search rules, append-nil _)

add-digits : tie.Need-overflow_add-digits invariant-loop-at decreases-loop-at
add-digits c = search rules

cast-digits : tie.Need-overflow_cast-digits invariant-loop-at decreases-loop-at
cast-digits c = search rules

array-write-digits : tie.Need-bounds-digits-at invariant-loop-at decreases-loop-at
array-write-digits c = search rules

sub_at : tie.Need-overflow_sub-at invariant-loop-at decreases-loop-at
sub_at c = search rules

loop-less : tie.Need-loop-at-smaller invariant-loop-at decreases-loop-at
loop-less c = search rules

loop-again : tie.Need-loop-at-preserved invariant-loop-at decreases-loop-at
loop-again c =
    let v = c.loop-at in
    (search rules, search rules, found v.digits v.at v.rest (omega arith) c.if-rest-ge10.true (omega arith) ∙ v.invariant.2)

add-digits-2 : tie.Need-overflow_add-digits-2 invariant-loop-at decreases-loop-at
add-digits-2 c = search rules

cast-digits-2 : tie.Need-overflow_cast-digits-2 invariant-loop-at decreases-loop-at
cast-digits-2 c = search rules

array-write-digits-2 : tie.Need-bounds-digits-at-2 invariant-loop-at decreases-loop-at
array-write-digits-2 c = search rules

sub-text : tie.Need-slice_bounds-text-count invariant-loop-at decreases-loop-at
sub-text c = search rules

part-text-start : tie.Need-slice_bounds-text-start invariant-loop-at decreases-loop-at
part-text-start c = search rules

part-text-end : tie.Need-slice_bounds-text-end invariant-loop-at decreases-loop-at
part-text-end c = simp length-set (omega arith)

text-requires : tie.Need-text-requires invariant-loop-at decreases-loop-at
text-requires c κs = search rules

returns : tie.Need-returns invariant-loop-at decreases-loop-at
returns c =
    let a = c.args in
    let v = c.loop-at in
    let few : 0 < v.at → v.rest < 10 =
    λ h. elim c.loop-at-test.branch [ then-loop-at-test+else-rest-ge10 w ↦ omega arith | else-loop-at-test w ↦ omega arith ]
    in
    record {
      same =
          c.text.ensures.same
          ∙ ap
          (add_all a.self)
          (all v.digits v.at v.rest few (omega arith) (omega arith) ∙ v.invariant.2);
    }

pub decimal_spec : {M : Type 1} → statement M
decimal_spec =
    tie.close
    (tie.spec
    invariant-loop-at
    decreases-loop-at
    loop-holds
    add-digits
    cast-digits
    array-write-digits
    sub_at
    loop-less
    loop-again
    add-digits-2
    cast-digits-2
    array-write-digits-2
    sub-text
    part-text-start
    part-text-end
    text-requires
    returns)
