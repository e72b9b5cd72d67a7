-- `marks_pass::work::straight` meets its contract. The invariant: the records from here on lead to where those from the first position lead.
use borrow.Author.Rules.{rules}
use Prim.Native.Nat.{◌-◌, ◌≤◌}
use mathlib.Core.Path.{◌≡◌, refl, ◌∙◌}
use mathlib.Core.List.{List}
use native.Mathlib.Omega.{arith}
use lib.ListN.{length, drop}
use Rattle.mir.specs.declared.records.Record.{Record}
use Rattle.mir.specs.Encode.{encode_all}
use Rattle.marks.specs.Marks.{Marking}
use Rattle.marks_pass.specs.Table.{table}
use Rattle.marks_pass.specs.Standing.{Stands}
use Rattle.marks_pass.proofs.Records as R
use Rattle.marks_pass.proofs.work.straight.Statement.{statement}
use Rattle.marks_pass.proofs.work.straight.Tie as tie

abbrev invariant-loop-at : tie.invariant-loop-at
invariant-loop-at listing from filled₀ drawn₀ rows at₀ filled drawn at =
    (from ≤ at)
    × (length filled ≡ length filled₀)
    × (length drawn ≡ length drawn₀)
    × ((rest : List Record) (m : Marking) → drop from listing ≡ encode_all rest → Stands filled₀ drawn₀ m → R.Going listing rest m filled drawn at)

abbrev decreases-loop-at : tie.decreases-loop-at
decreases-loop-at listing from filled₀ drawn₀ rows at₀ filled drawn at = length listing - at

loop-holds : tie.Need-loop-at-init invariant-loop-at decreases-loop-at
loop-holds c = (omega arith, refl, refl, λ rest m e s. R.going_start _ _ rest m e s)

work-at-requires : tie.Need-work_at-n-requires invariant-loop-at decreases-loop-at
unfolding table
work-at-requires c κs = (refl, (c.loop-at.invariant.1 ∙ c.requires.0, c.loop-at.invariant.2 ∙ c.requires.1))

same_length : tie.Need-shape_of-filled-then-n-eq0 invariant-loop-at decreases-loop-at
same_length c = c.work_at-n.auto.filled ∙ c.loop-at.invariant.1

same-length-2 : tie.Need-shape_of-drawn-then-n-eq0 invariant-loop-at decreases-loop-at
same-length-2 c = c.work_at-n.auto.drawn ∙ c.loop-at.invariant.2

returns : tie.Need-returns-then-n-eq0 invariant-loop-at decreases-loop-at
returns c =
    let l = c.loop-at in
    record {
      on = l.invariant.0;
      leads = λ rest m e s. R.going-stops _ rest m l.at _ c.work_at-n.ensures c.loop-at-test.true c.if-n-eq0.true (l.invariant.3 rest m e s);
    }

add_at : tie.Need-overflow_add-at invariant-loop-at decreases-loop-at
add_at c = let w = c.work_at-n.ensures.low in omega (arith, w)

loop-less : tie.Need-loop-at-smaller invariant-loop-at decreases-loop-at
loop-less c = omega arith

loop-again : tie.Need-loop-at-preserved invariant-loop-at decreases-loop-at
loop-again c =
    let l = c.loop-at in (
      omega arith,
      c.work_at-n.auto.filled ∙ l.invariant.1,
      c.work_at-n.auto.drawn ∙ l.invariant.2,
      λ rest m e s. R.going_on _ rest m l.at _ c.work_at-n.ensures c.loop-at-test.true c.if-n-eq0.false (l.invariant.3 rest m e s),
    )

same-length-3 : tie.Need-shape_of-filled invariant-loop-at decreases-loop-at
same-length-3 c = c.loop-at.invariant.1

same-length-4 : tie.Need-shape_of-drawn invariant-loop-at decreases-loop-at
same-length-4 c = c.loop-at.invariant.2

returns-2 : tie.Need-returns invariant-loop-at decreases-loop-at
returns-2 c =
    let l = c.loop-at in
    record { on = l.invariant.0; leads = λ rest m e s. R.going_ends _ rest m l.at (omega arith) (l.invariant.3 rest m e s) }

pub straight_spec : {M : Type 1} → statement M
straight_spec =
    tie.close
    (tie.spec invariant-loop-at decreases-loop-at
    loop-holds (λ c. search rules) (λ c. search rules) (λ c. search rules) (λ c. search rules) work-at-requires
    same_length same-length-2 returns add_at loop-less loop-again same-length-3 same-length-4 returns-2)
