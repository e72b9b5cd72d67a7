-- No record is refused by 0; and a record whose step was found was read.
use Prim.Native.Nat.{ℕ}
use mathlib.Core.Path.{◌≡◌, refl, sym}
use mathlib.Core.List.{List}
use Rattle.mir.specs.declared.records.Record.{Record}
use Rattle.mir.specs.Read.{Read, got, refused}
use Rattle.mir.proofs.IfRead.{not-zero}
use Rattle.mir.proofs.Passing.{clash}
use Rattle.records.specs.Record.{record_from}
use Rattle.records.specs.declared.reader.Step.{Step}
use Rattle.records.specs.Step.{step_from}
use Rattle.records.proofs.Held.{one_held}

module _ (count : ℕ) (s : List ℕ) where
  -- no record is refused by 0
  pub refused-by : record_from count s ≡ refused 0 → ⊥
  refused-by e = not-zero (one_held count s) e

  -- the record that the bytes begin with
  pub record Found : Type 0 where
    pub rec : Record
    pub is : record_from count s ≡ got rec

  found : (r : Read Record) (q : Step) → record_from count s ≡ r → got q ≡ step_from r → Found
  found (got rec) q e h = record { rec = rec; is = e }
  found (refused n) q e h = absurd (clash n q (sym h))

  -- where there is a step, there is a record
  pub looked : (q : Step) → got q ≡ step_from (record_from count s) → Found
  looked q h = found (record_from count s) q refl h
