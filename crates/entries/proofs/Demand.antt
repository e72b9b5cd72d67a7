-- Demand 3 of what the two entries do, from demand 3 of what is lowered.
use Prim.Native.Nat.{ℕ}
use mathlib.Core.Path.{◌≡◌, sym, subst}
use mathlib.Core.List.{List}
use mathlib.Core.Option.{some}
use lib.ListN.{length}
use Rattle.leftovers.specs.Leftovers.{Lowered, sheet_of, lowered, standing, Claim}
use Rattle.leftovers.proofs.Theorem.{demand-3}
use Rattle.entries.specs.Entries.{left, EntriesDemand3}
use Rattle.entries.proofs.Entered.{Left, entered}

pub same : (sheet listing constants origins : List ℕ) → Left sheet listing constants origins → lowered sheet (length listing) ≡ left sheet listing constants origins
same sheet listing constants origins f =
    λ j. record { sheet = sheet_of sheet; listing = sym f.bytes j; constants = sym f.words j; last = sym f.last j }

pub entries_demand-3 : EntriesDemand3
entries_demand-3 sheet listing constants origins σ₀ i σ τ g =
    let f = entered sheet listing constants origins g.accepted in
    let e = same sheet listing constants origins f in
    subst (λ (l : Lowered). Claim l σ₀ i σ τ) e
    (demand-3 sheet (length listing) σ₀ i σ τ
    (record {
      accepted = f.accepted;
      words = g.words;
      upper = g.upper;
      stands = subst (λ (l : Lowered). standing l 0 σ₀ i ≡ some σ) (sym e) g.stands;
      changed = g.changed;
    }))
