-- Demand 3.
use mathlib.Core.Path.{sym, subst}
use Rattle.leftovers.specs.Leftovers.{sheet_of, Lowered, Claim, Demand3}
use Rattle.leftovers.proofs.Sheets.{sound}
use Rattle.leftovers.proofs.Claims.{claim}

pub demand-3 : Demand3
demand-3 bytes room σ₀ i σ τ g =
    let s = sound bytes room g.accepted in
    subst (λ (l : Lowered). Claim l σ₀ i σ τ) (sym s.same)
    (claim (sheet_of bytes) s.in-range s.few s.fair s.meets s.fits σ₀ g.words i σ τ g.changed)
