-- Parts of a list of equal words. Assumes nothing.
use Rattle.std.proofs.Common.{◌≡◌, ℕ, zero, suc, ◌≤◌, List, ◌∷◌, take, replicate, refl, ap, le_of_suc-le-suc, not-suc-le-zero}

-- the first n of m equal words
pub take-replicate : (n m w : ℕ) → n ≤ m → take n (replicate m w) ≡ replicate n w
take-replicate zero m w h = refl
take-replicate (suc n) zero w h = absurd (not-suc-le-zero h)
take-replicate (suc n) (suc m) w h = ap (λ (l : List ℕ). w ∷ l) (take-replicate n m w (le_of_suc-le-suc h))
