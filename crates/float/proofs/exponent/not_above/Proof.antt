-- `float::exponent::not_above` meets its contract. Assumes nothing.
use mathlib.Core.Path.{◌≡◌, sym, ◌∙◌}
use Prim.Native.Nat.{◌+◌, ◌-◌, ◌≤◌, ◌<◌}
use native.Mathlib.Omega.{arith}
use lib.Dec.{leb}
use lib.IntN.{ℤ, pos, negsuc}
use lib.Signed.{mag, le_z}
use borrow.Author.Tests.{le-leb, lt-leb}
use Rattle.float.specs.Biased.{biased}
use Rattle.float.proofs.Sums.{leb_agree}
use Rattle.float.proofs.Signed.{read_same}
use Rattle.float.proofs.exponent.not_above.Statement.{statement}
use Rattle.float.proofs.exponent.not_above.Tie as tie

order : (a b : ℤ) → mag a < 4096 → mag b < 4096 → le_z a b ≡ leb (biased a) (biased b)
order (pos m) (pos n) A B = leb_agree m n (8192 + m) (8192 + n) (λ (x : m ≤ n). omega arith) (λ (x : n < m). omega arith)
order (pos m) (negsuc n) A B = sym (lt-leb (8192 + m) (8191 - n) (omega arith))
order (negsuc m) (pos n) A B = sym (le-leb (8191 - m) (8192 + n) (omega arith))
order (negsuc m) (negsuc n) A B = leb_agree n m (8191 - m) (8191 - n) (λ (x : n ≤ m). omega arith) (λ (x : m < n). omega arith)

returns : tie.Need-returns
returns c =
    let a = c.args.a in
    let b = c.args.b in
    mathlib.Core.Path.ap₂ le_z (read_same a (omega (arith, c.requires.0))) (read_same b (omega (arith, c.requires.1))) ∙ order a b c.requires.0 c.requires.1

pub not_above_spec : {M : Type 1} → statement M
not_above_spec = tie.close (tie.spec returns)
