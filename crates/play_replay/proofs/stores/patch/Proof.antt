-- `stores::patch` meets its contract: after i turns the first i words are set. Assumes nothing.
use Prim.Native.Nat.{◌-◌, ◌≤◌}
use mathlib.Core.Path.{◌≡◌, refl}
use native.Mathlib.Omega.{arith}
use borrow.Author.Rules.{rules}
use lib.ListN.{length, length-set}
use Rattle.play_replay.specs.Case.{patched}
use Rattle.play_replay.proofs.Tables.{patched_none, patched_next, patched_all}
use Rattle.play_replay.proofs.stores.patch.Statement.{statement}
use Rattle.play_replay.proofs.stores.patch.Tie as tie

abbrev invariant-loop-i : tie.invariant-loop-i
invariant-loop-i s at n store₀ i₀ store i = (i ≤ n) × ((length store ≡ length store₀) × (store ≡ patched s at store₀ i))

abbrev decreases-loop-i : tie.decreases-loop-i
decreases-loop-i s at n store₀ i₀ store i = n - i

pub patch_spec : {M : Type 1} → statement M
patch_spec =
    tie.close
    (tie.spec
    invariant-loop-i
    decreases-loop-i
    (λ c. (omega arith, (refl, patched_none _ _ _)))
    (λ c. omega arith) (λ c. omega arith) (λ c κs. omega arith) (λ c. omega arith) (λ c κs. omega arith) (λ c κs. search rules)
    (λ c. omega arith) (λ c. omega arith)
    (λ c. (omega arith, (simp (c.put.ensures, length-set) c.loop-i.invariant.1.0, patched_next _ _ _ c.loop-i.i c.loop-i.invariant.1.1 c.count_at-k.ensures.0 c.word_at-word.ensures c.put.ensures)))
    (λ c. c.loop-i.invariant.1.0)
    (λ c. patched_all _ _ _ c.loop-i.i _ c.loop-i.invariant.1.1 (omega arith)))
