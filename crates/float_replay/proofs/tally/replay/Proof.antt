-- `tally::replay` meets its contract: after i turns the counts are those after the first i cases.
-- Assumes nothing.
use Prim.Native.Nat.{ℕ, ◌+◌, ◌*◌, ◌-◌, ◌≤◌}
use mathlib.Core.List.{List}
use mathlib.Core.Path.{◌≡◌, refl, ap, ◌∙◌}
use native.Mathlib.Omega.{arith}
use native.Mathlib.Numerals.{add-one}
use lib.ListN.{take, drop, length-take, length-drop}
use Rattle.float_replay.specs.Tally.{counted, replayed}
use Rattle.float_replay.proofs.tally.replay.Statement.{statement}
use Rattle.float_replay.proofs.tally.replay.Tie as tie

-- before the first case
none : (t list : List ℕ) → t ≡ replayed t list 0
unfolding replayed
none t list = refl

-- one case more
next : (t₀ list : List ℕ) (i : ℕ) {t last : List ℕ}
    → t ≡ replayed t₀ list i
    → last ≡ counted t (take (i * 41 + 41 - i * 41) (drop (i * 41) list))
    → last ≡ replayed t₀ list (i + 1)
unfolding replayed
next t₀ list i before now =
    let e : i * 41 + 41 - i * 41 ≡ 41 = omega arith in
    rw add-one (rw (before, e) at now)

abbrev invariant-loop-i : tie.invariant-loop-i
invariant-loop-i list t₀ cases i₀ t i = (i ≤ cases) × (t ≡ replayed t₀ list i)

abbrev decreases-loop-i : tie.decreases-loop-i
decreases-loop-i list t₀ cases i₀ t i = cases - i

pub replay_spec : {M : Type 1} → statement M
replay_spec =
    tie.close
    (tie.spec
    invariant-loop-i
    decreases-loop-i
    (λ c. (omega arith, none _ _))
    (λ c. omega arith) (λ c. omega arith) (λ c. omega arith) (λ c. omega arith) (λ c. omega arith)
    (λ c κs. simp (length-take, length-drop) (omega arith))
    (λ c. omega arith) (λ c. omega arith)
    (λ c. (omega arith, next _ _ c.loop-i.i c.loop-i.invariant.1 c.count.ensures))
    (λ c. c.loop-i.invariant.1 ∙ ap (replayed _ _) (omega arith)))
