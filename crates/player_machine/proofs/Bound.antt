-- "Records played are at most all records plus calls times block records."
use Prim.Native.Nat.{ℕ, zero, suc, ◌+◌, ◌*◌, ◌≤◌}
use native.Mathlib.Omega.{arith}
use native.Mathlib.Nat.{add-mul, one-mul}
use mathlib.Core.Path.{◌≡◌}
use mathlib.Core.Bool.{Bool, true, false, not, cond}
use mathlib.Core.List.{List, [], ◌∷◌}
use lib.ListN.{length, drop}
use lib.Dec.{ltb, eqb}
use Rattle.mir.specs.declared.records.Work.{Work}
use Rattle.mir.specs.declared.records.Record.{Record}
use Rattle.records.specs.Record.{records}
use Rattle.player_machine.specs.Machine.{Store, at, exec, execs, block, branches, Way, going, seeking, End, ticks, play}
use Rattle.player_machine.specs.Jumps.{bit, tally, breach}
use Rattle.player_machine.specs.Count.{is_call, block_records, most, Bounds}
use Rattle.player_machine.specs.Answer.{Answer, refuse, accept, answer}

either : (x : Bool) (a b : End) (n : ℕ) → a.played ≤ n → b.played ≤ n → (cond x a b).played ≤ n
either true a b n h k = h
either false a b n h k = k

once : (n k : ℕ) → (1 + n) * k ≡ k + n * k
once n k = simp (add-mul, one-mul)

module _ (constants : List ℕ) (b : List Work) where
  -- for the records from any on, and in either mode
  pub bound : (w : Way) (rs : List Record) (σ : Store) → (play constants b w rs σ).played ≤ length rs + tally is_call rs * block_records b
  unfolding play ticks tally
  bound going [] σ = omega arith
  bound going (Record.Work a ∷ rs) σ = let h = bound going rs (exec constants a σ) in omega (arith, h)
  bound going (Record.Label l ∷ rs) σ = let h = bound going rs σ in omega (arith, h)
  bound going (Record.Branch l ∷ rs) σ = let h = bound (seeking l) rs σ in either (eqb l 0) _ _ _ (omega arith) (omega (arith, h))
  bound going (Record.Call l ∷ rs) σ =
      let h = bound going rs (execs constants b σ) in
      let e = once (tally is_call rs) (block_records b) in
      omega (arith, h, e)
  bound going (Record.BranchIf c l e ∷ rs) σ =
      let h = bound (seeking l) rs σ in
      let k = bound going rs σ in
      let n = length rs + tally is_call rs * block_records b in
      let m = either (branches e (at σ c)) (play constants b (seeking l) rs σ) (play constants b going rs σ) n h k in
      omega (arith, m)
  bound (seeking l) [] σ = omega arith
  bound (seeking l) (Record.Work a ∷ rs) σ = let h = bound (seeking l) rs σ in omega (arith, h)
  bound (seeking l) (Record.Label m ∷ rs) σ =
      let h = bound going rs σ in
      let k = bound (seeking l) rs σ in
      either (eqb m l) _ _ _ (omega (arith, h)) (omega (arith, k))
  bound (seeking l) (Record.Branch m ∷ rs) σ = let h = bound (seeking l) rs σ in omega (arith, h)
  bound (seeking l) (Record.Call m ∷ rs) σ = let h = bound (seeking l) rs σ in
      let e = once (tally is_call rs) (block_records b) in
      omega (arith, h, e)
  bound (seeking l) (Record.BranchIf c m e ∷ rs) σ = let h = bound (seeking l) rs σ in omega (arith, h)

  -- for a play that starts at any record
  pub bound-drop : (n : ℕ) (rs : List Record) (σ : Store)
      → (play constants b going (drop n rs) σ).played ≤ length rs + tally is_call rs * block_records b
  unfolding tally
  bound-drop zero rs σ = bound going rs σ
  bound-drop (suc n) [] σ = bound going [] σ
  bound-drop (suc n) (r ∷ rs) σ =
      let h = bound-drop n rs σ in
      let e = add-mul (bit (is_call r)) (tally is_call rs) (block_records b) in
      omega (arith, h, e)

-- a refusal plays nothing
refuse_bound : (b : Bool) (number index : ℕ) (σ : Store) (a : Answer) (n : ℕ) → a.played ≤ n → (refuse b number index σ a).played ≤ n
refuse_bound true number index σ a n h = omega arith
refuse_bound false number index σ a n h = h

pub answer_bound : Bounds most
unfolding answer
answer_bound listing constants start σ =
    let d = records (length constants) listing in
    let rs = d.items in
    let n = most rs in
    let played = accept (length rs) (play constants (block rs) going (drop start rs) σ) in
    let ruled = refuse (ltb (breach rs) (length rs)) 9 (breach rs) σ played in
    let started = refuse (ltb (length rs) start) 9 start σ ruled in
    let examined = refuse (not (eqb d.fault 0)) d.fault (length rs) σ started in
    let stored = refuse (not (eqb (length σ) 1602)) 8 0 σ examined in
    let held = refuse (ltb 256 (length constants)) 8 0 σ stored in
    refuse_bound (ltb 65536 (length listing)) 8 0 σ held n
    (refuse_bound (ltb 256 (length constants)) 8 0 σ stored n
    (refuse_bound (not (eqb (length σ) 1602)) 8 0 σ examined n
    (refuse_bound (not (eqb d.fault 0)) d.fault (length rs) σ started n
    (refuse_bound (ltb (length rs) start) 9 start σ ruled n
    (refuse_bound (ltb (breach rs) (length rs)) 9 (breach rs) σ played n (bound-drop constants (block rs) start rs σ))))))
