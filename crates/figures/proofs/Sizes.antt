-- How much the records of one instruction add to a count.
use Prim.Native.Nat.{ℕ, ◌+◌, ◌≤◌, ◌<◌}
use mathlib.Core.Path.{◌≡◌, sym, ap, ◌∙◌}
use mathlib.Core.Bool.{Bool, true, false, cond}
use mathlib.Core.List.{List, [], ◌∷◌, ◌++◌, map, append-nil}
use native.Mathlib.Omega.{arith}
use lib.ListN.{length, length-append, length-map}
use Rattle.mir.specs.declared.records.Work.{Work}
use Rattle.mir.specs.declared.records.Record.{Record}
use Rattle.mir.specs.declared.records.Instruction.{Instruction}
use Rattle.mir.specs.Encode.{encode, encode_all}
use Rattle.player_machine.specs.Machine.{is_label}
use Rattle.player_machine.specs.Jumps.{bit, tally}
use Rattle.player_machine.specs.Count.{is_call}
use Rattle.lowering.specs.Complexifier as c
use Rattle.lowering.specs.Complexifier.{State, around_block}
use Rattle.lowering.specs.Rerun.{rerun}
use Rattle.lowering.specs.Labels.{role}
use Rattle.leftovers.proofs.Listing.{plain, Said, quiet, directs, calls, opens, InSome, quiet_plain, rerun_said}
use Rattle.leftovers.proofs.Instructions.{Works}
use Rattle.leftovers.proofs.Branches.{View, working-one, label-one, branch_one, branch-if-one, view}
use Rattle.figures.specs.declared.counting.Count.{Count}
use Rattle.figures.specs.Shelf.{block_in, branch_of, counted}
use Rattle.figures.specs.Walk.{CountWithin}
use Rattle.figures.specs.Taken.{OwnLabel}
use Rattle.figures.proofs.Counts.{plain_block, around-block}
use Rattle.figures.proofs.Walks.{Encoded, encoded}
use Rattle.sheet.specs.declared.setup.Mode.{Mode}
use Rattle.sheet.specs.Setup.{is_stable}

records-few : (rs : List Record) → length rs ≤ length (encode_all rs)
records-few [] = omega arith
records-few (r ∷ rs) =
    let i = records-few rs in
    let k = length-append (encode r) (encode_all rs) in
    let s = encoded r [] in
    omega (arith, i, k, s.long)

calls_within : (rs : List Record) → tally is_call rs ≤ length rs
unfolding tally
calls_within [] = omega arith
calls_within (r ∷ rs) = let i = calls_within rs in let b = one (is_call r) in omega (arith, i, b)
  where
    one : (x : Bool) → bit x ≤ 1
    one true = omega arith
    one false = omega arith

-- a block that an instruction lists is whole
block_within : (m : Mode) (i : Instruction) (s : State) → OwnLabel (role i) → block_in (rerun m i s).records ≤ length (rerun m i s).records
block_within m i s own = by (view i) own
  where
    said : (i : Instruction) → Works i → Said (is_stable m) (Works i) (InSome i) s (rerun m i s) → block_in (rerun m i s).records ≤ length (rerun m i s).records
    said i z (quiet q) = let b = plain_block (rerun m i s).records (quiet_plain q) in omega (arith, b)
    said i z (directs n a r q g) = absurd (n z)
    said i z (calls h r q g) = let b = plain_block (rerun m i s).records (plain false true (rerun m i s).records q) in omega (arith, b)
    said i z (opens n r first q t b g h) =
        let o = rerun m i s in
        let x : block_in o.records ≡ 2 + length t
        = ap block_in (g ∙ ap (λ z. first ++ z) (sym (append-nil (around_block t)))) ∙ around-block first [] t (plain false true first q) in
        let y : length o.records ≡ length (first ++ around_block t) = ap length g in
        let z = length-append first (around_block t) in
        let a = length-append (map Record.Work t) (Record.Branch 0 ∷ Record.Label 2 ∷ []) in
        let w : length (map Record.Work t) ≡ length t = length-map t Record.Work in
        omega (arith, x, y, z, a, w)

    by : {i : Instruction} → View i → OwnLabel (role i) → block_in (rerun m i s).records ≤ length (rerun m i s).records
    by (working-one {i} z) own = said i z (rerun_said m i s)
    by (label-one l) own =
        unfold rerun c.directed in
        let h : 2 < l = unfold role in own in
        let b = plain_block (Record.Label l ∷ []) (h, tt) in
        omega (arith, b)
    by (branch_one l) own = unfold rerun c.directed block_in tally is_label in omega arith
    by (branch-if-one x l e) own = unfold rerun c.directed block_in tally is_label in omega arith

-- a branch lists one record
branch_within : (m : Mode) (i : Instruction) (s : State) → branch_of (role i) ≤ length (rerun m i s).records
unfolding role rerun c.directed
branch_within m Instruction.Nop s = omega arith
branch_within m (Instruction.Uni op d a) s = omega arith
branch_within m (Instruction.Bi op d a b) s = omega arith
branch_within m (Instruction.Mov d a) s = omega arith
branch_within m (Instruction.Load d p) s = omega arith
branch_within m (Instruction.Save a p) s = omega arith
branch_within m (Instruction.LoadConst d i) s = omega arith
branch_within m (Instruction.Fused op d a b e) s = omega arith
branch_within m (Instruction.IfElse d a b p) s = omega arith
branch_within m (Instruction.LoadMath op d a p) s = omega arith
branch_within m (Instruction.LoadConstMath op d a i) s = omega arith
branch_within m (Instruction.Label l) s = omega arith
branch_within m (Instruction.Branch l) s = omega arith
branch_within m (Instruction.BranchIf r l e) s = omega arith

pub listed_within : (m : Mode) (i : Instruction) (s : State) (c : Count) → OwnLabel (role i) → CountWithin c
    → (counted c (role i) (rerun m i s).records).bytes ≤ 65536 → CountWithin (counted c (role i) (rerun m i s).records)
unfolding counted
listed_within m i s c own w h =
    let rs = (rerun m i s).records in
    let a = records-few rs in
    let b = calls_within rs in
    let d = block_within m i s own in
    let f = branch_within m i s in
    record {
      bytes = h;
      records = omega (arith, a, w.records);
      calls = omega (arith, b, w.calls);
      block = omega (arith, d, w.block);
      branches = omega (arith, f, w.branches);
    }
