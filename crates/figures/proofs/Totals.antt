-- What is counted instruction by instruction is what all their records hold.
use Prim.Native.Nat.{ℕ, suc, ◌+◌}
use mathlib.Core.Path.{◌≡◌, refl, sym, ap, ◌∙◌}
use mathlib.Core.Bool.{Bool, true, false, true≢false}
use mathlib.Core.List.{List, [], ◌∷◌, ◌++◌, append_assoc, append-nil}
use native.Mathlib.Omega.{arith}
use lib.ListN.{length, length-append}
use Rattle.mir.specs.declared.records.Record.{Record}
use Rattle.mir.specs.declared.records.Instruction.{Instruction}
use Rattle.player_machine.specs.Jumps.{tally}
use Rattle.player_machine.specs.Count.{is_call}
use Rattle.lowering.specs.Complexifier.{State, Out, then, unlisted, around_block}
use Rattle.lowering.specs.Rerun.{rerun, complexify}
use Rattle.lowering.specs.Labels.{role}
use Rattle.leftovers.proofs.Instructions.{AllIn, Works}
use Rattle.leftovers.proofs.Listing.{Plain, plain, Said, quiet, directs, calls, opens, InSome, quiet_plain, rerun_said}
use Rattle.figures.specs.declared.counting.Count.{Count}
use Rattle.figures.specs.Shelf.{counted, block_in}
use Rattle.figures.specs.Told.{branches_in}
use Rattle.figures.proofs.Counts.{tally-append, plain_block, plain_before, around-block}
use Rattle.sheet.specs.declared.setup.Mode.{Mode}
use Rattle.sheet.specs.Setup.{is_stable}

-- all instructions counted, from a count on
abbrev pub total : Mode → List Instruction → Count → State → Count
total m [] c s = c
total m (i ∷ is) c s = total m is (counted c (role i) (rerun m i s).records) (rerun m i s).after

pub total_records : (m : Mode) (is : List Instruction) (c : Count) (s : State)
    → (total m is c s).records ≡ c.records + length (complexify m is s).records
unfolding complexify then unlisted counted
total_records m [] c s = omega arith
total_records m (i ∷ is) c s =
    let o = rerun m i s in
    let h = total_records m is (counted c (role i) o.records) o.after in
    omega (arith, h, length-append o.records (complexify m is o.after).records)

pub total_calls : (m : Mode) (is : List Instruction) (c : Count) (s : State)
    → (total m is c s).calls ≡ c.calls + tally is_call (complexify m is s).records
unfolding complexify then unlisted counted tally
total_calls m [] c s = omega arith
total_calls m (i ∷ is) c s =
    let o = rerun m i s in
    let h = total_calls m is (counted c (role i) o.records) o.after in
    omega (arith, h, tally-append is_call o.records (complexify m is o.after).records)

pub total_branches : (m : Mode) (is : List Instruction) (c : Count) (s : State) → (total m is c s).branches ≡ c.branches + branches_in is
unfolding counted
total_branches m [] c s = omega arith
total_branches m (i ∷ is) c s =
    let h = total_branches m is (counted c (role i) (rerun m i s).records) (rerun m i s).after in
    omega (arith, h)

-- behind the first Root no block is listed
rooted_block : (m : Mode) (count : ℕ) (is : List Instruction) (c : Count) (s : State) → AllIn count is → s.is_root_defined ≡ true → (total m is c s).block ≡ c.block
unfolding counted
rooted_block m count [] c s v e = refl
rooted_block m count (i ∷ is) c s v e = go (rerun_said m i s) (rooted_block m count is (counted c (role i) o.records) o.after v.1)
  where
    o : Out
    o = rerun m i s

    go : Said (is_stable m) (Works i) (InSome i) s o → (o.after.is_root_defined ≡ true → (total m is (counted c (role i) o.records) o.after).block ≡ c.block + block_in o.records)
        → (total m is (counted c (role i) o.records) o.after).block ≡ c.block
    go (quiet q) ih = ih (q.rooted ∙ e) ∙ rw (plain_block o.records (quiet_plain q)) (omega arith)
    go (directs z a r q g) ih =
        ih (ap (λ (s : State). s.is_root_defined) a ∙ e)
        ∙ rw (plain_block o.records (rw g (plain true false (r ∷ []) (q (count, v.0), tt)))) (omega arith)
    go (calls h r q g) ih = ih r ∙ rw (plain_block o.records (plain false true o.records q)) (omega arith)
    go (opens n r first q t b g h) ih = absurd (true≢false (sym e ∙ n))

-- all that is listed has the block once
pub total_block : (m : Mode) (count : ℕ) (is : List Instruction) (c : Count) (s : State) → AllIn count is → s.is_root_defined ≡ false
    → (total m is c s).block ≡ c.block + block_in (complexify m is s).records
unfolding complexify then unlisted counted block_in
total_block m count [] c s v e = omega arith
total_block m count (i ∷ is) c s v e =
    go (rerun_said m i s) (total_block m count is (counted c (role i) o.records) o.after v.1)
    (rooted_block m count is (counted c (role i) o.records) o.after v.1)
  where
    o : Out
    o = rerun m i s

    p : Out
    p = complexify m is o.after

    t' : Count
    t' = total m is (counted c (role i) o.records) o.after

    go : Said (is_stable m) (Works i) (InSome i) s o → (o.after.is_root_defined ≡ false → t'.block ≡ c.block + block_in o.records + block_in p.records)
        → (o.after.is_root_defined ≡ true → t'.block ≡ c.block + block_in o.records)
        → t'.block ≡ c.block + block_in (o.records ++ p.records)
    go (quiet q) ih st =
        ih (q.rooted ∙ e)
        ∙ rw (plain_before o.records p.records (quiet_plain q), plain_block o.records (quiet_plain q)) (omega arith)
    go (directs z a r q g) ih st =
        let w : Plain o.records = rw g (plain true false (r ∷ []) (q (count, v.0), tt)) in
        ih (ap (λ (s : State). s.is_root_defined) a ∙ e) ∙ rw (plain_before o.records p.records w, plain_block o.records w) (omega arith)
    go (calls h r q g) ih st = absurd (true≢false (sym h ∙ e))
    go (opens n r first q t b g h) ih st =
        let x = around-block first [] t (plain false true first q) in
        let y = around-block first p.records t (plain false true first q) in
        st r
        ∙ ap (λ z. c.block + z)
        (ap block_in (g ∙ ap (λ z. first ++ z) (sym (append-nil (around_block t)))) ∙ x ∙ sym y
        ∙ ap block_in (sym (append_assoc first (around_block t) p.records) ∙ ap (λ z. z ++ p.records) (sym g)))
