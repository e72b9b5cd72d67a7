-- The figures' bytes are those of a listing that has room.
use Prim.Native.Nat.{ℕ, suc, ◌≤◌}
use mathlib.Core.Bool.{Bool, true, false, cond, not}
use mathlib.Core.List.{List, [], ◌∷◌}
use native.Mathlib.Omega.{arith}
use lib.ListN.{length, drop}
use lib.Dec.{eqb}
use Rattle.mir.specs.declared.records.Instruction.{Instruction}
use Rattle.sheet.specs.Setup.{setup, constants_of}
use Rattle.sheet.specs.Instruction.{instructions}
use Rattle.lowering.specs.Complexifier.{State}
use Rattle.lowering.specs.Rerun.{rerun}
use Rattle.lowering.specs.Labels.{role, Standing, none_standing, passed}
use Rattle.lowering.specs.Lower.{past, start_state}
use Rattle.lowering.proofs.Tests.{by_tests}
use Rattle.figures.specs.declared.counting.Count.{Count}
use Rattle.figures.specs.declared.entry.Figures.{Figures}
use Rattle.figures.specs.Shelf.{refusal, nothing, counted, run, shelf_from, shelf}
use Rattle.sheet.specs.declared.setup.Mode.{Mode}

from_few : (m : Mode) (is : List Instruction) (fault : ℕ) (rest : List ℕ) (b : Standing) (index : ℕ) (c : Count) (s : State) → c.bytes ≤ 65536
    → (shelf_from m is fault rest b index c s).bytes ≤ 65536
unfolding shelf_from
from_few m [] fault rest b index c s h = go (eqb fault 0)
  where
    go : (x : Bool)
        → (cond x (record { number = 0; index = index; bytes = c.bytes; constants = length s.consts; records = run c }) (refusal fault index)).bytes ≤ 65536
    go true = h
    go false = omega arith
from_few m (i ∷ is) fault rest b index c s h =
    by_tests m 65536 i b (past rest) c.bytes s (λ by. (by Figures (λ number. refusal number index) on).bytes ≤ 65536) (λ n z. omega arith)
    (λ a.
    from_few m is fault (past rest) (passed (role i) s.real b) (suc index) (counted c (role i) (rerun m i s).records) (rerun m i s).after a.fits)
  where
    on : Figures
    on = shelf_from m is fault (past rest) (passed (role i) s.real b) (suc index) (counted c (role i) (rerun m i s).records) (rerun m i s).after

pub bytes_few : (sheet : List ℕ) → (shelf sheet).bytes ≤ 65536
unfolding shelf
bytes_few sheet = go (not (eqb (setup sheet).number 0))
  where
    f : Figures
    f =
        let s = setup sheet in
        let rest = drop s.start sheet in
        let d = instructions s.count rest in
        shelf_from s.mode d.items d.fault rest none_standing 0 nothing (start_state s.places (constants_of sheet s.count))

    go : (x : Bool) → (cond x (refusal 8 0) f).bytes ≤ 65536
    go true = omega arith
    go false =
        let s = setup sheet in
        let rest = drop s.start sheet in
        let d = instructions s.count rest in
        from_few s.mode d.items d.fault rest none_standing 0 nothing (start_state s.places (constants_of sheet s.count)) (omega arith)
