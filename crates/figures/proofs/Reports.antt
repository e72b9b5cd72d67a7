-- The figures are those of lowering with 65,536 bytes, and of playing what it leaves.
use Prim.Native.Nat.{ℕ, suc}
use mathlib.Core.Path.{◌≡◌, refl, ap, ◌∙◌}
use mathlib.Core.Bool.{Bool, true, false, cond}
use mathlib.Core.List.{List, [], ◌∷◌, ◌++◌}
use native.Mathlib.Omega.{arith}
use lib.ListN.{length, length-append}
use lib.Dec.{eqb}
use borrow.Author.Tests.{ne_eqb}
use Rattle.mir.specs.declared.records.Instruction.{Instruction}
use Rattle.mir.specs.Encode.{encode_all}
use Rattle.lowering.specs.Complexifier.{State, Out}
use Rattle.lowering.specs.Rerun.{rerun}
use Rattle.lowering.specs.Labels.{role, Standing, passed}
use Rattle.lowering.specs.Lower.{tests, by_first, Ended, ended, past, lower_from}
use Rattle.lowering.proofs.Tests.{by_tests}
use Rattle.figures.specs.declared.counting.Count.{Count}
use Rattle.figures.specs.declared.entry.Figures.{Figures}
use Rattle.figures.specs.Shelf.{refusal, counted, run, shelf_from}
use Rattle.figures.proofs.Totals.{total}
use Rattle.sheet.specs.declared.setup.Mode.{Mode}

-- the figures of where lowering ends, with this count of its records
abbrev pub figures_of : Ended → Count → Figures
figures_of e c =
    cond (eqb e.number 0) (record { number = 0; index = e.index; bytes = length e.bytes; constants = length e.state.consts; records = run c })
    (refusal e.number e.index)

pub same : (m : Mode) (is : List Instruction) (fault : ℕ) (rest : List ℕ) (b : Standing) (index : ℕ) (bytes : List ℕ) (c : Count) (s : State)
    → c.bytes ≡ length bytes
    → shelf_from m is fault rest b index c s ≡ figures_of (lower_from m 65536 is fault rest b index bytes s) (total m is c s)
unfolding shelf_from lower_from
same m [] fault rest b index bytes c s h = go (eqb fault 0) refl
  where
    go : (x : Bool) → eqb fault 0 ≡ x
        → cond x (record { number = 0; index = index; bytes = c.bytes; constants = length s.consts; records = run c }) (refusal fault index)
        ≡ cond x (record { number = 0; index = index; bytes = length bytes; constants = length s.consts; records = run c }) (refusal fault index)
    go true e = λ i. record { number = 0; index = index; bytes = h i; constants = length s.consts; records = run c }
    go false e = refl
same m (i ∷ is) fault rest b index bytes c s h =
    ap (λ written. by_first (tests m 65536 i b (past rest) written s) (λ number. refusal number index) on) h
    ∙ by_tests m 65536 i b (past rest) (length bytes) s
    (λ by. by Figures (λ number. refusal number index) on ≡ figures_of (by Ended (λ number. ended number index bytes s) lowered) (total m is next o.after))
    (λ n z. rw (ne_eqb n 0 z) refl)
    (λ a. same m is fault (past rest) after (suc index) (bytes ++ new) next o.after (omega (arith, h, length-append bytes new)))
  where
    o : Out
    o = rerun m i s

    new : List ℕ
    new = encode_all o.records

    after : Standing
    after = passed (role i) s.real b

    next : Count
    next = counted c (role i) o.records

    on : Figures
    on = shelf_from m is fault (past rest) after (suc index) next o.after

    lowered : Ended
    lowered = lower_from m 65536 is fault (past rest) after (suc index) (bytes ++ new) o.after
