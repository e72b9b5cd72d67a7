-- An accepted lowering wrote the bytes of all that `complexify` lists, within the room.
use mathlib.Core.Path.{◌≡◌, refl, sym, ap, ◌∙◌}
use mathlib.Core.Bool.{false}
use mathlib.Core.List.{List, [], ◌∷◌, ◌++◌, append_assoc, append-nil}
use Prim.Native.Nat.{ℕ, suc, ◌≤◌}
use native.Mathlib.Omega.{arith}
use lib.ListN.{length, length-append}
use Rattle.mir.specs.declared.records.Instruction.{Instruction}
use Rattle.mir.specs.Encode.{encode_all}
use Rattle.records.proofs.Round.{encode_all_append}
use Rattle.sheet.specs.declared.setup.Mode.{Mode}
use Rattle.lowering.specs.Complexifier.{State, Out, then, unlisted}
use Rattle.lowering.specs.Rerun.{rerun, complexify}
use Rattle.lowering.specs.Labels.{role, Standing, misplaced, unequal, passed}
use Rattle.lowering.specs.Lower.{Ended, ended, past, lower_from}
use Rattle.lowering.proofs.Tests.{by_tests}

-- no label and no branch was misplaced (10), and at no label the records differed from those at a branch to it (11)
abbrev pub Accepts : Mode → List Instruction → List ℕ → Standing → State → Type 0
Accepts mode [] rest b s = Unit {0}
Accepts mode (i ∷ is) rest b s =
    (misplaced (role i) b (past rest) ≡ false)
    × (unequal (role i) b s.real ≡ false)
    × Accepts mode is (past rest) (passed (role i) s.real b) (rerun mode i s).after

pub record Wrote (mode : Mode) (room : ℕ) (is : List Instruction) (fault : ℕ) (rest : List ℕ) (b : Standing) (bytes : List ℕ) (s : State) (e : Ended) : Type 0 where
  pub sound : fault ≡ 0
  pub listing : e.bytes ≡ bytes ++ encode_all (complexify mode is s).records
  pub last : e.state ≡ (complexify mode is s).after
  pub fits : length e.bytes ≤ room
  pub accepts : Accepts mode is rest b s

pub wrote : (mode : Mode) (room : ℕ) (is : List Instruction) (fault : ℕ) (rest : List ℕ) (b : Standing) (index : ℕ) (bytes : List ℕ) (s : State)
    → length bytes ≤ room → (lower_from mode room is fault rest b index bytes s).number ≡ 0
    → Wrote mode room is fault rest b bytes s (lower_from mode room is fault rest b index bytes s)
unfolding lower_from complexify then unlisted
wrote mode room [] fault rest b index bytes s h e = record { sound = e; listing = sym (append-nil bytes); last = refl; fits = h; accepts = tt }
wrote mode room (i ∷ is) fault rest b index bytes s h e =
    by_tests mode room i b (past rest) (length bytes) s
    (λ by. Accepted (by Ended (λ number. ended number index bytes s) on)) (λ n z e. absurd (z e))
    (λ a e.
    let l = length-append bytes new in
    let f = a.fits in
    let w = wrote mode room is fault (past rest) (passed (role i) s.real b) (suc index) (bytes ++ new) o.after (omega (arith, l, f)) e in
    record {
      sound = w.sound;
      listing =
          w.listing ∙ append_assoc bytes new (encode_all p.records)
          ∙ ap (λ (l : List ℕ). bytes ++ l) (sym (encode_all_append o.records p.records));
      last = w.last;
      fits = w.fits;
      accepts = (a.placed, a.equal, w.accepts);
    })
    e
  where
    o : Out
    o = rerun mode i s

    p : Out
    p = complexify mode is o.after

    new : List ℕ
    new = encode_all o.records

    on : Ended
    on = lower_from mode room is fault (past rest) (passed (role i) s.real b) (suc index) (bytes ++ new) o.after

    Accepted : Ended → Type 0
    Accepted e = e.number ≡ 0 → Wrote mode room (i ∷ is) fault rest b bytes s e
