-- Records that set no mark of a word, whatever stands before them.
use Prim.Native.Nat.{ℕ}
use mathlib.Core.Path.{◌≡◌, refl, subst}
use mathlib.Core.Bool.{Bool, not}
use mathlib.Core.Logic.{◌≢◌, ◌⊎◌, ⊎_elim}
use mathlib.Core.List.{List, [], ◌∷◌, ◌++◌, map}
use lib.Dec.{T, eqb, eqb→eq}
use Rattle.mir.specs.declared.records.Work.{Work}
use Rattle.mir.specs.declared.records.Record.{Record}
use Rattle.mir.proofs.Tables.{and_left}
use Rattle.player_machine.proofs.Agreeing.{or_cases}
use Rattle.marks.specs.Marks.{among, without, Marking, working, through, step, scan}
use Rattle.marks.specs.Leads.{DrawnFirst}
use Rattle.marks.proofs.Leading.{or-none, through-old}

pub record Quiet (b : List Work) (i : ℕ) (rs : List Record) : Type 0 where
  pub before : (m : Marking) → T ((scan b rs m).drawn i) → T (m.drawn i)

scan-append : (b : List Work) (rs rs' : List Record) (m : Marking) → scan b (rs ++ rs') m ≡ scan b rs' (scan b rs m)
unfolding scan
scan-append b [] rs' m = refl
scan-append b (r ∷ rs) rs' m = scan-append b rs rs' (step b r m)

pub quiet_append : {b : List Work} {i : ℕ} {rs rs' : List Record} → Quiet b i rs → Quiet b i rs' → Quiet b i (rs ++ rs')
quiet_append {b} {i} {rs} {rs'} p q =
    record { before = λ m t. p.before m (q.before (scan b rs m) (subst (λ (n : Marking). T (n.drawn i)) (scan-append b rs rs' m) t)) }

scan_works : (b ws : List Work) (m : Marking) → scan b (map Record.Work ws) m ≡ through ws m
unfolding scan step
scan_works b [] m = refl
scan_works b (w ∷ ws) m = scan_works b ws (working w m)

module _ (b : List Work) (i : ℕ) where
  -- a row that does not draw on the word before it fills it
  row : (ws : List Work) → (DrawnFirst i ws → ⊥) → (m : Marking) → T ((through ws m).drawn i) → T (m.drawn i)
  row ws n m t = ⊎_elim (λ a. a) (λ p. absurd (n p.1)) (through-old b i ws m t)

  pub quiet-works : (ws : List Work) → (DrawnFirst i ws → ⊥) → Quiet b i (map Record.Work ws)
  quiet-works ws n =
      record { before = λ m t. row ws n m (subst (λ (k : Marking). T (k.drawn i)) (scan_works b ws m) t) }

  pub quiet-call : (l : ℕ) → (DrawnFirst i b → ⊥) → Quiet b i (Record.Call l ∷ [])
  unfolding scan step
  quiet-call l n = record { before = λ m t. row b n m t }

  pub quiet-label : (l : ℕ) → Quiet b i (Record.Label l ∷ [])
  unfolding scan step
  quiet-label l = record { before = λ m t. t }

  pub quiet-branch : (l : ℕ) → Quiet b i (Record.Branch l ∷ [])
  unfolding scan step
  quiet-branch l = record { before = λ m t. t }

  pub quiet-branch-if : (c l : ℕ) (e : Bool) → i ≢ c → Quiet b i (Record.BranchIf c l e ∷ [])
  unfolding scan step
  quiet-branch-if c l e n =
      record {
        before =
            λ m t. ⊎_elim (λ a. a) (λ a. absurd (n (eqb→eq i c (or-none (eqb i c) (and_left (among (c ∷ []) i) (not (m.filled i)) a)))))
            (or_cases (m.drawn i) (without (among (c ∷ [])) m.filled i) t);
      }
