-- How many records a play of a lowered listing runs: all, less the block, and the block once for each Call.
use Prim.Native.Nat.{ℕ, suc, ◌+◌, ◌-◌, ◌*◌, ◌<◌}
use mathlib.Core.Path.{◌≡◌, refl, sym, ap, ◌∙◌}
use mathlib.Core.Bool.{Bool, true, false, true≢false}
use mathlib.Core.List.{List, [], ◌∷◌, ◌++◌, map, append_assoc, append-nil}
use native.Mathlib.Omega.{arith}
use native.Mathlib.Nat.{zero-add}
use borrow.Author.Tests.{lt-ltb, ne_eqb}
use lib.ListN.{length, length-append, length-map}
use Rattle.mir.specs.declared.records.Work.{Work}
use Rattle.mir.specs.declared.records.Record.{Record}
use Rattle.player_machine.specs.Machine.{Store, End, ticks, Way, going, seeking, play, exec, execs, is_label, block}
use Rattle.player_machine.specs.Jumps.{tally, has}
use Rattle.player_machine.specs.Count.{is_call, block_records, most}
use Rattle.mir.specs.declared.records.Instruction.{Instruction}
use Rattle.lowering.specs.Complexifier as c
use Rattle.lowering.specs.Complexifier.{State, then, unlisted, around_block}
use Rattle.lowering.specs.Rerun.{rerun, complexify}
use Rattle.lowering.specs.Labels.{role}
use Rattle.leftovers.proofs.Instructions.{AllIn}
use Rattle.leftovers.proofs.Listing.{AllOutside, Plain, plain, seek_plain, block-of, Shape, unrooted, rooted, shape}
use Rattle.leftovers.proofs.Branches.{AllTame, works_tame, View, working-one, label-one, branch_one, branch-if-one, view}
use Rattle.figures.specs.Shelf.{block_in, branch_of}
use Rattle.figures.specs.Told.{branches_in}
use Rattle.sheet.specs.declared.setup.Mode.{Mode}
use Rattle.sheet.specs.Setup.{is_stable}

-- no branch of the sheet's own
abbrev Free : Record → Type 0
Free (Record.Work w) = Unit {0}
Free (Record.Label l) = Unit {0}
Free (Record.Branch l) = l < 3
Free (Record.Call l) = Unit {0}
Free (Record.BranchIf c l e) = ⊥

abbrev AllFree : List Record → Type 0
AllFree [] = Unit {0}
AllFree (r ∷ rs) = Free r × AllFree rs

-- plain records without a branch are all run, and the block once for each Call
pub plain-run : (k : List ℕ) (b : List Work) (rs rest : List Record) (n : ℕ) → Plain rs → AllFree rs
    → ((σ : Store) → (play k b going rest σ).played ≡ n)
    → (σ : Store) → (play k b going (rs ++ rest) σ).played ≡ length rs + (tally is_call rs * (2 + length b) + n)
unfolding play ticks tally
plain-run k b [] rest n p f h σ = h σ ∙ omega arith
plain-run k b (Record.Work w ∷ rs) rest n p f h σ =
    let i = plain-run k b rs rest n p.1 f.1 h (exec k w σ) in
    omega (arith, i)
plain-run k b (Record.Label l ∷ rs) rest n p f h σ =
    let i = plain-run k b rs rest n p.1 f.1 h σ in
    omega (arith, i)
plain-run k b (Record.Branch l ∷ rs) rest n p f h σ = let x = p.0 in let y = f.0 in absurd (omega (arith, x, y))
plain-run k b (Record.Call l ∷ rs) rest n p f h σ =
    let i = plain-run k b rs rest n p.1 f.1 h (execs k b σ) in
    omega (arith, i)
plain-run k b (Record.BranchIf c l e ∷ rs) rest n p f h σ = absurd f.0

-- among records that are put together
free_first : (rs rs' : List Record) → AllFree (rs ++ rs') → AllFree rs
free_first [] rs' f = tt
free_first (r ∷ rs) rs' f = (f.0, free_first rs rs' f.1)

free_last : (rs rs' : List Record) → AllFree (rs ++ rs') → AllFree rs'
free_last [] rs' f = f
free_last (r ∷ rs) rs' f = free_last rs rs' f.1

free_append : (rs rs' : List Record) → AllFree rs → AllFree rs' → AllFree (rs ++ rs')
free_append [] rs' p q = q
free_append (r ∷ rs) rs' p q = (p.0, free_append rs rs' p.1 q)

tame_free : (rs : List Record) → AllTame rs → AllFree rs
tame_free [] p = tt
tame_free (Record.Work w ∷ rs) p = (tt, tame_free rs p.1)
tame_free (Record.Label l ∷ rs) p = (tt, tame_free rs p.1)
tame_free (Record.Branch l ∷ rs) p = (p.0, tame_free rs p.1)
tame_free (Record.Call l ∷ rs) p = (tt, tame_free rs p.1)
tame_free (Record.BranchIf c l e ∷ rs) p = absurd p.0

free_listed : (m : Mode) (is : List Instruction) (s : State) → branches_in is ≡ 0 → AllFree (complexify m is s).records
unfolding complexify then unlisted
free_listed m [] s e = tt
free_listed m (i ∷ is) s e =
    free_append (rerun m i s).records (complexify m is (rerun m i s).after).records (go (view i) (omega (arith, e)))
    (free_listed m is (rerun m i s).after (omega (arith, e)))
  where
    go : {i : Instruction} → View i → branch_of (role i) ≡ 0 → AllFree (rerun m i s).records
    go (working-one {i} z) e = tame_free (rerun m i s).records (works_tame m i s z)
    go (label-one l) e = unfold rerun c.directed in (tt, tt)
    go (branch_one l) e = let h : ◌≡◌ {A = ℕ} 1 0 = unfold role in e in absurd (omega (arith, h))
    go (branch-if-one r l x) e = let h : ◌≡◌ {A = ℕ} 1 0 = unfold role in e in absurd (omega (arith, h))

-- a jump to Label 2 passes over working records
past_works : (k : List ℕ) (b : List Work) (l : List Work) (rest : List Record) (σ : Store)
    → play k b (seeking 2) (map Record.Work l ++ rest) σ ≡ play k b (seeking 2) rest σ
unfolding play
past_works k b [] rest σ = refl
past_works k b (w ∷ l) rest σ = past_works k b l rest σ

-- the block is jumped over: the Branch and its Label are run
around-run : (k : List ℕ) (b t : List Work) (rest : List Record) (n : ℕ) → ((σ : Store) → (play k b going rest σ).played ≡ n)
    → (σ : Store) → (play k b going (around_block t ++ rest) σ).played ≡ 2 + n
unfolding play ticks
around-run k b t rest n h σ =
    let e = append_assoc (map Record.Work t) (Record.Branch 0 ∷ Record.Label 2 ∷ []) rest in
    let p = past_works k b t (Record.Branch 0 ∷ Record.Label 2 ∷ rest) σ in
    rw (e, p, h σ) (omega arith)

-- ---- calls and blocks among records

pub tally-append : (p : Record → Bool) (rs rs' : List Record) → tally p (rs ++ rs') ≡ tally p rs + tally p rs'
unfolding tally
tally-append p [] rs' = omega arith
tally-append p (r ∷ rs) rs' =
    let i = tally-append p rs rs' in
    omega (arith, i)

-- working records are no Calls and no Labels
no_works : (p : Record → Bool) → ((w : Work) → p (Record.Work w) ≡ false) → (l : List Work) → tally p (map Record.Work l) ≡ 0
unfolding tally
no_works p n [] = refl
no_works p n (w ∷ l) = let i = no_works p n l in rw (n w) (omega (arith, i))

around_calls : (t : List Work) → tally is_call (around_block t) ≡ 0
unfolding tally
around_calls t =
    let a = tally-append is_call (map Record.Work t) (Record.Branch 0 ∷ Record.Label 2 ∷ []) in
    let b = no_works is_call (λ w. refl) t in
    omega (arith, a, b)

plain_labels : (rs : List Record) → Plain rs → tally (is_label 1) rs ≡ 0
unfolding tally is_label
plain_labels [] p = refl
plain_labels (Record.Work w ∷ rs) p = let i = plain_labels rs p.1 in omega (arith, i)
plain_labels (Record.Label l ∷ rs) p =
    let i = plain_labels rs p.1 in
    rw (ne_eqb l 1 (λ e. let h = p.0 in omega (arith, e, h))) (omega (arith, i))
plain_labels (Record.Branch l ∷ rs) p = let i = plain_labels rs p.1 in omega (arith, i)
plain_labels (Record.Call l ∷ rs) p = let i = plain_labels rs p.1 in omega (arith, i)
plain_labels (Record.BranchIf c l e ∷ rs) p = let i = plain_labels rs p.1 in omega (arith, i)

-- no block stands among plain records
pub plain_block : (rs : List Record) → Plain rs → block_in rs ≡ 0
unfolding block_in
plain_block rs p = rw (plain_labels rs p) refl

-- plain records, the block, plain records: the block's records, from Label 1 to Branch 0
pub around-block : (first last : List Record) (t : List Work) → Plain first → block_in (first ++ (around_block t ++ last)) ≡ 2 + length t
unfolding block_in
around-block first last t p = rw (found, block-of first last t p) refl
  where
    found : has (is_label 1) (first ++ (around_block t ++ last)) ≡ true
    found =
        unfold tally is_label in
        let a = tally-append (is_label 1) first (around_block t ++ last) in
        let e = append_assoc (map Record.Work t) (Record.Branch 0 ∷ Record.Label 2 ∷ []) last in
        lt-ltb 0 (tally (is_label 1) (first ++ (around_block t ++ last))) (omega (arith, a))

-- plain records before others add no block
pub plain_before : (rs rest : List Record) → Plain rs → block_in (rs ++ rest) ≡ block_in rest
unfolding block_in block
plain_before rs rest p =
    rw (tally-append (is_label 1) rs rest, plain_labels rs p, seek_plain rs rest p, zero-add (tally (is_label 1) rest)) refl

-- the records that a play of such a listing runs
abbrev pub runs : List Record → ℕ
runs rs = length rs - block_in rs + tally is_call rs * block_in rs

nothing_left : (k : List ℕ) (b : List Work) (σ : Store) → (play k b going [] σ).played ≡ 0
unfolding play
nothing_left k b σ = refl

-- no Call stands among records without one
uncalled : (rs : List Record) → AllOutside true false rs → tally is_call rs ≡ 0
unfolding tally
uncalled [] p = refl
uncalled (Record.Work w ∷ rs) p = let i = uncalled rs p.1 in omega (arith, i)
uncalled (Record.Label l ∷ rs) p = let i = uncalled rs p.1 in omega (arith, i)
uncalled (Record.Branch l ∷ rs) p = let i = uncalled rs p.1 in omega (arith, i)
uncalled (Record.Call l ∷ rs) p = absurd p.0
uncalled (Record.BranchIf c l e ∷ rs) p = let i = uncalled rs p.1 in omega (arith, i)

-- records without a Call
uncalled_runs : (k : List ℕ) (rs : List Record) → AllOutside true false rs → AllFree rs → (σ : Store)
    → (play k (block rs) going rs σ).played ≡ runs rs
uncalled_runs k rs q f σ =
    let p = plain-run k (block rs) rs [] 0 (plain true false rs q) f (nothing_left k (block rs)) σ in
    let b = plain_block rs (plain true false rs q) in
    let c = uncalled rs q in
    ap (λ x. (play k (block rs) going x σ).played) (sym (append-nil rs)) ∙ p ∙ rw (b, c) (omega arith)

-- plain records, the block and plain records
block_runs : (k : List ℕ) (first last : List Record) (t : List Work) → Plain first → Plain last → AllFree first → AllFree last → (σ : Store)
    → let rs = first ++ (around_block t ++ last) in (play k (block rs) going rs σ).played ≡ runs rs
block_runs k first last t p q f f' σ =
    let rs = first ++ (around_block t ++ last) in
    let tail : (σ : Store) → (play k t going last σ).played ≡ length last + (tally is_call last * (2 + length t) + 0) =
    λ σ. ap (λ x. (play k t going x σ).played) (sym (append-nil last)) ∙ plain-run k t last [] 0 q f' (nothing_left k t) σ in
    let mid = around-run k t t last (length last + (tally is_call last * (2 + length t) + 0)) tail in
    let all = plain-run k t first (around_block t ++ last) (2 + (length last + (tally is_call last * (2 + length t) + 0))) p f mid σ in
    let c = tally-append is_call first (around_block t ++ last) in
    let d = tally-append is_call (around_block t) last in
    let n = length-append first (around_block t ++ last) in
    let m = length-append (around_block t) last in
    let a = length-append (map Record.Work t) (Record.Branch 0 ∷ Record.Label 2 ∷ []) in
    let w : length (map Record.Work t) ≡ length t = length-map t Record.Work in
    ap (λ b. (play k b going rs σ).played) (block-of first last t p) ∙ all
    ∙ rw (around-block first last t p, c, d, around_calls t) (omega (arith, n, m, a, w))

module _ (mode : Mode) (count : ℕ) (is : List Instruction) (s : State) (v : AllIn count is) (e : s.is_root_defined ≡ false) where
  -- every lowered listing of a sheet that does not branch, on any store
  pub lowered-runs : branches_in is ≡ 0 → (k : List ℕ) (σ : Store)
      → let rs = (complexify mode is s).records in (play k (block rs) going rs σ).played ≡ runs rs
  lowered-runs n k σ = go (shape mode count is s v e) (free_listed mode is s n)
    where
      go : Shape (is_stable mode) (complexify mode is s) → AllFree (complexify mode is s).records
          → let rs = (complexify mode is s).records in (play k (block rs) going rs σ).played ≡ runs rs
      go (unrooted r q) f = uncalled_runs k (complexify mode is s).records q f σ
      go (rooted r first p t b last q g) f =
          let h = rw g at f in
          rw g (block_runs k first last t p q (free_first first (around_block t ++ last) h)
          (free_last (around_block t) last (free_last first (around_block t ++ last) h)) σ)

  -- the bound of any lowered listing, by the block that is listed
  pub lowered-most : let rs = (complexify mode is s).records in length rs + tally is_call rs * block_in rs ≡ most rs
  lowered-most = go (shape mode count is s v e)
    where
      go : Shape (is_stable mode) (complexify mode is s) → let rs = (complexify mode is s).records in length rs + tally is_call rs * block_in rs ≡ most rs
      go (unrooted r q) = rw (uncalled (complexify mode is s).records q) (omega arith)
      go (rooted r first p t b last q g) = rw (g, around-block first last t p, block-of first last t p) refl
