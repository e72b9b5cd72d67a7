-- A whole play of a whole sheet, by its points.
use mathlib.Core.Path.{◌≡◌, refl, sym, ap, ◌∙◌, subst}
use mathlib.Core.Bool.{Bool, true, false, cond}
use mathlib.Core.List.{List, [], ◌∷◌, ◌++◌, append_assoc}
use mathlib.Core.Option.{Option, none, some}
use Prim.Native.Nat.{ℕ, suc, ◌+◌, ◌-◌, ◌*◌, ◌≤◌, ◌<◌}
use native.Mathlib.Nat.{le_refl, le_trans}
use native.Mathlib.Omega.{arith}
use lib.Dec.{ltb, eqb}
use borrow.Author.Tests.{ltb-true}
use lib.ListN.{length, take, drop, get_or, length-append, take-append-drop}
use lib.Seq.{drop-append_seam, take-add, get_or-drop}
use Rattle.mir.specs.declared.records.Work.{Work}
use Rattle.mir.specs.declared.records.Record.{Record}
use Rattle.mir.specs.declared.records.Instruction.{Instruction}
use Rattle.player_machine.specs.Machine.{Store, block, End, going, play, reach}
use Rattle.sheet.specs.declared.setup.Mode.{Mode}
use Rattle.lowering.specs.declared.realness.Realness.{Realness}
use Rattle.lowering.specs.Complexifier as c
use Rattle.lowering.specs.Complexifier.{State, Out, then, unlisted}
use Rattle.mir.proofs.Decoding as each
use Rattle.records.proofs.Holding.{AllHold}
use Rattle.mir.specs.Register.{re}
use Rattle.lowering.specs.Rerun.{rerun, complexify}
use Rattle.lowering.specs.Lower.{start_state}
use Rattle.leftovers.specs.Leftovers.{Sheet, up_to, point, real_at, IsDestination, Spares}
use Rattle.leftovers.specs.Kept.{Kept}
use Rattle.player_machine.proofs.Agreeing.{Agree}
use Rattle.leftovers.proofs.Root.{Block}
use Rattle.leftovers.proofs.Held.{held_append}
use Rattle.leftovers.proofs.Names.{Scratch, re_in}
use Rattle.marks.proofs.Quiet.{Quiet, quiet_append, quiet-works, quiet-label, quiet-branch, quiet-branch-if}
use Rattle.leftovers.proofs.Instructions.{AllIn, all_in_split, HalfOk}
use Rattle.leftovers.proofs.Branches.{Kind, works, label, branch, branch_if, kind, Kinds, kinds-drop, Sound, sound-drop, Same, alike, stands_at, spares-at}
use Rattle.leftovers.proofs.Listing.{stays, grows, finds_block}
use Rattle.leftovers.proofs.Constants.{grown_length}

-- the listing of instructions in two parts
pub complexify-append : (m : Mode) (l l' : List Instruction) (s : State)
    → complexify m (l ++ l') s ≡ then (complexify m l s) (complexify m l')
unfolding complexify then unlisted
complexify-append m [] l' s = refl
complexify-append m (i ∷ l) l' s =
    ap (λ (o : Out). record {
      records =
          (rerun m i s).records ++ o.records;
      after = o.after;
    }) (complexify-append m l l' (rerun m i s).after) ∙ regroup
  where
    o : Out
    o = rerun m i s

    p : Out
    p = complexify m l o.after

    q : Out
    q = complexify m l' p.after

    regroup : ◌≡◌ {A = Out} (record { records = o.records ++ (p.records ++ q.records); after = q.after })
        (record { records = (o.records ++ p.records) ++ q.records; after = q.after })
    regroup = λ j. record { records = sym (append_assoc o.records p.records q.records) j; after = q.after }

-- ---- playing on from a point

-- the lowering of a sheet's instructions, playing on from point i, and where it stands at point j
abbrev pub whole : Sheet → Out
whole s = complexify s.mode s.instructions (start_state s.places s.constants)

abbrev pub play_from : Sheet → ℕ → Store → End
play_from s i σ = play (whole s).after.consts (block (whole s).records) going (drop (point s i) (whole s).records) σ

abbrev pub stood : Sheet → ℕ → Store → ℕ → Option Store
stood s i σ j =
    reach (whole s).after.consts (block (whole s).records) going (point s j - point s i) (drop (point s i) (whole s).records) σ

pub point_below : (s : Sheet) (i : ℕ) → point s i ≤ length (whole s).records
unfolding then
point_below s i =
    let b = start_state s.places s.constants in
    let l = s.instructions in
    let p = complexify s.mode (take i l) b in
    let q = complexify s.mode (drop i l) p.after in
    let e : length (whole s).records ≡ length (p.records ++ q.records) =
    ap (λ (l : List Instruction). length (complexify s.mode l b).records) (sym (take-append-drop i l))
    ∙ ap (λ (o : Out). length o.records) (complexify-append s.mode (take i l) (drop i l) b) in
    omega (arith, e, length-append p.records q.records)

-- what each of some instructions in range is to a play
pub kinds : (k : List ℕ) (B : List Work) (m : Mode) (is : List Instruction) (s : State) → AllIn (length k) is
    → ((complexify m is s).after.is_root_defined ≡ true → Block k B) → length (complexify m is s).after.consts ≤ length k → Kinds k B m is s
unfolding complexify then unlisted
kinds k B m [] s v b h = tt
kinds k B m (i ∷ is) s v b h =
    let s' = (rerun m i s).after in
    (kind k B m i s v.0 (λ e. b (stays m (length k) is s' v.1 e).0) (le_trans (grown_length (grows m is s')) h), kinds k B m is s' v.1 b h)

-- a listing's register
re_low : (r : ℕ) → r < 32 → re r ≤ 65
unfolding re
re_low r h = go (ltb r 30) refl (eqb r 30)
  where
    go : (x : Bool) → ltb r 30 ≡ x → (y : Bool) → cond x (4 + 2 * r) (cond y 64 0) ≤ 65
    go true e y = let i = ltb-true r 30 e in omega arith
    go false e true = omega arith
    go false e false = omega arith

-- the records of such an instruction, and of all of them, can stand in a listing
one_held : (k : List ℕ) (B : List Work) (m : Mode) (s : State) → length k ≤ 65536 → {i : Instruction} → Kind k B m s i
    → AllHold (length k) (rerun m i s).records
unfolding rerun c.directed
one_held k B m s few (works z t) = t.held few
one_held k B m s few (label l) = each.and tt each.none
one_held k B m s few (branch l h) = each.and tt each.none
one_held k B m s few (branch_if r l e v h) = each.and (re_low r v) each.none

pub all_held : (k : List ℕ) (B : List Work) (m : Mode) (is : List Instruction) (s : State) → Kinds k B m is s → length k ≤ 65536
    → AllHold (length k) (complexify m is s).records
unfolding complexify then unlisted
all_held k B m [] s κ few = each.none
all_held k B m (i ∷ is) s κ few = held_append (one_held k B m s few κ.0) (all_held k B m is (rerun m i s).after κ.1 few)

-- they set no mark of scratch
one_quiet : (k : List ℕ) (B : List Work) (m : Mode) (s : State) (j : ℕ) → Scratch j → {i : Instruction} → Kind k B m s i
    → Quiet B j (rerun m i s).records
unfolding rerun c.directed
one_quiet k B m s j h (works z t) = t.quiet j h
one_quiet k B m s j h (label l) = quiet-label B j l
one_quiet k B m s j h (branch l x) = quiet-branch B j l
one_quiet k B m s j h (branch_if r l e v x) = quiet-branch-if B j (re r) l e (omega (arith, h.0, h.1, (re_in r).1, (re_in r).2))

all_quiet : (k : List ℕ) (B : List Work) (m : Mode) (is : List Instruction) (s : State) → Kinds k B m is s → (j : ℕ) → Scratch j
    → Quiet B j (complexify m is s).records
unfolding complexify then unlisted
all_quiet k B m [] s κ j h = quiet-works B j [] (λ d. d)
all_quiet k B m (i ∷ is) s κ j h = quiet_append (one_quiet k B m s j h κ.0) (all_quiet k B m is (rerun m i s).after κ.1 j h)

module _ (s : Sheet) (v : AllIn (length (whole s).after.consts) s.instructions) where
  m : Mode
  m = s.mode

  l : List Instruction
  l = s.instructions

  k : List ℕ
  k = (whole s).after.consts

  B : List Work
  B = block (whole s).records

  b₀ : State
  b₀ = start_state s.places s.constants

  fine : (whole s).after.is_root_defined ≡ true → Block k B
  unfolding k B
  fine t = finds_block (whole s).after.consts s.mode (length (whole s).after.consts) s.instructions (start_state s.places s.constants) v refl t

  pub all_kinds : Kinds (whole s).after.consts (block (whole s).records) s.mode s.instructions (start_state s.places s.constants)
  unfolding k B
  all_kinds =
      kinds (whole s).after.consts (block (whole s).records) s.mode s.instructions (start_state s.places s.constants) v fine (le_refl _)

  pub whole-quiet : (j : ℕ) → Scratch j → Quiet (block (whole s).records) j (whole s).records
  whole-quiet j h =
      all_quiet (whole s).after.consts (block (whole s).records) s.mode s.instructions (start_state s.places s.constants) all_kinds j h

  -- what is left at point i
  left : ℕ → Out
  left i = complexify m (drop i l) (up_to s i).after

  two-parts : (i : ℕ) → whole s ≡ record { records = (up_to s i).records ++ (left i).records; after = (left i).after }
  unfolding m l left then
  two-parts i =
      ap (λ (l : List Instruction). complexify m l (start_state s.places s.constants)) (sym (take-append-drop i l))
      ∙ complexify-append m (take i l) (drop i l) (start_state s.places s.constants)

  from-point : (i : ℕ) → drop (point s i) (whole s).records ≡ (left i).records
  from-point i = ap (λ (o : Out). drop (point s i) o.records) (two-parts i) ∙ drop-append_seam (up_to s i).records (left i).records

  -- the point of the n-th instruction from point i on
  at-point : (i n : ℕ) → up_to s (i + n)
      ≡ record { records = (up_to s i).records ++ (complexify m (take n (drop i l)) (up_to s i).after).records; after = (complexify m (take n (drop i l)) (up_to s i).after).after }
  unfolding m l then
  at-point i n =
      ap (λ (l : List Instruction). complexify m l (start_state s.places s.constants)) (take-add i n l)
      ∙ complexify-append m (take i l) (take n (drop i l)) (start_state s.places s.constants)

  pub real-at : (i n : ℕ) → (complexify s.mode (take n (drop i s.instructions)) (up_to s i).after).after.real ≡ real_at s (i + n)
  unfolding m l
  real-at i n = ap (λ (o : Out). o.after.real) (sym (at-point i n))

  between : (i n : ℕ) → point s (i + n) - point s i ≡ length (complexify m (take n (drop i l)) (up_to s i).after).records
  between i n =
      ap (λ (o : Out). length o.records - point s i) (at-point i n)
      ∙ (omega (arith, length-append (up_to s i).records (complexify m (take n (drop i l)) (up_to s i).after).records))

  -- where playing on from point i stands, by the instructions that are left
  stood-at : (i n : ℕ) (σ : Store) → stood s i σ (i + n) ≡ stands_at k B m going (drop i l) (up_to s i).after σ n
  unfolding k B left
  stood-at i n σ =
      ap (λ (d : ℕ). reach k B going d (drop (point s i) (whole s).records) σ) (between i n)
      ∙ ap (λ (rs : List Record). reach k B going (length (complexify m (take n (drop i l)) (up_to s i).after).records) rs σ) (from-point i)

  pub play-on : Sound (whole s).after.consts (block (whole s).records) s.mode s.instructions (start_state s.places s.constants)
      → (i : ℕ) (σ τ : Store) → Agree (Kept (real_at s i)) σ τ
      → ((n : ℕ) (α : Store) → n < length (drop i s.instructions) → stood s i σ (i + n) ≡ some α
      → HalfOk s.mode (real_at s (i + n)) (get_or (drop i s.instructions) n Instruction.Nop))
      → Same (whole s).after.consts (block (whole s).records) s.mode (whole s).after.real (play_from s i σ) (play_from s i τ)
  unfolding m l k B b₀ left
  play-on d i σ τ g u =
      let S = (up_to s i).after in
      let h = alike k B m (drop i l) S (kinds-drop k B m i l b₀ all_kinds) going σ τ tt (sound-drop k B m i l b₀ d) g
      (λ n α x e. subst (λ (ρ : Realness). HalfOk s.mode ρ (get_or (drop i l) n Instruction.Nop)) (sym (real-at i n)) (u n α x (stood-at i n σ ∙ e))) in
      rw (from-point i)
      (subst (λ (ρ : Realness). Same k B m ρ (play k B going (left i).records σ) (play k B going (left i).records τ))
      (ap (λ (o : Out). o.after.real) (sym (two-parts i))) h)

  -- an instruction spares, from its point to the next higher one reached
  pub spares : (i n x : ℕ) → n < length (drop i s.instructions) → (σ α β : Store) → stood s i σ (i + n) ≡ some α
      → stood s i σ (i + (n + suc x)) ≡ some β → ((y : ℕ) → y < x → stood s i σ (i + (n + suc y)) ≡ none)
      → Spares (real_at s (i + n)) (get_or s.instructions (i + n) Instruction.Nop) α β
  unfolding m l k B b₀
  spares i n x h σ α β a b f =
      subst (λ (ρ : Realness). Spares ρ (get_or s.instructions (i + n) Instruction.Nop) α β) (real-at i n)
      (subst (λ (j : Instruction). Spares (complexify m (take n (drop i l)) (up_to s i).after).after.real j α β) (get_or-drop i l n Instruction.Nop)
      (spares-at k B m (drop i l) (up_to s i).after (kinds-drop k B m i l b₀ all_kinds) going tt σ α β n x h
      (sym (stood-at i n σ) ∙ a) (sym (stood-at i (n + suc x) σ) ∙ b) (λ y g. sym (stood-at i (n + suc y) σ) ∙ f y g)))
