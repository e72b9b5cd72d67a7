-- Root: the Call, the block that it plays and that the play passes over where it stands; and the comparison with zero.
use mathlib.Core.Path.{◌≡◌, refl, subst}
use mathlib.Core.Bool.{and_self, Bool, true, false, ◌&&◌}
use mathlib.Core.Logic.{◌⊎◌, ⊎_elim, inl, inr}
use mathlib.Core.List.{List, [], ◌∷◌, ◌++◌, map, append_assoc}
use Prim.Native.Nat.{ℕ, suc, ◌+◌, ◌≤◌, ◌<◌}
use native.Mathlib.Nat.{add_assoc, suc-add, zero-add}
use native.Mathlib.Omega.{arith}
use lib.ListN.{length, length-append}
use lib.Seq.{set-get_or}
use lib.Dec.{T, lit<, lit≤}
use Rattle.mir.specs.declared.ops.BinOp.{BinOp}
use Rattle.mir.specs.declared.records.Loc.{Loc}
use Rattle.mir.specs.declared.records.Work.{Work}
use Rattle.mir.specs.declared.records.Record.{Record}
use Rattle.mir.specs.Register.{re, im}
use Rattle.mir.specs.Takes.{takes_bin}
use Rattle.player_machine.specs.Machine.{Store, at, execs, ticks, going, seeking, play, reach}
use Rattle.lowering.specs.declared.realness.Realness.{Realness}
use Rattle.lowering.specs.Realness.{is_real_reg, set_reg}
use Rattle.lowering.specs.Lines.{stable_exponent}
use Rattle.lowering.specs.Lines.{stable_root_magnitude, plain_root_magnitude, root_block}
use Rattle.lowering.specs.Complexifier as c
use Rattle.lowering.specs.Complexifier.{State, then, unlisted, emit, one_by_one, by_two}
use Rattle.lowering.specs.Rerun.{compare_zero}
use Rattle.leftovers.specs.Kept.{Kept, kept_re, kept_im}
use Rattle.player_machine.proofs.Agreeing.{Agree, weaken, has}
use Rattle.leftovers.proofs.Rows.{Named, all_in, given, check, known}
use Rattle.leftovers.proofs.Names.{Scratch, rename, name, free, kept_new, lines_agree, lines_undrawn, lines_keep}
use Rattle.marks.specs.Leads.{DrawnFirst}
use Rattle.marks.proofs.Quiet.{quiet_append, quiet-works, quiet-call, quiet-label, quiet-branch}
use Rattle.mir.proofs.Decoding.{none, and}
use Rattle.records.proofs.Holding.{AllHold}
use Rattle.lowering.specs.Complexifier.{INFINITY, EXP_MASK_FINITE, FLOOR_FINITE}
use Rattle.leftovers.proofs.Held.{all_listed, held_append}
use Rattle.leftovers.proofs.Constants.{three_found}
use Rattle.leftovers.proofs.Names.{rename_held}
use Rattle.leftovers.proofs.Stretch.{Safe, join, loosen, works_safe, ticks-ticks}
use Rattle.lowering.specs.Complexifier.{around_block}
use Rattle.leftovers.proofs.Methods.{Keeps, fmov-keeps, bits-keeps}
use Rattle.leftovers.proofs.Clearing.{ensure-keeps, compare-keeps, complex-set}

-- ---- Root

-- what is asked of the block that a Call plays
pub record Block (k : List ℕ) (B : List Work) : Type 0 where
  pub agree : (ρ : Realness) {σ τ : Store} → is_real_reg ρ 31 ≡ false → Agree (Kept ρ) σ τ
      → Agree (Kept (set_reg ρ 30 false)) (execs k B σ) (execs k B τ)
  pub undrawn : (i : ℕ) → Scratch i → DrawnFirst i B → ⊥
  pub keep : (σ : Store) (r w : ℕ) → r < 30 → (w ≡ re r) ⊎ (w ≡ im r) → at (execs k B σ) w ≡ at σ w

-- both kinds of block are fine, and with whatever constants
module _ (k : List ℕ) (t : List Work) where
  pub block-fine : T (check (0 ∷ 1 ∷ []) t) → T (has 65 (known (0 ∷ 1 ∷ []) t)) → T (all_in (given t) free)
      → rename 30 31 31 (Loc.Stack 2) t ≡ t → Block k t
  unfolding name Named all_in re im
  block-fine c h f e =
      record {
        agree =
            λ ρ {σ} {τ} x g. subst (λ (l : List Work). Agree (Kept (set_reg ρ 30 false)) (execs k l σ) (execs k l τ)) e
            (weaken (λ w q. ⊎_elim (λ q. inl q) (λ e. inr (65, h, e)) (kept_new 30 q))
            (lines_agree ρ 30 31 31 (Loc.Stack 2) k (0 ∷ 1 ∷ []) t (kept_re 31 (lit< tt), (kept_im 31 (lit< tt) x, tt)) c g));
        undrawn =
            λ i s. subst (λ (l : List Work). DrawnFirst i l → ⊥) e (lines_undrawn 30 31 31 (Loc.Stack 2) (0 ∷ 1 ∷ []) t i s tt c);
        keep =
            λ σ r w h q. subst (λ (l : List Work). at (execs k l σ) w ≡ at σ w) e
            (lines_keep 30 31 31 (Loc.Stack 2) k t σ r w f h (omega arith) q);
      }

stable_block : (k : List ℕ) (i j q : ℕ) → Block k (root_block (stable_root_magnitude i j q))
unfolding rename check known given all_in root_block stable_root_magnitude stable_exponent re im
stable_block k i j q = block-fine k (root_block (stable_root_magnitude i j q)) tt tt tt refl

pub root_block_fine : (k : List ℕ) (m : Bool) (consts : List ℕ) → Block k (c.block_of m consts)
unfolding c.block_of rename check known given all_in root_block plain_root_magnitude re im
root_block_fine k true consts = stable_block k _ _ _
root_block_fine k false consts = block-fine k (root_block plain_root_magnitude) tt tt tt refl

-- a listing can hold the block, where the table has its constants
block_held : (k : List ℕ) (m : Bool) (consts : List ℕ) → length (c.block_consts m consts) ≤ length k → length k ≤ 65536
    → AllHold (length k) (map Record.Work (c.block_of m consts))
unfolding c.block_of c.block_consts rename all_listed root_block plain_root_magnitude stable_root_magnitude stable_exponent re im
block_held k true consts hk few =
    let h = three_found FLOOR_FINITE EXP_MASK_FINITE INFINITY consts (length k) hk in
    rename_held 30 31 31 (Loc.Stack 2) k (c.block_of true consts) few (lit< tt) tt
    (lit≤ tt, (h.first, (h.second, (h.third, (lit≤ tt, (lit≤ tt, tt))))))
block_held k false consts hk few =
    rename_held 30 31 31 (Loc.Stack 2) k (c.block_of false consts) few (lit< tt) tt (lit≤ tt, (lit≤ tt, (lit≤ tt, tt)))

call_keeps : (k : List ℕ) (B : List Work) (X Z : ℕ → Type 0) (H : Type 0) (s : State) → Block k B → is_real_reg s.real 31 ≡ false
    → Keeps k B X Z H s (c.call_root s)
unfolding c.call_root play reach
call_keeps k B X Z H s b e = record {
  F = execs k B;
  n = 3 + length B;
  plays = λ rest σ. refl;
  stands = λ j rest σ. rw (suc-add 0 j, zero-add j);
  agree = λ _ g. b.agree s.real e g;
  frame = λ σ r h n. (b.keep σ r (re r) h (inl refl), inl (b.keep σ r (im r) h (inr refl)));
  held = λ few. and tt none;
  quiet = λ i h. quiet-call B i 1 (b.undrawn i h);
}

seek-play : (k : List ℕ) (b : List Work) (l : ℕ) (as' : List Work) (rest : List Record) (σ : Store)
    → play k b (seeking l) (map Record.Work as' ++ rest) σ ≡ play k b (seeking l) rest σ
unfolding play
seek-play k b l [] rest σ = refl
seek-play k b l (a ∷ t) rest σ = seek-play k b l t rest σ

seek-reach : (k : List ℕ) (b : List Work) (l : ℕ) (t : List Work) (j : ℕ) (rest : List Record) (σ : Store)
    → reach k b (seeking l) (length (map Record.Work t) + j) (map Record.Work t ++ rest) σ ≡ reach k b (seeking l) j rest σ
unfolding reach
seek-reach k b l [] j rest σ = rw zero-add
seek-reach k b l (a ∷ t) j rest σ = rw suc-add (seek-reach k b l t j rest σ)

-- ---- the block, passed over where it stands

module _ (k : List ℕ) (B : List Work) (t : List Work) where
  over-play : (rest : List Record) (σ : Store) → play k B going (around_block t ++ rest) σ ≡ ticks 2 (play k B going rest σ)
  unfolding play
  over-play rest σ =
      rw (
        append_assoc (map Record.Work t) (Record.Branch 0 ∷ Record.Label 2 ∷ []) rest,
        seek-play k B 2 t (Record.Branch 0 ∷ Record.Label 2 ∷ rest) σ,
      )
      (ticks-ticks 1 1 (play k B going rest σ))

  pub over-reach : (j : ℕ) (rest : List Record) (σ : Store)
      → reach k B going (length (around_block t) + j) (around_block t ++ rest) σ ≡ reach k B going j rest σ
  unfolding reach
  over-reach j rest σ =
      rw (
        suc-add (suc (length (map Record.Work t ++ Record.Branch 0 ∷ Record.Label 2 ∷ []))) j,
        suc-add (length (map Record.Work t ++ Record.Branch 0 ∷ Record.Label 2 ∷ [])) j,
        append_assoc (map Record.Work t) (Record.Branch 0 ∷ Record.Label 2 ∷ []) rest,
        length-append (map Record.Work t) (Record.Branch 0 ∷ Record.Label 2 ∷ []),
        add_assoc (length (map Record.Work t)) 2 j,
        seek-reach k B 2 t (2 + j) (Record.Branch 0 ∷ Record.Label 2 ∷ rest) σ,
        suc-add 1 j,
        suc-add 0 j,
        zero-add j,
      )

around_keeps : (k : List ℕ) (B : List Work) (X Z : ℕ → Type 0) (H : Type 0) (t : List Work) (ρ : Realness)
    → (length k ≤ 65536 → AllHold (length k) (map Record.Work t)) → ((i : ℕ) → Scratch i → DrawnFirst i t → ⊥)
    → Safe k B X Z H ρ (around_block t) ρ
around_keeps k B X Z H t ρ hd un = record {
  F = λ σ. σ;
  n = 2;
  plays = over-play k B t;
  stands = over-reach k B t;
  agree = λ _ g. g;
  frame = λ σ r h n. (refl, inl refl);
  held = λ few. and tt (and tt (held_append (hd few) (and tt (and tt none))));
  quiet =
      λ i h. quiet_append (quiet_append (quiet-branch B i 2) (quiet-label B i 1))
      (quiet_append (quiet-works B i t (un i h)) (quiet_append (quiet-branch B i 0) (quiet-label B i 2)));
}

pub unlisted_keeps : (k : List ℕ) (B : List Work) (X Z : ℕ → Type 0) (H : Type 0) (s : State) → Keeps k B X Z H s (unlisted s)
unfolding unlisted execs
unlisted_keeps k B X Z H s = works_safe [] (λ σ τ _ g. g) (λ σ r h n. (refl, inl refl)) (λ few. none) (λ i h d. d)

define_keeps : (k : List ℕ) (B : List Work) (X Z : ℕ → Type 0) (H : Type 0) (x m : Bool) (s : State)
    → length (c.define_root x m s).after.consts ≤ length k → Keeps k B X Z H s (c.define_root x m s)
unfolding c.define_root unlisted
define_keeps k B X Z H true m s hk = unlisted_keeps k B X Z H s
define_keeps k B X Z H false m s hk = around_keeps k B X Z H (c.block_of m s.consts) s.real (block_held k m s.consts hk) (root_block_fine k m s.consts).undrawn

-- what writes only to Temp or Ret frames every destination
pub frame_any : {k : List ℕ} {B : List Work} {Z : ℕ → Type 0} {H : Type 0} {ρ ρ' : Realness} {rs : List Record} (X : ℕ → Type 0) (e : ℕ)
    → 30 ≤ e → Safe k B (λ r. r ≡ e) Z H ρ rs ρ' → Safe k B X Z H ρ rs ρ'
frame_any X e h s = loosen (λ h. h) (λ r g n. (λ q. omega arith, λ z. z)) s

module _ (k : List ℕ) (B : List Work) (Z : ℕ → Type 0) (H : Type 0) (s : State) (d a : ℕ) (hd : d < 32) (ha : a < 32)
    (z : is_real_reg s.real a ≡ true → Z a) (b : Block k B) where
  pub root-keeps : (m : Bool) → length (c.root m d a s).after.consts ≤ length k → Keeps k B (λ r. r ≡ d) Z H s (c.root m d a s)
  unfolding c.root then
  root-keeps m hk =
      let X : ℕ → Type 0 = λ r. r ≡ d in
      let ensured = ensure-keeps k B X Z H s a ha z in
      let moved = frame_any X 31 (lit≤ tt) (fmov-keeps k B Z H (c.ensure_complex a s).after 31 a (lit< tt) ha) in
      let called = call_keeps k B X Z H s2 b temp-complex in
      let back = fmov-keeps k B Z H (c.call_root s2).after d 30 hd (lit< tt) in
      join (join (join (join ensured moved) called) back) (define_keeps k B X Z H s4.is_root_defined m s4 hk)
    where
      s2 : State
      s2 = (c.fmov 31 a (c.ensure_complex a s).after).after

      s4 : State
      s4 = (c.fmov d 30 (c.call_root s2).after).after

      temp-complex : is_real_reg (c.fmov 31 a (c.ensure_complex a s).after).after.real 31 ≡ false
      temp-complex = unfold c.fmov one_by_one c.ensure_complex emit in rw (complex-set s.real a) (complex-set (set_reg s.real a false) 31)

define_defines : (m : Bool) (s : State) (x : Bool) → s.is_root_defined ≡ x → (c.define_root x m s).after.is_root_defined ≡ true
unfolding c.define_root
define_defines m s true e = e
define_defines m s false e = refl

pub root_defines : (m : Bool) (d a : ℕ) (s : State) → (c.root m d a s).after.is_root_defined ≡ true
unfolding c.root then
root_defines m d a s = define_defines m s4 s4.is_root_defined refl
  where
    s4 : State
    s4 = (c.fmov d 30 (c.call_root (c.fmov 31 a (c.ensure_complex a s).after).after).after).after

-- a cleared register that is none of the general ones frames all
frame_clear : {k : List ℕ} {B : List Work} {X Z Z' : ℕ → Type 0} {H : Type 0} {ρ ρ' : Realness} {rs : List Record}
    → ((r : ℕ) → r < 30 → Z' r → Z r) → Safe k B X Z' H ρ rs ρ' → Safe k B X Z H ρ rs ρ'
frame_clear f s = loosen (λ h. h) (λ r g n. (n, f r g)) s

module _ (k : List ℕ) (B : List Work) (Z : ℕ → Type 0) (H : Type 0) (s : State) (d a : ℕ) (hd : d < 32) (ha : a < 32)
    (z : is_real_reg s.real a ≡ true → Z a) where
  pub compare-zero-keeps : (op by : BinOp) → takes_bin true op ≡ true → takes_bin true by ≡ true → Keeps k B (λ r. r ≡ d) Z H s (compare_zero op by d a s)
  unfolding then c.bits by_two emit
  compare-zero-keeps op by e f =
      join (frame_any (λ r. r ≡ d) 31 (lit≤ tt) (bits-keeps k B Z H s 31 31 31 (lit< tt) (lit< tt) (lit< tt) BinOp.Xor refl))
      (frame_clear {Z' = λ r. Z r ⊎ (30 ≤ r)} (λ r g. elim [ inl q ↦ q | inr q ↦ absurd (omega arith) ])
      (compare-keeps k B (λ r. Z r ⊎ (30 ≤ r)) H _ d a 31 hd ha (lit< tt) (λ e. inl (z (back e))) (λ e. inr (lit≤ tt)) op by e f))
    where
      back : is_real_reg (set_reg s.real 31 (is_real_reg s.real 31 && is_real_reg s.real 31)) a ≡ true → is_real_reg s.real a ≡ true
      back e = rw (and_self (is_real_reg s.real 31), set-get_or s.real.regs 31 false) at e
