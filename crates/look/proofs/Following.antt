-- The record that follows, by positions and by indices: a counted walk to a Label, and what is known of the record at a position.
use Prim.Native.Nat.{ℕ, suc, ◌+◌, ◌-◌, ◌≤◌}
use native.Mathlib.Omega.{arith}
use native.Mathlib.Nat.{zero-add}
use mathlib.Core.Path.{◌≡◌, refl, sym, ap, ◌∙◌}
use mathlib.Core.Bool.{Bool, true, false, cond}
use mathlib.Core.List.{List, ◌∷◌}
use mathlib.Core.Option.{none, some}
use lib.ListN.{length, take, drop}
use lib.Dec.{eqb}
use borrow.Author.Tests.{eq-eqb, ne_eqb}
use Rattle.mir.specs.declared.records.Record.{Record}
use Rattle.mir.specs.Read.{Read, got}
use Rattle.mir.specs.Field.{byte_at, u16_at}
use Rattle.mir.proofs.Parts.{part}
use Rattle.mir.proofs.Decoding.{items, Here, Done}
use Rattle.records.specs.Record.{record_from}
use Rattle.records.proofs.Reading.{here-read}
use Rattle.player_machine.specs.Machine.{Store, is_label, branches}
use Rattle.player_machine.specs.Machine as Machine
use Rattle.player_machine.specs.Step.{before, label_from, follows}
use Rattle.player_machine.specs.Look.{named}
use Rattle.player_machine.proofs.Stepping.{behind_it}
use Rattle.player_machine.proofs.Looking.{here, label_within}
use Rattle.player.specs.Encoded.{jump_encoded, jump_in}
use Rattle.player.specs.Positions.{left, fault}
use Rattle.records.proofs.Refusals.{Found}
use Rattle.player.proofs.Encoding.{encoding, a-jump, a-branch-if}
use Rattle.player.proofs.Looks.{readable}
use Rattle.look.specs.Standing.{Standing, Stood, BeforeLabel}

-- ---- the counted walk

module _ {read : List ℕ → Read Record} {s : List ℕ} {at : ℕ} where
  pub before_on : {next : ℕ} {r : Record} (l : ℕ) → Here read s at r next → is_label l r ≡ false
      → before l (items read (drop at s)) ≡ 1 + before l (items read (drop next s))
  before_on l e f = ap (before l) e.same ∙ simp f (omega arith)

  pub before_here : {next : ℕ} {r : Record} (l : ℕ) → Here read s at r next → is_label l r ≡ true → before l (items read (drop at s)) ≡ 0
  before_here l e f = ap (before l) e.same ∙ simp f

  pub before-none : {k : ℕ} (l : ℕ) → Done read s at k → before l (items read (drop at s)) ≡ 0
  before-none l e = ap (before l) e.same

-- ---- the record at a position

-- where a look stands there is a record
pub found : {s : List ℕ} {at i all : ℕ} (p : Stood s at i all) → Found p.count (drop at s)
found {s} {at} p = readable p.count s at p.stands.here p.stands.inside

-- its bytes as the code reads them, the part of the slice that begins there
module _ {count : ℕ} {s : List ℕ} {at i all : ℕ} (w : Standing count s at i all) (rec : Record) (e : record_from count (drop at s) ≡ got rec) where
  abbrev rs : List Record
  rs = left count s 0

  abbrev bytes : List ℕ
  bytes = take (length s - at) (drop at s)

  pub encodes : jump_encoded bytes ≡ jump_in rec
  encodes = ap jump_encoded (part s at) ∙ encoding count (drop at s) rec e

  -- the records from it on
  stands : Here (record_from count) s at rec (at + u16_at (drop at s) 0)
  stands = here-read count s at rec e

  pub at-index : drop i rs ≡ rec ∷ left count s (at + u16_at (drop at s) 0)
  at-index = sym w.same ∙ stands.same

  -- its length as the code reads it
  next-at : {n : ℕ} → n ≡ u16_at bytes 0 → at + u16_at (drop at s) 0 ≡ at + n
  next-at h = ap (λ k. at + k) (sym (h ∙ ap (λ l. u16_at l 0) (part s at)))

  behind : {n : ℕ} → n ≡ u16_at bytes 0 → left count s (at + n) ≡ drop (suc i) rs
  behind h = ap (left count s) (sym (next-at h)) ∙ sym (behind_it rs i at-index)

  pub sound-behind : {n : ℕ} → n ≡ u16_at bytes 0 → fault count s (at + n) ≡ 0
  sound-behind h = ap (fault count s) (sym (next-at h)) ∙ sym stands.sound ∙ w.here

  pub inside : {n : ℕ} → n ≡ u16_at bytes 0 → at + n ≤ length s
  inside h = let a = next-at h in let b = stands.inside in omega (arith, a, b)

  -- its index is below the count
  pub below : i + 1 ≤ all
  below = let h = here rs i at-index in let k = w.whole in omega (arith, h, k)

  -- a Label that was sought behind it, by its index
  sought : {n l r : ℕ} → n ≡ u16_at bytes 0 → BeforeLabel s (at + n) l r → i + 1 + r ≡ label_from rs (suc i) l
  sought {n} {l} {r} h b =
      let g : r ≡ before l (drop (suc i) rs) = b.same count (sound-behind h) ∙ ap (before l) (behind h) in
      omega (arith, g)

  pub sought-below : {n l r : ℕ} → n ≡ u16_at bytes 0 → BeforeLabel s (at + n) l r → i + 1 + r ≤ all
  sought-below {n} {l} {r} h b =
      let g = sought h b in
      let k = label_within rs i l (here rs i at-index) in
      let m = w.whole in
      omega (arith, g, k, m)

  module _ (σ : Store) where
    abbrev Follows : ℕ → Type 0
    Follows r = r ≡ named rs (follows rs (record { at = i; back = none; store = σ }) rec)

    known : {x : Record} → rec ≡ x → {r : ℕ} → r ≡ named rs (follows rs (record { at = i; back = none; store = σ }) x) → Follows r
    known f h = h ∙ ap (λ x. named rs (follows rs (record { at = i; back = none; store = σ }) x)) (sym f)

    -- Branch 0
    pub to_end : {k l : ℕ} → k ≡ u16_at bytes 2 → k ≡ 15 → l ≡ byte_at bytes 4 → l ≡ 0 → Follows all
    unfolding follows
    to_end k e15 l z =
        known (a-jump bytes rec encodes 15 (sym k ∙ e15) refl) (w.whole ∙ sym (simp (eq-eqb _ _ (sym l ∙ z))))

    -- another Branch
    pub to-label : {k l n r : ℕ} → k ≡ u16_at bytes 2 → k ≡ 15 → l ≡ byte_at bytes 4 → (l ≡ 0 → ⊥) → n ≡ u16_at bytes 0
        → BeforeLabel s (at + n) l r → Follows (i + 1 + r)
    unfolding follows
    to-label {k} {l} {n} {r} e e15 f z h b =
        known (a-jump bytes rec encodes 15 (sym e ∙ e15) (ap (λ l. some (Record.Branch l)) (sym f))) (sought h b ∙ sym (simp (ne_eqb _ _ z)))

    pub to_block : {k l r : ℕ} → k ≡ u16_at bytes 2 → k ≡ 16 → l ≡ byte_at bytes 4 → BeforeLabel s 0 l r → Follows r
    unfolding follows
    to_block {k} {l} {r} e e16 f b =
        known (a-jump bytes rec encodes 16 (sym e ∙ e16) (ap (λ l. some (Record.Call l)) (sym f)))
        (b.same count w.sound ∙ sym (zero-add _))

    -- a BranchIf by the condition's word
    pub taken : {k l n r : ℕ} {b : Bool} → k ≡ u16_at bytes 2 → k ≡ 17
        → b ≡ branches (eqb (byte_at bytes 6) 1) (Machine.at σ (byte_at bytes 4)) → b ≡ true → l ≡ byte_at bytes 5
        → n ≡ u16_at bytes 0 → BeforeLabel s (at + n) l r → Follows (i + 1 + r)
    unfolding follows
    taken e e17 c t f h b =
        known (a-branch-if bytes rec encodes (sym e ∙ e17) f) (sought h b ∙ sym (simp (sym c ∙ t)))

    pub untaken : {k : ℕ} {b : Bool} → k ≡ u16_at bytes 2 → k ≡ 17
        → b ≡ branches (eqb (byte_at bytes 6) 1) (Machine.at σ (byte_at bytes 4)) → b ≡ false → Follows (i + 1)
    unfolding follows
    untaken e e17 c t =
        let z : i + 1 ≡ suc i = omega arith in
        known (a-branch-if bytes rec encodes (sym e ∙ e17) refl) (z ∙ sym (simp (sym c ∙ t)))

    -- a working record, or a Label
    pub goes_on : {k : ℕ} → k ≡ u16_at bytes 2 → (k ≡ 15 → ⊥) → (k ≡ 16 → ⊥) → (k ≡ 17 → ⊥) → Follows (i + 1)
    unfolding follows
    goes_on {k} e n15 n16 n17 =
        let f : cond (eqb (u16_at bytes 2) 14) (some (Record.Label (byte_at bytes 4))) none ≡ jump_in rec =
        sym (simp (ne_eqb _ _ (λ q. n15 (e ∙ q)), ne_eqb _ _ (λ q. n16 (e ∙ q)), ne_eqb _ _ (λ q. n17 (e ∙ q)))) ∙ encodes in
        plainly (eqb (u16_at bytes 2) 14) rec f
      where
        plainly : (b : Bool) (x : Record) → cond b (some (Record.Label (byte_at bytes 4))) none ≡ jump_in x
            → i + 1 ≡ named rs (follows rs (record { at = i; back = none; store = σ }) x)
        plainly b (Record.Work x) h = omega arith
        plainly b (Record.Label l) h = omega arith
        plainly true (Record.Branch l) h = cc
        plainly false (Record.Branch l) h = cc
        plainly true (Record.Call l) h = cc
        plainly false (Record.Call l) h = cc
        plainly true (Record.BranchIf c l x) h = cc
        plainly false (Record.BranchIf c l x) h = cc
