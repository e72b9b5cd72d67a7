-- The passes over positions and the definitions over records: counts, records passed over, and where the block begins.
use Prim.Native.Nat.{ℕ, zero, suc, ◌+◌, ◌≤◌}
use native.Mathlib.Omega.{arith}
use native.Mathlib.Nat.{le_refl}
use mathlib.Core.Path.{◌≡◌, refl, sym, ap, ◌∙◌, subst}
use mathlib.Core.Bool.{Bool, true, false, cond}
use mathlib.Core.List.{List, [], ◌∷◌}
use lib.ListN.{length, drop}
use lib.Dec.{eqb}
use borrow.Author.Tests.{eq-eqb, ne_eqb}
use Rattle.mir.specs.declared.records.Record.{Record}
use Rattle.mir.specs.Read.{Read}
use Rattle.mir.proofs.Decoding.{items, Here, Done, ended}
use Rattle.records.specs.Record.{record_from}
use Rattle.player_machine.specs.Machine.{is_label, seek}
use Rattle.player_machine.specs.Jumps.{is_jump, bit, tally, breach_from, breach}
use Rattle.player.specs.Positions.{left, fault, BlockStart, Examined}
use Rattle.player.proofs.Steps.{seek_on, seek_here}

pub bit_small : (b : Bool) → bit b ≤ 1
bit_small true = omega arith
bit_small false = omega arith

drop_none : (n : ℕ) → [] ≡ drop {A = Record} n []
drop_none zero = refl
drop_none (suc n) = refl

module _ {read : List ℕ → Read Record} {s : List ℕ} {at : ℕ} where
  pub tally-on : {next : ℕ} {r : Record} (p : Record → Bool) → Here read s at r next
      → tally p (items read (drop at s)) ≡ bit (p r) + tally p (items read (drop next s))
  unfolding tally
  tally-on p e = ap (tally p) e.same

  pub tally-none : {k : ℕ} (p : Record → Bool) → Done read s at k → tally p (items read (drop at s)) ≡ 0
  unfolding tally
  tally-none p e = ap (tally p) e.same

  pub skip-on : {next : ℕ} {r : Record} (k : ℕ) → Here read s at r next
      → drop (suc k) (items read (drop at s)) ≡ drop k (items read (drop next s))
  skip-on k e = ap (drop (suc k)) e.same

  pub skip-none : {k : ℕ} (n : ℕ) → Done read s at k → items read (drop at s) ≡ drop n (items read (drop at s))
  skip-none n e = e.same ∙ drop_none n ∙ sym (ap (drop n) e.same)

-- where the block begins, as the first pass knows it at a position: no Label 1 stood before it, or the first one did
pub data Noted (count : ℕ) (s : List ℕ) (at body : ℕ) : Type 0 where
  not_yet : body ≡ length s → seek 1 (left count s 0) ≡ seek 1 (left count s at) → Noted count s at body
  stood : body ≤ at → left count s body ≡ drop 1 (seek 1 (left count s 0)) → fault count s body ≡ fault count s 0 → Noted count s at body

module _ {count : ℕ} {s : List ℕ} {at : ℕ} where
  noted-label : {body next : ℕ} {r : Record} → Here (record_from count) s at r next → fault count s at ≡ fault count s 0
      → is_label 1 r ≡ true → Noted count s at body → Noted count s next (cond (eqb body (length s)) next body)
  noted-label {body} {next} h z l (not_yet e f) =
      subst (λ b. Noted count s next (cond b next body)) (sym (eq-eqb body (length s) e))
      (stood (le_refl next)
      (sym (ap (drop 1) (f ∙ sym (seek_here 1 h l) ∙ h.same)))
      (sym h.sound ∙ z))
  noted-label {body} {next} h z l (stood b f k) =
      let g = h.on in
      let i = h.inside in
      subst (λ b. Noted count s next (cond b next body)) (sym (ne_eqb body (length s) (λ e. omega (arith, b, g, i, e))))
      (stood (omega (arith, b, g)) f k)

  noted_other : {body next : ℕ} {r : Record} → Here (record_from count) s at r next → is_label 1 r ≡ false → Noted count s at body
      → Noted count s next body
  noted_other h l (not_yet e f) = not_yet e (f ∙ sym (seek_on 1 h l))
  noted_other h l (stood b f k) = let g = h.on in stood (omega (arith, b, g)) f k

  pub noted-on : {body next : ℕ} {r : Record} (x : Bool) → Here (record_from count) s at r next → fault count s at ≡ fault count s 0
      → is_label 1 r ≡ x → Noted count s at body → Noted count s next (cond x (cond (eqb body (length s)) next body) body)
  noted-on true h z l n = noted-label h z l n
  noted-on false h z l n = noted_other h l n

  noted-end : {body k : ℕ} → Done (record_from count) s at k → Noted count s at body → BlockStart count s body
  unfolding seek
  noted-end {body} d (not_yet e f) =
      let g = ended (record_from count) s body (omega (arith, e)) in
      record { same = g.same ∙ sym (ap (drop 1) (f ∙ ap (seek 1) d.same)); sound = λ z. g.why }
  noted-end d (stood b f k) = record { same = f; sound = λ z. k ∙ z }

  -- where the records end, what was counted is the whole
  pub examined-end : {n index jumps body : ℕ} → index + length (left count s at) ≡ length (left count s 0)
      → fault count s at ≡ fault count s 0
      → jumps + tally is_jump (left count s at) ≡ tally is_jump (left count s 0)
      → Noted count s at body
      → Done (record_from count) s at n
      → Examined count s (record { number = n; index = index; jumps = jumps; body = body })
  examined-end i0 i1 i2 i3 d =
      let g = ap length d.same in
      let t = tally-none is_jump d in
      record {
        number = sym d.why ∙ i1;
        index = omega (arith, g, i0);
        jumps = omega (arith, t, i2);
        body = noted-end d i3;
      }

-- working records alone break no rule
no_breach_from : (before rs : List Record) → tally is_jump rs ≡ 0 → breach_from before rs ≡ length rs
unfolding tally breach_from
no_breach_from before [] e = refl
no_breach_from before (Record.Work w ∷ rs) e = ap suc (no_breach_from (Record.Work w ∷ before) rs (omega arith))
no_breach_from before (Record.Label l ∷ rs) e = absurd (omega arith)
no_breach_from before (Record.Branch l ∷ rs) e = absurd (omega arith)
no_breach_from before (Record.Call l ∷ rs) e = absurd (omega arith)
no_breach_from before (Record.BranchIf c l x ∷ rs) e = absurd (omega arith)

pub no_breach : (rs : List Record) → tally is_jump rs ≡ 0 → breach rs ≡ length rs
unfolding breach
no_breach rs e = no_breach_from [] rs e
