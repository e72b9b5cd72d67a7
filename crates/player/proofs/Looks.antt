-- What is known of the record at a position: by its step, in the first pass, and by its work, in a play.
use Prim.Native.Nat.{ℕ, ◌+◌, ◌-◌, ◌<◌}
use mathlib.Core.Path.{◌≡◌, refl, sym, ap, ◌∙◌, subst}
use mathlib.Core.Bool.{Bool, true, false, true≢false}
use mathlib.Core.List.{List}
use lib.ListN.{length, take, drop}
use Rattle.mir.specs.declared.records.Work.{Work}
use Rattle.mir.specs.declared.records.Record.{Record}
use Rattle.mir.specs.Read.{Read, got, refused}
use Rattle.mir.specs.Field.{u16_at}
use Rattle.mir.specs.declared.refusal.Refusal.{Refusal}
use Rattle.mir.specs.Refusal.{number, as_read}
use Rattle.mir.proofs.Passing.{got_same, clash}
use Rattle.mir.proofs.Parts.{part}
use Rattle.std.specs.Prelude.{Ok, Err, Result}
use Rattle.mir.proofs.Decoding.{Here, Done}
use Rattle.records.specs.declared.reader.Step.{Step}
use Rattle.records.specs.Record.{record_from}
use Rattle.records.specs.Step.{step_of, step_from}
use Rattle.records.proofs.Reading.{here-read, torn-read}
use Rattle.records.proofs.Refusals.{Found, refused-by, looked}
use Rattle.player_machine.specs.Machine.{Store, exec, is_label}
use Rattle.player_machine.specs.Jumps.{is_jump}
use Rattle.player_work.specs.Encoded.{encoded, work_in, has_work, worked}
use Rattle.player_work.proofs.Encoding.{encoding}
use Rattle.player.specs.Encoded.{jump_encoded, jump_in}
use Rattle.player.proofs.Encoding as Jump
use Rattle.player.specs.Positions.{fault, label_seen, jump_seen, Jumps}

-- ---- a step

pub label-seen : (l : ℕ) (r : Record) → label_seen l (step_of r) ≡ is_label l r
unfolding is_label
label-seen l (Record.Work w) = refl
label-seen l (Record.Label m) = refl
label-seen l (Record.Branch m) = refl
label-seen l (Record.Call m) = refl
label-seen l (Record.BranchIf c m e) = refl

pub jump-seen : (r : Record) → jump_seen (step_of r) ≡ is_jump r
jump-seen (Record.Work w) = refl
jump-seen (Record.Label m) = refl
jump-seen (Record.Branch m) = refl
jump-seen (Record.Call m) = refl
jump-seen (Record.BranchIf c m e) = refl

-- the record that a step is of, and n bytes long
pub record Stepped (count : ℕ) (s : List ℕ) (at n : ℕ) (q : Step) : Type 0 where
  pub rec : Record
  pub here : Here (record_from count) s at rec (at + n)
  pub same : q ≡ step_of rec

-- the first two bytes, of the code's part of the slice
on_by : (count : ℕ) {s : List ℕ} {at n : ℕ} {rec : Record} → n ≡ u16_at (take (length s - at) (drop at s)) 0
    → Here (record_from count) s at rec (at + u16_at (drop at s) 0) → Here (record_from count) s at rec (at + n)
on_by count {s} {at} {n} {rec} w h =
    subst (λ k. Here (record_from count) s at rec (at + k)) (sym (w ∙ ap (λ l. u16_at l 0) (part s at))) h

module _ (count : ℕ) (s : List ℕ) (at : ℕ) (r : Result Step Refusal) (e : as_read r ≡ step_from (record_from count (take (length s - at) (drop at s)))) where
  whole-step : as_read r ≡ step_from (record_from count (drop at s))
  whole-step = e ∙ ap (λ l. step_from (record_from count l)) (part s at)

  pub stepped : {n : ℕ} {q : Step} → n ≡ u16_at (take (length s - at) (drop at s)) 0 → r ≡ Ok q → Stepped count s at n q
  stepped {n} {q} w h =
      let g = sym (ap as_read h) ∙ whole-step in
      let f = looked count (drop at s) q g in
      record { rec = f.rec; here = on_by count w (here-read count s at f.rec f.is); same = got_same _ _ (g ∙ ap step_from f.is) }

  unseen : (x : Read Record) (k : Refusal) → record_from count (drop at s) ≡ x → r ≡ Err k → at < length s → Done (record_from count) s at (number k)
  unseen (got x) k f n h = absurd (clash (number k) (step_of x) (sym (ap as_read n) ∙ whole-step ∙ ap step_from f))
  unseen (refused m) k f n h =
      let g : ◌≡◌ {A = Read Step} (refused (number k)) (refused m) = sym (ap as_read n) ∙ whole-step ∙ ap step_from f in
      let z : m ≡ number k = cc in
      subst (λ k. Done (record_from count) s at k) z (torn-read count s at m f h)

  pub refused-step : (k : Refusal) → r ≡ Err k → at < length s → Done (record_from count) s at (number k)
  refused-step k n h = unseen (record_from count (drop at s)) k refl n h

-- ---- a work

module _ (count : ℕ) (s : List ℕ) (at : ℕ) where
  -- where no record is refused, one stands at each position before the end
  pub readable : fault count s at ≡ 0 → at < length s → Found count (drop at s)
  readable z h = go (record_from count (drop at s)) refl
    where
      go : (r : Read Record) → record_from count (drop at s) ≡ r → Found count (drop at s)
      go (got rec) e = record { rec = rec; is = e }
      go (refused n) e = absurd (refused-by count (drop at s) (e ∙ ap refused (sym (torn-read count s at n e h).why ∙ z)))

-- the record at a position, n bytes long, and the jump that its bytes encode, of the code's part of the slice
pub record Stands (count : ℕ) (s : List ℕ) (at n : ℕ) : Type 0 where
  pub rec : Record
  pub here : Here (record_from count) s at rec (at + n)
  pub encodes : jump_encoded (take (length s - at) (drop at s)) ≡ jump_in rec

pub stands : (count : ℕ) {s : List ℕ} {at n : ℕ} → fault count s at ≡ 0 → at < length s → n ≡ u16_at (take (length s - at) (drop at s)) 0
    → Stands count s at n
stands count {s} {at} {n} z h w =
    let f = readable count s at z h in
    record {
      rec = f.rec;
      here = on_by count w (here-read count s at f.rec f.is);
      encodes = ap jump_encoded (part s at) ∙ Jump.encoding count (drop at s) f.rec f.is;
    }

-- what `exec` answers and leaves, of the code's part of the slice
pub record Tried (constants s : List ℕ) (at : ℕ) (w : Bool) (σ τ : Store) : Type 0 where
  pub went : w ≡ has_work (encoded (take (length s - at) (drop at s)))
  pub after : τ ≡ worked constants (encoded (take (length s - at) (drop at s))) σ

pub record Did (constants s : List ℕ) (at n : ℕ) (σ τ : Store) : Type 0 where
  pub work : Work
  pub here : Here (record_from (length constants)) s at (Record.Work work) (at + n)
  pub same : τ ≡ exec constants work σ

module _ (constants s : List ℕ) (at : ℕ) {w : Bool} {σ τ : Store} (f : Found (length constants) (drop at s)) (t : Tried constants s at w σ τ) where
  encodes : encoded (take (length s - at) (drop at s)) ≡ work_in f.rec
  encodes = ap encoded (part s at) ∙ encoding (length constants) (drop at s) f.rec f.is

  by-work : {n : ℕ} → n ≡ u16_at (take (length s - at) (drop at s)) 0 → (r : Record) → f.rec ≡ r → w ≡ true → Did constants s at n σ τ
  by-work k (Record.Work x) e h =
      record {
        work = x;
        here = on_by (length constants) k (here-read (length constants) s at (Record.Work x) (f.is ∙ ap got e));
        same = t.after ∙ ap (λ o. worked constants o σ) (encodes ∙ ap work_in e);
      }
  by-work k (Record.Label l) e h = absurd (true≢false (sym h ∙ t.went ∙ ap has_work (encodes ∙ ap work_in e)))
  by-work k (Record.Branch l) e h = absurd (true≢false (sym h ∙ t.went ∙ ap has_work (encodes ∙ ap work_in e)))
  by-work k (Record.Call l) e h = absurd (true≢false (sym h ∙ t.went ∙ ap has_work (encodes ∙ ap work_in e)))
  by-work k (Record.BranchIf c l x) e h = absurd (true≢false (sym h ∙ t.went ∙ ap has_work (encodes ∙ ap work_in e)))

  pub did : {n : ℕ} → n ≡ u16_at (take (length s - at) (drop at s)) 0 → w ≡ true → Did constants s at n σ τ
  did k h = by-work k f.rec refl h

  by_jump : (r : Record) → f.rec ≡ r → w ≡ false → Jumps (length constants) s at
  by_jump (Record.Work x) e h = absurd (true≢false (sym (t.went ∙ ap has_work (encodes ∙ ap work_in e)) ∙ h))
  by_jump (Record.Label l) e h = record { rec = Record.Label l; here = f.is ∙ ap got e; jump = refl }
  by_jump (Record.Branch l) e h = record { rec = Record.Branch l; here = f.is ∙ ap got e; jump = refl }
  by_jump (Record.Call l) e h = record { rec = Record.Call l; here = f.is ∙ ap got e; jump = refl }
  by_jump (Record.BranchIf c l x) e h = record { rec = Record.BranchIf c l x; here = f.is ∙ ap got e; jump = refl }

  -- no work: a jump stands there, and the store is as it was
  pub jumps : w ≡ false → Jumps (length constants) s at
  jumps h = by_jump f.rec refl h

  by-kept : (r : Record) → f.rec ≡ r → w ≡ false → τ ≡ σ
  by-kept (Record.Work x) e h = absurd (true≢false (sym (t.went ∙ ap has_work (encodes ∙ ap work_in e)) ∙ h))
  by-kept (Record.Label l) e h = t.after ∙ ap (λ o. worked constants o σ) (encodes ∙ ap work_in e)
  by-kept (Record.Branch l) e h = t.after ∙ ap (λ o. worked constants o σ) (encodes ∙ ap work_in e)
  by-kept (Record.Call l) e h = t.after ∙ ap (λ o. worked constants o σ) (encodes ∙ ap work_in e)
  by-kept (Record.BranchIf c l x) e h = t.after ∙ ap (λ o. worked constants o σ) (encodes ∙ ap work_in e)

  pub kept : w ≡ false → τ ≡ σ
  kept h = by-kept f.rec refl h

-- a jump at a position, and the jump that its bytes encode
pub record JumpStands (count : ℕ) (s : List ℕ) (at n : ℕ) : Type 0 where
  pub stands : Stands count s at n
  pub jump : is_jump stands.rec ≡ true

pub jump_stands : {count : ℕ} {s : List ℕ} {at n : ℕ} → Jumps count s at → n ≡ u16_at (take (length s - at) (drop at s)) 0
    → JumpStands count s at n
jump_stands {count} {s} {at} {n} j w =
    record {
      jump = j.jump;
      stands = record {
        rec = j.rec;
        here = on_by count w (here-read count s at j.rec j.here);
        encodes = ap jump_encoded (part s at) ∙ Jump.encoding count (drop at s) j.rec j.here;
      };
    }
