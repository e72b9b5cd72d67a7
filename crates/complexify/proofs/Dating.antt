-- The origins in the loop: those that stand there, with those that the instructions left to finish bring, are all of them.
use Prim.Native.Nat.{ℕ, suc, ◌+◌, ◌-◌, ◌≤◌}
use mathlib.Core.Path.{◌≡◌, refl, sym, ap, ◌∙◌, subst}
use mathlib.Core.Bool.{true, false}
use mathlib.Core.List.{List, ◌++◌, append-nil, append_assoc}
use native.Mathlib.Omega.{arith}
use lib.ListN.{length, take, drop, replicate, length-take, length-replicate}
use lib.Seq.{sets, length-sets}
use Rattle.mir.proofs.Decoding.{Done}
use Rattle.sheet.specs.declared.setup.Mode.{Mode}
use Rattle.sheet.specs.Instruction.{instruction_from}
use Rattle.lowering.specs.Origins.{origins_from}
use Rattle.lowering.specs.Labels.{none_standing}
use Rattle.lowering.specs.Lower.{Ended}
use Rattle.complexifier.specs.Does.{state}
use Rattle.complexify.specs.declared.turn.Cursor.{Cursor}
use Rattle.complexify.specs.declared.turn.Next.{Next}
use Rattle.complexify.specs.declared.turn.Stop.{Stop}
use Rattle.complexify.specs.Taken.{Appended, left, comes, stopped_at, Dated}
use Rattle.complexify.proofs.Copies.{taken, kept_store, kept_none, kept_then}
use Rattle.complexify.proofs.Finished.{finished}
use Rattle.complexify.proofs.Turns.{Turn, Underway, decoded_at, ended-there, ended_here}

-- what holds before each turn, where the work ends at an index
pub record Dating (index : ℕ) (mode : Mode) (own : ℕ) (sheet constants₀ : List ℕ) (start : Cursor) (origins₀ constants : List ℕ) (p : Cursor) (origins : List ℕ) : Type 0 where
  pub named : take p.count origins ++ comes mode own sheet constants p (index - p.index)
      ≡ take start.count origins₀ ++ comes mode own sheet constants₀ start (index - start.index)
  pub kept : Appended origins₀ start.count origins p.count
  pub long : length origins ≡ 256

module _ {mode : Mode} {own : ℕ} {sheet constants₀ : List ℕ} {start : Cursor} {origins₀ : List ℕ} {index : ℕ} where
  pub dating-first : start.count ≤ 256 → length origins₀ ≡ 256 → Dating index mode own sheet constants₀ start origins₀ constants₀ start origins₀
  dating-first h n = record { named = refl; kept = kept_none origins₀ start.count (omega (arith, h, n)); long = n }

  module _ {constants : List ℕ} {p : Cursor} {origins : List ℕ} (d : Dating index mode own sheet constants₀ start origins₀ constants p origins) where
    -- one turn on
    pub dating-next : {listing marks rows listing' constants' marks' rows' origins' : List ℕ} {r : Next}
        → Turn mode own sheet listing constants marks rows p listing' constants' marks' rows' r → r.done ≡ false
        → r.stand.index ≤ index → length constants ≡ 256
        → origins' ≡ sets origins p.count (replicate (r.stand.count - p.count) p.index)
        → Dating index mode own sheet constants₀ start origins₀ constants' r.stand origins'
    dating-next {constants' = constants'} {origins' = origins'} {r = r} t z h n e =
        let new : List ℕ = replicate (r.stand.count - p.count) p.index in
        let w = t.turned.words in
        let i = t.index z in
        let l = length-replicate (r.stand.count - p.count) p.index in
        let c : p.count + length new ≡ r.stand.count = omega (arith, l, w.more) in
        let fits : p.count + length new ≤ length origins = omega (arith, c, w.fits, n, d.long) in
        let rest : List ℕ = comes mode own sheet constants' r.stand (index - r.stand.index) in
        let m : suc (index - r.stand.index) ≡ index - p.index = omega (arith, i, h) in
        record {
          named =
              ap (λ k. take k origins' ++ rest) (sym c)
              ∙ ap (λ o. take (p.count + length new) o ++ rest) e
              ∙ ap (λ o. o ++ rest) (taken origins new p.count fits)
              ∙ append_assoc (take p.count origins) new rest
              ∙ ap (λ o. take p.count origins ++ o) (sym (t.origins z (index - r.stand.index)))
              ∙ ap (λ k. take p.count origins ++ comes mode own sheet constants p k) m
              ∙ d.named;
          kept = kept_then d.kept
              (subst (λ o. Appended origins p.count o r.stand.count) (sym e)
              (subst (λ k. Appended origins p.count (sets origins p.count new) k) c (kept_store origins new p.count fits)));
          long = ap length e ∙ length-sets origins p.count new ∙ d.long;
        }

    -- where the work ends here
    pub dated : {whole : Ended} {number : ℕ} {q : Cursor} {s : Stop} → whole.index ≡ index → index ≡ p.index → q ≡ p → s ≡ stopped_at number q
        → Dated whole mode own sheet constants₀ start origins₀ origins s
    unfolding origins_from
    dated {whole} {number} {q} {s} x y z e =
        let n : index - p.index ≡ 0 = omega (arith, y) in
        let c : s.count ≡ p.count = ap (λ s. s.count) e ∙ ap (λ q. q.count) z in
        record {
          named =
              ap (λ k. take k origins) c
              ∙ sym (append-nil (take p.count origins))
              ∙ ap (λ k. take p.count origins ++ comes mode own sheet constants p k) (sym n)
              ∙ d.named
              ∙ ap (λ k. take start.count origins₀ ++ comes mode own sheet constants₀ start (k - start.index)) (sym x);
          origins = subst (λ k. Appended origins₀ start.count origins k) (sym c) d.kept;
        }

module _ {mode : Mode} {own : ℕ} {sheet listing₀ constants₀ : List ℕ} {start : Cursor} {stage listing constants marks rows : List ℕ} {p : Cursor}
    (u : Underway mode own sheet listing₀ constants₀ start stage listing constants marks rows p) where
  abbrev whole : Ended
  whole = left mode (length listing₀) own sheet none_standing listing₀ constants₀ start

  -- the work ends at no earlier index
  pub not-before : p.index ≤ whole.index
  not-before =
      let d = decoded_at own sheet p.index p.at in
      let f = finished mode (length listing₀) d.items d.fault (drop p.at sheet) u.before p.index (take p.written listing) (state p.low (take p.count constants))
      (let l = length-take p.written listing in let k = u.bytes.fits in omega (arith, l, k)) in
      let e = ap (λ w. w.index) (sym u.same) in
      let a = f.at in
      omega (arith, e, a)

  module _ {origins₀ origins : List ℕ} (d : Dating whole.index mode own sheet constants₀ start origins₀ constants p origins) {s : Stop} where
    -- where a number refuses, and where the sheet ends
    pub dated-refused : {listing' constants' marks' rows' : List ℕ} {r : Next}
        → Turn mode own sheet listing constants marks rows p listing' constants' marks' rows' r → r.done ≡ true
        → s ≡ stopped_at r.number r.stand → Dated whole mode own sheet constants₀ start origins₀ origins s
    dated-refused t e h = dated d refl (ap (λ w. w.index) (ended-there u t e) ∙ ap (λ q. q.index) (t.stays e)) (t.stays e) h

    pub dated-ended : Done (instruction_from own) sheet p.at 0 → s ≡ stopped_at 0 p → Dated whole mode own sheet constants₀ start origins₀ origins s
    dated-ended x h = dated d refl (ap (λ w. w.index) (ended_here u x)) refl h
