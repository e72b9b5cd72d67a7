-- What is shown of a record, read out of the copy that it was played on: the bits that the words hold there that it fills.
use Prim.Native.Nat.{ℕ, suc, ◌+◌, ◌≤◌, ◌<◌}
use native.Mathlib.Omega.{arith}
use mathlib.Core.Path.{◌≡◌, refl, sym, ap, ◌∙◌}
use mathlib.Core.Bool.{Bool, true, false, cond, ◌||◌, true≢false}
use mathlib.Core.List.{List, [], ◌∷◌}
use mathlib.Core.Option.{none}
use lib.ListN.{length, set, length-set}
use lib.Seq.{get_or-set_same, get_or-set_other}
use lib.Dec.{eqb}
use borrow.Author.Tests.{eq-eqb, ne_eqb, eqb-false}
use Rattle.mir.specs.declared.records.Loc.{Loc}
use Rattle.mir.specs.declared.records.Work.{Work}
use Rattle.mir.specs.declared.records.Record.{Record}
use Rattle.mir.specs.Read.{got}
use Rattle.mir.proofs.IfRead.{Saved}
use Rattle.mir.proofs.Decoding.{Bytes}
use Rattle.words.specs.Bytes.{stored}
use Rattle.words.proofs.Stored.{stored_whole}
use Rattle.records.specs.Record.{record_from}
use Rattle.records.proofs.Holding.{Holds}
use Rattle.records.proofs.Held.{held}
use Rattle.player_machine.specs.Machine.{Store, at, place, ◌≔◌, writes, put, exec}
use Rattle.player_machine.specs.Draws.{fills}
use Rattle.player_machine.specs.Step.{written}
use Rattle.player_machine.specs.Look.{is_written, shown}
use Rattle.player_work.specs.Encoded.{encoded, work_in, has_work, worked}
use Rattle.player_work.proofs.Encoding.{encoding}
use Rattle.look.specs.declared.show.Filled.{Filled}
use Rattle.look.specs.declared.show.Shown.{Shown}
use Rattle.look.specs.Standing.{ends, FillsOf, plain, ShownOf}

-- ---- the bits

-- what is read of the words that are filled
abbrev pub out_read : Store → Filled → Shown
out_read τ f =
    cond (eqb f.first f.last) (plain (f.last ≔ at τ f.last ∷ []))
    (plain (f.first ≔ at τ f.first ∷ f.last ≔ at τ f.last ∷ []))

module _ (σ : Store) where
  one-shown : (i v : ℕ) → i < length σ → out_read (set σ i v) (record { first = i; last = i }) ≡ plain (i ≔ v ∷ [])
  one-shown i v h = simp (eq-eqb i i refl) (ap (λ b. plain (i ≔ b ∷ [])) (get_or-set_same σ i v 0 h))

  two-shown : (i v j u : ℕ) → i < length σ → j < length σ
      → out_read (set (set σ i v) j u) (record { first = i; last = j }) ≡ plain (shown (i ≔ v ∷ j ≔ u ∷ []))
  unfolding shown is_written
  two-shown i v j u h k = by (eqb i j) refl
    where
      last : at (set (set σ i v) j u) j ≡ u
      last = let m = length-set σ i v in get_or-set_same (set σ i v) j u 0 (omega (arith, m, k))

      by : (b : Bool) → eqb i j ≡ b
          → cond b (plain (j ≔ at (set (set σ i v) j u) j ∷ []))
          (plain (i ≔ at (set (set σ i v) j u) i ∷ j ≔ at (set (set σ i v) j u) j ∷ []))
          ≡ plain (cond (b || false) (j ≔ u ∷ []) (i ≔ v ∷ j ≔ u ∷ []))
      by true q = ap (λ x. plain (j ≔ x ∷ [])) last
      by false q =
          let first = get_or-set_other (set σ i v) j i u 0 (λ e. eqb-false i j q e) ∙ get_or-set_same σ i v 0 h in
          ap (λ x. plain (i ≔ x ∷ j ≔ at (set (set σ i v) j u) j ∷ [])) first ∙ ap (λ x. plain (i ≔ v ∷ j ≔ x ∷ [])) last

  -- registers and places lie in the store
  module _ (long : length σ ≡ 1602) where
    register : {r : ℕ} → r ≤ 65 → r < length σ
    register h = omega (arith, h, long)

    saves : (p : Loc) → Saved p → place p + 1 < length σ
    saves (Loc.Stack i) h = omega (arith, h, long)
    saves (Loc.Mem i) h = omega (arith, h, long)
    saves (Loc.Param i) h = absurd h

    saves-first : (p : Loc) → Saved p → place p < length σ
    saves-first p h = let g = saves p h in omega (arith, g)

    saves-second : (p : Loc) → Saved p → suc (place p) < length σ
    saves-second p h = let g = saves p h in omega (arith, g)

    read_out : (constants : List ℕ) (count : ℕ) (w : Work) → Holds count (Record.Work w)
        → out_read (exec constants w σ) (ends (fills w)) ≡ plain (shown (writes constants σ w))
    unfolding exec put writes shown is_written
    read_out constants count (Work.Uni op dst s1) h = one-shown dst _ (register h.1)
    read_out constants count (Work.Bi op dst s1 s2) h = one-shown dst _ (register h.1)
    read_out constants count (Work.Mov dst s1) h = one-shown dst _ (register h.0)
    read_out constants count (Work.Load dst p) h = one-shown dst _ (register h.0)
    read_out constants count (Work.Save src p) h = one-shown (place p) _ (saves-first p h.1)
    read_out constants count (Work.LoadConst dst idx) h = one-shown dst _ (register h.0)
    read_out constants count (Work.Fused op dst a b c) h = one-shown dst _ (register h.1)
    read_out constants count (Work.IfElse dst t f p) h = one-shown dst _ (register h.0)
    read_out constants count (Work.LoadComplex xd yd p) h = two-shown xd _ yd _ (register h.0) (register h.1)
    read_out constants count (Work.SaveComplex xs ys p) h =
        two-shown (place p) _ (suc (place p)) _ (saves-first p h.2) (saves-second p h.2)
    read_out constants count (Work.ComplexBi op xd yd x1 y1 x2 y2) h = two-shown xd _ yd _ (register h.0) (register h.1)

-- ---- what is shown, by what the code knows

-- the copy is the store, and what the work makes of it
pub record Copied (constants s : List ℕ) (σ : Store) (b : Bool) (τ : Store) : Type 0 where
  pub went : b ≡ has_work (encoded s)
  pub after : τ ≡ worked constants (encoded s) σ

pub copied : (constants s l : List ℕ) {σ κ τ : Store} {b : Bool} → length σ ≡ length l → κ ≡ stored l 0 σ
    → (b ≡ has_work (encoded s)) × (τ ≡ worked constants (encoded s) κ) → Copied constants s σ b τ
copied constants s l {σ} h e x =
    record { went = x.0; after = x.1 ∙ ap (worked constants (encoded s)) (e ∙ stored_whole l σ h) }

module _ {constants s : List ℕ} {σ τ : Store} {b : Bool} (c : Copied constants s σ b τ) where
  pub shows-none : {r : Shown} → b ≡ false → r ≡ record { count = 0; index1 = 0; bits1 = 0; index2 = 0; bits2 = 0 } → ShownOf constants s σ r
  unfolding written shown
  shows-none z h (Record.Work w) e =
      absurd (true≢false (ap has_work (sym (encoding (length constants) s (Record.Work w) e)) ∙ sym c.went ∙ z))
  shows-none z h (Record.Label l) e = h
  shows-none z h (Record.Branch l) e = h
  shows-none z h (Record.Call l) e = h
  shows-none z h (Record.BranchIf x l y) e = h

  gone : (x : Record) → record_from (length constants) s ≡ got x → work_in x ≡ none → b ≡ true → ⊥
  gone x e q t = true≢false (sym t ∙ c.went ∙ ap has_work (encoding (length constants) s x e ∙ q))

  pub shows : {r : Shown} {f : Filled} → length σ ≡ 1602 → Bytes s → b ≡ true → FillsOf (encoded s) f → r ≡ out_read τ f → ShownOf constants s σ r
  unfolding written
  shows {r} {f} long bytes t g h (Record.Work w) e =
      let n = encoding (length constants) s (Record.Work w) e in
      h
      ∙ ap (λ τ. out_read τ f) (c.after ∙ ap (λ o. worked constants o σ) n)
      ∙ ap (out_read (exec constants w σ)) (g w n)
      ∙ read_out σ long constants (length constants) w (held (length constants) s (Record.Work w) bytes e)
  shows long bytes t g h (Record.Label l) e = absurd (gone (Record.Label l) e refl t)
  shows long bytes t g h (Record.Branch l) e = absurd (gone (Record.Branch l) e refl t)
  shows long bytes t g h (Record.Call l) e = absurd (gone (Record.Call l) e refl t)
  shows long bytes t g h (Record.BranchIf x l y) e = absurd (gone (Record.BranchIf x l y) e refl t)

  -- one word, or two
  pub shows-one : {f : Filled} {v : ℕ} → length σ ≡ 1602 → Bytes s → b ≡ true → FillsOf (encoded s) f → f.first ≡ f.last
      → v ≡ at τ f.last → ShownOf constants s σ (record { count = 1; index1 = f.last; bits1 = v; index2 = 0; bits2 = 0 })
  shows-one {f} long bytes t g e h = shows long bytes t g (simp (eq-eqb _ _ e) (ap (λ x. plain (f.last ≔ x ∷ [])) h))

  pub shows-two : {f : Filled} {v u : ℕ} → length σ ≡ 1602 → Bytes s → b ≡ true → FillsOf (encoded s) f → (f.first ≡ f.last → ⊥)
      → v ≡ at τ f.first → u ≡ at τ f.last
      → ShownOf constants s σ (record { count = 2; index1 = f.first; bits1 = v; index2 = f.last; bits2 = u })
  shows-two {f} long bytes t g n h k =
      shows long bytes t g (simp (ne_eqb _ _ n) (λ i. plain (f.first ≔ h i ∷ f.last ≔ k i ∷ [])))
