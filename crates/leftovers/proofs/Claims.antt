-- The claim of demand 3, about a sheet whose instructions are within their limits.
use mathlib.Core.Path.{◌≡◌, refl, sym, ap, ◌∙◌, subst}
use mathlib.Core.Bool.{Bool, true, false}
use mathlib.Core.List.{List, []}
use mathlib.Core.Option.{Option, none, some}
use Prim.Native.Nat.{ℕ, suc, ◌+◌, ◌-◌, ◌≤◌, ◌<◌}
use native.Mathlib.Omega.{arith}
use native.Mathlib.Decide.{dec_lt}
use lib.ListN.{length, take, drop, get_or, length-drop}
use lib.Seq.{get_or-drop}
use Rattle.mir.specs.declared.records.Instruction.{Instruction}
use Rattle.mir.specs.declared.records.Record.{Record}
use Rattle.mir.specs.Encode.{encode_all}
use Rattle.sheet.specs.Instruction.{instructions}
use Rattle.player_machine.specs.Machine.{Store, block, going, reach}
use Rattle.player_machine.specs.Answer.{accept}
use Rattle.lowering.specs.declared.realness.Realness.{Realness}
use Rattle.lowering.specs.Realness.{is_real_reg}
use Rattle.lowering.specs.Lower.{start_state}
use Rattle.leftovers.specs.Leftovers.{Alike, Sheet, Lowered, up_to, point, real_at, play_on}
use Rattle.leftovers.specs.Leftovers.{standing, Mixing, Spares, Changes, AllSpare, EndAlike, Claim}
use Rattle.leftovers.proofs.Instructions.{AllIn, HalfOk}
use Rattle.leftovers.proofs.Lengths.{play-length}
use Rattle.leftovers.proofs.Words.{to_kept, from_kept}
use Rattle.leftovers.proofs.Points.{whole, play_from, stood, play-on, spares}
use Rattle.leftovers.proofs.Branches.{Sound, Same}
use Rattle.leftovers.proofs.Jumping.{Fair}
use Rattle.leftovers.proofs.Sought.{none≢some}
use Rattle.leftovers.proofs.Sheets.{as_lowered, all_in, read_back, answers}

module _ (s : Sheet) (v : AllIn (length s.constants) s.instructions) (f : length s.constants ≤ 251) where
  v' : AllIn (length (whole s).after.consts) s.instructions
  v' = all_in s v f

  l : Lowered
  l = as_lowered s

  stands : (i : ℕ) (σ : Store) (j : ℕ) → standing l i σ j ≡ stood s i σ j
  unfolding l
  stands i σ j =
      ap (λ (rs : List Record). reach (whole s).after.consts (block rs) going (point s j - point s i) (drop (point s i) rs) σ)
      (ap (λ d. d.items) (read_back s v f))

  -- from its point to the next higher one reached
  spares-next : (i n : ℕ) (σ α β : Store) → Changes l i σ (i + n) α β
      → Spares (real_at s (i + n)) (get_or s.instructions (i + n) Instruction.Nop) α β
  unfolding l
  spares-next i n σ α β c =
      spares s v' i n x below σ α β (sym (stands i σ (i + n)) ∙ c.before) (sym (stands i σ (i + (n + suc x))) ∙ subst (λ (y : ℕ). standing l i σ y ≡ some β) next c.after)
      (λ y h. sym (stands i σ (i + (n + suc y))) ∙ c.first (i + (n + suc y)) (omega arith) (omega (arith, h, next)))
    where
      x : ℕ
      x = c.next - (i + suc n)

      next : c.next ≡ i + (n + suc (c.next - (i + suc n)))
      next = let h = c.higher in omega arith

      below : n < length (drop i s.instructions)
      below =
          let h = c.higher in
          let g = c.within in
          omega (arith, length-drop i s.instructions)

  all-spare : (i : ℕ) (σ : Store) → AllSpare l i σ
  unfolding l
  all-spare i σ j α β c =
      subst (λ (j : ℕ). Changes l i σ j α β → Spares (real_at s j) (get_or s.instructions j Instruction.Nop) α β) (sym split)
      (spares-next i (j - i) σ α β) c
    where
      split : j ≡ i + (j - i)
      split =
          let h = c.from in
          omega arith

  -- no Half that is reached stands in the way
  half-ok : (i : ℕ) (σ : Store) → (Mixing l i σ → ⊥) → (n : ℕ) (α : Store) → n < length (drop i s.instructions) → stood s i σ (i + n) ≡ some α
      → HalfOk s.mode (real_at s (i + n)) (get_or (drop i s.instructions) n Instruction.Nop)
  unfolding l
  half-ok i σ g n α h e t d a f x = go (is_real_reg (real_at s (i + n)) d) refl
    where
      go : (y : Bool) → is_real_reg (real_at s (i + n)) d ≡ y → y ≡ true
      go true q = refl
      go false q =
          absurd (g (record {
            j = i + n;
            d = d;
            a = a;
            α = α;
            not_minding = t;
            later = omega arith;
            is_half = sym (get_or-drop i s.instructions n Instruction.Nop) ∙ f;
            reached = stands i σ (i + n) ∙ e;
            from_real = x;
            into_complex = q;
          }))

  module _ (f₀ : Fair [] (whole s).records) (d : Sound (whole s).after.consts (block (whole s).records) s.mode s.instructions (start_state s.places s.constants))
      (room : length (encode_all (whole s).records) ≤ 65536) where
    plays : (i : ℕ) (σ : Store) → length σ ≡ 1602 → play_on l i σ ≡ accept (length (whole s).records) (play_from s i σ)
    unfolding l
    plays i σ h = answers s v f f₀ room i σ h

    end-alike : (i : ℕ) (σ τ : Store) → Alike (real_at s i) σ τ → (Mixing l i σ → ⊥) → EndAlike l i σ τ
    unfolding l
    end-alike i σ τ a g =
        let e = play-on s v' d i σ τ (to_kept a) (half-ok i σ g) in
        let p = plays i σ a.words in
        let q = plays i τ (sym a.same ∙ a.words) in
        let n =
        play-length (whole s).after.consts (block (whole s).records) going (drop (point s i) (whole s).records) σ ∙ a.words in
        record {
          played = ap (λ a. a.played) p ∙ e.played ∙ sym (ap (λ a. a.played) q);
          stores =
              subst (λ (x : Store). Alike (whole s).after.real x (play_on l i τ).store) (sym (ap (λ a. a.store) p))
              (subst (λ (y : Store). Alike (whole s).after.real (play_from s i σ).store y) (sym (ap (λ a. a.store) q))
              (from_kept n e.agree));
        }

    pub claim : (σ₀ : Store) → length σ₀ ≡ 1602 → (i : ℕ) (σ τ : Store) → Alike (real_at s i) σ τ → Claim (as_lowered s) σ₀ i σ τ
    unfolding l
    claim σ₀ h i σ τ a =
        record {
          accepted = ap (λ a. a.number) (plays 0 σ₀ h);
          accepted_on = ap (λ a. a.number) (plays i σ a.words);
          accepted_changed = ap (λ a. a.number) (plays i τ (sym a.same ∙ a.words));
          ending = end-alike i σ τ a;
          spared = all-spare 0 σ₀;
          spared_on = all-spare i σ;
          spared_changed = all-spare i τ;
        }
