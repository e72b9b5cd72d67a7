-- What refuses a play by what the passes find, and the play by it: refused, or by the positions that were found.
use Prim.Native.Nat.{ℕ, ◌≤◌}
use mathlib.Core.Path.{◌≡◌, refl, sym, ap, ◌∙◌, subst}
use mathlib.Core.List.{List}
use lib.ListN.{length, drop}
use borrow.Author.Tests.{le-ltb, eq-eqb, ne_eqb}
use Rattle.records.specs.Record.{records}
use Rattle.player_machine.specs.Machine.{Store, works, block, play, going}
use Rattle.player_machine.specs.Jumps.{breach}
use Rattle.player_machine.specs.Answer.{accept, answer}
use Rattle.player_machine.specs.Refusal.{Refusal, refusal, answer_by}
use Rattle.player_machine.proofs.Refusing.{Accepted, refused, accepted}
use Rattle.player.specs.declared.Verdict.{Verdict}
use Rattle.player.specs.declared.passes.Examination.{Examination}
use Rattle.player.specs.Positions.{left, on_from, Behind, Examined, Judged, Played}

-- a refusal, by the number that is not 0
pub turned-away : {s : List ℕ} {constants start words : ℕ} {v : Verdict} {number index : ℕ}
    → v ≡ record { number = number; index = index; body = 0; from = 0 } → (number ≡ 0 → ⊥)
    → record { number = number; index = index } ≡ refusal s constants start words → Judged s constants start words v
turned-away {s} {constants} {start} {words} e n h =
    subst (Judged s constants start words) (sym e)
    (record { same = h; refused = λ z. (refl, refl); body = λ z. absurd (n z); from = λ z. absurd (n z) })

module _ {s : List ℕ} {constants start words : ℕ} where
  pub let-in : {x : Examination} {b at : ℕ} → length s ≤ 65536 → constants ≤ 256 → words ≡ 1602 → Examined constants s x → x.number ≡ 0
      → start ≤ x.index → b ≡ breach (records constants s).items → x.index ≤ b → Behind s 0 start at
      → Judged s constants start words (record { number = 0; index = x.index; body = x.body; from = at })
  unfolding refusal
  let-in {x} {b} {at} h1 h2 h3 e h4 h5 h6 h7 k =
      record {
        same = simp (le-ltb _ _ h1, le-ltb _ _ h2, eq-eqb _ _ h3, ← e.number, eq-eqb _ _ h4, ← e.index, le-ltb _ _ h5, ← h6, le-ltb _ _ h7);
        refused = λ n. absurd (n refl);
        body = λ z. e.body;
        from = λ z. k;
      }

  -- what is known where nothing refuses
  pub judged : {v : Verdict} → Judged s constants start words v → v.number ≡ 0 → Accepted s constants start words
  judged j z = accepted s constants start words (ap (λ (r : Refusal). r.number) (sym j.same) ∙ z)

module _ (constants s : List ℕ) (start : ℕ) (σ : Store) {v : Verdict} (j : Judged s (length constants) start (length σ) v) where
  by-verdict : answer s constants start σ
      ≡ answer_by (record { number = v.number; index = v.index }) σ
      (play constants (block (records (length constants) s).items) going (drop start (records (length constants) s).items) σ)
  by-verdict =
      refused s constants start σ
      ∙ ap (λ (r : Refusal). answer_by r σ
      (play constants (block (records (length constants) s).items) going (drop start (records (length constants) s).items) σ))
      (sym j.same)

  pub refused-play : (v.number ≡ 0 → ⊥)
      → record { number = v.number; index = v.index; played = 0; store = σ } ≡ answer s constants start σ
  refused-play n = sym (by-verdict ∙ simp (ne_eqb _ _ n))

  same-play : v.number ≡ 0
      → play constants (block (records (length constants) s).items) going (drop start (records (length constants) s).items) σ
      ≡ on_from constants s v.body v.from σ
  unfolding block
  same-play z =
      ap (λ l. play constants (works l) going (drop start (records (length constants) s).items) σ) (sym (j.body z).same)
      ∙ ap (λ l. play constants (works (left (length constants) s v.body)) going l σ)
      (sym ((j.from z).same (length constants) (judged j z).sound))

  pub answered : {n : ℕ} {τ : Store} → v.number ≡ 0 → Played constants s v.body v.from σ τ n
      → record { number = 0; index = v.index; played = n; store = τ } ≡ answer s constants start σ
  answered z p = sym (by-verdict ∙ simp (eq-eqb _ _ z) (ap (accept v.index) (same-play z ∙ p.same)))
