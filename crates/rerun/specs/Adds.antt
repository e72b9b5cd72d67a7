-- What a method that may name constants does, beside `Does`: k are the constants of the finished instructions, and a holds those that the
-- instruction under way added.
use Rattle.std.specs.Prelude.{ℕ, ◌≤◌, ◌≡◌, refl, Bool, false, List, map}
use Rattle.std.proofs.Common.{◌∙◌, subst, append-nil, arith}
use Rattle.std.proofs.Math.Path.{ap}
use Rattle.mir.specs.declared.records.Work.{Work}
use Rattle.mir.specs.declared.records.Record.{Record}
use Rattle.mir.specs.declared.writer.Writer.{Writer}
use Rattle.mir.specs.Writing.{written, Lists, push_all, push_all_append}
use Rattle.lowering.specs.Realness.{is_real_reg, set_reg}
use Rattle.lowering.specs.Complexifier.{State, Out, then, unlisted, position, stable_const, with_three}
use Rattle.complexifier.specs.declared.state.Complexifier.{Complexifier}
use Rattle.complexifier.specs.Does.{Does, state, recorded}
use Rattle.rerun.specs.declared.constants.Three.{Three}
use Rattle.rerun.specs.declared.output.Added.{Added}
use Rattle.rerun.specs.Added.{none, table, Zeros, ThreeSought}

pub record Adds (b : Writer) (s : Complexifier) (k : List ℕ) (f : State → Out) (c : Writer) (t : Complexifier) (a : Added) : Type 0 where
  pub lent : c.bytes.ghost_name ≡ b.bytes.ghost_name
  pub listed : written c ≡ push_all (written b) (f (state s k)).records
  pub kept : state t (table k a) ≡ (f (state s k)).after
  pub few : a.count ≤ 3
  pub zeros : Zeros a

-- a method that names no constants adds none
pub plainly : {b c : Writer} {s t : Complexifier} {k : List ℕ} {f : State → Out} {a : Added} → Does b s f c t → a ≡ none → Adds b s k f c t a
plainly {t = t} {k = k} d e =
    record {
      lent = d.lent;
      listed = d.listed k;
      kept = ap (λ a. state t (table k a)) e ∙ ap (state t) (append-nil k) ∙ d.kept k;
      few = rw e (omega arith);
      zeros = rw e refl;
    }

-- a method that adds nothing, and then one that may
infixl 30 ◌▸▸◌
pub ◌▸▸◌ : {b c d : Writer} {s t u : Complexifier} {k : List ℕ} {f g : State → Out} {a : Added}
    → Does b s f c t → Adds c t k g d u a → Adds b s k (λ s. then (f s) g) d u a
unfolding then
◌▸▸◌ {b} {c} {d} {s} {t} {u} {k} {f} {g} p q =
    record {
      lent = q.lent ∙ p.lent;
      listed =
          q.listed
          ∙ ap (λ x. push_all (written c) (g x).records) (p.kept k)
          ∙ ap (λ x. push_all x (g (f (state s k)).after).records) (p.listed k)
          ∙ simp push_all_append;
      kept = q.kept ∙ ap (λ x. (g x).after) (p.kept k);
      few = q.few;
      zeros = q.zeros;
    }

-- a method that may add, and then one that adds nothing
infixl 30 ◌◂▸◌
pub ◌◂▸◌ : {b c d : Writer} {s t u : Complexifier} {k : List ℕ} {f g : State → Out} {a : Added}
    → Adds b s k f c t a → Does c t g d u → Adds b s k (λ s. then (f s) g) d u a
unfolding then
◌◂▸◌ {b} {c} {d} {s} {t} {u} {k} {f} {g} {a} p d' =
    record {
      lent = d'.lent ∙ p.lent;
      listed =
          d'.listed (table k a)
          ∙ ap (λ x. push_all (written c) (g x).records) p.kept
          ∙ ap (λ x. push_all x (g (f (state s k)).after).records) p.listed
          ∙ simp push_all_append;
      kept = d'.kept (table k a) ∙ ap (λ x. (g x).after) p.kept;
      few = p.few;
      zeros = p.zeros;
    }

-- nothing listed
pub stay : {b : Writer} {s : Complexifier} → Does b s unlisted b s
unfolding unlisted
stay = record { lent = refl; listed = λ k. refl; kept = λ k. refl }

module _ {b c : Writer} {s t : Complexifier} {k : List ℕ} {a : Added} where
  -- by whether the mode is stable
  pub by_mode : (g : Bool → State → Out) {x y : Bool} → x ≡ y → Adds b s k (g x) c t a → Adds b s k (g y) c t a
  by_mode g e p = subst (λ x. Adds b s k (g x) c t a) e p

  -- by the realness of one operand, or of two
  pub by_flag : (g : Bool → State → Out) (r : ℕ) {x : Bool} → x ≡ is_real_reg s.real r → Adds b s k (g x) c t a
      → Adds b s k (λ s. g (is_real_reg s.real r) s) c t a
  by_flag g r e p =
      record {
        lent = p.lent;
        listed = p.listed ∙ ap (λ x. push_all (written b) (g x (state s k)).records) e;
        kept = p.kept ∙ ap (λ x. (g x (state s k)).after) e;
        few = p.few;
        zeros = p.zeros;
      }

  pub by_flags : (g : Bool → Bool → State → Out) (r₁ r₂ : ℕ) {x y : Bool} → x ≡ is_real_reg s.real r₁ → y ≡ is_real_reg s.real r₂
      → Adds b s k (g x y) c t a → Adds b s k (λ s. g (is_real_reg s.real r₁) (is_real_reg s.real r₂) s) c t a
  by_flags g r₁ r₂ {x} {y} e h p =
      record {
        lent = p.lent;
        listed =
            p.listed
            ∙ ap (λ x. push_all (written b) (g x y (state s k)).records) e
            ∙ ap (λ y. push_all (written b) (g (is_real_reg s.real r₁) y (state s k)).records) h;
        kept =
            p.kept
            ∙ ap (λ x. (g x y (state s k)).after) e
            ∙ ap (λ y. (g (is_real_reg s.real r₁) y (state s k)).after) h;
        few = p.few;
        zeros = p.zeros;
      }

  -- lines that name three constants, and register d recorded as complex
  pub threefold : (u v w : ℕ) (l : ℕ → ℕ → ℕ → List Work) (d : ℕ) {x : Three} → ThreeSought k u v w x
      → Lists b (map Record.Work (l x.i x.j x.q)) c
      → t ≡ recorded s (set_reg s.real d false) → a ≡ x.added
      → Adds b s k (with_three u v w l d) c t a
  unfolding with_three
  threefold u v w l d {x} h p e f =
      record {
        lent = p.lent;
        listed =
            p.same
            ∙ ap (λ y. push_all (written b) (map Record.Work (l y x.j x.q))) h.first
            ∙ ap (λ y. push_all (written b) (map Record.Work (l (position u (stable_const u k)) y x.q))) h.second
            ∙ ap (λ y. push_all (written b) (map Record.Work (l (position u (stable_const u k)) (position v (stable_const v (stable_const u k))) y))) h.third;
        kept =
            ap (λ y. state y (table k a)) e
            ∙ ap (λ a. state (recorded s (set_reg s.real d false)) (table k a)) f
            ∙ ap (state (recorded s (set_reg s.real d false))) h.kept;
        few = rw f h.few;
        zeros = rw f h.zeros;
      }
