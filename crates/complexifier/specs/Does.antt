-- What a method does: from a writer, and the state that the code carries, to both after it. The methods here touch no constants, so
-- each of them does the same whatever the constants are.
use Rattle.std.specs.Prelude.{ℕ, ◌≡◌, refl, Bool, List, [], ◌∷◌, map}
use Rattle.std.proofs.Math.Path.{ap}
use Rattle.std.proofs.Common.{◌∙◌}
use Rattle.mir.specs.declared.records.Loc.{Loc}
use Rattle.mir.specs.declared.records.Work.{Work}
use Rattle.mir.specs.declared.records.Record.{Record}
use Rattle.mir.specs.declared.writer.Writer.{Writer}
use Rattle.mir.specs.Writing.{written, Lists, push_all, push_all_append}
use Rattle.lowering.specs.declared.realness.Realness.{Realness}
use Rattle.lowering.specs.Realness.{is_real_reg, is_real_loc, set_reg}
use Rattle.lowering.specs.Lines.{load_lines}
use Rattle.lowering.specs.Complexifier.{State, Out, with_real, then, directed, emit, one_by_one, by_two, load_from}
use Rattle.complexifier.specs.declared.state.Complexifier.{Complexifier}

-- the state that the code carries, beside the constants
abbrev pub state : Complexifier → List ℕ → State
state c k = record { real = c.real; is_root_defined = c.root_defined; consts = k }

-- another record of realness
abbrev pub recorded : Complexifier → Realness → Complexifier
recorded c ρ = record { real = ρ; root_defined = c.root_defined }

-- from b and s, the method f leads to c and t
pub record Does (b : Writer) (s : Complexifier) (f : State → Out) (c : Writer) (t : Complexifier) : Type 0 where
  pub lent : c.bytes.ghost_name ≡ b.bytes.ghost_name
  pub listed : (k : List ℕ) → written c ≡ push_all (written b) (f (state s k)).records
  pub kept : (k : List ℕ) → state t k ≡ (f (state s k)).after

-- two methods one after the other
infixl 30 ◌▸◌
pub ◌▸◌ : {b c d : Writer} {s t u : Complexifier} {f g : State → Out} → Does b s f c t → Does c t g d u
    → Does b s (λ s. then (f s) g) d u
unfolding then
◌▸◌ {b} {c} {d} {s} {t} {u} {f} {g} p q =
    record {
      lent = q.lent ∙ p.lent;
      listed = λ k.
          q.listed k
          ∙ ap (λ x. push_all (written c) (g x).records) (p.kept k)
          ∙ ap (λ x. push_all x (g (f (state s k)).after).records) (p.listed k)
          ∙ simp push_all_append;
      kept = λ k. q.kept k ∙ ap (λ x. (g x).after) (p.kept k);
    }

-- one record that directs the play, and nothing recorded
pub directs : {b c : Writer} {s : Complexifier} (r : Record) → Lists b (r ∷ []) c → Does b s (directed r) c s
unfolding directed
directs r p = record { lent = p.lent; listed = λ k. p.same; kept = λ k. refl }

-- the lines of a method, and what it records for a register
module _ {b c : Writer} {s t : Complexifier} where
  pub made : (l : List Work) (d : ℕ) (f : Bool) → Lists b (map Record.Work l) c → t ≡ recorded s (set_reg s.real d f)
      → Does b s (λ s. emit s l d f) c t
  unfolding emit
  made l d f p e = record { lent = p.lent; listed = λ k. p.same; kept = λ k. ap (λ x. state x k) e }

  -- records listed, and the record changed
  pub listing : (l : List Record) (h : Realness → Realness) → Lists b l c → t ≡ recorded s (h s.real)
      → Does b s (λ s. record { records = l; after = with_real s (h s.real) }) c t
  listing l h p e = record { lent = p.lent; listed = λ k. p.same; kept = λ k. ap (λ x. state x k) e }

  -- by the realness of one operand
  pub made₁ : (l : Bool → ℕ → ℕ → List Work) (g : Bool → Bool) (d a : ℕ) {x : Bool} → x ≡ is_real_reg s.real a
      → Lists b (map Record.Work (l x d a)) c → t ≡ recorded s (set_reg s.real d (g (is_real_reg s.real a)))
      → Does b s (one_by_one l g d a) c t
  unfolding one_by_one
  made₁ l g d a e p h =
      record { lent = p.lent; listed = λ k. p.same ∙ ap (λ x. push_all (written b) (map Record.Work (l x d a))) e; kept = λ k. ap (λ x. state x k) h }

  -- by the realness of two operands
  pub made₂ : (l : Bool → Bool → ℕ → ℕ → ℕ → List Work) (g : Bool → Bool → Bool) (d a₁ a₂ : ℕ) {x y : Bool}
      → x ≡ is_real_reg s.real a₁ → y ≡ is_real_reg s.real a₂
      → Lists b (map Record.Work (l x y d a₁ a₂)) c
      → t ≡ recorded s (set_reg s.real d (g (is_real_reg s.real a₁) (is_real_reg s.real a₂)))
      → Does b s (by_two l g d a₁ a₂) c t
  unfolding by_two
  made₂ l g d a₁ a₂ {x} {y} e i p h =
      record {
        lent = p.lent;
        listed = λ k.
            p.same
            ∙ ap (λ x. push_all (written b) (map Record.Work (l x y d a₁ a₂))) e
            ∙ ap (λ y. push_all (written b) (map Record.Work (l (is_real_reg s.real a₁) y d a₁ a₂))) i;
        kept = λ k. ap (λ x. state x k) h;
      }

  -- by the realness of a place
  pub loaded : (d : ℕ) (p : Loc) {x : Bool} → x ≡ is_real_loc s.real.places p → Lists b (map Record.Work (load_lines x d p)) c
      → t ≡ recorded s (set_reg s.real d x) → Does b s (load_from d p) c t
  unfolding load_from
  loaded d p e l h =
      record {
        lent = l.lent;
        listed = λ k. l.same ∙ ap (λ x. push_all (written b) (map Record.Work (load_lines x d p))) e;
        kept = λ k. ap (λ x. state x k) h ∙ ap (λ x. state (recorded s (set_reg s.real d x)) k) e;
      }
