-- The root block: listed by the first Root, and by no later one.
use Prim.Native.Nat.{ℕ, ◌≤◌}
use mathlib.Core.Path.{◌≡◌, refl, sym, ap, ◌∙◌}
use mathlib.Core.Bool.{Bool, true, false}
use mathlib.Core.List.{List, append-nil}
use native.Mathlib.Omega.{arith}
use Rattle.mir.specs.declared.writer.Writer.{Writer}
use Rattle.lowering.specs.Lines.{root_block, plain_root_magnitude, stable_root_magnitude}
use Rattle.lowering.specs.Complexifier.{State, Out, define_root, around_block, position, stable_const, FLOOR_FINITE, EXP_MASK_FINITE, INFINITY}
use Rattle.mir.specs.Writing.{written, Lists, push_all}
use Rattle.complexifier.specs.declared.state.Complexifier.{Complexifier}
use Rattle.complexifier.specs.Does.{state}
use Rattle.rerun.specs.declared.output.Added.{Added}
use Rattle.rerun.specs.declared.constants.Three.{Three}
use Rattle.rerun.specs.Added.{none, table, ThreeSought}
use Rattle.rerun.specs.Adds.{Adds}

abbrev pub define : Bool → State → Out
define m s = define_root s.is_root_defined m s

-- by whether the block is listed
by_defined : {b c : Writer} {s t : Complexifier} {k : List ℕ} {a : Added} (m x : Bool) → s.root_defined ≡ x → Adds b s k (define_root x m) c t a
    → Adds b s k (define m) c t a
by_defined {b} {c} {s} {t} {k} {a} m x e p =
    record {
      lent = p.lent;
      listed = p.listed ∙ ap (λ x. push_all (written b) (define_root x m (state s k)).records) (sym e);
      kept = p.kept ∙ ap (λ x. (define_root x m (state s k)).after) (sym e);
      few = p.few;
      zeros = p.zeros;
    }

empty : (a : Added) → a ≡ none → a.count ≤ 3
empty a e = rw e (omega arith)

module _ {b : Writer} {s : Complexifier} {k : List ℕ} {a : Added} where
  pub root_before : (m : Bool) → s.root_defined ≡ true → a ≡ none → Adds b s k (define m) b s a
  unfolding define_root
  root_before m e h =
      by_defined m true e
      (record { lent = refl; listed = refl; kept = ap (λ a. state s (table k a)) h ∙ ap (state s) (append-nil k); few = empty a h; zeros = rw h refl })

abbrev pub defined : Complexifier → Complexifier
defined s = record { real = s.real; root_defined = true }

module _ {b c : Writer} {s : Complexifier} {k : List ℕ} (e : s.root_defined ≡ false) where
  pub root-plain : {a : Added} → a ≡ none → Lists b (around_block (root_block plain_root_magnitude)) c
      → Adds b s k (define false) c (defined s) a
  unfolding define_root
  root-plain {a} h p =
      by_defined false false e
      (record { lent = p.lent; listed = p.same; kept = ap (λ a. state (defined s) (table k a)) h ∙ ap (state (defined s)) (append-nil k); few = empty a h; zeros = rw h refl })

  pub root-stable : {t : Three} → ThreeSought k FLOOR_FINITE EXP_MASK_FINITE INFINITY t
      → Lists b (around_block (root_block (stable_root_magnitude t.i t.j t.q))) c
      → Adds b s k (define true) c (defined s) t.added
  unfolding define_root
  root-stable {t} h p =
      by_defined true false e
      (record {
        lent = p.lent;
        listed =
            p.same
            ∙ ap (λ x. push_all (written b) (around_block (root_block (stable_root_magnitude x t.j t.q)))) h.first
            ∙ ap (λ x. push_all (written b) (around_block (root_block (stable_root_magnitude (position FLOOR_FINITE (stable_const FLOOR_FINITE k)) x t.q)))) h.second
            ∙ ap
            (λ x.
            push_all (written b)
            (around_block
            (root_block
            (stable_root_magnitude (position FLOOR_FINITE (stable_const FLOOR_FINITE k))
            (position EXP_MASK_FINITE (stable_const EXP_MASK_FINITE (stable_const FLOOR_FINITE k))) x))))
            h.third;
        kept = ap (state (defined s)) h.kept;
        few = h.few;
        zeros = h.zeros;
      })
