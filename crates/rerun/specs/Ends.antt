-- What one turn of `rerun` does, over the lent slice: k are the constants of the finished instructions, and an output holds those that the
-- instruction added.
use Rattle.std.specs.Prelude.{ℕ, ◌≤◌, ◌<◌, ◌≡◌, refl, cond, List, length, leb}
use Rattle.std.proofs.Common.{sym, ◌∙◌, append-nil, arith, le-leb}
use Rattle.std.proofs.Math.Path.{ap}
use Rattle.std.proofs.lemmas.Bool.{lt-leb}
use Rattle.mir.specs.Encode.{Buf, buf}
use Rattle.lowering.specs.Complexifier.{State, Out, unlisted}
use Rattle.mir.specs.declared.writer.Writer.{Writer}
use Rattle.mir.specs.Writing.{written, push_all}
use Rattle.complexifier.specs.declared.state.Complexifier.{Complexifier}
use Rattle.complexifier.specs.Does.{state}
use Rattle.rerun.specs.declared.output.Added.{Added}
use Rattle.rerun.specs.declared.output.Output.{Output}
use Rattle.rerun.specs.Added.{none, table, Zeros}
use Rattle.rerun.specs.Adds.{Adds}

pub record Ends (b : Buf) (s : Complexifier) (k : List ℕ) (f : State → Out) (o : List ℕ) (r : Output) : Type 0 where
  pub listed : buf o r.at ≡ push_all b (f (state s k)).records
  pub kept : state r.low (table k r.added) ≡ (f (state s k)).after
  pub few : r.added.count ≤ 3
  pub zeros : Zeros r.added

-- a method that lists nothing where there are more constants than a table holds
abbrev pub tabled : (State → Out) → State → Out
tabled f s = cond (leb (length s.consts) 256) (f s) (unlisted s)

module _ {b : Buf} {s : Complexifier} {k o : List ℕ} {r : Output} where
  -- as many constants as a table holds, or more
  pub few_constants : {f : State → Out} → length k ≤ 256 → Ends b s k f o r → Ends b s k (tabled f) o r
  few_constants {f} h p =
      record {
        listed = p.listed ∙ ap (λ x. push_all b (cond x (f (state s k)) (unlisted (state s k))).records) (sym (le-leb _ _ h));
        kept = p.kept ∙ ap (λ x. (cond x (f (state s k)) (unlisted (state s k))).after) (sym (le-leb _ _ h));
        few = p.few;
        zeros = p.zeros;
      }

  pub many-constants : (f : State → Out) → 256 < length k → Ends b s k unlisted o r → Ends b s k (tabled f) o r
  many-constants f h p =
      record {
        listed = p.listed ∙ ap (λ x. push_all b (cond x (f (state s k)) (unlisted (state s k))).records) (sym (lt-leb _ _ h));
        kept = p.kept ∙ ap (λ x. (cond x (f (state s k)) (unlisted (state s k))).after) (sym (lt-leb _ _ h));
        few = p.few;
        zeros = p.zeros;
      }

  pub untabled : (f : State → Out) → length k ≤ 256 → Ends b s k (tabled f) o r → Ends b s k f o r
  untabled f h p =
      record {
        listed = p.listed ∙ ap (λ x. push_all b (cond x (f (state s k)) (unlisted (state s k))).records) (le-leb _ _ h);
        kept = p.kept ∙ ap (λ x. (cond x (f (state s k)) (unlisted (state s k))).after) (le-leb _ _ h);
        few = p.few;
        zeros = p.zeros;
      }

-- nothing listed and nothing added
pub idle : {s : Complexifier} {k o : List ℕ} {at : ℕ} {a : Added} → a ≡ none
    → Ends (buf o at) s k unlisted o (record { low = s; at = at; added = a })
unfolding unlisted
idle {s} {k} e =
    record {
      listed = refl;
      kept = ap (λ a. state s (table k a)) e ∙ ap (state s) (append-nil k);
      few = rw e (omega arith);
      zeros = rw e refl;
    }

-- what a writer of the lent slice listed
pub ended : {w v : Writer} {s t : Complexifier} {k : List ℕ} {f : State → Out} {a : Added} {l o : List ℕ} {at : ℕ}
    → written w ≡ buf l at → Adds w s k f v t a → v.bytes.now ≡ o
    → Ends (buf l at) s k f o (record { low = t; at = v.at; added = a })
ended {v = v} {s = s} {k = k} {f = f} e p g =
    record {
      listed = ap (λ o. buf o v.at) (sym g) ∙ p.listed ∙ ap (λ b. push_all b (f (state s k)).records) e;
      kept = p.kept;
      few = p.few;
      zeros = p.zeros;
    }
