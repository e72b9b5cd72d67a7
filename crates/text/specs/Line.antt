-- A line of at most 80 bytes, to which text is added.
use Rattle.std.specs.Prelude.{ℕ, ◌+◌, ◌≤◌, ◌≡◌, refl, cond, List, [], ◌∷◌, ◌++◌, length, take, set, replicate, ltb}
use Rattle.std.proofs.Common.{ap, ◌∙◌}
use Rattle.text.specs.declared.line.Line.{Line}

-- a line with no text
abbrev pub empty_line : Line
empty_line = record { bytes = replicate 80 0; len = 0 }

-- one byte more; a full line stays as it is
unfoldable pub added : Line → ℕ → Line
added l b = cond (ltb l.len 80) (record { bytes = set l.bytes l.len b; len = l.len + 1 }) l

-- bytes added one after the other
abbrev pub add_all : Line → List ℕ → Line
add_all l [] = l
add_all l (b ∷ text) = add_all (added l b) text

-- m is l with the text added: one equation, as a record so that the laws below find their arguments
pub record Adds (l : Line) (text : List ℕ) (m : Line) : Type 0 where
  pub same : m ≡ add_all l text

pub add_all_append : (l : Line) (a b : List ℕ) → add_all l (a ++ b) ≡ add_all (add_all l a) b
add_all_append l [] b = refl
add_all_append l (x ∷ a) b = add_all_append (added l x) a b

-- nothing added
pub none : {l : Line} → Adds l [] l
none = record { same = refl }

-- text added after other text
infixl 30 ◌▹◌
pub ◌▹◌ : {l m n : Line} {a b : List ℕ} → Adds l a m → Adds m b n → Adds l (a ++ b) n
◌▹◌ {l} {m} {n} {a} {b} p q = record { same = q.same ∙ ap (λ t. add_all t b) p.same ∙ simp add_all_append }

-- the line's text is this one, and nothing of it was cut
pub record Holds (l : Line) (text : List ℕ) : Type 0 where
  pub size : length l.bytes ≡ 80
  pub count : l.len ≡ length text
  pub fits : l.len ≤ 80
  pub bytes : take (length text) l.bytes ≡ text

-- r is an empty line with the text added, and holds all of it
pub record Prints (text : List ℕ) (r : Line) : Type 0 where
  pub same : r ≡ add_all empty_line text
  pub whole : Holds r text
