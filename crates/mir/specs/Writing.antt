-- What a writer holds, and what it holds after records were listed one after the other.
use Rattle.std.specs.Prelude.{◌≡◌, refl, List, [], ◌∷◌, ◌++◌}
use Rattle.std.proofs.Common.{ap, ◌∙◌}
use Rattle.mir.specs.Encode.{Buf, buf, pushed}
use Rattle.mir.specs.declared.records.Record.{Record}
use Rattle.mir.specs.declared.writer.Writer.{Writer}

-- the lent slice as it stands, and the position in it
abbrev pub written : Writer → Buf
written w = buf w.bytes.now w.at

-- records written one after the other
abbrev pub push_all : Buf → List Record → Buf
push_all b [] = b
push_all b (r ∷ rs) = push_all (pushed b r) rs

-- v holds what w holds with the records l written, in the same lent slice: a record, so that the laws below find their arguments
pub record Lists (w : Writer) (l : List Record) (v : Writer) : Type 0 where
  pub lent : v.bytes.ghost_name ≡ w.bytes.ghost_name
  pub same : written v ≡ push_all (written w) l

pub push_all_append : (b : Buf) (k l : List Record) → push_all b (k ++ l) ≡ push_all (push_all b k) l
push_all_append b [] l = refl
push_all_append b (r ∷ k) l = push_all_append (pushed b r) k l

-- nothing listed
pub none : {w : Writer} → Lists w [] w
none = record { lent = refl; same = refl }

-- records listed after others
infixl 30 ◌▹◌
pub ◌▹◌ : {u v w : Writer} {k l : List Record} → Lists u k v → Lists v l w → Lists u (k ++ l) w
◌▹◌ {u} {v} {w} {k} {l} p q =
    record { lent = q.lent ∙ p.lent; same = q.same ∙ ap (λ b. push_all b l) p.same ∙ simp push_all_append }
