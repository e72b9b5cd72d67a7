-- `interface::put_marks` meets its contract: one row of marks, then the other.
use borrow.Author.Rules.{rules}
use mathlib.Core.Path.{ap, ◌∙◌}
use mathlib.Core.List.{map}
use Rattle.mir.specs.Encode.{flag_byte}
use Rattle.words.specs.Bytes.{stored}
use Rattle.interface.proofs.put_marks.Statement.{statement}
use Rattle.interface.proofs.put_marks.Tie as tie

pub put_marks_spec : {M : Type 1} → statement M
put_marks_spec =
    tie.close
    (tie.spec
    (λ c. search rules) (λ c κs. search rules) (λ c. search rules) (λ c κs. search rules) (λ c. search rules)
    (λ c. (
      c.put_flags-2.ensures ∙ ap (λ l. stored l 194 (map flag_byte c.args.drawn)) c.put_flags.ensures,
      search rules,
      search rules,
    )))
