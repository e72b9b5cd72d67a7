-- `case::all_words` meets its contract. Assumes nothing.
use borrow.Author.Rules.{rules}
use mathlib.Core.Path.{refl}
use Rattle.sheet_replay.specs.Case.{lent_words}
use Rattle.sheet_replay.proofs.case.all_words.Statement.{statement}
use Rattle.sheet_replay.proofs.case.all_words.Tie as tie

pub all_words_spec : {M : Type 1} → statement M
unfolding lent_words
all_words_spec =
    tie.close
    (tie.spec
    (λ c. (refl, search rules)))
