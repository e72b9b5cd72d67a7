-- `numbers::count_at` meets its contract: the lower half of a word. Assumes nothing.
use Rattle.std.proofs.Common.{ℕ, ◌+◌, ◌%◌, drop, ap, ◌∙◌, arith, get_or-drop, rules}
use Rattle.words.specs.Bytes.{word_at}
use Rattle.words.proofs.Copying.{low_half}
use Rattle.replay.specs.Numbers.{u32_at}
use Rattle.replay.proofs.numbers.count_at.Statement.{statement}
use Rattle.replay.proofs.numbers.count_at.Tie as tie

pub count_at_spec : {M : Type 1} → statement M
unfolding u32_at word_at
count_at_spec =
    tie.close
    (tie.spec
    (λ c κs. search rules)
    (λ c. let a = c.args in let e = c.word_at.ensures in (ap (λ (w : ℕ). w % 4294967296) e ∙ low_half (drop a.i a.s.now) (λ k. rw (get_or-drop a.i a.s.now k 0) (c.shared_slice_known-1.given (a.i + k)).fits), omega arith)))
