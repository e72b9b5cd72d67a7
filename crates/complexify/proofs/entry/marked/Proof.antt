-- `marked` meets its contract: the bytes that the pass is lent are those written.
use borrow.Author.Rules.{rules}
use mathlib.Core.Path.{ap, ◌∙◌}
use native.Mathlib.Nat.{sub-zero}
use lib.ListN.{take}
use Rattle.complexify.proofs.entry.marked.Statement.{statement}
use Rattle.complexify.proofs.entry.marked.Tie as tie

pub marked_spec : {M : Type 1} → statement M
marked_spec =
    tie.close
    (tie.spec
    (λ c. search rules) (λ c. search rules) (λ c. search rules) (λ c κs. search rules)
    (λ c rs e.
    let a = c.args in
    let s = a.stop in
    let m = c.marks_of-marks.ensures rs (ap (λ n. take n a.listing.now) (sub-zero s.written) ∙ e) in
    λ j. record { number = s.number; index = s.index; written = s.written; count = s.count; real = s.real; filled = (m j).filled; drawn = (m j).drawn }))
