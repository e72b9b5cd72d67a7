-- `run_marked` meets its contract.
use borrow.Author.Rules.{rules}
use mathlib.Core.Path.{refl, sym, ◌∙◌}
use mathlib.Core.Bool.{true≢false}
use lib.ListN.{drop, replicate}
use Rattle.refusals.proofs.Searching.{bytes_behind, begin-noted}
use Rattle.figures.proofs.entry.run_marked.Statement.{statement}
use Rattle.figures.proofs.entry.run_marked.Tie as tie

pub run_marked_spec : {M : Type 1} → statement M
run_marked_spec =
    tie.close
    (tie.spec
    (λ c. search rules) (λ c κs. search rules) (λ c. search rules) (λ c. search rules)
    (λ c κs. let b = c.before.before.before.before.before.before.before.before.before in let s = b.args.sheet.now in
    (b.requires.0, (b.requires.1, begin-noted (drop b.args.start.at s) (replicate 256 0) _ _ _ (bytes_behind s b.args.start.at (λ i. (c.shared_slice_known-1.given i).fits)) refl c.find_labels.ensures (λ e. refl))))
    (λ c. search rules)
    (λ c. c.run.ensures)
    (λ c. search rules) (λ c. search rules)
    (λ c κs. let b = c.before.before.before.before.before.before.before.before.before in let s = b.args.sheet.now in
    (b.requires.0, (b.requires.1, begin-noted (drop b.args.start.at s) (replicate 256 0) _ _ _ (bytes_behind s b.args.start.at (λ i. (c.shared_slice_known-1.given i).fits)) refl c.find_labels.ensures (λ e. absurd (true≢false (sym e ∙ c.if-find_labels.false))))))
    (λ c. search rules)
    (λ c. c.run-2.ensures))
