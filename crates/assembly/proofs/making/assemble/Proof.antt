-- `making::assemble` meets its contract.
use borrow.Author.Rules.{rules}
use native.Mathlib.Omega.{arith}
use mathlib.Core.Path.{ap, ◌∙◌}
use lib.ListN.{length}
use Rattle.assembly.proofs.Writing.{written-long, written-short}
use Rattle.assembly.proofs.making.assemble.Statement.{statement}
use Rattle.assembly.proofs.making.assemble.Tie as tie

pub assemble_spec : {M : Type 1} → statement M
assemble_spec =
    tie.close
    (tie.spec
    (λ c κs. search rules)
    (λ c.
    let e = written-long c.args.t.now (omega arith) in
    let r = c.too_long.ensures in
    (r.0 ∙ e, r.1 ∙ ap length e))
    (λ c κs. search rules)
    (λ c.
    let e = written-short c.args.t.now (omega arith) in
    let r = c.sheet_or_refusal.ensures in
    (r.0 ∙ e, r.1 ∙ ap length e)))
