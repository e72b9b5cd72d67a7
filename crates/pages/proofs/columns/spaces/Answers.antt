-- No space yet, one more, and all.
use Rattle.std.proofs.Common.{arith, sym, ap, ◌∙◌, ◌+◌, ◌-◌}
use native.Mathlib.Nat.{sub-zero}
use Rattle.text.specs.Line.{add_all}
use Rattle.pages.specs.Pages.{spaces}
use Rattle.pages.proofs.Aligned.{turn, ended}
use Rattle.pages.proofs.columns.spaces.Goals as goal

pub loop-i-init : goal.loop-i-init
loop-i-init c = ap (λ k. add_all c.args.line (spaces k)) (sub-zero c.args.n)

pub loop-i-preserved : goal.loop-i-preserved
loop-i-preserved c =
    let n = c.args.n in
    let v = c.loop-i in
    ap (λ l. add_all l (spaces (n - (v._i + 1)))) c.byte-line.ensures.same ∙ turn v.line n v._i (omega arith) ∙ v.invariant

pub returns : goal.returns
returns c =
    let v = c.loop-i in
    record { same = sym (ended v.line c.args.n v._i (omega arith)) ∙ v.invariant }
