-- No position yet, and one more: at the end of its block, or within it.
use Rattle.std.proofs.Common.{arith, rules, refl, sym, subst, ◌≡◌, ◌+◌, ◌-◌, ap, ◌∙◌}
use lib.ListN.{set}
use lib.Seq.{slice}
use Rattle.peak.specs.Peak.{larger, largest, filled}
use Rattle.peak.specs.Blocks.{Tails}
use Rattle.peak.proofs.Windows.{largest_none, tails_none, here_next, out_next}
use Rattle.peak.proofs.fill.Goals as goal
use Rattle.peak.proofs.fill.Goals.{then-j-w, else-j-w}

pub loop-i-init : goal.loop-i-init
unfolding filled
loop-i-init c =
    let a = c.args in record {
      behind = search rules;
      within = search rules;
      here = largest_none 0 a.run.now;
      tails = tails_none a.run.now a.w (omega arith);
      done = refl;
    }

pub loop-i-preserved : goal.loop-i-preserved
loop-i-preserved c =
    let a = c.args in
    let l = c.loop-i in
    let run = a.run.now in
    let here : c.larger-here.result ≡ largest (slice (l.i - l.j) (l.i + 1) run) =
    here_next run l.i l.j l.here (omega arith) (omega arith) l.invariant.here (c.larger-here.ensures ∙ ap (larger l.here) c.larger.ensures) in
    let out = ap (λ x. set x l.i c.larger-in-loop-i.result) l.invariant.done
    ∙ out_next run a.out.now l.tail a.w l.i l.j (omega arith) (omega arith) (omega arith) l.invariant.tails here c.larger-in-loop-i.ensures in
    elim c.if-j-w.branch [
      | then-j-w w ↦ (
          let e : l.i + 1 ≡ l.i + 1 - c.if-j-w.j = omega arith in record {
            behind = omega arith;
            within = omega arith;
            here = w.here-is ∙ largest_none (l.i + 1) run ∙ ap (λ x. largest (slice x (l.i + 1) run)) e;
            tails = subst (λ t. Tails run a.w (l.i + 1 - c.if-j-w.j) t) (sym w.tail-is) (subst (λ x. Tails run a.w x w.tails.new.tail) e w.tails.ensures);
            done = out;
          })
      | else-j-w w ↦ (
          let e : l.i - l.j ≡ l.i + 1 - c.if-j-w.j = omega arith in record {
            behind = omega arith;
            within = omega arith;
            here = w.here-is ∙ here ∙ ap (λ x. largest (slice x (l.i + 1) run)) e;
            tails = subst (λ t. Tails run a.w (l.i + 1 - c.if-j-w.j) t) (sym w.tail-is) (subst (λ x. Tails run a.w x l.tail) e l.invariant.tails);
            done = out;
          })
    ]
