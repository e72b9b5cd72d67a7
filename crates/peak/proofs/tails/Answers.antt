-- No word yet; a word more in front; and all words of the block.
use Rattle.std.proofs.Common.{arith, ◌≡◌, ◌+◌, ◌-◌, sym, ap, ◌∙◌, get_or}
use mathlib.Core.Path.{ap₂}
use lib.Seq.{slice}
use Rattle.peak.specs.Peak.{larger, largest}
use Rattle.peak.specs.Blocks.{Tails}
use Rattle.peak.proofs.Windows.{largest_none, largest_cons, stored}
use Rattle.peak.proofs.tails.Goals as goal

pub loop-j-init : goal.loop-j-init
loop-j-init c =
    let a = c.args in
    let e : a.s ≡ a.s + a.w - a.w = omega arith in record {
      best = largest_none a.s a.run.now ∙ ap (λ f. largest (slice f a.s a.run.now)) e;
      stored = λ k p q. absurd (omega arith);
    }

pub loop-j-preserved : goal.loop-j-preserved
loop-j-preserved c =
    let a = c.args in
    let l = c.loop-j in
    let f : a.s + (l.j - 1) - a.w + 1 ≡ a.s + l.j - a.w = omega arith in
    let g : a.s - a.w + (l.j - 1) ≡ a.s + (l.j - 1) - a.w = omega arith in
    let h : a.s + (l.j - 1) + 1 - a.w ≡ a.s + l.j - a.w = omega arith in record {
      best = c.larger-best.ensures
          ∙ ap₂ (λ x y. larger (get_or a.run.now x 0) y) g (l.invariant.best ∙ ap (λ x. largest (slice x a.s a.run.now)) (sym f))
          ∙ largest_cons (a.s + (l.j - 1) - a.w) a.s a.run.now (omega arith) (omega arith);
      stored = stored l.tail (l.j - 1) l.best a.w (λ k. largest (slice (a.s + k + 1 - a.w) a.s a.run.now)) (omega arith)
          (l.invariant.best ∙ ap (λ x. largest (slice x a.s a.run.now)) (sym h)) (λ k p q. l.invariant.stored k (omega arith) q);
    }

pub returns : goal.returns
unfolding Tails
returns c = λ j h. c.loop-j.invariant.stored j (omega arith) h
