-- One point further, and the answer behind the last.
use Rattle.std.proofs.Common.{arith, refl, sym, ap, ◌∙◌, subst, cond, ◌+◌, ◌*◌, get_or, drop}
use mathlib.Core.Option.{none, some}
use mathlib.Core.Logic.{inl, inr}
use lib.Dec.{T}
use lib.Ieee.{Float, binary64, fits, of_bits, to_bits, div, is_nan}
use lib.Ieee.Fits.{add-fits}
use Rattle.float.specs.Word.{value}
use Rattle.nearest.specs.Nearest.{candidates, not_farther, better, fold, best_of, told}
use Rattle.nearest.specs.Apart.{apart}
use Rattle.nearest.proofs.Distances.{looked-at, held, joined, nan_differs, number_same}
use Rattle.nearest.proofs.Points.{next, ended}
use Rattle.nearest.proofs.search.Goals as goal
use Rattle.nearest.proofs.search.Goals.{then-wins, else-wins}

pub loop-i-init : goal.loop-i-init
unfolding best_of fits of_bits div is_nan fold
loop-i-init c = record { number = tt; best = refl }

pub loop-i-preserved : goal.loop-i-preserved
unfolding fold
loop-i-preserved c =
    let a = c.args in
    let l = c.loop-i in
    let far = c.distance-far.result in
    let x = c.read-x.ensures in
    let y = c.read-y.ensures in
    let same = c.distance-far.ensures ∙ λ j. apart (x j) (y j) (value (get_or a.points.now (2 * l.i) 0)) (value (get_or a.points.now (2 * l.i + 1) 0)) in
    let rest = candidates a.re a.im (l.i + 1) (drop (2 * (l.i + 1)) a.points.now) in
    let j = joined l.index l.i l.least far l.invariant.number (subst (λ (v : Float). T (fits binary64 v)) (sym same) (add-fits binary64 _ _))
    c.if-wins.index c.if-wins.least c.wins.result c.wins.ensures
    (elim c.if-wins.branch [ then-wins w ↦ inl (w.if-wins.true, w.index-is, w.least-is) | else-wins w ↦ inr (w.if-wins.false, w.index-is, w.least-is) ]) in record {
      number = j.0;
      best = ap (λ b. fold not_farther b rest)
          (j.1
          ∙ ap (λ (d : Float). better not_farther (held l.index l.least) (record { index = l.i; far = to_bits binary64 d })) same
          ∙ looked-at a.re a.im (get_or a.points.now (2 * l.i) 0) (get_or a.points.now (2 * l.i + 1) 0) (held l.index l.least) l.i)
          ∙ sym (ap (fold not_farther (held l.index l.least)) (next a.re a.im l.i a.points.now (omega arith)))
          ∙ l.invariant.best;
    }

pub returns-then-least : goal.returns-then-least
unfolding fold
returns-then-least c =
    let a = c.args in
    let l = c.loop-i in
    ap (λ n. told (cond n none (some (record { index = l.index; far = to_bits binary64 l.least })))) (sym (nan_differs l.least c.if-least.true))
    ∙ ap told (sym (ap (fold not_farther (held l.index l.least)) (ended a.re a.im l.i a.points.now (omega arith))) ∙ l.invariant.best)

pub returns-else-least : goal.returns-else-least
unfolding fold
returns-else-least c =
    let a = c.args in
    let l = c.loop-i in
    ap (λ n. told (cond n none (some (record { index = l.index; far = to_bits binary64 l.least })))) (sym (number_same l.least c.if-least.false))
    ∙ ap told (sym (ap (fold not_farther (held l.index l.least)) (ended a.re a.im l.i a.points.now (omega arith))) ∙ l.invariant.best)
