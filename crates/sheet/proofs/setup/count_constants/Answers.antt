-- `sheet::setup::count_constants`, constant by constant.
use Rattle.std.proofs.Common.{◌≡◌, ℕ, ◌+◌, ◌*◌, sym, ap, ◌∙◌, arith}
use mathlib.Core.Path.{subst}
use Rattle.sheet.specs.Setup.{constants_from}
use Rattle.sheet.proofs.Counting.{left, left_ended, left-full, left-broken, left-more, whole}
use Rattle.sheet.proofs.setup.count_constants.Goals as goal

pub returns-then-not-is_constant : goal.returns-then-not-is_constant
returns-then-not-is_constant c =
    let l = c.loop-n in
    sym (left_ended c.args.s.now l.n (12 * l.n) (sym c.is_constant.ensures ∙ c.if-not-is_constant.true)) ∙ l.invariant.1

pub returns-then-is_broken : goal.returns-then-is_broken
returns-then-is_broken c =
    let l = c.loop-n in
    sym
    (left-broken c.args.s.now l.n (12 * l.n) c.loop-n-test.true
    (sym c.is_constant.ensures ∙ c.if-not-is_constant.false)
    (sym c.is_broken.ensures ∙ c.if-is_broken.true))
    ∙ l.invariant.1

pub loop-n-preserved : goal.loop-n-preserved
loop-n-preserved c =
    let s = c.args.s.now in
    let l = c.loop-n in
    let f = sym c.is_broken.ensures ∙ c.if-is_broken.false in
    let w = whole s l.n (12 * l.n) f in
    let e : 12 * (l.n + 1) ≡ 12 * l.n + 12 = omega arith in (
      omega arith,
      ap (left s (l.n + 1)) e
          ∙ sym (left-more s l.n (12 * l.n) c.loop-n-test.true (sym c.is_constant.ensures ∙ c.if-not-is_constant.false) f)
          ∙ l.invariant.1,
    )

pub returns-then-is_constant : goal.returns-then-is_constant
returns-then-is_constant c =
    let s = c.args.s.now in
    let z : c.loop-n.n ≡ 251 = omega arith in
    sym (left-full s 251 (12 * 251) (omega arith) (sym c.is_constant-2.ensures ∙ c.if-is_constant.true))
    ∙ subst (λ (n : ℕ). left s n (12 * n) ≡ constants_from 251 s) z c.loop-n.invariant.1

pub returns : goal.returns
returns c =
    let s = c.args.s.now in
    let z : c.loop-n.n ≡ 251 = omega arith in
    sym (left_ended s 251 (12 * 251) (sym c.is_constant-2.ensures ∙ c.if-is_constant.false))
    ∙ subst (λ (n : ℕ). left s n (12 * n) ≡ constants_from 251 s) z c.loop-n.invariant.1
