-- Numbers, realness, marks, then both slices. Assumes nothing.
use Rattle.std.proofs.Common.{◌≡◌, Bool, true, false, not, refl, sym, ◌∙◌}
use Rattle.replay.specs.Same.{same}
use Rattle.replay.proofs.Sameness.{same_is}
use Rattle.sheet_replay.specs.Case.{expected}
use Rattle.sheet_replay.proofs.case.agrees.Goals as goal

-- one of two values is not the other
other : (b : Bool) {r : Bool} → r ≡ not b → r ≡ true → b ≡ false
other true e h = cc
other false e h = refl

same_one : (b : Bool) {r : Bool} → r ≡ not b → r ≡ false → b ≡ true
same_one true e h = refl
same_one false e h = cc

pub returns-then-not-numbers_agree : goal.returns-then-not-numbers_agree
unfolding expected
returns-then-not-numbers_agree c = simp (← c.numbers_agree.ensures, c.if-not-numbers_agree.true)

pub returns-then-not-real_agrees : goal.returns-then-not-real_agrees
unfolding expected
returns-then-not-real_agrees c =
    simp (← c.numbers_agree.ensures, c.if-not-numbers_agree.false, ← c.real_agrees.ensures, c.if-not-real_agrees.true)

pub returns-then-not-marks_agree : goal.returns-then-not-marks_agree
unfolding expected
returns-then-not-marks_agree c =
    simp (← c.numbers_agree.ensures, c.if-not-numbers_agree.false, ← c.real_agrees.ensures, c.if-not-real_agrees.false, ← c.marks_agree.ensures, c.if-not-marks_agree.true)

pub returns-then-ne : goal.returns-then-ne
unfolding expected
returns-then-ne c =
    let e : same c.args.listing.now c.args.bytes.now ≡ false = sym (same_is _ _) ∙ other _ c.ne.ensures c.if-ne.true in
    simp (← c.numbers_agree.ensures, c.if-not-numbers_agree.false, ← c.real_agrees.ensures, c.if-not-real_agrees.false, ← c.marks_agree.ensures, c.if-not-marks_agree.false, ← c.requires.1.0, e)

pub returns : goal.returns
unfolding expected
returns c =
    let e : same c.args.listing.now c.args.bytes.now ≡ true = sym (same_is _ _) ∙ same_one _ c.ne.ensures c.if-ne.false in
    let f : same c.args.constants.now c.args.words.now ≡ c.eq.result = sym (c.eq.ensures ∙ same_is _ _) in
    simp (← c.numbers_agree.ensures, c.if-not-numbers_agree.false, ← c.real_agrees.ensures, c.if-not-real_agrees.false, ← c.marks_agree.ensures, c.if-not-marks_agree.false, ← c.requires.1.0, e, ← c.requires.1.1, f)
