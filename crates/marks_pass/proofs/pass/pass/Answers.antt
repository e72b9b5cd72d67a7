-- Behind the first working records, a label that the table has not, no bytes, a record more, and the end.
use Rattle.std.proofs.Common.{arith, rules, refl}
use Rattle.marks_pass.proofs.Arrays.{clash}
use Rattle.marks_pass.proofs.Passing as P
use Rattle.marks_pass.proofs.pass.pass.Goals as goal

pub loop-at-init : goal.loop-at-init
loop-at-init c =
    let p = c.requires in record {
      fills_long = refl;
      draws_long = refl;
      passing = λ rs e. P.passing_start _ _ p.begun p.no_ways (P.fresh 256 (omega arith)) rs e;
    }

pub returns-in_default : goal.returns-in_default
returns-in_default c =
    let l = c.loop-at in record {
      marks = λ rs e t. clash t;
      whole = λ rs e b. absurd (P.passing-whole _ rs l.known l.at _ _ c.u16_at-n.ensures c.loop-at-test.true e c.direct.ensures (l.invariant.passing rs e) (omega (arith, b)) c.in_default.is);
    }

pub returns-then-n-eq0 : goal.returns-then-n-eq0
returns-then-n-eq0 c =
    let l = c.loop-at in record {
      marks = λ rs e t. clash t;
      whole = λ rs e b. absurd (P.passing-long _ rs l.known l.at _ _ c.u16_at-n.ensures c.loop-at-test.true e c.direct.ensures (l.invariant.passing rs e) c.if-n-eq0.true);
    }

pub loop-at-preserved : goal.loop-at-preserved
loop-at-preserved c =
    let l = c.loop-at in record {
      fills_long = search rules;
      draws_long = search rules;
      passing = λ rs e. P.passing-on _ rs l.known l.at _ _ c.u16_at-n.ensures c.loop-at-test.true e c.in-Some.ensures (l.invariant.passing rs e) _ (λ n. cc) c.straight-at.ensures;
    }

pub returns : goal.returns
returns c =
    let l = c.loop-at in
    record { marks = λ rs e t. P.passing_end _ rs l.known l.at (omega arith) (l.invariant.passing rs e); whole = λ rs e b. refl }
