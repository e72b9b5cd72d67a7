-- `peak::larger` meets its contract. Assumes nothing.
use borrow.Author.Rules.{rules}
use mathlib.Core.Path.{sym, ap, ap₂, ◌∙◌}
use mathlib.Core.Bool.{◌||◌, cond}
use lib.Ieee.{ne, lt}
use Rattle.float.specs.Word.{value}
use Rattle.peak.specs.Peak.{larger}
use Rattle.peak.proofs.Flags.{holds, fails, differs}
use Rattle.peak.proofs.larger.Statement.{statement}
use Rattle.peak.proofs.larger.Tie as tie

pub larger_spec : {M : Type 1} → statement M
unfolding larger
larger_spec =
    tie.close
    (tie.spec
    (λ c κs. search rules)
    (λ c.
    let a = c.args in
    let n = sym (differs (value a.a)) ∙ holds (ne (value a.a) (value a.a)) c.not_equal.ensures c.if-not_equal-ne0.true in
    sym (ap (λ t. cond (t || lt (value a.a) (value a.b)) a.b a.a) n))
    (λ c κs. search rules)
    (λ c.
    let a = c.args in
    let n = sym (differs (value a.a)) ∙ fails (ne (value a.a) (value a.a)) c.not_equal.ensures c.if-not_equal-ne0.false in
    let l = holds (lt (value a.a) (value a.b)) c.little_than.ensures c.if-little_than-ne0.true in
    sym (ap₂ (λ t u. cond (t || u) a.b a.a) n l))
    (λ c.
    let a = c.args in
    let n = sym (differs (value a.a)) ∙ fails (ne (value a.a) (value a.a)) c.not_equal.ensures c.if-not_equal-ne0.false in
    let l = fails (lt (value a.a) (value a.b)) c.little_than.ensures c.if-little_than-ne0.false in
    sym (ap₂ (λ t u. cond (t || u) a.b a.a) n l)))
