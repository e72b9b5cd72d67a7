-- `put_constants` meets its contract.
use borrow.Author.Rules.{rules}
use native.Mathlib.Omega.{arith}
use mathlib.Core.Path.{sym, ◌∙◌}
use Rattle.words.proofs.Stored.{stored_fits, stored_full}
use Rattle.sheet.proofs.Setting.{length_constants}
use Rattle.complexify.proofs.copying.put_constants.Statement.{statement}
use Rattle.complexify.proofs.copying.put_constants.Tie as tie

pub put_constants_spec : {M : Type 1} → statement M
put_constants_spec =
    tie.close
    (tie.spec
    (λ c κs. c.if-count-constants.true)
    (λ c. search rules)
    (λ c. let a = c.args in let h = c.if-count-constants.true in c.copy_constants.ensures ∙ sym (stored_fits _ _ _ (omega (arith, h, length_constants a.sheet.now a.count 0))))
    (λ c. let a = c.args in let h = c.if-count-constants.false in sym (stored_full _ _ _ (omega (arith, h, length_constants a.sheet.now a.count 0)))))
