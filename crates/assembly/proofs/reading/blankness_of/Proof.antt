-- `reading::blankness_of` meets its contract.
use native.Mathlib.Omega.{arith}
use mathlib.Core.Path.{◌≡◌, sym, ap}
use mathlib.Core.Bool.{cond}
use Rattle.assembly.specs.Assembled.{is_blank}
use Rattle.assembly.specs.Reading.{blankness}
use Rattle.assembly.proofs.Runs.{no_blank}
use Rattle.assembly.proofs.reading.blankness_of.Statement.{statement}
use Rattle.assembly.proofs.reading.blankness_of.Tie as tie

pub blankness_of_spec : {M : Type 1} → statement M
unfolding is_blank
blankness_of_spec =
    tie.close
    (tie.spec
    (λ c. let e : c.args.b ≡ 32 = omega arith in sym (ap blankness e))
    (λ c. let e : c.args.b ≡ 9 = omega arith in sym (ap blankness e))
    (λ c. let e : c.args.b ≡ 13 = omega arith in sym (ap blankness e))
    (λ c. sym (ap (λ t. cond t 1 0) (no_blank c.args.b (omega arith) (omega arith) (omega arith)))))
