-- `float::complex_times` meets its contract. Assumes nothing.
use mathlib.Core.Path.{ap₂, ◌∙◌}
use Rattle.float.specs.Word as Word
use Rattle.float.proofs.complex_times.Statement.{statement}
use Rattle.float.proofs.complex_times.Tie as tie

pub complex_times_spec : {M : Type 1} → statement M
complex_times_spec =
    tie.close
    (tie.spec
    (λ c κs. tt)
    (λ c κs. tt)
    (λ c κs. tt)
    (λ c κs. tt)
    (λ c κs. tt)
    (λ c κs. tt)
    (λ c.
    let m = c.before.before.before in
    (m.minus.ensures ∙ ap₂ Word.minus m.times.ensures m.times-2.ensures, c.plus.ensures ∙ ap₂ Word.plus c.times-3.ensures c.times-4.ensures)))
