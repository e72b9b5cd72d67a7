-- `float::complex_divide` meets its contract. Assumes nothing.
use mathlib.Core.Path.{ap₂, ◌∙◌}
use Rattle.float.specs.Word as Word
use Rattle.float.proofs.complex_divide.Statement.{statement}
use Rattle.float.proofs.complex_divide.Tie as tie

pub complex_divide_spec : {M : Type 1} → statement M
complex_divide_spec =
    tie.close
    (tie.spec
    (λ c κs. tt)
    (λ c κs. tt)
    (λ c κs. tt)
    (λ c κs. tt)
    (λ c κs. tt)
    (λ c κs. tt)
    (λ c κs. tt)
    (λ c κs. tt)
    (λ c κs. tt)
    (λ c κs. tt)
    (λ c κs. tt)
    (λ c.
    let m = c.before.before in
    let n = m.before.before.before in
    let d = n.before.before.before in
    let den = d.plus-d.ensures ∙ ap₂ Word.plus d.times.ensures d.times-2.ensures in
    let re = n.plus-re.ensures ∙ ap₂ Word.plus n.times-3.ensures n.times-4.ensures in
    let im = m.minus-im.ensures ∙ ap₂ Word.minus m.times-5.ensures m.times-6.ensures in
    (c.divide.ensures ∙ ap₂ Word.divide re den, c.divide-2.ensures ∙ ap₂ Word.divide im den)))
