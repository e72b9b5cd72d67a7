-- Too many words, and those of the table's front.
use Rattle.std.proofs.Common.{arith, rules, ap, ◌∙◌}
use Rattle.words.specs.Bytes.{words_of}
use Rattle.words.proofs.Lengths.{length-words_of}
use Rattle.words.proofs.Stored.{loaded}
use Rattle.nearest.specs.Nearest.{nearest}
use Rattle.nearest.proofs.Points.{long}
use Rattle.nearest_call.proofs.nearest_words.Goals as goal

pub returns-then-n-gt1024 : goal.returns-then-n-gt1024
returns-then-n-gt1024 c =
    let a = c.args in
    long a.re a.im (words_of a.points.now) (omega (arith, length-words_of a.points.now, c.if-n-gt1024.true))

pub returns : goal.returns
returns c =
    let a = c.args in
    c.nearest_point.ensures ∙ ap (nearest a.re a.im) (loaded _ a.points.now c.load.ensures (search rules))
