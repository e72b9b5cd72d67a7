-- `sheet::setup::constant_at`: past the end the word is 0.
use Rattle.std.proofs.Common.{sym, ◌+◌, ◌*◌, arith}
use Rattle.words.proofs.Padding.{past}
use Rattle.sheet.specs.Setup.{constant_at}
use Rattle.sheet.proofs.setup.constant_at.Goals as goal

pub returns-then-sheet-lt73 : goal.returns-then-sheet-lt73
unfolding constant_at
returns-then-sheet-lt73 c = let a = c.args in sym (past a.sheet.now (73 + 12 * a.i) (omega arith))

pub returns-then-sheet-i : goal.returns-then-sheet-i
unfolding constant_at
returns-then-sheet-i c = let a = c.args in sym (past a.sheet.now (73 + 12 * a.i) (omega arith))

pub returns : goal.returns
unfolding constant_at
returns c = c.word_at.ensures
