-- The bytes stand over eight zeros.
use Rattle.std.proofs.Common.{◌∙◌, rules}
use Rattle.words.proofs.Copying.{le_number}
use Rattle.words.proofs.Padding.{padded}
use Rattle.words.proofs.short_word.Goals as goal

pub returns : goal.returns
returns c = padded c.args.s.now (search rules) c.put.ensures (c.from_le_bytes.ensures ∙ le_number c.put.new.out)
