-- Each word is eight bytes; where there is no room nothing changes.
use Rattle.std.proofs.Common.{◌≡◌, ◌+◌, ◌*◌, ◌≤◌, length, get_or, drop, refl, sym, ap, ◌∙◌, arith}
use Rattle.std.proofs.lemmas.List.Edits.{sets}
use Rattle.words.specs.Bytes.{bytes, bytes_of, stored}
use Rattle.words.proofs.Lengths.{length_bytes, length-bytes_of}
use Rattle.words.proofs.Copying.{le_bytes, save_turn, no-word}
use Rattle.words.proofs.Stored.{stored_fits, stored_full}
use Rattle.words.proofs.save.Goals as goal

pub loop-i-preserved : goal.loop-i-preserved
loop-i-preserved c =
    let l = c.loop-i in
    let ws = c.args.table.now in
    let w = get_or ws l.i 0 in
    let fits : 8 * l.i + length (bytes 8 w) ≤ length l.out = omega (arith, length_bytes 8 w) in
    let put : c.put.new.out ≡ sets l.out (8 * l.i) (bytes 8 w) =
    c.put.ensures ∙ ap (stored l.out (8 * l.i)) (c.to_le_bytes.ensures ∙ le_bytes w) ∙ stored_fits l.out (8 * l.i) (bytes 8 w) fits in
    ap (λ x. sets x (8 * (l.i + 1)) (bytes_of (drop (l.i + 1) ws))) put ∙ sym (save_turn l.out ws l.i (omega arith)) ∙ l.invariant

pub returns-after-loop-i : goal.returns-after-loop-i
unfolding bytes_of
returns-after-loop-i c =
    let l = c.loop-i in
    let ws = c.args.table.now in
    sym (no-word l.out bytes_of ws (8 * l.i) l.i refl (omega arith))
    ∙ l.invariant
    ∙ sym (stored_fits c.args.out.now 0 (bytes_of ws) (omega (arith, length-bytes_of ws)))

pub returns-else-table-out : goal.returns-else-table-out
returns-else-table-out c = let ws = c.args.table.now in sym (stored_full c.args.out.now 0 (bytes_of ws) (omega (arith, length-bytes_of ws)))
