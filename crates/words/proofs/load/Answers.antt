-- Each part of eight bytes is a word; where there is no room nothing changes.
use Rattle.std.proofs.Common.{◌≡◌, ◌<◌, ℕ, List, [], length, map, refl, sym, ap, ◌∙◌, arith}
use Rattle.std.proofs.lemmas.List.{get_or-map, length-map}
use Rattle.std.proofs.lemmas.List.Edits.{sets}
use Rattle.std.specs.Int.{w64, from_le_bytes}
use Rattle.words.specs.Bytes.{words_of}
use Rattle.words.proofs.Lengths.{length-words_of}
use Rattle.words.proofs.Copying.{words_from-eights, next_word, no-word}
use Rattle.words.proofs.Stored.{stored_fits, stored_full}
use Rattle.words.proofs.load.Goals as goal

pub loop-i-preserved : goal.loop-i-preserved
loop-i-preserved c =
    let l = c.loop-i in
    let eights = c.as_chunks.result.0.now in
    let h : l.i < length eights = omega arith in
    let n : l.i < length (map (from_le_bytes w64) eights) = omega (arith, length-map eights (from_le_bytes w64)) in
    next_word l.table (map (from_le_bytes w64) eights) l.i _ n (c.from_le_bytes.ensures ∙ sym (get_or-map (from_le_bytes w64) eights l.i [] 0 h)) ∙ l.invariant

pub returns-after-loop-i : goal.returns-after-loop-i
unfolding words_of
returns-after-loop-i c =
    let l = c.loop-i in
    let s = c.args.s.now in
    let eights = c.as_chunks.result.0.now in
    let all : map (from_le_bytes w64) eights ≡ words_of s =
    ap (map (from_le_bytes w64)) c.as_chunks.ensures.front ∙ sym (words_from-eights _ s) in
    sym (no-word l.table (λ (x : List ℕ). x) (map (from_le_bytes w64) eights) l.i l.i refl (omega (arith, length-map eights (from_le_bytes w64))))
    ∙ l.invariant
    ∙ ap (sets c.args.table.now 0) all
    ∙ sym (stored_fits c.args.table.now 0 (words_of s) (omega (arith, length-words_of s)))

pub returns-else-eights-table : goal.returns-else-eights-table
returns-else-eights-table c = let s = c.args.s.now in sym (stored_full c.args.table.now 0 (words_of s) (omega (arith, length-words_of s)))
