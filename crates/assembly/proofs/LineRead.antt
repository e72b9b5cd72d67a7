-- A line, by its first word.
use Prim.Native.Nat.{ℕ, ◌+◌, ◌-◌, ◌≤◌, ◌<◌}
use mathlib.Core.Path.{◌≡◌, sym, ap, ◌∙◌}
use mathlib.Core.List.{List, map}
use lib.ListN.{length, take, drop, get_or}
use Rattle.mir.specs.Read.{Read, got, refused, and_then}
use Rattle.text.specs.declared.line.Line.{Line}
use Rattle.text.specs.Line.{empty_line, add_all}
use Rattle.assembly.specs.Assembled.{Reading, words_of, number_from, heads, nothing, line_of}
use Rattle.assembly.specs.Reading.{run, words_put}
use Rattle.assembly.specs.Making.{Told, part_of, tagged, told}
use Rattle.assembly.proofs.Runs.{no_words, word-at}
use Rattle.assembly.proofs.Wording.{words-put}
use Rattle.assembly.proofs.Every.{after_first, part_at}

abbrev pub Said : Read Reading → Read Told
Said r = and_then r told

-- where the blanks at the front end at i
module _ (l : List ℕ) (i : ℕ) (q : i ≡ 0 + run 1 l) where
  pub read-empty : {r : Read Told} → length l ≤ i → r ≡ refused 3 → r ≡ Said (line_of (words_of l))
  unfolding line_of
  read-empty h p = p ∙ sym (ap (λ ws. Said (line_of ws)) (no_words l 0 i q h))

  -- and the first word at e
  module _ (e : ℕ) (h : i < length l) (z : e ≡ i + run 0 (drop i l)) where
    first : line_of (words_of l)
        ≡ and_then (number_from 0 (map (λ h. h.word) heads) (take (e - i) (drop i l))) (after_first (words_of (drop e l)))
    unfolding line_of
    first = ap line_of (word-at l 0 i q e h z)

    pub read_at : (n : ℕ) {p : Read Line} {r : Read Told} → got n ≡ number_from 0 (map (λ h. h.word) heads) (take (e - i) (drop i l))
        → p ≡ words_put (get_or heads n nothing).sorts (add_all empty_line (get_or heads n nothing).start) (words_of (drop e l))
        → r ≡ and_then p (tagged (part_of n)) → r ≡ Said (line_of (words_of l))
    read_at n {p} g f t =
        let h' = get_or heads n nothing in
        t
        ∙ ap (λ x. and_then p (tagged x)) (sym (part_at n))
        ∙ ap (λ x. and_then x (tagged h'.part)) f
        ∙ words-put h'.part h'.sorts (words_of (drop e l)) h'.start
        ∙ sym (ap Said (first ∙ sym (ap (λ x. and_then x (after_first (words_of (drop e l)))) g)))

    pub read_none : {r : Read Told} → refused 3 ≡ number_from 0 (map (λ h. h.word) heads) (take (e - i) (drop i l)) → r ≡ refused 3
        → r ≡ Said (line_of (words_of l))
    read_none g p = p ∙ sym (ap Said (first ∙ sym (ap (λ x. and_then x (after_first (words_of (drop e l)))) g)))
