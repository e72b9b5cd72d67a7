-- What the C function of the running peak gives, over the bytes that a caller lends.
use Rattle.std.specs.Prelude.{ℕ, ◌%◌, not, cond, List, length, eqb}
use Rattle.words.specs.Bytes.{bytes_of, words_of}
use Rattle.peak.specs.Peak as Peak

-- what a call of `tulipcricket_peak` returns, and the bytes that it leaves in the output
pub record PeakCall : Type 0 where
  pub number : ℕ
  pub out : List ℕ

-- A run or an output that is no whole number of words is refused by 8 with nothing written. Otherwise the call gives what the entry gives for
-- the words.
unfoldable pub peak_call : List ℕ → ℕ → List ℕ → PeakCall
unfolding bytes_of words_of Peak.number Peak.after
peak_call run w out =
    cond (not (eqb (length run % 8) 0)) (record { number = 8; out = out })
    (cond (not (eqb (length out % 8) 0)) (record { number = 8; out = out })
    (record { number = Peak.number (words_of run) w (words_of out); out = bytes_of (Peak.after (words_of run) w (words_of out)) }))
