-- A case of the list: 41 bytes, the operation's number, four operands and the hardware's answer, words little-endian. Assumes nothing.
use Rattle.std.specs.Prelude.{ℕ, Bool, not, ◌&&◌, List, [], ◌∷◌, get_or, eqb, ltb}
use Rattle.float.specs.Word as Word
use Rattle.words.specs.Bytes.{word_at}

-- what each operation gives, by its number; the operands it does not have are passed over
abbrev pub answers : ℕ → ℕ → ℕ → ℕ → List ℕ
answers a b c d =
    Word.plus a b ∷ Word.minus a b ∷ Word.times a b ∷ Word.divide a b ∷ Word.half a ∷ Word.recip a ∷
    Word.greater_than a b ∷ Word.little_than a b ∷ Word.equal a b ∷ Word.not_equal a b ∷
    Word.neg a ∷ Word.abs a ∷ Word.not a ∷ Word.and a b ∷ Word.or a b ∷ Word.xor a b ∷ Word.sign a ∷
    Word.if_else a b c ∷ Word.round a ∷ Word.root a ∷ Word.mul_add a b c ∷
    (Word.complex_plus a b c d).0 ∷ (Word.complex_plus a b c d).1 ∷ (Word.complex_minus a b c d).0 ∷ (Word.complex_minus a b c d).1 ∷
    (Word.complex_times a b c d).0 ∷ (Word.complex_times a b c d).1 ∷ (Word.complex_divide a b c d).0 ∷ (Word.complex_divide a b c d).1 ∷
    Word.floor a ∷ Word.ceiling a ∷ Word.trunc a ∷ Word.is_zero a ∷ Word.greater_than_equal a b ∷ Word.little_than_equal a b ∷ []

unfoldable pub answer : ℕ → ℕ → ℕ → ℕ → ℕ → ℕ
answer op a b c d = get_or (answers a b c d) op 0

-- whether the answer is not the one that `float` gives; no operation has a number above 34
unfoldable pub differs : List ℕ → Bool
differs s = not (ltb (get_or s 0 0) 35 && eqb (answer (get_or s 0 0) (word_at s 1) (word_at s 9) (word_at s 17) (word_at s 25)) (word_at s 33))
