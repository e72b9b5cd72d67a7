-- What the C function gives, over the bytes that a caller lends.
use Rattle.std.specs.Prelude.{ℕ, ◌%◌, not, cond, ◌||◌, List, [], ◌∷◌, length, eqb}
use Rattle.words.specs.Bytes.{bytes_of, words_of}
use Rattle.player_machine.specs.Look.{look}
use Rattle.look.specs.declared.LookAnswer.{LookAnswer}
use Rattle.look.specs.Numbers.{told}

-- what a call of `tulipcricket_look_unguarded` returns, and the bytes that it leaves in the answer
pub record LookCall : Type 0 where
  pub number : ℕ
  pub answer : List ℕ

-- the answer: number, index, the record that follows, how many words, then index and bits of each, 0 where there is none
abbrev pub numbers : LookAnswer → List ℕ
numbers a = a.number ∷ a.index ∷ a.follows ∷ a.count ∷ a.index1 ∷ a.bits1 ∷ a.index2 ∷ a.bits2 ∷ []

abbrev pub given : LookAnswer → LookCall
given a = record { number = a.number; answer = bytes_of (numbers a) }

-- a refusal by 8
abbrev pub wrong_setup : LookAnswer
wrong_setup = record { number = 8; index = 0; follows = 0; count = 0; index1 = 0; bits1 = 0; index2 = 0; bits2 = 0 }

-- An answer of another length than 64 bytes is refused by 8 with nothing written. Constants that are no whole number of words, and a store
-- of another length than 1,602 words of eight bytes, are refused by 8 as the entry refuses a wrong setup. Otherwise the call gives what the
-- entry gives for the words.
unfoldable pub look_call : List ℕ → List ℕ → List ℕ → ℕ → List ℕ → LookCall
unfolding bytes_of words_of
look_call listing constants store i lent =
    cond (not (eqb (length lent) 64)) (record { number = 8; answer = lent })
    (cond (not (eqb (length constants % 8) 0) || not (eqb (length store) 12816)) (given wrong_setup)
    (given (told (look listing (words_of constants) (words_of store) i))))
