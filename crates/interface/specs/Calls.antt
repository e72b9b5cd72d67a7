-- What the C functions give, over the bytes that a caller lends.
use Rattle.std.specs.Prelude.{ℕ, ◌%◌, not, cond, ◌||◌, List, [], ◌∷◌, ◌++◌, map, length, take, replicate, eqb}
use Rattle.std.proofs.lemmas.List.Edits.{sets}
use Rattle.mir.specs.Encode.{flag_byte}
use Rattle.player_machine.specs.Answer.{Answer, answer}
use Rattle.lowering.specs.RecordBytes.{record_bytes}
use Rattle.complexify.specs.declared.entry.LowerAnswer as Lowered
use Rattle.complexify.specs.Entry as Lower
use Rattle.words.specs.Bytes.{bytes, bytes_of, words_of}

-- what a call of `tulipcricket_play_unguarded` returns, and the bytes that it leaves in the store and in the answer
pub record PlayCall : Type 0 where
  pub number : ℕ
  pub store : List ℕ
  pub answer : List ℕ

-- the answer of playing: number, index and records played, eight bytes each; the store's words as bytes
abbrev pub given : Answer → PlayCall
given a =
    record { number = a.number; store = bytes_of a.store; answer = bytes_of (a.number ∷ a.index ∷ a.played ∷ []) }

-- An answer of another length than 24 bytes is refused by 8 with nothing written. Constants that are no whole number of words, and a store
-- of another length than 1,602 words of eight bytes, are refused by 8 as the entry refuses a wrong setup: index 0, none played, the store
-- unchanged. Otherwise the call gives what the entry gives for the words.
unfoldable pub play_call : List ℕ → List ℕ → List ℕ → ℕ → List ℕ → PlayCall
unfolding bytes_of words_of
play_call listing constants store start lent =
    cond (not (eqb (length lent) 24)) (record { number = 8; store = store; answer = lent })
    (cond (not (eqb (length constants % 8) 0) || not (eqb (length store) 12816))
    (record { number = 8; store = store; answer = bytes_of (8 ∷ 0 ∷ 0 ∷ []) })
    (given (answer listing (words_of constants) start (words_of store))))

-- what a call of `tulipcricket_lower_unguarded` returns, and the bytes that it leaves in the listing, the constants, the origins and the
-- answer
pub record LowerCall : Type 0 where
  pub number : ℕ
  pub listing : List ℕ
  pub constants : List ℕ
  pub origins : List ℕ
  pub answer : List ℕ

-- the answer of lowering: number, index, bytes written and count of constants, eight bytes each; the flags of the 32 registers, 1 where one is
-- recorded as real; the 64 bytes of real places; the 66 marks of a listing's registers that are filled, and the 66 of those drawn on before
-- being filled, 1 where one is set
abbrev pub lower_answer : Lowered.LowerAnswer → List ℕ
lower_answer a =
    bytes_of (a.number ∷ a.index ∷ a.written ∷ a.count ∷ [])
    ++ (record_bytes a.real ++ (map flag_byte a.filled ++ map flag_byte a.drawn))

-- numbers of two bytes each, the lower first
unfoldable pub pairs_of : List ℕ → List ℕ
unfolding bytes
pairs_of [] = []
pairs_of (n ∷ ns) = bytes 2 n ++ pairs_of ns

-- the 256 origins that the entry is lent, none of which it reads
unfoldable pub unnamed : List ℕ
unnamed = replicate 256 0

-- the origins' bytes after lowering: of the constants counted what the entry gives, two bytes each, and every later byte as lent
unfoldable pub origins_over : List ℕ → List ℕ → List ℕ → List ℕ → List ℕ
unfolding pairs_of unnamed
origins_over sheet listing constants origins =
    let a = Lower.answer sheet listing constants unnamed in
    sets origins 0 (pairs_of (take a.count (Lower.origins_after sheet listing constants unnamed)))

-- An answer of another length than 260 bytes is refused by 8 with nothing written. Constants of another length than 256 words of eight
-- bytes, and origins of another length than 256 numbers of two bytes, are refused by 8 as the entry refuses a wrong setup: listing, constants
-- and origins unchanged. Otherwise the call gives what the entry gives for the words.
unfoldable pub lower_call : List ℕ → List ℕ → List ℕ → List ℕ → List ℕ → LowerCall
unfolding bytes_of words_of origins_over
lower_call sheet listing constants origins lent =
    cond (not (eqb (length lent) 260)) (record { number = 8; listing = listing; constants = constants; origins = origins; answer = lent })
    (cond (not (eqb (length constants) 2048) || not (eqb (length origins) 512))
    (record { number = 8; listing = listing; constants = constants; origins = origins; answer = lower_answer Lower.refused_setup })
    (record {
      number = (Lower.answer sheet listing (words_of constants) unnamed).number;
      listing = Lower.listing_after sheet listing (words_of constants) unnamed;
      constants = bytes_of (Lower.constants_after sheet listing (words_of constants) unnamed);
      origins = origins_over sheet listing (words_of constants) origins;
      answer = lower_answer (Lower.answer sheet listing (words_of constants) unnamed);
    }))
