-- The counts of a replay. Assumes nothing.
use Rattle.std.specs.Prelude.{ℕ, zero, suc, ◌+◌, ◌%◌, ◌^◌, Bool, false, cond, List, length, drop, replicate, ◌==◌, nat_lt, slice_index, slice_set}
use Rattle.replay.specs.Numbers.{u32_at}
use Rattle.replay.specs.declared.tally.Tally.{Tally}

-- one more at i; a count is a word
unfoldable pub raised : List ℕ → ℕ → List ℕ
raised t i = slice_set t i ((slice_index t i + 1) % 2 ^ 64)

-- the counts before any case
abbrev pub no_cases : Tally
no_cases = record { by_number = replicate 256 0; cases = 0; differ = 0 }

-- the counts after a case that is answered with a number, and differs or not
unfoldable pub tallied : Tally → ℕ → Bool → Tally
unfolding raised
tallied t number differs =
    record {
      by_number = raised t.by_number number;
      cases = (t.cases + 1) % 2 ^ 64;
      differ = cond differs ((t.differ + 1) % 2 ^ 64) t.differ;
    }

-- the cases that bytes begin with: where the first ends, whether there is no whole one that ends there, the number it is answered with, and
-- whether the answer differs from the one expected
pub record Cases : Type 0 where
  pub end : List ℕ → ℕ
  pub cut : ℕ → List ℕ → Bool
  pub number : List ℕ → ℕ
  pub differs : List ℕ → Bool

-- the counts at the end, and whether all cases were whole and nothing follows them
pub record Replayed : Type 0 where
  pub counts : Tally
  pub whole : Bool

-- the first n cases of bytes, counted one after the other up to one that is not whole
unfoldable pub replayed : Cases → ℕ → Tally → List ℕ → Replayed
replayed k zero t s = record { counts = t; whole = (length s == 0) }
replayed k (suc n) t s =
    cond (k.cut (k.end s) s) (record { counts = t; whole = false })
    (replayed k n (tallied t (k.number s) (k.differs s)) (drop (k.end s) s))

-- a list: the count of its cases, then the cases
unfoldable pub replayed_list : Cases → Tally → List ℕ → Replayed
replayed_list k t s =
    cond (nat_lt (length s) 4) (record { counts = t; whole = false }) (replayed k (u32_at s 0) t (drop 4 s))
