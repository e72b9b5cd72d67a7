-- The pieces of a text that was put together from words and lines.
use Prim.Native.Nat.{ℕ, zero, suc, ◌+◌, ◌≤◌, ◌<◌}
use mathlib.Core.Path.{◌≡◌, refl, ap, ◌∙◌, subst}
use mathlib.Core.Bool.{Bool, true, false, not, cond, ◌&&◌}
use mathlib.Core.List.{List, [], ◌∷◌, ◌++◌}
use native.Mathlib.Omega.{arith}
use borrow.Author.Tests.{ltb-true, ne_eqb, eq-eqb, not-true}
use lib.Dec.{T, ltb, eqb}
use Rattle.mir.proofs.Tables.{and_left, and_right}
use Rattle.assembly.specs.Assembled.{joined, pieces, uncommented, is_blank, word_ends, words_of}
use Rattle.assembly.proofs.Runs.{no_blank, word_first}

pub t_true : (b : Bool) → T b → b ≡ true
t_true true t = refl
t_true false t = absurd t

pub true_t : (b : Bool) → b ≡ true → T b
true_t true e = tt
true_t false e = let z : ◌≡◌ {A = ℕ} 0 1 = cc in absurd (omega arith)

pub both : (a b : Bool) → T a → T b → T (a && b)
both true b s t = t
both false b s t = absurd s

-- a test that passes at n numbers from i on
abbrev pub passing : (ℕ → Bool) → ℕ → ℕ → Bool
passing f zero i = true
passing f (suc n) i = f i && passing f n (suc i)

at_each : (f : ℕ → Bool) (n i k j : ℕ) → T (passing f n i) → k < n → i + k ≡ j → T (f j)
at_each f zero i k j t h e = absurd (omega arith)
at_each f (suc n) i zero j t h e = let z : i ≡ j = omega arith in subst (λ j. T (f j)) z (and_left (f i) (passing f n (suc i)) t)
at_each f (suc n) i (suc k) j t h e = at_each f n (suc i) k j (and_right (f i) (passing f n (suc i)) t) (omega arith) (omega arith)

pub passes : (f : ℕ → Bool) (n k : ℕ) → T (passing f n 0) → k < n → T (f k)
passes f n k t h = at_each f n 0 k k t h (omega arith)

-- each byte is above a limit: 35 in a word, so that none is a blank, a line feed or `#`
abbrev pub over : ℕ → List ℕ → Bool
over m [] = true
over m (b ∷ w) = ltb m b && over m w

abbrev pub is_word : List ℕ → Bool
is_word [] = false
is_word (b ∷ w) = over 35 (b ∷ w)

worded : (w : List ℕ) → T (is_word w) → T (over 35 w)
worded [] t = absurd t
worded (b ∷ w) t = t

above : (b : ℕ) → T (ltb 35 b) → 35 < b
above b t = ltb-true 35 b (t_true (ltb 35 b) t)

-- no byte is c
abbrev lacks : ℕ → List ℕ → Bool
lacks c [] = true
lacks c (b ∷ w) = not (eqb b c) && lacks c w

lacks_both : (c : ℕ) (v w : List ℕ) → T (lacks c v) → T (lacks c w) → T (lacks c (v ++ w))
lacks_both c [] w s t = t
lacks_both c (b ∷ v) w s t =
    both (not (eqb b c)) (lacks c (v ++ w)) (and_left (not (eqb b c)) (lacks c v) s) (lacks_both c v w (and_right (not (eqb b c)) (lacks c v) s) t)

-- the words of a line behind its first
abbrev pub tails : List (List ℕ) → List ℕ
tails [] = []
tails (w ∷ ws) = (32 ∷ w) ++ tails ws

abbrev pub are_words : List (List ℕ) → Bool
are_words [] = true
are_words (w ∷ ws) = is_word w && are_words ws

-- a line of words has no line feed and no `#`
module _ (c : ℕ) (h : c ≤ 35) (n : T (not (eqb 32 c))) where
  word-lacks : (w : List ℕ) → T (over 35 w) → T (lacks c w)
  word-lacks [] t = tt
  word-lacks (b ∷ w) t =
      let k = above b (and_left (ltb 35 b) (over 35 w) t) in
      let e : not (eqb b c) ≡ true = ap not (ne_eqb b c (λ e. omega (arith, e, k, h))) in
      both (not (eqb b c)) (lacks c w) (true_t (not (eqb b c)) e) (word-lacks w (and_right (ltb 35 b) (over 35 w) t))

  tails-lack : (ws : List (List ℕ)) → T (are_words ws) → T (lacks c (tails ws))
  tails-lack [] t = tt
  tails-lack (w ∷ ws) t =
      both (not (eqb 32 c)) (lacks c (w ++ tails ws)) n
      (lacks_both c w (tails ws) (word-lacks w (worded w (and_left (is_word w) (are_words ws) t))) (tails-lack ws (and_right (is_word w) (are_words ws) t)))

  line-lacks : (w : List ℕ) (ws : List (List ℕ)) → T (is_word w) → T (are_words ws) → T (lacks c (w ++ tails ws))
  line-lacks w ws s t = lacks_both c w (tails ws) (word-lacks w (worded w s)) (tails-lack ws t)

other : (c b : ℕ) (w : List ℕ) → T (lacks c (b ∷ w)) → eqb b c ≡ false
other c b w t = not-true (eqb b c) (t_true (not (eqb b c)) (and_left (not (eqb b c)) (lacks c w) t))

-- bytes before a separator
cut : (c : ℕ) (w s : List ℕ) → T (lacks c w) → pieces c (w ++ c ∷ s) ≡ w ∷ pieces c s
unfolding pieces
cut c [] s t = simp (eq-eqb c c refl)
cut c (b ∷ w) s t = simp (other c b w t) (ap (joined b) (cut c w s (and_right (not (eqb b c)) (lacks c w) t)))

-- bytes without a comment
uncut : (w : List ℕ) → T (lacks 35 w) → uncommented w ≡ w
unfolding uncommented
uncut [] t = refl
uncut (b ∷ w) t = simp (other 35 b w t) (ap (λ s. b ∷ s) (uncut w (and_right (not (eqb b 35)) (lacks 35 w) t)))

letter : (b : ℕ) → T (ltb 35 b) → is_blank b ≡ false
letter b t =
    let h = above b t in
    no_blank b (λ e. omega (arith, e, h)) (λ e. omega (arith, e, h)) (λ e. omega (arith, e, h))

-- a word, and what follows it
word : (b : ℕ) (w s : List ℕ) → T (over 35 (b ∷ w)) → word_ends s ≡ true → words_of (b ∷ w ++ s) ≡ (b ∷ w) ∷ words_of s
word b [] s t e =
    word_first b s (letter b (and_left (ltb 35 b) true t))
    ∙ ap (λ x. cond x ((b ∷ []) ∷ words_of s) (joined b (words_of s))) e
word b (a ∷ w) s t e =
    let u = and_right (ltb 35 b) (over 35 (a ∷ w)) t in
    word_first b (a ∷ w ++ s) (letter b (and_left (ltb 35 b) (over 35 (a ∷ w)) t))
    ∙ ap (λ x. cond x ((b ∷ []) ∷ words_of (a ∷ w ++ s)) (joined b (words_of (a ∷ w ++ s)))) (letter a (and_left (ltb 35 a) (over 35 w) u))
    ∙ ap (joined b) (word a w s u e)

front : (w s : List ℕ) → T (is_word w) → word_ends s ≡ true → words_of (w ++ s) ≡ w ∷ words_of s
front [] s t e = absurd t
front (b ∷ w) s t e = word b w s t e

split : (w : List ℕ) (ws : List (List ℕ)) → T (is_word w) → T (are_words ws) → words_of (w ++ tails ws) ≡ w ∷ ws
unfolding words_of is_blank
split w [] s t = front w [] s refl
split w (v ∷ ws) s t =
    front w (tails (v ∷ ws)) s refl
    ∙ ap (λ x. w ∷ x) (split v ws (and_left (is_word v) (are_words ws) t) (and_right (is_word v) (are_words ws) t))

-- a line's words
pub line-words : (w : List ℕ) (ws : List (List ℕ)) → T (is_word w) → T (are_words ws) → words_of (uncommented (w ++ tails ws)) ≡ w ∷ ws
line-words w ws s t = ap words_of (uncut (w ++ tails ws) (line-lacks 35 (omega arith) tt w ws s t)) ∙ split w ws s t

-- a text's first line
pub first : (w : List ℕ) (ws : List (List ℕ)) (s : List ℕ) → T (is_word w) → T (are_words ws)
    → pieces 10 ((w ++ tails ws) ++ 10 ∷ s) ≡ (w ++ tails ws) ∷ pieces 10 s
first w ws s t u = cut 10 (w ++ tails ws) s (line-lacks 10 (omega arith) tt w ws t u)
