-- What a printed line says, and lines one after the other.
use Prim.Native.Nat.{ℕ, suc, ◌+◌, ◌≤◌, ◌<◌}
use mathlib.Core.Path.{◌≡◌, sym, ap, ◌∙◌, subst}
use mathlib.Core.Bool.{false, cond}
use mathlib.Core.List.{List, [], ◌∷◌, ◌++◌, append_assoc, append-nil}
use native.Mathlib.Omega.{arith}
use borrow.Author.Tests.{ne_eqb}
use lib.Dec.{T, eqb}
use lib.ListN.{get_or}
use Rattle.mir.specs.Read.{got, and_then}
use Rattle.assembly.specs.Assembled.{word_bytes, Sort, LineKind, FirstWord, nothing, heads, onto, taking, taking_all, no_more, begun, line_of, pieces, uncommented, words_of, Draft, with_line, first_line, with_words, stepped, after_line, assembled_from}
use Rattle.assembly.proofs.Pieces.{is_word, are_words, tails, line-words, first, both}
use Rattle.assembly.proofs.Words.{head_word}

-- words that stand for bytes, sort by sort
pub data Fields : List Sort → List (List ℕ) → List ℕ → Type 0 where
  none : Fields [] [] []
  and : {k : Sort} {w b : List ℕ} {ks : List Sort} {ws : List (List ℕ)} {bs : List ℕ} → word_bytes k w ≡ got b → T (is_word w)
      → Fields ks ws bs
      → Fields (k ∷ ks) (w ∷ ws) (b ++ bs)

worded : {ks : List Sort} {ws : List (List ℕ)} {bs : List ℕ} → Fields ks ws bs → T (are_words ws)
worded none = tt
worded (and {w} {ws} e t f) = both (is_word w) (are_words ws) t (worded f)

taken : {ks : List Sort} {ws : List (List ℕ)} {bs : List ℕ} (part : LineKind) (start : List ℕ) → Fields ks ws bs
    → taking_all ks (got (record { part = part; bytes = start; words = ws })) ≡ got (record { part = part; bytes = start ++ bs; words = [] })
unfolding taking
taken part start none = ap (λ b. got (record { part = part; bytes = b; words = [] })) (sym (append-nil start))
taken part start (and {k} {w} {b} {ks} {ws} {bs} e t f) =
    ap (λ x. taking_all ks (onto part start ws x)) e
    ∙ taken part (start ++ b) f
    ∙ ap (λ b. got (record { part = part; bytes = b; words = [] })) (append_assoc start b bs)

-- a line with its line feed: where it is cut, its words, and what is read
pub record Says (text : List ℕ) (part : LineKind) (bytes : List ℕ) : Type 0 where
  pub content : List ℕ
  pub cuts : (s : List ℕ) → pieces 10 (text ++ s) ≡ content ∷ pieces 10 s
  pub first : List ℕ
  pub others : List (List ℕ)
  pub words : words_of (uncommented content) ≡ first ∷ others
  pub said : line_of (first ∷ others) ≡ got (record { part = part; bytes = bytes; words = [] })

module _ (n : ℕ) (h : FirstWord) (l : n < 59) (e : get_or heads n nothing ≡ h) where
  read : (ws : List (List ℕ)) (bs : List ℕ) → Fields h.sorts ws bs
      → line_of (h.word ∷ ws) ≡ got (record { part = h.part; bytes = h.start ++ bs; words = [] })
  unfolding line_of
  read ws bs f =
      ap (λ x. and_then x (λ n. and_then (taking_all (get_or heads n nothing).sorts (got (begun (get_or heads n nothing) ws))) (λ r. no_more r r.words)))
      (head_word n h l e).number
      ∙ ap (λ g. and_then (taking_all g.sorts (got (begun g ws))) (λ r. no_more r r.words)) e
      ∙ ap (λ x. and_then x (λ r. no_more r r.words)) (taken h.part h.start f)

  -- the line of a first word and of words behind it
  pub says : {ws : List (List ℕ)} {bs : List ℕ} → Fields h.sorts ws bs → Says ((h.word ++ tails ws) ++ 10 ∷ []) h.part (h.start ++ bs)
  says {ws} {bs} f =
      let t = (head_word n h l e).word in
      let u = worded f in
      record {
        content = h.word ++ tails ws;
        cuts = λ s. ap (pieces 10) (append_assoc (h.word ++ tails ws) (10 ∷ []) s) ∙ first h.word ws s t u;
        first = h.word;
        others = ws;
        words = line-words h.word ws t u;
        said = read ws bs f;
      }

pub retold : {t u : List ℕ} {part : LineKind} {a b : List ℕ} → t ≡ u → a ≡ b → Says t part a → Says u part b
retold {t} {u} {part} {a} {b} e f s = subst (λ x. Says u part x) f (subst (λ x. Says x part a) e s)

-- a sheet goes on to another by the lines of a text
pub record Onward (a : Draft) (text : List ℕ) (b : Draft) : Type 0 where
  pub lines : ℕ
  pub goes : (n : ℕ) (rest : List ℕ) → assembled_from n a (pieces 10 (text ++ rest)) ≡ assembled_from (lines + n) b (pieces 10 rest)

pub stay : {a : Draft} → Onward a [] a
stay {a} = record { lines = 0; goes = λ n rest. let z : n ≡ 0 + n = omega arith in ap (λ n. assembled_from n a (pieces 10 rest)) z }

infixl 30 ◌▹◌
pub ◌▹◌ : {a b c : Draft} {t u : List ℕ} → Onward a t b → Onward b u c → Onward a (t ++ u) c
◌▹◌ {a} {b} {c} {t} {u} p q =
    record {
      lines = q.lines + p.lines;
      goes = λ n rest.
          let z : q.lines + (p.lines + n) ≡ q.lines + p.lines + n = omega arith in
          ap (λ l. assembled_from n a (pieces 10 l)) (append_assoc t u rest)
          ∙ p.goes n (u ++ rest)
          ∙ q.goes (p.lines + n) rest
          ∙ ap (λ n. assembled_from n c (pieces 10 rest)) z;
    }

pub onward_as : {a b b' : Draft} {t t' : List ℕ} → t ≡ t' → b ≡ b' → Onward a t b → Onward a t' b'
onward_as {a} {b} {b'} {t} {t'} e f p = subst (λ x. Onward a t' x) f (subst (λ x. Onward a x b) e p)

-- by one line
pub by_line : {a b : Draft} {text bytes : List ℕ} {part : LineKind} → Says text part bytes → 1 ≤ a.stage → with_line a part bytes ≡ got b → Onward a text b
unfolding assembled_from stepped
by_line {a} {b} {text} {bytes} {part} p h e =
    let z : eqb a.stage 0 ≡ false = ne_eqb a.stage 0 (λ k. omega (arith, k, h)) in
    record {
      lines = 1;
      goes = λ n rest.
          let k : suc n ≡ 1 + n = omega arith in
          ap (assembled_from n a) (p.cuts rest)
          ∙ ap (λ ws. after_line n (with_words a ws) (λ s. assembled_from (suc n) s (pieces 10 rest))) p.words
          ∙ ap (λ t. after_line n (cond t (first_line (line_of (p.first ∷ p.others))) (and_then (line_of (p.first ∷ p.others)) (λ r. with_line a r.part r.bytes))) (λ s. assembled_from (suc n) s (pieces 10 rest))) z
          ∙ ap (λ x. after_line n (and_then x (λ r. with_line a r.part r.bytes)) (λ s. assembled_from (suc n) s (pieces 10 rest))) p.said
          ∙ ap (λ x. after_line n x (λ s. assembled_from (suc n) s (pieces 10 rest))) e
          ∙ ap (λ n. assembled_from n b (pieces 10 rest)) k;
    }

-- by the first line
pub by_first : {a b : Draft} {text bytes : List ℕ} {part : LineKind} → Says text part bytes → a.stage ≡ 0
    → first_line (got (record { part = part; bytes = bytes; words = [] })) ≡ got b
    → Onward a text b
unfolding assembled_from stepped
by_first {a} {b} {text} {bytes} {part} p h e =
    record {
      lines = 1;
      goes = λ n rest.
          let k : suc n ≡ 1 + n = omega arith in
          ap (assembled_from n a) (p.cuts rest)
          ∙ ap (λ ws. after_line n (with_words a ws) (λ s. assembled_from (suc n) s (pieces 10 rest))) p.words
          ∙ ap (λ t. after_line n (cond (eqb t 0) (first_line (line_of (p.first ∷ p.others))) (and_then (line_of (p.first ∷ p.others)) (λ r. with_line a r.part r.bytes))) (λ s. assembled_from (suc n) s (pieces 10 rest))) h
          ∙ ap (λ x. after_line n (first_line x) (λ s. assembled_from (suc n) s (pieces 10 rest))) p.said
          ∙ ap (λ x. after_line n x (λ s. assembled_from (suc n) s (pieces 10 rest))) e
          ∙ ap (λ n. assembled_from n b (pieces 10 rest)) k;
    }
