-- What is shown, by the answer of laying out.
use Prim.Native.Nat.{ℕ, ◌+◌, ◌-◌, ◌*◌, ◌%◌, ◌≤◌}
use mathlib.Core.Path.{◌≡◌, refl, sym, ap, ◌∙◌, subst}
use mathlib.Core.Bool.{Bool, true, false, not, cond}
use mathlib.Core.List.{List, [], ◌++◌}
use native.Mathlib.Nat.{zero-add}
use native.Mathlib.Omega.{arith}
use borrow.Author.Tests.{eqb-true, eqb-false, le-ltb, ltb-false, eq-eqb, ne_eqb}
use lib.Dec.{ltb, eqb}
use lib.ListN.{length, drop}
use lib.Seq.{sets, sets-eq, length-sets}
use Rattle.mir.specs.Encode.{buf, placed}
use Rattle.mir.proofs.Decoding.{Bytes}
use Rattle.words.specs.Bytes.{words_of}
use Rattle.player_machine.specs.Refusal.{Refusal}
use Rattle.text.specs.Text.{ascii}
use Rattle.text.specs.declared.line.Line.{Line}
use Rattle.text.specs.Line.{Prints}
use Rattle.text.specs.Puts.{Puts, line_text}
use Rattle.text.proofs.Putting.{putting, renamed, line-put}
use Rattle.reports.specs.Lines.{refusal_line}
use Rattle.pages.specs.declared.PagesAnswer.{PagesAnswer}
use Rattle.pages.specs.Pages.{Row, pages_from, page_count}
use Rattle.pages.specs.Printed.{Printed, refused, from_record0, rows_of, least}
use Rattle.pages.specs.Values.{whole}
use Rattle.pages.specs.Call.{part_of}
use Rattle.pages.proofs.Laying.{part_text, pages-long}
use Rattle.print_pages.specs.Shown.{shown}

-- the answer and the text by the same tests: whole words, accepted, and room
module _ (r : Refusal) (count : ℕ) (text out : List ℕ) where
  abbrev given : Bool → Bool → Bool → Printed
  given t z s =
      cond (not t) (refused 8 0 out)
      (cond (not z) (refused r.number r.index out)
      (cond s (refused 7 0 out) (record { number = 0; index = r.index; pages = count; out = text ++ drop (length text) out })))

  abbrev told : Bool → Bool → List ℕ
  told t z = cond (not t) (refusal_line 8 0) (cond (not z) (refusal_line r.number r.index) (cond (eqb count 0) (ascii "no page\n") text))

  -- a refusal leaves the slice as it was
  record Turned (a : PagesAnswer) (out' shows : List ℕ) : Type 0 where
    pub same : out' ≡ out
    pub shows-it : shows ≡ refusal_line a.number a.index

  turned : (a : PagesAnswer) {out' : List ℕ} (t z s : Bool) → (z ≡ true → s ≡ false) → whole a out' ≡ given t z s → (a.number ≡ 0 → ⊥)
      → Turned a out' (told t z)
  turned a false z s h p k =
      record { same = ap (λ x. x.out) p; shows-it = sym (λ i. refusal_line (p i).number (p i).index) }
  turned a true false s h p k =
      record { same = ap (λ x. x.out) p; shows-it = sym (λ i. refusal_line (p i).number (p i).index) }
  turned a true true s h p k = absurd (k (ap (λ x. x.number) (p ∙ ap (given true true) (h refl))))

  -- pages stand in front
  record Laid (a : PagesAnswer) (out' shows : List ℕ) : Type 0 where
    pub counts : a.pages ≡ count
    pub same : out' ≡ text ++ drop (length text) out
    pub shows-it : shows ≡ cond (eqb count 0) (ascii "no page\n") text
    pub accepted : r.number ≡ 0

  laid : (a : PagesAnswer) {out' : List ℕ} (t z s : Bool) → (z ≡ true → s ≡ false) → eqb r.number 0 ≡ z → whole a out' ≡ given t z s
      → a.number ≡ 0
      → Laid a out' (told t z)
  laid a false z s h e p k = let n = sym k ∙ ap (λ x. x.number) p in absurd (omega (arith, n))
  laid a true false s h e p k = absurd (eqb-false r.number 0 e (sym (ap (λ x. x.number) p) ∙ k))
  laid a true true s h e p k =
      let q = p ∙ ap (given true true) (h refl) in
      record { counts = ap (λ x. x.pages) q; same = ap (λ x. x.out) q; shows-it = refl; accepted = eqb-true r.number 0 e }

pub least_left : (a b : ℕ) → least a b ≤ a
least_left a b = by (ltb a b) refl
  where
    by : (t : Bool) → ltb a b ≡ t → cond t a b ≤ a
    by true e = omega arith
    by false e = let h = ltb-false a b e in omega (arith, h)

least_none : (first : ℕ) → least 112 (0 - first) ≡ 0
least_none first = let e : 0 - first ≡ 0 = omega arith in ap (least 112) e

-- what laying out a part gives, with room for 112 pages
module _ (first : ℕ) (listing constants out : List ℕ) (room : 490560 ≤ length out) (b : Bytes listing) (a : PagesAnswer) {out' : List ℕ}
    (p : whole a out' ≡ part_of first 112 listing constants out) where
  abbrev all-rows : List Row
  all-rows = rows_of listing (words_of constants)

  abbrev part-text : List ℕ
  part-text = part_text first 112 all-rows

  text-long : (from_record0 listing (words_of constants)).number ≡ 0 → length part-text ≡ 4380 * least 112 (page_count all-rows - first)
  text-long z = pages-long listing (words_of constants) first (least 112 (page_count all-rows - first)) z b

  enough : eqb (from_record0 listing (words_of constants)).number 0 ≡ true → ltb (length out) (length part-text) ≡ false
  enough e =
      let k = text-long (eqb-true _ 0 e) in
      let h = least_left 112 (page_count all-rows - first) in
      le-ltb (length out) (length part-text) (omega (arith, k, h, room))

  pub shows-refusal : {out'' : List ℕ} {line : Line} {n : ℕ} → (a.number ≡ 0 → ⊥) → Prints (refusal_line a.number a.index) line
      → buf out'' n ≡ placed (buf out' 0) (line_text line) → Puts out 0 (shown first listing constants) out'' n
  unfolding part_of shown
  shows-refusal {out''} {line} {n} k l e =
      let t = turned (from_record0 listing (words_of constants)) (page_count all-rows) part-text out a (eqb (length constants % 8) 0)
      (eqb (from_record0 listing (words_of constants)).number 0) (ltb (length out) (length part-text)) enough p k in
      let f = l.whole.fits in
      let g = ap length t.same in
      renamed (sym t.shows-it) (subst (λ o. Puts o 0 (refusal_line a.number a.index) out'' n) t.same (line-put l (omega (arith, f, g, room)) e))

  laid_so : a.number ≡ 0 → Laid (from_record0 listing (words_of constants)) (page_count all-rows) part-text out a out' (shown first listing constants)
  unfolding part_of shown
  laid_so k =
      laid (from_record0 listing (words_of constants)) (page_count all-rows) part-text out a (eqb (length constants % 8) 0)
      (eqb (from_record0 listing (words_of constants)).number 0) (ltb (length out) (length part-text)) enough refl p k

  pub shows-none : {out'' : List ℕ} {n : ℕ} → a.number ≡ 0 → a.pages ≡ 0
      → buf out'' n ≡ placed (buf out' 0) (ascii "no page\n") → Puts out 0 (shown first listing constants) out'' n
  unfolding ascii
  shows-none {out''} {n} k z e =
      let l = laid_so k in
      let c : page_count all-rows ≡ 0 = sym l.counts ∙ z in
      let none : least 112 (page_count all-rows - first) ≡ 0 = ap (λ n. least 112 (n - first)) c ∙ least_none first in
      let empty : part-text ≡ [] = ap (λ n. pages_from first n all-rows) none in
      let same : out' ≡ out = l.same ∙ ap (λ t. t ++ drop (length t) out) empty in
      let shows : shown first listing constants ≡ ascii "no page\n" = l.shows-it ∙ simp (eq-eqb (page_count all-rows) 0 c) in
      let g = ap length same in
      renamed (sym shows) (subst (λ o. Puts o 0 (ascii "no page\n") out'' n) same (putting (omega (arith, g, room)) e))

  pub shows-pages : {n : ℕ} → a.number ≡ 0 → (a.pages ≡ 0 → ⊥) → n ≡ least 112 (a.pages - first)
      → Puts out 0 (shown first listing constants) out' (4380 * n)
  shows-pages {n} k z e =
      let l = laid_so k in
      let m : n ≡ least 112 (page_count all-rows - first) = e ∙ ap (λ n. least 112 (n - first)) l.counts in
      let long = text-long l.accepted in
      let h = least_left 112 (page_count all-rows - first) in
      let within : 0 + length part-text ≤ length out = omega (arith, long, h, room) in
      let same : out' ≡ sets out 0 part-text
      = l.same ∙ sym (sets-eq part-text out 0 within ∙ ap (λ n. part-text ++ drop n out) (zero-add (length part-text))) in
      let kept = ap length same ∙ length-sets out 0 part-text in
      let shows : shown first listing constants ≡ part-text = l.shows-it ∙ simp (ne_eqb (page_count all-rows) 0 (λ c. z (l.counts ∙ c))) in
      renamed (sym shows) (record { same = same; ends = omega (arith, m, long); fits = omega (arith, m, h, kept, room) })
