-- The lines of a text, one after the other.
use Prim.Native.Nat.{ℕ, suc, ◌+◌, ◌-◌, ◌≤◌, ◌<◌}
use mathlib.Core.Path.{◌≡◌, refl, sym, ap, ◌∙◌, subst}
use mathlib.Core.Bool.{Bool, cond, ◌&&◌}
use mathlib.Core.List.{List, [], ◌∷◌}
use native.Mathlib.Omega.{arith}
use native.Mathlib.Numerals.{add-one}
use borrow.Author.Tests.{eq-eqb, ne_eqb}
use lib.Dec.{eqb}
use lib.ListN.{length, take, drop, drop_of_length-le, length-drop}
use Rattle.mir.specs.Read.{Read, got, refused, and_then}
use Rattle.mir.specs.Field.{byte_at}
use Rattle.assembly.specs.Assembled.{Reading, Draft, pieces, unmarked, uncommented, words_of, line_of}
use Rattle.assembly.specs.Assembled.{with_line, first_line, with_words, stepped}
use Rattle.assembly.specs.Assembled.{Assembled, accepted, refused_at, after_line, assembled_from, assembled}
use Rattle.assembly.specs.Reading.{before}
use Rattle.assembly.specs.declared.reading.LineRead.{LineRead}
use Rattle.assembly.specs.declared.making.Made.{Made}
use Rattle.assembly.specs.Making.{part_of, sheet_of, as_sheet, refusal, Low, Room, Makes, with_read, as_assembled}
use Rattle.assembly.proofs.Cutting.{cutting, ends_within}
use Rattle.assembly.proofs.Growing.{makes_as}
use Rattle.assembly.proofs.Heard.{Heard}

-- a line by the reading of its words
module _ (s : Draft) (ws : List (List ℕ)) where
  pub step-none : (m : Made) (out : List ℕ) → Room m out → s ≡ sheet_of m out → ws ≡ []
      → Makes (with_words s ws) (record { len = m.len; count = m.count; instructions = m.instructions; stage = m.stage; why = 0 }) out
  unfolding with_words
  step-none m out room e f =
      makes_as (ap got (sym e) ∙ sym (ap (with_words s) f))
      (record { same = refl; low = record { constants = room.1.constants; instructions = room.1.instructions; bytes = room.1.bytes } })

  module _ {w : List ℕ} {vs : List (List ℕ)} (some : ws ≡ w ∷ vs) where
    abbrev after : Read Reading → Read Draft
    after x = cond (eqb s.stage 0) (first_line x) (and_then x (λ r. with_line s r.part r.bytes))

    is-after : after (line_of ws) ≡ with_words s ws
    unfolding with_words
    is-after = ap (λ ws. after (line_of ws)) some ∙ sym (ap (with_words s) some)

    pub step-heard : (t : LineRead) {m : Made} {o : List ℕ} → Heard ws t
        → Makes (with_read s (part_of t.head) (take t.line.len t.line.bytes)) m o → Makes (with_words s ws) m o
    step-heard t h =
        let p = h.part in
        let b = h.text in
        makes_as ((λ i. with_read s (p i) (b i)) ∙ sym (ap after h.found) ∙ is-after)

    pub unheard-first : line_of ws ≡ refused 3 → s.stage ≡ 0 → refused 1 ≡ with_words s ws
    unheard-first e z =
        sym (ap (λ t. cond t (refused 1) (refused 3)) (eq-eqb s.stage 0 z)) ∙ sym (ap after e) ∙ is-after

    pub unheard-later : line_of ws ≡ refused 3 → (s.stage ≡ 0 → ⊥) → refused 3 ≡ with_words s ws
    unheard-later e z =
        sym (ap (λ t. cond t (refused 1) (refused 3)) (ne_eqb s.stage 0 z)) ∙ sym (ap after e) ∙ is-after

-- a line without its comment
pub by-words : (s : Draft) (l : List ℕ) {u : List ℕ} {m : Made} {o : List ℕ} → u ≡ uncommented l → Makes (with_words s (words_of u)) m o
    → Makes (stepped s l) m o
unfolding stepped
by-words s l e h = makes_as (ap (λ u. with_words s (words_of u)) e) h

-- a byte order mark, by the tests of three bytes
module _ (t : List ℕ) where
  abbrev behind_mark : Bool → Bool → Bool → List ℕ
  behind_mark x y z = cond (x && (y && z)) (drop 3 t) t

  pub by-marks : (x y z : Bool) → eqb (byte_at t 0) 239 ≡ x → eqb (byte_at t 1) 187 ≡ y → eqb (byte_at t 2) 191 ≡ z → behind_mark x y z ≡ unmarked t
  unfolding unmarked
  by-marks x y z e f g = sym (λ i. behind_mark (e i) (f i) (g i))

-- what the loop keeps, before the line k + 1, which begins at a position
pub record MadeSoFar (t : List ℕ) (s : Made) (out : List ℕ) (at k : ℕ) : Type 0 where
  pub near : k ≤ at
  pub count : k ≤ length t
  pub room : Room s out
  pub same : assembled_from (suc k) (sheet_of s out) (pieces 10 (drop at t)) ≡ assembled t

pub at-start : (t out : List ℕ) (at : ℕ) {s : Made} → s ≡ refusal 0 → 69184 ≤ length out → drop at t ≡ unmarked t → MadeSoFar t s out at 0
unfolding assembled
at-start t out at e h d =
    record {
      near = omega arith;
      count = omega arith;
      room = (h, subst Low (sym e) (record { constants = omega arith; instructions = omega arith; bytes = omega arith }));
      same = (λ i. assembled_from 1 (sheet_of (e i) out) (pieces 10 (d i)));
    }

pub inside : (t : List ℕ) (at e : ℕ) → at < length t → e ≡ at + before 10 (drop at t) → (at ≤ e) × (e ≤ length t)
inside t at e h q = ends_within 10 t at e (omega (arith, h)) q

-- the next line begins further on
pub further : (t : List ℕ) (at e n : ℕ) → at < length t → at ≤ e → drop n t ≡ drop (e + 1) t → at < n
further t at e n h g d =
    let x : length t - n ≡ length t - (e + 1) = sym (length-drop n t) ∙ ap length d ∙ length-drop (e + 1) t in
    omega (arith, x, h, g)

module _ (t : List ℕ) (s : Made) (out : List ℕ) (at k e : ℕ) (kept : MadeSoFar t s out at k) where
  pub ended : length t ≤ at → cond (eqb s.stage 0) (refused_at (suc k) 1) (accepted (take s.len out)) ≡ assembled t
  unfolding assembled_from pieces
  ended h = sym (ap (λ x. assembled_from (suc k) (sheet_of s out) (pieces 10 x)) (drop_of_length-le t h)) ∙ kept.same

  pub no_line : length t ≤ at → s.stage ≡ 0 → refused_at (k + 1) 1 ≡ assembled t
  no_line h z =
      ap (λ n. refused_at n 1) (add-one k)
      ∙ sym (ap (λ b. cond b (refused_at (suc k) 1) (accepted (take s.len out))) (eq-eqb s.stage 0 z))
      ∙ ended h

  pub all_lines : length t ≤ at → (s.stage ≡ 0 → ⊥) → accepted (take s.len out) ≡ assembled t
  all_lines h z =
      sym (ap (λ b. cond b (refused_at (suc k) 1) (accepted (take s.len out))) (ne_eqb s.stage 0 z)) ∙ ended h

  module _ {m : Made} {o : List ℕ} (h : at < length t) (q : e ≡ at + before 10 (drop at t))
      (made : Makes (stepped (sheet_of s out) (take (e - at) (drop at t))) m o) where
    abbrev onward : Read Draft → Assembled
    onward x = after_line (suc k) x (λ s. assembled_from (suc (suc k)) s (pieces 10 (drop (e + 1) t)))

    turned : onward (as_sheet m o) ≡ assembled t
    unfolding assembled_from
    turned = ap onward made.same ∙ sym (ap (assembled_from (suc k) (sheet_of s out)) (cutting 10 t at e h q)) ∙ kept.same

    pub refused-here : (m.why ≡ 0 → ⊥) → as_assembled (record { len = 0; line = k + 1; why = m.why }) o ≡ assembled t
    refused-here z =
        let w = ne_eqb m.why 0 z in
        ap (λ b. cond b (accepted (take 0 o)) (refused_at (k + 1) m.why)) w
        ∙ ap (λ n. refused_at n m.why) (add-one k)
        ∙ sym (ap (λ b. onward (cond b (got (sheet_of m o)) (refused m.why))) w)
        ∙ turned

    pub next-line : (n : ℕ) → m.why ≡ 0 → at ≤ e → drop n t ≡ drop (e + 1) t → length o ≡ length out → MadeSoFar t m o n (k + 1)
    next-line n z g d w =
        let v = eq-eqb m.why 0 z in
        let x : as_sheet m o ≡ got (sheet_of m o) = ap (λ b. cond b (got (sheet_of m o)) (refused m.why)) v in
        let far = further t at e n h g d in
        let near = kept.near in
        record {
          near = omega (arith, far, near);
          count = omega (arith, h, near);
          room = (subst (λ n. 69184 ≤ n) (sym w) kept.room.0, made.low);
          same =
              ap (λ j. assembled_from (suc j) (sheet_of m o) (pieces 10 (drop n t))) (add-one k)
              ∙ ap (λ y. assembled_from (suc (suc k)) (sheet_of m o) (pieces 10 y)) d
              ∙ sym (ap onward x)
              ∙ turned;
        }
