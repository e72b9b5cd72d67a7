-- Pages from one on, and what laying out gives back.
use Prim.Native.Nat.{ℕ, zero, suc, ◌+◌, ◌-◌, ◌*◌, ◌/◌, ◌≤◌, ◌<◌}
use mathlib.Core.Path.{◌≡◌, refl, sym, ap, ◌∙◌, subst}
use mathlib.Core.Bool.{Bool, true, false, cond}
use mathlib.Core.List.{List, [], ◌∷◌, ◌++◌}
use native.Mathlib.Nat.{zero-add}
use native.Mathlib.Omega.{arith}
use borrow.Author.Tests.{lt-ltb, le-ltb, eq-eqb, ne_eqb, eqb-true, ltb-true}
use lib.Dec.{ltb, eqb}
use lib.ListN.{length, drop}
use lib.Seq.{sets, sets-eq}
use Rattle.mir.proofs.Decoding.{Bytes, items}
use Rattle.records.specs.Record.{record_from, records}
use Rattle.player_machine.specs.Jumps.{breach}
use Rattle.player_machine.specs.Refusal.{Refusal, refusal}
use Rattle.player_machine.proofs.Refusing.{Accepted}
use Rattle.player.specs.declared.Verdict.{Verdict}
use Rattle.player.specs.Positions.{Behind, Judged}
use Rattle.text.specs.Puts.{Puts}
use Rattle.pages.specs.Pages.{Row, constant_row, record_row, numbered, lines, pages_from, page_count}
use Rattle.pages.specs.Printed.{refused, printed_by, from_record0, rows_of, printed, least, printed_part}
use Rattle.pages.specs.declared.PagesAnswer.{PagesAnswer}
use Rattle.pages.specs.Standing.{rows_at}
use Rattle.pages.specs.Values.{whole}
use Rattle.pages.proofs.Aligned.{Fits}
use Rattle.pages.proofs.Sizes.{few}
use Rattle.pages.proofs.Fitting.{behind, numbered_long, rows_long, taken, rows_few, rows_fit, lines_long}

-- rows behind others
drop_numbered : {A : Type 0} (row : ℕ → A → Row) (j i : ℕ) (l : List A) → drop j (numbered row i l) ≡ numbered row (i + j) (drop j l)
drop_numbered row zero i l = let e : i ≡ i + 0 = omega arith in ap (λ k. numbered row k l) e
drop_numbered row (suc j) i [] = refl
drop_numbered row (suc j) i (a ∷ l) =
    let e : suc i + j ≡ i + suc j = omega arith in drop_numbered row j (suc i) l ∙ ap (λ k. numbered row k (drop j l)) e

drop_both : {A : Type 0} (j : ℕ) (a b : List A) → drop j (a ++ b) ≡ drop j a ++ drop (j - length a) b
drop_both zero a b = let e : 0 ≡ 0 - length a = omega arith in ap (λ k. a ++ drop k b) e
drop_both (suc j) [] b = let e : suc j ≡ suc j - 0 = omega arith in ap (λ k. drop k b) e
drop_both (suc j) (x ∷ a) b =
    let e : j - length a ≡ suc j - suc (length a) = omega arith in drop_both j a b ∙ ap (λ k. drop j a ++ drop k b) e

-- the rows from line j on, with the records from the position of record `j - length constants`
pub rows_from : (listing constants : List ℕ) (j : ℕ) {from : ℕ} → Accepted listing (length constants) 0 1602
    → Behind listing 0 (j - length constants) from
    → rows_at constants listing j from ≡ drop j (rows_of listing constants)
rows_from listing constants j {from} a b =
    let k = j - length constants in
    let rs = items (record_from (length constants)) listing in
    let e : k ≡ j - length (numbered constant_row 0 constants) = ap (λ n. j - n) (sym (numbered_long constant_row 0 constants)) in
    ap (λ l. numbered constant_row j (drop j constants) ++ numbered record_row k l) (b.same (length constants) a.sound)
    ∙ sym
    ((λ i. drop_numbered constant_row j 0 constants i ++ drop_numbered record_row k 0 rs i)
    ∙ (λ i. numbered constant_row (zero-add j i) (drop j constants) ++ numbered record_row (zero-add k i) (drop k rs)))
    ∙ ap (λ n. drop j (numbered constant_row 0 constants) ++ drop n (numbered record_row 0 rs)) e
    ∙ sym (drop_both j (numbered constant_row 0 constants) (numbered record_row 0 rs))

-- the first record
pub first_record : (s : List ℕ) {k : ℕ} → k ≡ 0 → Behind s 0 k 0
first_record s {k} e = subst (λ k. Behind s 0 k 0) (sym e) (record { same = λ count h. refl; sound = λ count h. h })

-- what is accepted from record 0 is accepted from any other
pub from_later : (listing : List ℕ) (constants k : ℕ) → Accepted listing constants 0 1602
    → k ≤ length (records constants listing).items
    → (refusal listing constants k 1602).number ≡ 0
unfolding refusal
from_later listing constants k a h =
    let d = records constants listing in
    let n = length d.items in
    let most : n ≤ breach d.items = omega (arith, a.kept) in
    rw (le-ltb 65536 (length listing) a.short, le-ltb 256 constants a.few, eq-eqb d.fault 0 a.sound, le-ltb n k h, le-ltb (breach d.items) n most)

pub judged_zero : {s : List ℕ} {constants start words : ℕ} {v : Verdict} → Judged s constants start words v
    → (refusal s constants start words).number ≡ 0 → v.number ≡ 0
judged_zero j z = ap (λ (r : Refusal). r.number) j.same ∙ z

pub no_pages : (out : List ℕ) (first : ℕ) (rows : List Row) {n : ℕ} → n ≡ 0 → Puts out 0 (pages_from first n rows) out 0
no_pages out first rows {n} e =
    subst (λ n. Puts out 0 (pages_from first n rows) out 0) (sym e) (record { same = refl; ends = refl; fits = omega arith })

-- the answer, test by test
module _ (r : Refusal) (count : ℕ) (text out : List ℕ) where
  pub turned-away : (r.number ≡ 0 → ⊥) → refused r.number r.index out ≡ printed_by r count text out
  turned-away h = simp (ne_eqb r.number 0 h)

  pub no_room : r.number ≡ 0 → length out < length text → refused 7 0 out ≡ printed_by r count text out
  no_room e h = simp (eq-eqb r.number 0 e, lt-ltb (length out) (length text) h)

  pub laid_out : {out' : List ℕ} {index pages : ℕ} → r.number ≡ 0 → length text ≤ length out → out' ≡ sets out 0 text
      → index ≡ r.index → pages ≡ count
      → record { number = 0; index = index; pages = pages; out = out' } ≡ printed_by r count text out
  laid_out {out'} {index} {pages} e h s i p =
      let m : 0 + length text ≤ length out = omega (arith, h) in
      let f : out' ≡ text ++ drop (length text) out
      = s ∙ sets-eq text out 0 m ∙ ap (λ n. text ++ drop n out) (zero-add (length text)) in
      simp (eq-eqb r.number 0 e, le-ltb (length out) (length text) h)
      (λ k. record { number = 0; index = i k; pages = p k; out = f k })

-- n pages from page `first` on
module _ (listing constants : List ℕ) (first n : ℕ) (e : (from_record0 listing constants).number ≡ 0) (b : Bytes listing) where
  pub pages-long : length (pages_from first n (rows_of listing constants)) ≡ 4380 * n
  pages-long =
      let l = rows_of listing constants in
      let k = lines_long (60 * n) (drop (60 * first) l) (behind Fits (60 * first) l (rows_fit listing constants e b)) in
      omega (arith, k)

  module _ (h : n ≤ page_count (rows_of listing constants) - first) (some : 0 < n) where
    pub few-lines : 60 * first + 60 * n < 100000
    few-lines = let f = rows_few listing constants e in omega (arith, f, h, some)

    pub later : 60 * first - length constants ≤ length (items (record_from (length constants)) listing)
    later = let k = rows_long listing constants in omega (arith, k, h, some)

  -- where the records behind the constants are found
  module _ {from k : ℕ} (same : k ≡ 60 * first - length constants) (found : Behind listing 0 k from) where
    pub these : lines (60 * n) (rows_at constants listing (60 * first) from) ≡ pages_from first n (rows_of listing constants)
    these =
        ap (lines (60 * n))
        (rows_from listing constants (60 * first) (taken listing constants e) (subst (λ k. Behind listing 0 k from) same found))

    pub enough : (out : List ℕ) → 4380 * n ≤ length out → length (lines (60 * n) (rows_at constants listing (60 * first) from)) ≤ length out
    enough out h = let k = ap length these ∙ pages-long in omega (arith, k, h)

least_below : (a b : ℕ) → least a b ≤ b
least_below a b = by (ltb a b) refl
  where
    by : (t : Bool) → ltb a b ≡ t → cond t a b ≤ b
    by true e = let h = ltb-true a b e in omega (arith, h)
    by false e = omega arith

-- the text of a part
abbrev pub part_text : ℕ → ℕ → List Row → List ℕ
part_text first most rows = pages_from first (least most (page_count rows - first)) rows

-- the answers of a part
module _ (listing constants out : List ℕ) (first most : ℕ) {v : Verdict} (j : Judged listing (length constants) 0 1602 v) where
  pub part-refused : {r : PagesAnswer} → (v.number ≡ 0 → ⊥) → r ≡ record { number = v.number; index = v.index; pages = 0 }
      → whole r out ≡ printed_part first most listing constants out
  unfolding printed_part
  part-refused h e =
      ap (λ r. whole r out) e
      ∙ ap (λ (r : Refusal). refused r.number r.index out) j.same
      ∙ turned-away (from_record0 listing constants) (page_count (rows_of listing constants)) (part_text first most (rows_of listing constants)) out (λ z. h (ap (λ (r : Refusal). r.number) j.same ∙ z))

  module _ (z : v.number ≡ 0) where
    pub zero_number : (from_record0 listing constants).number ≡ 0
    zero_number = ap (λ (r : Refusal). r.number) (sym j.same) ∙ z

    pub same_index : v.index ≡ (from_record0 listing constants).index
    same_index = ap (λ (r : Refusal). r.index) j.same

    pub few-records : (v.index ≤ 65536) × (length constants ≤ 256)
    few-records =
        let a = taken listing constants zero_number in
        let k = same_index ∙ a.index in
        let f = few (length constants) listing in
        (omega (arith, k, f, a.short), a.few)

    pub counted : (length constants + v.index + 59) / 60 ≡ page_count (rows_of listing constants)
    counted =
        let a = taken listing constants zero_number in
        let k = same_index ∙ a.index in
        let l = rows_long listing constants in
        ap (λ n. (n + 59) / 60) (ap (λ n. length constants + n) k ∙ sym l)

    module _ (b : Bytes listing) {m n : ℕ} (d : m ≡ (length constants + v.index + 59) / 60 - first) (l : n ≡ least most m) where
      so-many : n ≡ least most (page_count (rows_of listing constants) - first)
      so-many = l ∙ ap (least most) (d ∙ ap (λ p. p - first) counted)

      part-text : pages_from first n (rows_of listing constants)
          ≡ part_text first most (rows_of listing constants)
      part-text = ap (λ n. pages_from first n (rows_of listing constants)) so-many

      part-long : length (part_text first most (rows_of listing constants)) ≡ 4380 * n
      part-long = ap length (sym part-text) ∙ pages-long listing constants first n zero_number b

      pub part-short : {r : PagesAnswer} → length out < 4380 * n → r ≡ record { number = 7; index = 0; pages = 0 }
          → whole r out ≡ printed_part first most listing constants out
      unfolding printed_part
      part-short h e =
          let k = part-long in
          ap (λ r. whole r out) e ∙ no_room (from_record0 listing constants) (page_count (rows_of listing constants)) (part_text first most (rows_of listing constants)) out zero_number (omega (arith, k, h))

      pub part-within : n ≤ page_count (rows_of listing constants) - first
      part-within = let h = least_below most (page_count (rows_of listing constants) - first) in omega (arith, so-many, h)

      pub part-full : {out' : List ℕ} {at : ℕ} → 4380 * n ≤ length out → Puts out 0 (pages_from first n (rows_of listing constants)) out' at
          → record { number = 0; index = v.index; pages = (length constants + v.index + 59) / 60; out = out' }
          ≡ printed_part first most listing constants out
      unfolding printed_part
      part-full h e =
          let k = part-long in
          laid_out (from_record0 listing constants) (page_count (rows_of listing constants)) (part_text first most (rows_of listing constants)) out zero_number (omega (arith, k, h)) (e.same ∙ ap (sets out 0) part-text) same_index counted

-- all pages are a part
module _ (listing constants out : List ℕ) (r : Refusal) (e : r ≡ from_record0 listing constants) where
  by_number : (t : Bool) → eqb r.number 0 ≡ t
      → printed_by r (page_count (rows_of listing constants)) (part_text 0 65536 (rows_of listing constants)) out
      ≡ printed_by r (page_count (rows_of listing constants)) (pages_from 0 (page_count (rows_of listing constants)) (rows_of listing constants)) out
  by_number true t =
      let l = rows_of listing constants in
      let z = ap (λ (r : Refusal). r.number) (sym e) ∙ eqb-true r.number 0 t in
      let f = rows_few listing constants z in
      let h : page_count l - 0 ≤ 65536 = omega (arith, f) in
      let k : page_count l - 0 ≡ page_count l = omega arith in
      let m : least 65536 (page_count l - 0) ≡ page_count l = rw (le-ltb 65536 (page_count l - 0) h) k in
      ap (λ n. printed_by r (page_count l) (pages_from 0 n l) out) m
  by_number false t = simp t

pub all_pages : (listing constants out : List ℕ) → printed_part 0 65536 listing constants out ≡ printed listing constants out
unfolding printed_part printed
all_pages listing constants out =
    by_number listing constants out (from_record0 listing constants) refl (eqb (from_record0 listing constants).number 0) refl
