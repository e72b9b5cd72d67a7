-- The tables of labels: what they tell of an instruction, and what they are behind it.
use Prim.Native.Nat.{ℕ, zero, suc, ◌+◌, ◌-◌, ◌*◌, ◌≤◌, ◌<◌}
use mathlib.Core.Path.{◌≡◌, refl, sym, ap, ◌∙◌, subst}
use mathlib.Core.Bool.{Bool, true, false, not, cond, ◌&&◌, ◌||◌, and_assoc, or_self, or-true, or-false}
use mathlib.Core.List.{List, [], ◌∷◌, ◌++◌, map}
use native.Mathlib.Numerals.{add-one}
use native.Mathlib.Omega.{arith}
use borrow.Author.Tests.{eqb-true, eqb-false, eq-eqb, ne_eqb, lt-ltb, ltb-true, ltb-false}
use lib.ListN.{length, drop, get_or, set, length-set, drop_of_length-le, get_or-eq_default}
use lib.Dec.{ltb, eqb}
use lib.Seq.{sets, length-sets, drop-cons, get_or-set_same, get_or-set_other, set-get_or}
use Rattle.mir.specs.Encode.{flag_byte}
use Rattle.mir.specs.Field.{bytes_at}
use Rattle.mir.proofs.Passing.{either, or_left, or_right}
use Rattle.words.specs.Bytes.{stored}
use Rattle.words.proofs.Stored.{stored_fits}
use Rattle.lowering.specs.declared.realness.Realness.{Realness}
use Rattle.lowering.specs.RecordBytes.{record_bytes}
use Rattle.lowering.specs.Labels as Labels
use Rattle.lowering.specs.Labels.{Role, Standing, later, stands, flag_same, flags_same, bytes_same, same_records, differs, misplaced, unequal, passed}
use Rattle.lowering.specs.Lower.{past}
use Rattle.lowering.proofs.RecordStored.{length_record}
use Rattle.lowering.proofs.Same.{same_bytes, same-records}
use Rattle.lowering.proofs.Tests.{label_refusal, neither}
use Rattle.refusals.specs.Noted.{row, unlike, Noted, tell, mark_behind, marks_behind, rows_behind, Passed, BranchNoted}

-- ---- records in bytes

same_flag_byte : (f g : Bool) → eqb (flag_byte f) (flag_byte g) ≡ flag_same f g
same_flag_byte true true = refl
same_flag_byte true false = refl
same_flag_byte false true = refl
same_flag_byte false false = refl

same_flag_bytes : (fs gs : List Bool) (x y : List ℕ) → length fs ≡ length gs
    → bytes_same (map flag_byte fs ++ x) (map flag_byte gs ++ y) ≡ (flags_same fs gs && bytes_same x y)
same_flag_bytes [] [] x y e = refl
same_flag_bytes [] (g ∷ gs) x y e = absurd (omega (arith, e))
same_flag_bytes (f ∷ fs) [] x y e = absurd (omega (arith, e))
same_flag_bytes (f ∷ fs) (g ∷ gs) x y e =
    ap (λ (q : Bool). q && bytes_same (map flag_byte fs ++ x) (map flag_byte gs ++ y)) (same_flag_byte f g)
    ∙ ap (λ (q : Bool). flag_same f g && q) (same_flag_bytes fs gs x y (omega (arith, e)))
    ∙ sym (and_assoc (flag_same f g) (flags_same fs gs) (bytes_same x y))

-- 11's comparison is that of the bytes
same_record_bytes : (ρ ρ' : Realness) → length ρ.regs ≡ 32 → length ρ'.regs ≡ 32
    → bytes_same (record_bytes ρ) (record_bytes ρ') ≡ same_records ρ ρ'
same_record_bytes ρ ρ' h k = same_flag_bytes ρ.regs ρ'.regs ρ.places ρ'.places (h ∙ sym k)

-- ---- rows

below : (v l : List ℕ) (i k : ℕ) → k < i → get_or (sets l i v) k 0 ≡ get_or l k 0
below [] l i k h = refl
below (x ∷ v) l i k h = below v (set l i x) (suc i) k (omega arith) ∙ get_or-set_other l i k x 0 (λ e. omega arith)

row_stored : (v l : List ℕ) (i : ℕ) → i + length v ≤ length l → bytes_at (sets l i v) i (length v) ≡ v
row_stored [] l i h = refl
row_stored (x ∷ v) l i h =
    let a = below v (set l i x) (suc i) i (omega arith) ∙ get_or-set_same l i x 0 (omega arith) in
    let n = length-set l i x in
    let b = row_stored v (set l i x) (suc i) (omega (arith, n)) in
    λ j. a j ∷ b j

row_set : (l : List ℕ) (j x i n : ℕ) → ((k : ℕ) → i ≤ k → k < i + n → k ≡ j → ⊥) → bytes_at (set l j x) i n ≡ bytes_at l i n
row_set l j x i zero h = refl
row_set l j x i (suc n) h =
    let a = get_or-set_other l j i x 0 (h i (omega arith) (omega arith)) in
    let b = row_set l j x (suc i) n (λ k p q. h k (omega arith) (omega arith)) in
    λ y. a y ∷ b y

row_before : (v l : List ℕ) (j i n : ℕ) → i + n ≤ j → bytes_at (sets l j v) i n ≡ bytes_at l i n
row_before [] l j i n h = refl
row_before (x ∷ v) l j i n h = row_before v (set l j x) (suc j) i n (omega arith) ∙ row_set l j x i n (λ k p q e. omega arith)

row_after : (v l : List ℕ) (j i n : ℕ) → j + length v ≤ i → bytes_at (sets l j v) i n ≡ bytes_at l i n
row_after [] l j i n h = refl
row_after (x ∷ v) l j i n h = row_after v (set l j x) (suc j) i n (omega arith) ∙ row_set l j x i n (λ k p q e. omega arith)

-- a row stored, and the others
module _ (rows v : List ℕ) (l : ℕ) (n : length v ≡ 96) (fits : 96 * l + 96 ≤ length rows) where
  stored_row : stored rows (96 * l) v ≡ sets rows (96 * l) v
  stored_row = stored_fits rows (96 * l) v (omega (arith, n))

  row_same : row l (stored rows (96 * l) v) ≡ v
  row_same =
      ap (row l) stored_row ∙ ap (λ k. bytes_at (sets rows (96 * l) v) (96 * l) k) (sym n) ∙ row_stored v rows (96 * l) (omega (arith, n))

  row_other : (m : ℕ) → eqb l m ≡ false → row m (stored rows (96 * l) v) ≡ row m rows
  row_other m e =
      ap (row m) stored_row
      ∙ either (ltb m l)
      (λ t. let h = ltb-true m l t in row_before v rows (96 * l) (96 * m) 96 (omega (arith, h)))
      (λ f.
      let h = ltb-false m l f in
      let g = eqb-false l m e in
      let k : l < m = omega (arith, h, g) in
      row_after v rows (96 * l) (96 * m) 96 (omega (arith, k, n)))

  row-length : length (stored rows (96 * l) v) ≡ length rows
  row-length = ap length stored_row ∙ length-sets rows (96 * l) v

-- bytes compared with a row, one by one
module _ (rows bytes : List ℕ) (at n i : ℕ) (h : i < n) (long : length bytes ≡ n) where
  compared : bytes_same (bytes_at rows (at + i) (n - i)) (drop i bytes)
      ≡ (eqb (get_or rows (at + i) 0) (get_or bytes i 0) && bytes_same (bytes_at rows (at + (i + 1)) (n - (i + 1))) (drop (i + 1) bytes))
  compared =
      let e : n - i ≡ suc (n - (i + 1)) = omega (arith, h) in
      let f : suc (at + i) ≡ at + (i + 1) = omega arith in
      ap (λ k. bytes_same (bytes_at rows (at + i) k) (drop i bytes)) e
      ∙ ap (λ b. bytes_same (bytes_at rows (at + i) (suc (n - (i + 1)))) b) (drop-cons bytes i 0 (omega (arith, h, long)))
      ∙ ap (λ k. eqb (get_or rows (at + i) 0) (get_or bytes i 0) && bytes_same (bytes_at rows k (n - (i + 1))) (drop (suc i) bytes)) f
      ∙ ap (λ k. eqb (get_or rows (at + i) 0) (get_or bytes i 0) && bytes_same (bytes_at rows (at + (i + 1)) (n - (i + 1))) (drop k bytes)) (sym (add-one i))

  pub compared_same : get_or rows (at + i) 0 ≡ get_or bytes i 0
      → bytes_same (bytes_at rows (at + (i + 1)) (n - (i + 1))) (drop (i + 1) bytes) ≡ bytes_same (bytes_at rows (at + i) (n - i)) (drop i bytes)
  compared_same e = sym (compared ∙ rw (eq-eqb (get_or rows (at + i) 0) (get_or bytes i 0) e) refl)

  pub compared-apart : (get_or rows (at + i) 0 ≡ get_or bytes i 0 → ⊥) → bytes_same (bytes_at rows (at + i) (n - i)) (drop i bytes) ≡ false
  compared-apart e = compared ∙ rw (ne_eqb (get_or rows (at + i) 0) (get_or bytes i 0) e) refl

pub compared_all : (rows bytes : List ℕ) (at n i : ℕ) → n ≤ i → length bytes ≡ n → bytes_same (bytes_at rows (at + i) (n - i)) (drop i bytes) ≡ true
compared_all rows bytes at n i h long =
    let e : n - i ≡ 0 = omega (arith, h) in
    ap (λ k. bytes_same (bytes_at rows (at + i) k) (drop i bytes)) e
    ∙ ap (λ b. bytes_same [] b) (drop_of_length-le bytes {i = i} (omega (arith, h, long)))

-- ---- a label marked

module _ (marks : List ℕ) (l v : ℕ) (h : l < length marks) where
  pub mark-at : (m : ℕ) → eqb l m ≡ true → get_or (set marks l v) m 0 ≡ v
  mark-at m e = ap (λ m. get_or (set marks l v) m 0) (sym (eqb-true l m e)) ∙ get_or-set_same marks l v 0 h

  pub mark-other : (m : ℕ) → eqb l m ≡ false → get_or (set marks l v) m 0 ≡ get_or marks m 0
  mark-other m e = get_or-set_other marks l m v 0 (λ f. eqb-false l m e (sym f))

-- what looking ahead sees first is an instruction with this role
abbrev pub stands_at : ℕ → Role → Bool
stands_at l Labels.works = false
stands_at l (Labels.labels m) = eqb m l
stands_at l (Labels.branches m) = false

abbrev pub SeenFirst : Role → List ℕ → Type 0
SeenFirst i rest = (l : ℕ) → later l rest ≡ (stands_at l i || later l (past rest))

-- a label that stands ahead has an entry
inside : {b : Standing} {rest marks rows : List ℕ} (l : ℕ) → Noted b rest marks rows → ltb 0 (get_or marks l 0) ≡ true → l < length marks
inside {marks = marks} l t h =
    either (ltb l (length marks)) (ltb-true l (length marks))
    (λ f.
    let k = ltb-true 0 (get_or marks l 0) h in
    let e = get_or-eq_default marks 0 {n = l} (ltb-false l (length marks) f) in
    absurd (omega (arith, k, e)))

-- ---- what is told, by the marks

module _ (l : ℕ) (ρ : Realness) (marks rows : List ℕ) where
  pub branch-none : get_or marks l 0 ≡ 0 → 10 ≡ tell (Labels.branches l) ρ marks rows
  branch-none e = sym (ap (λ (m : ℕ). cond (eqb m 0 || eqb m 4) 10 0) e)

  pub branch-stood : get_or marks l 0 ≡ 4 → 10 ≡ tell (Labels.branches l) ρ marks rows
  branch-stood e = sym (ap (λ (m : ℕ). cond (eqb m 0 || eqb m 4) 10 0) e)

  pub branch-ahead : (get_or marks l 0 ≡ 0 → ⊥) → (get_or marks l 0 ≡ 4 → ⊥) → 0 ≡ tell (Labels.branches l) ρ marks rows
  branch-ahead e f = rw (ne_eqb (get_or marks l 0) 0 e, ne_eqb (get_or marks l 0) 4 f) refl

-- do the records differ? by the mark, and by the row where there is one
module _ (mark : ℕ) (bytes : List ℕ) (ρ : Realness) where
  pub unlike-row : {r : Bool} → mark ≡ 2 → r ≡ bytes_same bytes (record_bytes ρ) → not r ≡ unlike mark bytes ρ
  unlike-row e f = ap not f ∙ sym (ap (λ (q : Bool). cond q (not (bytes_same bytes (record_bytes ρ))) (ltb 2 mark)) (eq-eqb mark 2 e))

  pub unlike-other : (mark ≡ 2 → ⊥) → ltb 2 mark ≡ unlike mark bytes ρ
  unlike-other e = sym (ap (λ (q : Bool). cond q (not (bytes_same bytes (record_bytes ρ))) (ltb 2 mark)) (ne_eqb mark 2 e))

module _ (l : ℕ) (ρ : Realness) (marks rows : List ℕ) where
  pub label-stood : get_or marks l 0 ≡ 4 → 10 ≡ tell (Labels.labels l) ρ marks rows
  label-stood e = sym (ap (λ (m : ℕ). cond (eqb m 4) 10 (cond (unlike m (row l rows) ρ) 11 0)) e)

  -- it did not stand, and r tells whether the records differ
  by-records : {m : ℕ} {r : Bool} → m ≡ get_or marks l 0 → (m ≡ 4 → ⊥) → r ≡ unlike m (row l rows) ρ → cond r 11 0 ≡ tell (Labels.labels l) ρ marks rows
  by-records {m} {r} e f g =
      ap (λ (q : Bool). cond q 11 0) g
      ∙ sym (ap (λ (q : Bool). cond q 10 (cond (unlike m (row l rows) ρ) 11 0)) (ne_eqb m 4 f))
      ∙ ap (λ (m : ℕ). cond (eqb m 4) 10 (cond (unlike m (row l rows) ρ) 11 0)) e

  pub label-unlike : {m : ℕ} {r : Bool} → m ≡ get_or marks l 0 → (m ≡ 4 → ⊥) → r ≡ unlike m (row l rows) ρ → r ≡ true
      → 11 ≡ tell (Labels.labels l) ρ marks rows
  label-unlike e f g t = sym (ap (λ (q : Bool). cond q 11 0) t) ∙ by-records e f g

  pub label-alike : {m : ℕ} {r : Bool} → m ≡ get_or marks l 0 → (m ≡ 4 → ⊥) → r ≡ unlike m (row l rows) ρ → r ≡ false
      → 0 ≡ tell (Labels.labels l) ρ marks rows
  label-alike e f g t = sym (ap (λ (q : Bool). cond q 11 0) t) ∙ by-records e f g

-- ---- a label

module _ (l : ℕ) (ρ : Realness) (full : length ρ.regs ≡ 32) (marks rows : List ℕ) where
  label-told : (b : Standing) (rest : List ℕ) → Noted b rest marks rows → tell (Labels.labels l) ρ marks rows ≡ label_refusal (Labels.labels l) b (past rest) ρ
  unfolding misplaced unequal
  label-told b rest t =
      let mark = get_or marks l 0 in
      either (eqb mark 4)
      (λ f.
      let s = t.stood l ∙ f in
      ap (λ (q : Bool). cond q 10 (cond (unlike mark (row l rows) ρ) 11 0)) f
      ∙ sym (ap (λ (q : Bool). cond q 10 (cond (differs l ρ b.branches) 11 0)) s))
      (λ f.
      let s = t.stood l ∙ f in
      ap (λ (q : Bool). cond q 10 (cond (unlike mark (row l rows) ρ) 11 0)) f
      ∙ sym (ap (λ (q : Bool). cond q 10 (cond (differs l ρ b.branches) 11 0)) s ∙ ap (λ (q : Bool). cond q 11 0) (t.differ l ρ full s)))

  label-noted : (b : Standing) (rest : List ℕ) → SeenFirst (Labels.labels l) rest → Noted b rest marks rows → stands l b.labels ≡ false
      → Noted (record { labels = l ∷ b.labels; branches = b.branches }) (past rest) (set marks l 4) rows
  label-noted b rest seen t s =
      let here : ltb 0 (get_or marks l 0) ≡ true = sym (t.ahead l s) ∙ seen l ∙ ap (λ (q : Bool). q || later l (past rest)) (eq-eqb l l refl) in
      let inside : l < length marks = inside l t here in
      record {
        long = length-set marks l 4 ∙ t.long;
        room = λ m p.
            either (eqb l m)
            (λ e. subst (λ m. 96 * m + 96 ≤ length rows) (eqb-true l m e) (t.room l (ltb-true 0 (get_or marks l 0) here)))
            (λ e. t.room m (subst (λ (x : ℕ). 0 < x) (mark-other marks l 4 inside m e) p));
        stood = λ m.
            either (eqb l m)
            (λ e. ap (λ (q : Bool). q || stands m b.labels) e ∙ sym (ap (λ x. eqb x 4) (mark-at marks l 4 inside m e)))
            (λ e.
            ap (λ (q : Bool). q || stands m b.labels) e ∙ t.stood m ∙ sym (ap (λ x. eqb x 4) (mark-other marks l 4 inside m e)));
        ahead = λ m f.
            let e = or_left (eqb l m) (stands m b.labels) f in
            let g = or_right (eqb l m) (stands m b.labels) f in
            sym (ap (λ (q : Bool). q || later m (past rest)) e) ∙ sym (seen m) ∙ t.ahead m g
            ∙ sym (ap (λ x. ltb 0 x) (mark-other marks l 4 inside m e));
        differ = λ m ρ z f.
            let e = or_left (eqb l m) (stands m b.labels) f in
            let g = or_right (eqb l m) (stands m b.labels) f in
            t.differ m ρ z g ∙ sym (ap (λ x. unlike x (row m rows) ρ) (mark-other marks l 4 inside m e));
      }

-- ---- a branch

module _ (l : ℕ) (ρ₀ : Realness) (full : length ρ₀.regs ≡ 32) (wide : length ρ₀.places ≡ 64) where
  -- a label's new mark and the rows, and what they tell
  record Behind (mark : ℕ) (rows : List ℕ) (mark' : ℕ) (rows' : List ℕ) : Type 0 where
    some : ltb 0 mark' ≡ true
    unstood : eqb mark' 4 ≡ false
    long : length rows' ≡ length rows
    others : (m : ℕ) → eqb l m ≡ false → row m rows' ≡ row m rows
    tells : (ρ : Realness) → length ρ.regs ≡ 32 → (not (same_records ρ₀ ρ) || unlike mark (row l rows) ρ) ≡ unlike mark' (row l rows') ρ

  abbrev behind-mark : ℕ → List ℕ → ℕ
  behind-mark mark rows = mark_behind mark (bytes_same (row l rows) (record_bytes ρ₀))

  abbrev behind-rows : ℕ → List ℕ → List ℕ
  behind-rows mark rows = cond (eqb mark 1) (stored rows (96 * l) (record_bytes ρ₀)) rows

  -- the first branch
  first : (rows : List ℕ) → 96 * l + 96 ≤ length rows → Behind 1 rows 2 (stored rows (96 * l) (record_bytes ρ₀))
  first rows fits =
      let n = length_record ρ₀ full wide in
      record {
        some = refl;
        unstood = refl;
        long = row-length rows (record_bytes ρ₀) l n fits;
        others = row_other rows (record_bytes ρ₀) l n fits;
        tells = λ ρ z.
            or-false (not (same_records ρ₀ ρ))
            ∙ ap not (sym (same_record_bytes ρ₀ ρ full z))
            ∙ ap (λ x. not (bytes_same x (record_bytes ρ))) (sym (row_same rows (record_bytes ρ₀) l n fits));
      }

  -- a later one with the same records
  again : (rows : List ℕ) → bytes_same (row l rows) (record_bytes ρ₀) ≡ true → Behind 2 rows 2 rows
  again rows e =
      record {
        some = refl;
        unstood = refl;
        long = refl;
        others = λ m f. refl;
        tells = λ ρ z.
            let k = same_bytes (row l rows) (record_bytes ρ₀) e in
            ap (λ (q : Bool). not q || not (bytes_same (row l rows) (record_bytes ρ)))
            (sym (same_record_bytes ρ₀ ρ full z) ∙ ap (λ x. bytes_same x (record_bytes ρ)) (sym k))
            ∙ or_self (not (bytes_same (row l rows) (record_bytes ρ)));
      }

  -- one with others: no record equals both
  apart : (rows : List ℕ) → bytes_same (row l rows) (record_bytes ρ₀) ≡ false → Behind 2 rows 3 rows
  apart rows e =
      record {
        some = refl;
        unstood = refl;
        long = refl;
        others = λ m f. refl;
        tells = λ ρ z.
            either (same_records ρ₀ ρ)
            (λ t.
            let k = same-records ρ₀ ρ t in
            ap (λ (q : Bool). not (same_records ρ₀ ρ) || not q) (ap (λ ρ. bytes_same (row l rows) (record_bytes ρ)) (sym k) ∙ e)
            ∙ or-true (not (same_records ρ₀ ρ)))
            (λ f. ap (λ (q : Bool). not q || not (bytes_same (row l rows) (record_bytes ρ))) f);
      }

  -- where they already differ
  still : (mark : ℕ) (rows : List ℕ) → ltb 2 mark ≡ true → eqb mark 4 ≡ false → Behind mark rows mark rows
  still mark rows e f =
      let h = ltb-true 2 mark e in
      record {
        some = lt-ltb 0 mark (omega (arith, h));
        unstood = f;
        long = refl;
        others = λ m f. refl;
        tells = λ ρ z.
            let k : eqb mark 2 ≡ false = ne_eqb mark 2 (λ g. omega (arith, g, h)) in
            let u : unlike mark (row l rows) ρ ≡ true = ap (λ (q : Bool). cond q (not (bytes_same (row l rows) (record_bytes ρ))) (ltb 2 mark)) k ∙ e in
            ap (λ (q : Bool). not (same_records ρ₀ ρ) || q) u ∙ or-true (not (same_records ρ₀ ρ)) ∙ sym u;
      }

  behind : (mark : ℕ) (rows : List ℕ) → ltb 0 mark ≡ true → eqb mark 4 ≡ false → (0 < mark → 96 * l + 96 ≤ length rows)
      → Behind mark rows (behind-mark mark rows) (behind-rows mark rows)
  behind mark rows e f fits =
      either (eqb mark 1)
      (λ p.
      let k = eqb-true mark 1 p in
      subst (λ (x : ℕ). Behind x rows (behind-mark x rows) (behind-rows x rows)) (sym k) (first rows (fits (ltb-true 0 mark e))))
      (λ p.
      either (eqb mark 2)
      (λ q.
      let k = eqb-true mark 2 q in
      subst (λ (x : ℕ). Behind x rows (behind-mark x rows) (behind-rows x rows)) (sym k)
      (either (bytes_same (row l rows) (record_bytes ρ₀))
      (λ s. subst (λ (y : Bool). Behind 2 rows (cond y 2 3) rows) (sym s) (again rows s))
      (λ s. subst (λ (y : Bool). Behind 2 rows (cond y 2 3) rows) (sym s) (apart rows s))))
      (λ q.
      let h = ltb-true 0 mark e in
      let a = eqb-false mark 1 p in
      let b = eqb-false mark 2 q in
      let c : 2 < mark = omega (arith, h, a, b) in
      subst (λ (y : Bool). Behind mark rows (cond y 2 (cond (eqb mark 2) (cond (bytes_same (row l rows) (record_bytes ρ₀)) 2 3) mark)) (cond y (stored rows (96 * l) (record_bytes ρ₀)) rows)) (sym p)
      (subst (λ (y : Bool). Behind mark rows (cond y (cond (bytes_same (row l rows) (record_bytes ρ₀)) 2 3) mark) rows) (sym q)
      (still mark rows (lt-ltb 2 mark c) f))))

  module _ (marks rows : List ℕ) where
    -- the label's own entry, or another's
    branch-noted : {rows' : List ℕ} (mark' : ℕ) (b : Standing) (rest : List ℕ) → SeenFirst (Labels.branches l) rest → Noted b rest marks rows
        → stands l b.labels ≡ false → ltb 0 (get_or marks l 0) ≡ true → Behind (get_or marks l 0) rows mark' rows'
        → Noted (record { labels = b.labels; branches = record { label = l; real = ρ₀ } ∷ b.branches }) (past rest) (set marks l mark') rows'
    branch-noted {rows'} mark' b rest seen t s some k =
        let inside : l < length marks = inside l t some in
        record {
          long = length-set marks l mark' ∙ t.long;
          room = λ m p.
              let w = k.long in
              either (eqb l m)
              (λ e.
              subst (λ m. 96 * m + 96 ≤ length rows') (eqb-true l m e)
              (let r = t.room l (ltb-true 0 (get_or marks l 0) some) in omega (arith, r, w)))
              (λ e.
              let r = t.room m (subst (λ (x : ℕ). 0 < x) (mark-other marks l mark' inside m e) p) in
              omega (arith, r, w));
          stood = λ m.
              either (eqb l m)
              (λ e.
              ap (λ m. stands m b.labels) (sym (eqb-true l m e)) ∙ s ∙ sym k.unstood
              ∙ sym (ap (λ x. eqb x 4) (mark-at marks l mark' inside m e)))
              (λ e. t.stood m ∙ sym (ap (λ x. eqb x 4) (mark-other marks l mark' inside m e)));
          ahead = λ m f.
              sym (seen m) ∙ t.ahead m f
              ∙ either (eqb l m)
              (λ e.
              ap (λ m. ltb 0 (get_or marks m 0)) (sym (eqb-true l m e)) ∙ some ∙ sym k.some
              ∙ sym (ap (λ x. ltb 0 x) (mark-at marks l mark' inside m e)))
              (λ e. sym (ap (λ x. ltb 0 x) (mark-other marks l mark' inside m e)));
          differ = λ m ρ z f.
              either (eqb l m)
              (λ e.
              let j = eqb-true l m e in
              ap (λ (q : Bool). q && not (same_records ρ₀ ρ) || differs m ρ b.branches) e
              ∙ ap (λ (q : Bool). not (same_records ρ₀ ρ) || q) (ap (λ m. differs m ρ b.branches) (sym j) ∙ t.differ l ρ z s)
              ∙ k.tells ρ z
              ∙ ap (λ m. unlike mark' (row m rows') ρ) j
              ∙ sym (ap (λ x. unlike x (row m rows') ρ) (mark-at marks l mark' inside m e)))
              (λ e.
              ap (λ (q : Bool). q && not (same_records ρ₀ ρ) || differs m ρ b.branches) e
              ∙ t.differ m ρ z f
              ∙ ap (λ x. unlike (get_or marks m 0) x ρ) (sym (k.others m e))
              ∙ sym (ap (λ x. unlike x (row m rows') ρ) (mark-other marks l mark' inside m e)));
        }

    branch-told : (b : Standing) (rest : List ℕ) → SeenFirst (Labels.branches l) rest → Noted b rest marks rows
        → tell (Labels.branches l) ρ₀ marks rows ≡ label_refusal (Labels.branches l) b (past rest) ρ₀
    unfolding misplaced unequal
    branch-told b rest seen t =
        ap (λ (q : Bool). cond q 10 0)
        (either (eqb (get_or marks l 0) 4)
        (λ e.
        ap (λ (q : Bool). eqb (get_or marks l 0) 0 || q) e ∙ or-true (eqb (get_or marks l 0) 0)
        ∙ sym (ap (λ (q : Bool). not (later l (past rest)) || q) (t.stood l ∙ e) ∙ or-true (not (later l (past rest)))))
        (λ e.
        ap (λ (q : Bool). eqb (get_or marks l 0) 0 || q) e
        ∙ ap (λ (q : Bool). q || false) (none (get_or marks l 0) ∙ ap not (sym (sym (seen l) ∙ t.ahead l (t.stood l ∙ e))))
        ∙ sym (ap (λ (q : Bool). not (later l (past rest)) || q) (t.stood l ∙ e))))
      where
        none : (m : ℕ) → eqb m 0 ≡ not (ltb 0 m)
        none zero = refl
        none (suc m) = ne_eqb (suc m) 0 (λ e. omega (arith, e)) ∙ sym (ap not (lt-ltb 0 (suc m) (omega arith)))

    branch-on : (b : Standing) (rest : List ℕ) → SeenFirst (Labels.branches l) rest → Noted b rest marks rows → tell (Labels.branches l) ρ₀ marks rows ≡ 0
        → Noted (record { labels = b.labels; branches = record { label = l; real = ρ₀ } ∷ b.branches }) (past rest)
        (marks_behind (Labels.branches l) ρ₀ marks rows) (rows_behind (Labels.branches l) ρ₀ marks rows)
    branch-on b rest seen t z =
        let f : (eqb (get_or marks l 0) 0 || eqb (get_or marks l 0) 4) ≡ false =
        either (eqb (get_or marks l 0) 0 || eqb (get_or marks l 0) 4)
        (λ y. let w : ◌≡◌ {A = ℕ} 10 0 = sym (ap (λ (q : Bool). cond q 10 0) y) ∙ z in absurd (omega (arith, w)))
        (λ y. y) in
        let g = or_right (eqb (get_or marks l 0) 0) (eqb (get_or marks l 0) 4) f in
        let i = eqb-false (get_or marks l 0) 0 (or_left (eqb (get_or marks l 0) 0) (eqb (get_or marks l 0) 4) f) in
        let some : ltb 0 (get_or marks l 0) ≡ true = lt-ltb 0 (get_or marks l 0) (omega (arith, i)) in
        branch-noted (behind-mark (get_or marks l 0) rows) b rest seen t (t.stood l ∙ g) some (behind (get_or marks l 0) rows some g (t.room l))

-- ---- an instruction by its role

-- the tables tell what 10 and 11 are, and behind it they are noted of what stands before the next one
pub record Follows (i : Role) (ρ : Realness) (marks rows marks' rows' : List ℕ) (n : ℕ) : Type 0 where
  pub told : (b : Standing) (rest : List ℕ) → SeenFirst i rest → Noted b rest marks rows → n ≡ label_refusal i b (past rest) ρ
  pub noted : (b : Standing) (rest : List ℕ) → SeenFirst i rest → Noted b rest marks rows → n ≡ 0 → Noted (passed i ρ b) (past rest) marks' rows'

module _ {i : Role} {ρ : Realness} {marks rows marks' rows' : List ℕ} {n : ℕ} (p : Passed i ρ marks rows marks' rows' n) where
  tells : (i : Role) (b : Standing) (rest : List ℕ) → SeenFirst i rest → Noted b rest marks rows → tell i ρ marks rows ≡ label_refusal i b (past rest) ρ
  unfolding misplaced unequal
  tells Labels.works b rest seen t = refl
  tells (Labels.labels l) b rest seen t = label-told l ρ p.full marks rows b rest t
  tells (Labels.branches l) b rest seen t = branch-told l ρ p.full p.wide marks rows b rest seen t

  goes : (i : Role) (b : Standing) (rest : List ℕ) → SeenFirst i rest → Noted b rest marks rows → tell i ρ marks rows ≡ 0
      → Noted (passed i ρ b) (past rest) (marks_behind i ρ marks rows) (rows_behind i ρ marks rows)
  unfolding passed
  goes Labels.works b rest seen t z =
      record { long = t.long; room = t.room; stood = t.stood; ahead = λ l f. sym (seen l) ∙ t.ahead l f; differ = t.differ }
  goes (Labels.labels l) b rest seen t z =
      label-noted l ρ p.full marks rows b rest seen t
      (unfold misplaced in (neither (Labels.labels l) b (past rest) ρ (sym (label-told l ρ p.full marks rows b rest t) ∙ z)).0)
  goes (Labels.branches l) b rest seen t z = branch-on l ρ p.full p.wide marks rows b rest seen t z

  pub follows : Follows i ρ marks rows marks' rows' n
  follows =
      record {
        told = λ b rest seen t. p.told ∙ tells i b rest seen t;
        noted = λ b rest seen t z.
            subst (λ x. Noted (passed i ρ b) (past rest) x rows') (sym (p.marked ∙ ap (λ (k : ℕ). cond (eqb k 0) (marks_behind i ρ marks rows) marks) z))
            (subst (λ x. Noted (passed i ρ b) (past rest) (marks_behind i ρ marks rows) x)
            (sym (p.kept ∙ ap (λ (k : ℕ). cond (eqb k 0) (rows_behind i ρ marks rows) rows) z))
            (goes i b rest seen t (sym p.told ∙ z)));
      }

-- ---- what is promised of an instruction

-- a role by the instruction that has it
pub passed_as : {i j : Role} {ρ : Realness} {marks rows marks' rows' : List ℕ} {n : ℕ} → i ≡ j → Passed j ρ marks rows marks' rows' n
    → Passed i ρ marks rows marks' rows' n
passed_as {i} {j} {ρ} {marks} {rows} {marks'} {rows'} {n} e p = subst (λ (i : Role). Passed i ρ marks rows marks' rows' n) (sym e) p

module _ {ρ : Realness} (full : length ρ.regs ≡ 32) (wide : length ρ.places ≡ 64) where
  pub works-passed : (marks rows : List ℕ) → Passed Labels.works ρ marks rows marks rows 0
  works-passed marks rows = record { full = full; wide = wide; told = refl; marked = refl; kept = refl }

  -- one that is refused, and one that is not
  pub passed-refused : {i : Role} {marks rows : List ℕ} (n : ℕ) → eqb n 0 ≡ false → n ≡ tell i ρ marks rows → Passed i ρ marks rows marks rows n
  passed-refused {i} {marks} {rows} n f e =
      record {
        full = full;
        wide = wide;
        told = e;
        marked = sym (ap (λ (q : Bool). cond q (marks_behind i ρ marks rows) marks) f);
        kept = sym (ap (λ (q : Bool). cond q (rows_behind i ρ marks rows) rows) f);
      }

  pub passed_on : {i : Role} {marks rows marks' rows' : List ℕ} → 0 ≡ tell i ρ marks rows → marks' ≡ marks_behind i ρ marks rows
      → rows' ≡ rows_behind i ρ marks rows → Passed i ρ marks rows marks' rows' 0
  passed_on e f g = record { full = full; wide = wide; told = e; marked = f; kept = g }

  -- a branch's, by its bytes
  pub branch-passed : {l : ℕ} {bytes marks rows marks' rows' : List ℕ} → 0 ≡ tell (Labels.branches l) ρ marks rows
      → bytes ≡ record_bytes ρ → BranchNoted l bytes marks rows marks' rows' → Passed (Labels.branches l) ρ marks rows marks' rows' 0
  branch-passed {l} {bytes} {marks} {rows} e f k =
      passed_on e (k.mark ∙ ap (λ x. set marks l (mark_behind (get_or marks l 0) (bytes_same (row l rows) x))) f)
      (k.kept ∙ ap (λ x. cond (eqb (get_or marks l 0) 1) (stored rows (96 * l) x) rows) f)

-- ---- what is noted of a branch

module _ (l : ℕ) (bytes marks rows : List ℕ) where
  pub noted-first : {marks' rows' : List ℕ} → get_or marks l 0 ≡ 1 → marks' ≡ set marks l 2 → rows' ≡ stored rows (96 * l) bytes
      → BranchNoted l bytes marks rows marks' rows'
  noted-first e f g =
      record {
        mark = f ∙ ap (λ (x : ℕ). set marks l (mark_behind x (bytes_same (row l rows) bytes))) (sym e);
        kept = g ∙ ap (λ (x : ℕ). cond (eqb x 1) (stored rows (96 * l) bytes) rows) (sym e);
      }

  pub noted-row : {marks' : List ℕ} (same : Bool) → get_or marks l 0 ≡ 2 → bytes_same (row l rows) bytes ≡ same → marks' ≡ set marks l (cond same 2 3)
      → BranchNoted l bytes marks rows marks' rows
  noted-row same e s f =
      record {
        mark = f ∙ ap (λ (q : Bool). set marks l (cond q 2 3)) (sym s) ∙ ap (λ (x : ℕ). set marks l (mark_behind x (bytes_same (row l rows) bytes))) (sym e);
        kept = ap (λ (x : ℕ). cond (eqb x 1) (stored rows (96 * l) bytes) rows) (sym e);
      }

  -- the mark stays
  pub mark-stays : (m : ℕ) → get_or marks l 0 ≡ m → marks ≡ set marks l m
  mark-stays m e = sym (set-get_or marks l 0) ∙ ap (λ x. set marks l x) e

  pub noted_other : (get_or marks l 0 ≡ 1 → ⊥) → (get_or marks l 0 ≡ 2 → ⊥) → BranchNoted l bytes marks rows marks rows
  noted_other e f =
      let a = ne_eqb (get_or marks l 0) 1 e in
      let b = ne_eqb (get_or marks l 0) 2 f in
      record {
        mark = mark-stays (mark_behind (get_or marks l 0) (bytes_same (row l rows) bytes)) (rw (a, b) refl);
        kept = rw a refl;
      }
