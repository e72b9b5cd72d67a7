-- Every row of an accepted listing fits its columns; so every line has 73 bytes, and nothing is cut.
use Prim.Native.Nat.{ℕ, zero, suc, ◌+◌, ◌*◌, ◌≤◌}
use mathlib.Core.Path.{◌≡◌, refl, sym, ap, ◌∙◌}
use mathlib.Core.List.{List, [], ◌∷◌, ◌++◌, append_assoc}
use native.Mathlib.Nat.{zero-add, suc-add}
use native.Mathlib.Omega.{arith}
use lib.ListN.{length, take, drop, length-append}
use lib.Seq.{take-append_seam, drop-append-add, drop-drop}
use Rattle.mir.specs.declared.records.Record.{Record}
use Rattle.mir.proofs.Decoding.{Bytes, items}
use Rattle.mir.proofs.Decoding as Decoding
use Rattle.records.specs.Record.{record_from}
use Rattle.player_machine.proofs.Refusing.{Accepted, accepted}
use Rattle.text.specs.Text.{decimal, space}
use Rattle.text.specs.Sized.{SizedRecord}
use Rattle.pages.specs.Pages.{right, left, Row, row_line, blank_line, constant_row, record_row, numbered, lines, pages_from, page_count}
use Rattle.pages.specs.Printed.{from_record0, rows_of}
use Rattle.pages.specs.Uncut.{unindented, trimmed, Whole, Each, UncutLaw, Joined}
use Rattle.pages.proofs.Trimming.{read_left, read_right}
use Rattle.pages.proofs.Aligned.{Fits, constant_fits, record_fits, right_long, left_long, row_long, blank_long}
use Rattle.pages.proofs.Sizes.{all_sized, few}

-- rows one after the other
module _ (P : Row → Type 0) where
  both : (a b : List Row) → Each P a → Each P b → Each P (a ++ b)
  both [] b p q = q
  both (row ∷ a) b p q = (p.0, both a b p.1 q)

  pub behind : (k : ℕ) (l : List Row) → Each P l → Each P (drop k l)
  behind zero l p = p
  behind (suc k) [] p = p
  behind (suc k) (row ∷ l) p = behind k l p.1

constants_fit : (i : ℕ) (cs : List ℕ) → i + length cs ≤ 100000 → Each Fits (numbered constant_row i cs)
constants_fit i [] h = tt
constants_fit i (w ∷ cs) h = (constant_fits i w (omega arith), constants_fit (suc i) cs (omega arith))

records-fit : (i : ℕ) (rs : List Record) → Decoding.Each SizedRecord rs → i + length rs ≤ 100000 → Each Fits (numbered record_row i rs)
records-fit i [] p h = tt
records-fit i (r ∷ rs) (Decoding.and z p) h = (record_fits i r (omega arith) z, records-fit (suc i) rs p (omega arith))

pub numbered_long : {A : Type 0} (row : ℕ → A → Row) (i : ℕ) (l : List A) → length (numbered row i l) ≡ length l
numbered_long row i [] = refl
numbered_long row i (a ∷ l) = ap suc (numbered_long row (suc i) l)

-- as many rows as constants and records
pub rows_long : (listing constants : List ℕ)
    → length (rows_of listing constants) ≡ length constants + length (items (record_from (length constants)) listing)
rows_long listing constants =
    let rs = items (record_from (length constants)) listing in
    length-append (numbered constant_row 0 constants) (numbered record_row 0 rs)
    ∙ (λ i. numbered_long constant_row 0 constants i + numbered_long record_row 0 rs i)

module _ (listing constants : List ℕ) (e : (from_record0 listing constants).number ≡ 0) where
  pub taken : Accepted listing (length constants) 0 1602
  taken = accepted listing (length constants) 0 1602 e

  -- there are few of them
  pub rows_few : length (rows_of listing constants) ≤ 65792
  rows_few =
      let a = taken in
      let f = few (length constants) listing in
      let n = rows_long listing constants in
      omega (arith, f, n, a.short, a.few)

  pub rows_fit : Bytes listing → Each Fits (rows_of listing constants)
  rows_fit b =
      let a = taken in
      let rs = items (record_from (length constants)) listing in
      let f = few (length constants) listing in
      both Fits (numbered constant_row 0 constants) (numbered record_row 0 rs)
      (constants_fit 0 constants (omega (arith, a.few)))
      (records-fit 0 rs (all_sized (length constants) listing b) (omega (arith, f, a.short)))

-- so many lines have 73 bytes each
pub lines_long : (n : ℕ) (l : List Row) → Each Fits l → length (lines n l) ≡ 73 * n
lines_long zero l p = refl
lines_long (suc n) [] p =
    let i = lines_long n [] tt in
    let h = blank_long in
    let a = length-append blank_line (lines n []) in
    omega (arith, i, h, a)
lines_long (suc n) (row ∷ l) p =
    let i = lines_long n l p.1 in
    let h = row_long row p.0 in
    let a = length-append (row_line row) (lines n l) in
    omega (arith, i, h, a)

-- a text of as many bytes as its columns stands in them, and what follows behind them
in_columns : (n : ℕ) (a b : List ℕ) → length a ≡ n → take n (a ++ b) ≡ a
in_columns n a b e = ap (λ k. take k (a ++ b)) (sym e) ∙ take-append_seam a b

past_columns : (n k : ℕ) (a b : List ℕ) → length a ≡ n → drop (n + k) (a ++ b) ≡ drop k b
past_columns n k a b e = ap (λ m. drop (m + k) (a ++ b)) (sym e) ∙ drop-append-add a b k

parts : (r n o : List ℕ) → r ++ space n ++ space o ++ 10 ∷ [] ≡ r ++ space (n ++ space (o ++ 10 ∷ []))
parts r n o = append_assoc (r ++ space n) (space o) (10 ∷ []) ∙ append_assoc r (space n) (space (o ++ 10 ∷ []))

row_whole : (row : Row) → Fits row → Whole row (row_line row)
unfolding row_line
row_whole row f =
    let r = right 5 (decimal row.index) in
    let n = left 16 row.name in
    let o = left 49 row.operands in
    let e = right_long 5 (decimal row.index) f.index in
    let g = left_long 16 row.name f.name in
    let h = left_long 49 row.operands f.operands in
    let rest = space (o ++ 10 ∷ []) in
    let p = parts r n o in
    let i : take 5 (row_line row) ≡ r = ap (take 5) p ∙ in_columns 5 r (space (n ++ rest)) e in
    let m : take 16 (drop 6 (row_line row)) ≡ n
    = ap (λ l. take 16 (drop 6 l)) p ∙ ap (take 16) (past_columns 5 1 r (space (n ++ rest)) e) ∙ in_columns 16 n rest g in
    let q : take 49 (drop 23 (row_line row)) ≡ o
    = ap (λ l. take 49 (drop 23 l)) p
    ∙ ap (take 49) (past_columns 5 18 r (space (n ++ rest)) e ∙ past_columns 16 1 n rest g)
    ∙ in_columns 49 o (10 ∷ []) h in
    record {
      long = row_long row f;
      index = (f.index, i, ap unindented i ∙ read_right 5 row.index);
      name = (f.name, m, ap trimmed m ∙ read_left 16 row.name f.name-kept);
      operands = (f.operands, q, ap trimmed q ∙ read_left 49 row.operands f.operands-kept);
    }

all_whole : (l : List Row) → Each Fits l → Each (λ row. Whole row (row_line row)) l
all_whole [] p = tt
all_whole (row ∷ l) p = (row_whole row p.0, all_whole l p.1)

pub uncut : UncutLaw row_line
uncut listing constants b e =
    let l = rows_of listing constants in
    let f = rows_fit listing constants e b in
    let n = lines_long (60 * page_count l) l f in
    (all_whole l f, omega (arith, n))

lines_behind_none : (m n : ℕ) → lines n (drop m []) ≡ lines n []
lines_behind_none zero n = refl
lines_behind_none (suc m) n = refl

-- lines one behind the other
lines_both : (m n : ℕ) (l : List Row) → lines (m + n) l ≡ lines m l ++ lines n (drop m l)
lines_both zero n l = ap (λ k. lines k l) (zero-add n)
lines_both (suc m) n [] =
    ap (λ k. lines k []) (suc-add m n)
    ∙ ap (λ t. blank_line ++ t) (lines_both m n [] ∙ ap (λ t. lines m [] ++ t) (lines_behind_none m n))
    ∙ sym (append_assoc blank_line (lines m []) (lines n []))
lines_both (suc m) n (row ∷ l) =
    ap (λ k. lines k (row ∷ l)) (suc-add m n)
    ∙ ap (λ t. row_line row ++ t) (lines_both m n l)
    ∙ sym (append_assoc (row_line row) (lines m l) (lines n (drop m l)))

pub joined : Joined pages_from
joined first m n l =
    let a : 60 * (m + n) ≡ 60 * m + 60 * n = omega arith in
    let b : 60 * first + 60 * m ≡ 60 * (first + m) = omega arith in
    ap (λ k. lines k (drop (60 * first) l)) a
    ∙ lines_both (60 * m) (60 * n) (drop (60 * first) l)
    ∙ ap (λ d. lines (60 * m) (drop (60 * first) l) ++ lines (60 * n) d)
    (drop-drop (60 * m) (60 * first) l ∙ ap (λ k. drop k l) b)
