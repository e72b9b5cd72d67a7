-- Text in columns: spaces one after the other, and the line of a row.
use Prim.Native.Nat.{ℕ, suc, ◌+◌, ◌-◌, ◌≤◌, ◌<◌}
use mathlib.Core.Path.{◌≡◌, refl, ap, ◌∙◌, subst}
use mathlib.Core.List.{List, [], ◌∷◌, ◌++◌, append_assoc}
use native.Mathlib.Omega.{arith}
use lib.Dec.{lit≤}
use lib.ListN.{length, length-append, length-replicate}
use Rattle.mir.specs.declared.records.Record.{Record}
use Rattle.text.specs.declared.line.Line.{Line}
use Rattle.text.specs.Line.{added, add_all, empty_line, Adds, ◌▹◌, Prints}
use Rattle.text.specs.Text.{ascii, decimal, space}
use Rattle.text.specs.Sized.{SizedRecord}
use Rattle.text.proofs.Whole.{prints}
use Rattle.text.proofs.Short.{digits, number_short, hex_in_length, text_short}
use Rattle.pages.specs.Uncut.{trimmed}
use Rattle.pages.proofs.Trimming.{bits_kept, name_of_record, operands_of_record}
use Rattle.pages.specs.Pages.{spaces, right, left, Row, row_line, blank_line, constant_row, record_row}

-- one space more
pub turn : (l : Line) (n i : ℕ) → i < n → add_all (added l 32) (spaces (n - (i + 1))) ≡ add_all l (spaces (n - i))
turn l n i h = let e : n - i ≡ suc (n - (i + 1)) = omega arith in rw e

pub ended : (l : Line) (n i : ℕ) → n ≤ i → add_all l (spaces (n - i)) ≡ l
ended l n i h = let e : n - i ≡ 0 = omega arith in rw e

pub so-many : {l m : Line} {n k : ℕ} → n ≡ k → Adds l (spaces n) m → Adds l (spaces k) m
so-many {l} {m} e a = subst (λ n. Adds l (spaces n) m) e a

-- more text on a line that holds some whole
pub more : {t u : List ℕ} {l m : Line} → Prints t l → Adds l u m → length t + length u ≤ 80 → Prints (t ++ u) m
more {t} {u} {l} {m} p q h =
    let a : Adds empty_line t l = record { same = p.same } in
    prints refl (a ▹ q) (rw (length-append t u) h)

-- the texts of a row fit their columns, and end with no space
pub record Fits (row : Row) : Type 0 where
  pub index : length (decimal row.index) ≤ 5
  pub name : length row.name ≤ 16
  pub operands : length row.operands ≤ 49
  pub name-kept : trimmed row.name ≡ row.name
  pub operands-kept : trimmed row.operands ≡ row.operands

five : (index : ℕ) → index < 100000 → length (decimal index) ≤ 5
five index h = digits 4 19 index h

spaces_long : (n : ℕ) → length (spaces n) ≡ n
spaces_long n = length-replicate {A = ℕ} n 32

pub right_long : (n : ℕ) (t : List ℕ) → length t ≤ n → length (right n t) ≡ n
right_long n t h = length-append (spaces (n - length t)) t ∙ rw (spaces_long (n - length t)) (omega arith)

pub left_long : (n : ℕ) (t : List ℕ) → length t ≤ n → length (left n t) ≡ n
left_long n t h = length-append t (spaces (n - length t)) ∙ rw (spaces_long (n - length t)) (omega arith)

-- an index in its columns, and a space
abbrev pub head_of : ℕ → List ℕ
head_of index = right 5 (decimal index) ++ 32 ∷ []

head_long : (index : ℕ) → length (decimal index) ≤ 5 → length (head_of index) ≡ 6
head_long index h = length-append (right 5 (decimal index)) (32 ∷ []) ∙ ap (λ n. n + 1) (right_long 5 (decimal index) h)

-- the same text, by its columns and by what was added to fill them
joined : (t name operands a b : List ℕ)
    → t ++ 32 ∷ [] ++ name ++ (a ++ 32 ∷ []) ++ operands ++ (b ++ 10 ∷ [])
    ≡ t ++ space (name ++ a) ++ space (operands ++ b) ++ 10 ∷ []
joined t name operands a b = simp append_assoc

-- a text, and spaces up to a column with a byte behind them
filled : {t u : List ℕ} {l m n : Line} (column width b : ℕ) → Prints t l → Adds l u m
    → Adds m (spaces (column - m.len) ++ b ∷ []) n
    → length t + width ≡ column → length u ≤ width → column < 80
    → Prints (t ++ u ++ (spaces (width - length u) ++ b ∷ [])) n
filled {t} {u} {l} {m} {n} column width b p q s e h w =
    let k = length-append t u in
    let p' : Prints (t ++ u) m = more p q (omega (arith, e, h, w)) in
    let c = p'.whole.count in
    let same : column - m.len ≡ width - length u = omega (arith, c, k, e) in
    let j = length-append (spaces (width - length u)) (b ∷ []) in
    let z = spaces_long (width - length u) in
    more p' (subst (λ k. Adds m (spaces k ++ b ∷ []) n) same s) (omega (arith, k, j, z, e, h, w))

-- the line of a row
pub row-line : (row : Row) → Fits row → {l1 l2 l3 l4 l5 : Line} → Prints (head_of row.index) l1 → Adds l1 row.name l2
    → Adds l2 (spaces (22 - l2.len) ++ 32 ∷ []) l3
    → Adds l3 row.operands l4
    → Adds l4 (spaces (72 - l4.len) ++ 10 ∷ []) l5
    → Prints (row_line row) l5
unfolding row_line
row-line row f {l1} {l2} {l3} {l4} {l5} p a b c d =
    let h = head_long row.index f.index in
    let n : List ℕ = row.name in
    let s : List ℕ = spaces (16 - length n) in
    let p3 = filled 22 16 32 p a b (omega (arith, h)) f.name (lit≤ tt) in
    let j = length-append (head_of row.index ++ n) (s ++ 32 ∷ []) in
    let k = length-append (head_of row.index) n in
    let i = length-append s (32 ∷ []) in
    let z = spaces_long (16 - length n) in
    let p5 = filled 72 49 10 p3 c d (omega (arith, h, j, k, i, z, f.name)) f.operands (lit≤ tt) in
    subst (λ t. Prints t l5) (joined (right 5 (decimal row.index)) n row.operands s (spaces (49 - length row.operands))) p5

-- a constant's row, and a record's
pub constant_fits : (index word : ℕ) → index < 100000 → Fits (constant_row index word)
unfolding ascii constant_row
constant_fits index word h =
    let e = hex_in_length 16 word in
    record { index = five index h; name = lit≤ tt; operands = omega (arith, e); name-kept = refl; operands-kept = bits_kept word }

pub record_fits : (index : ℕ) (r : Record) → index < 100000 → SizedRecord r → Fits (record_row index r)
unfolding record_row
record_fits index r h z =
    let t = text_short r z in
    record {
      index = five index h;
      name = t.name;
      operands = t.operands;
      name-kept = name_of_record r;
      operands-kept = operands_of_record r;
    }

-- every such line has 72 characters and a line feed
pub row_long : (row : Row) → Fits row → length (row_line row) ≡ 73
unfolding row_line
row_long row f =
    let a = right_long 5 (decimal row.index) f.index in
    let b = left_long 16 row.name f.name in
    let c = left_long 49 row.operands f.operands in
    let x = length-append (right 5 (decimal row.index) ++ space (left 16 row.name) ++ space (left 49 row.operands)) (10 ∷ []) in
    let y = length-append (right 5 (decimal row.index) ++ space (left 16 row.name)) (space (left 49 row.operands)) in
    let z = length-append (right 5 (decimal row.index)) (space (left 16 row.name)) in
    omega (arith, a, b, c, x, y, z)

pub blank : {l m : Line} → l ≡ empty_line → Adds l (spaces (72 - l.len) ++ 10 ∷ []) m → Prints blank_line m
unfolding blank_line
blank {l} {m} e a = prints e (subst (λ k. Adds l (spaces (72 - k.len) ++ 10 ∷ []) m) e a) (lit≤ tt)

-- an index: its digits on an empty line of their own are as many as they are
pub head : (index : ℕ) {l m o x y z : Line} {n : ℕ} → l ≡ empty_line → Adds l (decimal index) m → n ≡ 5 - m.len
    → o ≡ empty_line → Adds o (spaces n) x → Adds x (decimal index) y → Adds y (32 ∷ []) z → Prints (head_of index) z
head index {m = m} {o = o} {x = x} {n = n} e a c f s d b =
    let h = number_short index in
    let k = (prints e a (omega (arith, h))).whole.count in
    let w : n ≡ 5 - length (decimal index) = c ∙ ap (λ k. 5 - k) k in
    let j = length-append (right 5 (decimal index)) (32 ∷ []) in
    let i = length-append (spaces (5 - length (decimal index))) (decimal index) in
    let z = spaces_long (5 - length (decimal index)) in
    prints f (so-many w s ▹ d ▹ b) (omega (arith, h, i, j, z))

pub blank_long : length blank_line ≡ 73
unfolding blank_line
blank_long = refl
