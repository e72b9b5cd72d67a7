-- The lines from a position on: a constant's, a record's or a blank one, and those behind it.
use Prim.Native.Nat.{ℕ, suc, ◌+◌, ◌-◌, ◌≤◌, ◌<◌}
use mathlib.Core.Path.{◌≡◌, sym, ap, ◌∙◌}
use mathlib.Core.List.{List, [], ◌∷◌, ◌++◌}
use native.Mathlib.Omega.{arith}
use lib.ListN.{length, drop, get_or, drop_of_length-le, length-append}
use lib.Seq.{drop-cons}
use Rattle.mir.specs.declared.records.Record.{Record}
use Rattle.mir.proofs.Decoding.{items, Here, Done}
use Rattle.records.specs.Record.{record_from}
use Rattle.text.specs.declared.line.Line.{Line}
use Rattle.text.specs.Line.{Prints}
use Rattle.text.proofs.Putting.{Owes}
use Rattle.pages.specs.Pages.{row_line, blank_line, constant_row, record_row, numbered, lines}
use Rattle.pages.specs.Standing.{rows_at, FirstLine}
use Rattle.pages.specs.declared.columns.LineAt.{LineAt}

module _ (cs s : List ℕ) (i from : ℕ) where
  -- a constant stands before all records
  constant-row : i < length cs → rows_at cs s i from ≡ constant_row i (get_or cs i 0) ∷ rows_at cs s (suc i) from
  constant-row h =
      let a : i - length cs ≡ suc i - length cs = omega arith in
      (λ k. numbered constant_row i (drop-cons cs i 0 h k) ++ numbered record_row (a k) (items (record_from (length cs)) (drop from s)))

  -- behind the constants there are records alone
  behind : length cs ≤ i → rows_at cs s i from ≡ numbered record_row (i - length cs) (items (record_from (length cs)) (drop from s))
  behind h =
      ap (λ l. numbered constant_row i l ++ numbered record_row (i - length cs) (items (record_from (length cs)) (drop from s)))
      (drop_of_length-le cs h)

module _ {cs s : List ℕ} {i from : ℕ} {l : Line} where
  pub constant-first : i < length cs → Prints (row_line (constant_row i (get_or cs i 0))) l
      → FirstLine cs s i from (record { line = l; next = from })
  constant-first h p =
      record {
        text = row_line (constant_row i (get_or cs i 0));
        prints = p;
        same = λ n. ap (lines (suc n)) (constant-row cs s i from h);
      }

  pub record-first : {r : Record} {next : ℕ} → length cs ≤ i → Here (record_from (length cs)) s from r next
      → Prints (row_line (record_row (i - length cs) r)) l
      → FirstLine cs s i from (record { line = l; next = next })
  record-first {r} {next} h e p =
      let a : suc (i - length cs) ≡ suc i - length cs = omega arith in
      record {
        text = row_line (record_row (i - length cs) r);
        prints = p;
        same =
            λ n.
            ap (lines (suc n)) (behind cs s i from h ∙ ap (numbered record_row (i - length cs)) e.same)
            ∙ ap (λ k. row_line (record_row (i - length cs) r) ++ lines n (numbered record_row k (items (record_from (length cs)) (drop next s)))) a
            ∙ ap (λ rows. row_line (record_row (i - length cs) r) ++ lines n rows) (sym (behind cs s (suc i) next (omega arith)));
      }

  pub blank-first : {k : ℕ} → length cs ≤ i → Done (record_from (length cs)) s from k → Prints blank_line l
      → FirstLine cs s i from (record { line = l; next = from })
  blank-first h e p =
      record {
        text = blank_line;
        prints = p;
        same =
            λ n.
            ap (lines (suc n)) (behind cs s i from h ∙ ap (numbered record_row (i - length cs)) e.same)
            ∙ ap (λ rows. blank_line ++ lines n rows)
            (sym (behind cs s (suc i) from (omega arith) ∙ ap (numbered record_row (suc i - length cs)) e.same));
      }

-- lines put one after the other: what is left before line `first + k`
module _ (cs s : List ℕ) (first start n : ℕ) where
  abbrev pub left : ℕ → ℕ → List ℕ
  left k from = lines (n - k) (rows_at cs s (first + k) from)

  pub left-all : left 0 start ≡ lines n (rows_at cs s first start)
  left-all = let a : n - 0 ≡ n = omega arith in let b : first + 0 ≡ first = omega arith in λ i. lines (a i) (rows_at cs s (b i) start)

  pub left-none : (k from : ℕ) → n ≤ k → left k from ≡ []
  left-none k from h = let a : n - k ≡ 0 = omega arith in ap (λ m. lines m (rows_at cs s (first + k) from)) a

  pub left-turn : (k from : ℕ) {q : LineAt} (f : FirstLine cs s (first + k) from q) → k < n
      → left k from ≡ f.text ++ left (k + 1) q.next
  left-turn k from {q} f h =
      let a : n - k ≡ suc (n - (k + 1)) = omega arith in
      let b : suc (first + k) ≡ first + (k + 1) = omega arith in
      ap (λ m. lines m (rows_at cs s (first + k) from)) a
      ∙ f.same (n - (k + 1))
      ∙ ap (λ j. f.text ++ lines (n - (k + 1)) (rows_at cs s j q.next)) b

  -- the line has room, where all lines have
  pub room : {o o' : List ℕ} {at k from : ℕ} {q : LineAt} (f : FirstLine cs s (first + k) from q) → k < n
      → length (lines n (rows_at cs s first start)) ≤ length o
      → Owes o 0 (lines n (rows_at cs s first start)) o' at (left k from) → at + q.line.len ≤ length o'
  room {k = k} {from} {q} f h r w =
      let e = ap length (left-turn k from f h) ∙ length-append f.text (left (k + 1) q.next) in
      let c = f.prints.whole.count in
      omega (arith, e, c, r, w.ends, w.long)
