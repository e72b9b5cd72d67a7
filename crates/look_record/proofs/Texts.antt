-- The text of a look, part by part.
use Prim.Native.Nat.{ℕ, suc, ◌≤◌}
use native.Mathlib.Omega.{arith}
use mathlib.Core.Path.{◌≡◌, ap, subst}
use mathlib.Core.List.{List, [], ◌++◌}
use mathlib.Core.Option.{none, some}
use lib.ListN.{length, drop, get_elem?, length-append}
use borrow.Author.Tests.{eq-eqb, ne_eqb}
use Rattle.mir.specs.declared.records.Record.{Record}
use Rattle.mir.specs.Read.{Read}
use Rattle.mir.proofs.Decoding.{items, Here, Done}
use Rattle.records.specs.Record.{records}
use Rattle.text.specs.declared.line.Line.{Line}
use Rattle.text.specs.Text.{ascii, decimal, space, line}
use Rattle.text.specs.Line as Text
use Rattle.text.specs.Puts.{Puts}
use Rattle.text.proofs.Short.{number_short}
use Rattle.text.proofs.Whole.{prints}
use Rattle.text.proofs.Putting.{◌▹◌, renamed}
use Rattle.words.specs.Bytes.{word_at}
use Rattle.reports.specs.Lines.{refusal_line}
use Rattle.look_record.specs.Looks.{record_part, word_part, next_line, look_text}

-- the record with an index
module _ {read : List ℕ → Read Record} {s : List ℕ} {at : ℕ} where
  pub part-here : {next : ℕ} {r : Record} → Here read s at r next → get_elem? (items read (drop at s)) 0 ≡ some r
  part-here h = ap (λ l. get_elem? l 0) h.same

  pub part-on : {next : ℕ} {r : Record} (k : ℕ) → Here read s at r next
      → get_elem? (items read (drop at s)) (suc k) ≡ get_elem? (items read (drop next s)) k
  part-on k h = ap (λ l. get_elem? l (suc k)) h.same

  pub part_none : {n : ℕ} (k : ℕ) → Done read s at n → get_elem? (items read (drop at s)) k ≡ none
  part_none k d = ap (λ l. get_elem? l k) d.same

-- a line of a text that is another
pub spelled : {a b : List ℕ} {l : Line} → a ≡ b → Text.Prints a l → Text.Prints b l
spelled {a} {b} {l} e p = subst (λ t. Text.Prints t l) e p

-- a line without a text
pub blank : {l : Line} → l ≡ Text.empty_line → Text.Prints [] l
blank e = prints e Text.none (omega arith)

pub next_short : (n : ℕ) → length (line (ascii "next" ++ space (decimal n))) ≤ 80
unfolding ascii
next_short n = let d = number_short n in simp length-append (omega (arith, d))

-- what is put for an answer
module _ {o : List ℕ} (listing : List ℕ) (count i : ℕ) (a : List ℕ) where
  pub refused-text : {o' : List ℕ} {n x r : ℕ} → n ≡ word_at a 0 → x ≡ word_at a 8 → (n ≡ 0 → ⊥) → Puts o 0 (refusal_line n x) o' r
      → Puts o 0 (look_text listing count i a) o' r
  unfolding look_text
  refused-text e f z p =
      simp (← e, ne_eqb _ _ z) (renamed (ap (refusal_line _) f) p)

  pub looked-text : {o1 o2 o3 o4 : List ℕ} {n x m i1 b1 i2 b2 next r1 r2 r3 r : ℕ} → n ≡ word_at a 0 → x ≡ word_at a 8 → n ≡ 0
      → m ≡ word_at a 24 → i1 ≡ word_at a 32 → b1 ≡ word_at a 40 → i2 ≡ word_at a 48 → b2 ≡ word_at a 56 → next ≡ word_at a 16
      → Puts o 0 (record_part (get_elem? (records count listing).items i)) o1 r1 → Puts o1 r1 (word_part m 0 i1 b1) o2 r2
      → Puts o2 r2 (word_part m 1 i2 b2) o3 r3 → Puts o3 r3 (next_line next x) o4 r
      → Puts o 0 (look_text listing count i a) o4 r
  unfolding look_text
  looked-text en ex z em ei eb ej ec ef p q s t =
      simp (← en, eq-eqb _ _ z)
      (p
      ▹ (renamed (λ k. word_part (em k) 0 (ei k) (eb k)) q
      ▹ (renamed (λ k. word_part (em k) 1 (ej k) (ec k)) s ▹ renamed (λ k. next_line (ef k) (ex k)) t)))
