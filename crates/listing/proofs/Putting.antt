-- The lines of a table, of a listing and of a page.
use Prim.Native.Nat.{ℕ, suc, ◌+◌, ◌*◌, ◌≤◌, ◌<◌}
use mathlib.Core.Path.{◌≡◌, sym, ap, ◌∙◌}
use mathlib.Core.List.{List, [], ◌∷◌, ◌++◌}
use native.Mathlib.Omega.{arith}
use native.Mathlib.Numerals.{add-one}
use lib.ListN.{length, drop, get_or, length-append, drop_of_length-le}
use lib.Seq.{drop-cons}
use Rattle.mir.specs.declared.records.Record.{Record}
use Rattle.mir.specs.Read.{Read}
use Rattle.mir.proofs.Decoding.{items, Here, Done}
use Rattle.text.specs.Text.{constants_heading, constant_line, constant_lines, listing_heading, record_line, record_lines, page}
use Rattle.text.proofs.Short.{constant_short}
use Rattle.text.specs.Puts.{Puts}
use Rattle.text.proofs.Putting.{◌▹◌, renamed}

-- the lines of a table
module _ (cs : List ℕ) (i : ℕ) where
  pub constants-on : i < length cs
      → constant_lines i (drop i cs) ≡ constant_line i (get_or cs i 0) ++ constant_lines (i + 1) (drop (i + 1) cs)
  unfolding constant_lines
  constants-on h =
      ap (constant_lines i) (drop-cons cs i 0 h)
      ∙ ap (λ j. constant_line i (get_or cs i 0) ++ constant_lines j (drop j cs)) (sym (add-one i))

  pub constants-end : length cs ≤ i → constant_lines i (drop i cs) ≡ []
  unfolding constant_lines
  constants-end h = ap (constant_lines i) (drop_of_length-le cs h)

-- and of a listing
module _ {read : List ℕ → Read Record} {s : List ℕ} {at : ℕ} where
  pub records-on : {next : ℕ} {r : Record} → Here read s at r next
      → record_lines (items read (drop at s)) ≡ record_line r ++ record_lines (items read (drop next s))
  unfolding record_lines
  records-on h = ap record_lines h.same

  pub records-end : {k : ℕ} → Done read s at k → record_lines (items read (drop at s)) ≡ []
  unfolding record_lines
  records-end d = ap record_lines d.same

pub constants_short : (i : ℕ) (cs : List ℕ) → length (constant_lines i cs) ≤ 80 * length cs
unfolding constant_lines
constants_short i [] = omega arith
constants_short i (w ∷ cs) =
    let h = constant_short i w in
    let k = constants_short (suc i) cs in
    let e = length-append (constant_line i w) (constant_lines (suc i) cs) in
    omega (arith, h, k, e)

-- the page: each heading before its lines
pub paged : {o o1 o2 o3 o4 : List ℕ} {m1 m2 m3 r : ℕ} (cs : List ℕ) (rs : List Record) (bytes : ℕ) {n : ℕ}
    → Puts o 0 (constants_heading (length cs)) o1 m1 → Puts o1 m1 (constant_lines 0 cs) o2 m2
    → n ≡ length rs → Puts o2 m2 (listing_heading n bytes) o3 m3 → Puts o3 m3 (record_lines rs) o4 r
    → Puts o 0 (page cs rs bytes) o4 r
unfolding page
paged cs rs bytes a b e c d = a ▹ b ▹ renamed (ap (λ n. listing_heading n bytes) e) c ▹ d
