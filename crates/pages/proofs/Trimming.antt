-- The fields of a line begin and end with no space, so that they are read off their columns.
use Prim.Native.Nat.{ℕ, zero, suc, ◌+◌, ◌-◌, ◌/◌, ◌%◌, ◌≤◌}
use Prim.Native.String.{String}
use mathlib.Core.Path.{◌≡◌, refl, sym, ap, ◌∙◌}
use mathlib.Core.Bool.{Bool, true, false, not, cond, ◌&&◌}
use mathlib.Core.List.{List, [], ◌∷◌, ◌++◌, append_assoc, append-nil}
use native.Mathlib.Omega.{arith}
use borrow.Author.Tests.{ne_eqb}
use lib.Dec.{T, eqb, ltb}
use lib.ListN.{length}
use Rattle.mir.specs.declared.records.Loc.{Loc}
use Rattle.mir.specs.declared.records.Work.{Work}
use Rattle.mir.specs.declared.records.Record.{Record}
use Rattle.mir.specs.Operation.{uni_number, bin_number, arith_number, fused_number}
use Rattle.mir.specs.Encode.{flag_byte}
use Rattle.mir.proofs.Tables.{and_left, and_right}
use Rattle.text.specs.Text.{ascii, decimal_in, decimal, hex_digit, hex_in, hex, space, register, registers, place, name_of, uni_names, bin_names, fused_names, complex_names, work_name, record_name, work_operands, record_operands}
use Rattle.pages.specs.Pages.{spaces, right, left}
use Rattle.pages.specs.Uncut.{unindented, onto, trimmed}

-- a text that ends with no space
pub record Solid (t : List ℕ) : Type 0 where
  pub kept : trimmed t ≡ t
  pub some : 1 ≤ length t

trimmed-spaces : (k : ℕ) → trimmed (spaces k) ≡ []
trimmed-spaces zero = refl
trimmed-spaces (suc k) = ap (onto 32) (trimmed-spaces k)

padded : (t : List ℕ) (k : ℕ) → trimmed (t ++ spaces k) ≡ trimmed t
padded [] k = trimmed-spaces k
padded (b ∷ t) k = ap (onto b) (padded t k)

pub read_left : (n : ℕ) (t : List ℕ) → trimmed t ≡ t → trimmed (left n t) ≡ t
read_left n t e = padded t (n - length t) ∙ e

onto_some : (b : ℕ) (l : List ℕ) → 1 ≤ length l → onto b l ≡ b ∷ l
onto_some b [] h = absurd (omega (arith, h))
onto_some b (c ∷ l) h = refl

-- text before a text that ends so
before : (a b : List ℕ) → Solid b → Solid (a ++ b)
before [] b s = s
before (x ∷ a) b s =
    let i = before a b s in
    let h = i.some in
    record { kept = ap (onto x) i.kept ∙ onto_some x (a ++ b) h; some = omega (arith, h) }

one : (b : ℕ) → (b ≡ 32 → ⊥) → Solid (b ∷ [])
one b h = record { kept = simp (ne_eqb b 32 h); some = omega arith }

either : (b : Bool) (x y : List ℕ) → Solid x → Solid y → Solid (cond b x y)
either true x y p q = p
either false x y p q = q

decimal-in : (d n : ℕ) → Solid (decimal_in d n)
unfolding decimal_in
decimal-in zero n = one (48 + n % 10) (λ e. omega (arith, e))
decimal-in (suc d) n =
    either (ltb n 10) _ _ (one (48 + n) (λ e. omega (arith, e)))
    (before (decimal_in d (n / 10)) _ (one (48 + n % 10) (λ e. omega (arith, e))))

number : (n : ℕ) → Solid (decimal n)
number n = decimal-in 19 n

digit : (b : Bool) (n : ℕ) → cond b (48 + n) (87 + n) ≡ 32 → ⊥
digit true n e = omega (arith, e)
digit false n e = omega (arith, e)

bits : (w : ℕ) → Solid (hex w)
unfolding hex_in
bits w = before (hex_in 15 (w / 16)) _ (one (hex_digit (w % 16)) (digit (ltb (w % 16) 10) (w % 16)))

reg : (r : ℕ) → Solid (register r)
unfolding ascii register
reg r =
    either (eqb r 64) _ _ (record { kept = refl; some = omega arith })
    (either (eqb r 65) _ _ (record { kept = refl; some = omega arith }) (before (ascii "G") (decimal r) (number r)))

run : (r : ℕ) (rs : List ℕ) → Solid (registers (r ∷ rs))
run r [] = before (32 ∷ []) _ (keep (register r) (reg r))
  where
    keep : (t : List ℕ) → Solid t → Solid (t ++ [])
    keep t s = rw (append-nil t) s
run r (q ∷ rs) = before (space (register r)) (registers (q ∷ rs)) (run q rs)

at : (p : Loc) → Solid (place p)
unfolding ascii place
at (Loc.Stack i) = before (ascii "Stack ") (decimal i) (number i)
at (Loc.Mem i) = before (ascii "Mem ") (decimal i) (number i)
at (Loc.Param i) = before (ascii "Param ") (decimal i) (number i)

-- behind a space
spaced : (a b : List ℕ) → Solid b → Solid (a ++ space b)
spaced a b s = before a (space b) (before (32 ∷ []) b s)

work : (w : Work) → Solid (work_operands w)
unfolding work_operands
work (Work.Uni op dst s1) = before (register dst) _ (run s1 [])
work (Work.Bi op dst s1 s2) = before (register dst) _ (run s1 (s2 ∷ []))
work (Work.Mov dst s1) = before (register dst) _ (run s1 [])
work (Work.Load dst loc) = spaced (register dst) _ (at loc)
work (Work.Save src loc) = spaced (register src) _ (at loc)
work (Work.LoadConst dst idx) = spaced (register dst) _ (number idx)
work (Work.Fused op dst a b c) = before (register dst) _ (run a (b ∷ c ∷ []))
work (Work.IfElse dst t f loc) = spaced (register dst ++ registers (t ∷ f ∷ [])) _ (at loc)
work (Work.LoadComplex xd yd loc) = spaced (register xd ++ registers (yd ∷ [])) _ (at loc)
work (Work.SaveComplex xs ys loc) = spaced (register xs ++ registers (ys ∷ [])) _ (at loc)
work (Work.ComplexBi op xd yd x1 y1 x2 y2) = before (register xd) _ (run yd (x1 ∷ y1 ∷ x2 ∷ y2 ∷ []))

pub operands_of_record : (r : Record) → trimmed (record_operands r) ≡ record_operands r
unfolding record_operands
operands_of_record (Record.Work w) = (work w).kept
operands_of_record (Record.Label l) = (number l).kept
operands_of_record (Record.Branch l) = (number l).kept
operands_of_record (Record.Call l) = (number l).kept
operands_of_record (Record.BranchIf c l e) = (spaced (register c ++ space (decimal l)) _ (number (flag_byte e))).kept

-- the names of a table: one test of it
abbrev firm : List ℕ → Bool
firm [] = true
firm (b ∷ []) = not (eqb b 32)
firm (b ∷ c ∷ l) = firm (c ∷ l)

last_kept : (e : Bool) (b : ℕ) → T (not e) → cond e [] (b ∷ []) ≡ b ∷ []
last_kept false b h = refl
last_kept true b h = elim h [ ]

firm_kept : (t : List ℕ) → T (firm t) → trimmed t ≡ t
firm_kept [] h = refl
firm_kept (b ∷ []) h = last_kept (eqb b 32) b h
firm_kept (b ∷ c ∷ l) h = ap (onto b) (firm_kept (c ∷ l) h)

abbrev all_firm : List String → Bool
all_firm [] = true
all_firm (w ∷ ws) = firm (ascii w) && all_firm ws

name-kept : (names : List String) → T (all_firm names) → (n : ℕ) → trimmed (name_of names n) ≡ name_of names n
unfolding ascii
name-kept [] t n = refl
name-kept (w ∷ ws) t zero = firm_kept (ascii w) (and_left (firm (ascii w)) (all_firm ws) t)
name-kept (w ∷ ws) t (suc n) = name-kept ws (and_right (firm (ascii w)) (all_firm ws) t) n

work-name : (w : Work) → trimmed (work_name w) ≡ work_name w
unfolding ascii work_name
work-name (Work.Uni op dst s1) = name-kept uni_names tt (uni_number op)
work-name (Work.Bi op dst s1 s2) = name-kept bin_names tt (bin_number op)
work-name (Work.Mov dst s1) = refl
work-name (Work.Load dst loc) = refl
work-name (Work.Save src loc) = refl
work-name (Work.LoadConst dst idx) = refl
work-name (Work.Fused op dst a b c) = name-kept fused_names tt (fused_number op)
work-name (Work.IfElse dst t f loc) = refl
work-name (Work.LoadComplex xd yd loc) = refl
work-name (Work.SaveComplex xs ys loc) = refl
work-name (Work.ComplexBi op xd yd x1 y1 x2 y2) = name-kept complex_names tt (arith_number op)

pub name_of_record : (r : Record) → trimmed (record_name r) ≡ record_name r
unfolding ascii record_name
name_of_record (Record.Work w) = work-name w
name_of_record (Record.Label l) = refl
name_of_record (Record.Branch l) = refl
name_of_record (Record.Call l) = refl
name_of_record (Record.BranchIf c l e) = refl

pub bits_kept : (w : ℕ) → trimmed (hex w) ≡ hex w
bits_kept w = (bits w).kept

-- a number begins with no space
record Begun (t : List ℕ) : Type 0 where
  pub kept : (s : List ℕ) → unindented (t ++ s) ≡ t ++ s

one_begun : (b : ℕ) → (b ≡ 32 → ⊥) → Begun (b ∷ [])
one_begun b h = record { kept = λ s. simp (ne_eqb b 32 h) }

first_begun : (a b : List ℕ) → Begun a → Begun (a ++ b)
first_begun a b g = record { kept = λ s. rw (append_assoc a b s) (g.kept (b ++ s)) }

either_begun : (b : Bool) (x y : List ℕ) → Begun x → Begun y → Begun (cond b x y)
either_begun true x y p q = p
either_begun false x y p q = q

begun_in : (d n : ℕ) → Begun (decimal_in d n)
unfolding decimal_in
begun_in zero n = one_begun (48 + n % 10) (λ e. omega (arith, e))
begun_in (suc d) n =
    either_begun (ltb n 10) _ _ (one_begun (48 + n) (λ e. omega (arith, e)))
    (first_begun (decimal_in d (n / 10)) _ (begun_in d (n / 10)))

indented : (k : ℕ) (t : List ℕ) → unindented (spaces k ++ t) ≡ unindented t
indented zero t = refl
indented (suc k) t = indented k t

pub read_right : (n index : ℕ) → unindented (right n (decimal index)) ≡ decimal index
read_right n index =
    indented (n - length (decimal index)) (decimal index)
    ∙ ap unindented (sym (append-nil (decimal index)))
    ∙ (begun_in 19 index).kept []
    ∙ append-nil (decimal index)
