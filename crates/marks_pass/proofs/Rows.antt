-- What the table's rows say of each kind: by them a working record's registers are those that it draws on and fills.
use Prim.Native.Nat.{ℕ, zero, suc, ◌+◌, ◌*◌, ◌<◌, ◌≤◌}
use native.Mathlib.Omega.{arith}
use mathlib.Core.Path.{◌≡◌, refl, sym, ap, ap₂, ◌∙◌, subst}
use mathlib.Core.Bool.{Bool, true, false, cond, ◌&&◌, ◌||◌}
use mathlib.Core.List.{List, [], ◌∷◌, ◌++◌}
use lib.ListN.{length, get_or}
use lib.Dec.{T, eqb, leb, leb→le}
use lib.Bits.{bit_or, or_add_and, and_le_l, or_zero_r}
use borrow.Author.Tests.{ne_eqb}
use Rattle.mir.specs.declared.records.Loc.{Loc}
use Rattle.mir.specs.declared.records.Work.{Work}
use Rattle.mir.specs.declared.records.Record.{Record}
use Rattle.mir.specs.Operation.{bin_number}
use Rattle.mir.specs.Field.{u16_at}
use Rattle.mir.specs.Encode.{record_of, encode, encode_work}
use Rattle.mir.proofs.Tables.{every, holds}
use Rattle.records.proofs.Round.{encoded-length}
use Rattle.player_machine.specs.Machine.{place}
use Rattle.player_machine.specs.Draws.{draws, fills}
use Rattle.marks.specs.Marks.{among}
use Rattle.marks_pass.specs.Table.{table}
use Rattle.marks_pass.specs.Standing.{Drawn, Filled, Marked, Worked, Done, Does}
use Rattle.marks_pass.proofs.Arrays.{Same, drawn-as, filled_as}

or_high : (a b : ℕ) → b ≤ bit_or a b
or_high a b = let h = or_add_and a b in let k = and_le_l a b in omega (arith, h, k)

-- a byte taken as a register, or set aside
unfoldable pub slot : ℕ → ℕ → ℕ
slot a o = bit_or a o

none : Same [] []
none = record { each = λ i h. refl }

same : {is js : List ℕ} {a b : ℕ} → a ≡ b → Same is js → Same (a ∷ is) (b ∷ js)
same e s = record { each = λ i h. ap₂ ◌||◌ (ap (eqb i) e) (s.each i h) }

keep : {is js : List ℕ} (a : ℕ) → Same is js → Same (slot a 0 ∷ is) (a ∷ js)
unfolding slot
keep a s = same (or_zero_r a) s

keep2 : {is js : List ℕ} (a : ℕ) → Same is js → Same (slot (slot a 0) 0 ∷ is) (a ∷ js)
unfolding slot
keep2 a s = same (or_zero_r (bit_or a 0) ∙ or_zero_r a) s

past : {is js : List ℕ} (a : ℕ) → 66 ≤ a → Same is js → Same (a ∷ is) js
past {is} a l s = record { each = λ i h. ap (λ (q : Bool). q || among is i) (ne_eqb i a (λ e. omega arith)) ∙ s.each i h }

off : {is js : List ℕ} (a : ℕ) → Same is js → Same (slot a 128 ∷ is) js
unfolding slot
off a s = past (bit_or a 128) (let h = or_high a 128 in omega (arith, h)) s

flip : {is js : List ℕ} → Same is js → Same js is
flip s = record { each = λ i h. sym (s.each i h) }

place_high : (p : Loc) → 66 ≤ place p
place_high p = omega arith

at_place : {is js : List ℕ} (p : Loc) → Same is js → Same is (place p ∷ js)
at_place p s = flip (past (place p) (place_high p) (flip s))

at_next : {is js : List ℕ} (p : Loc) → Same is js → Same is (suc (place p) ∷ js)
at_next p s = flip (past (suc (place p)) (let h = place_high p in omega (arith, h)) (flip s))

-- a Bi's slots, by whether it is a Xor and whether its operands are one
bi : (a b x y : ℕ) (p q : Bool)
    → Same (slot (slot a (cond (p && q) 128 0)) 0 ∷ slot (slot b (cond (p && q) 128 0)) 0 ∷ slot x 128 ∷ slot y 128 ∷ []) (cond (q && p) [] (a ∷ b ∷ []))
unfolding slot
bi a b x y true true =
    past (bit_or (bit_or a 128) 0) (let h = or_high a 128 in let k = or_zero_r (bit_or a 128) in omega (arith, h, k))
    (past (bit_or (bit_or b 128) 0) (let h = or_high b 128 in let k = or_zero_r (bit_or b 128) in omega (arith, h, k)) (off x (off y none)))
bi a b x y true false = keep2 a (keep2 b (off x (off y none)))
bi a b x y false true = keep2 a (keep2 b (off x (off y none)))
bi a b x y false false = keep2 a (keep2 b (off x (off y none)))

-- the six slots of the record that bytes begin with
unfoldable pub apart : ℕ → ℕ → List ℕ → ℕ
apart kind d s = cond (eqb kind 2 && eqb (get_or s 4 0) 13 && eqb (get_or s d 0) (get_or s (d + 1) 0)) 128 0

unfoldable pub draw_slots : List ℕ → ℕ → ℕ → ℕ → List ℕ → List ℕ
draw_slots rows kind d e s =
    slot (slot (get_or s d 0) e) (get_or rows (8 * kind + 2) 0)
    ∷ slot (slot (get_or s (d + 1) 0) e) (get_or rows (8 * kind + 3) 0)
    ∷ slot (get_or s (d + 2) 0) (get_or rows (8 * kind + 4) 0)
    ∷ slot (get_or s (d + 3) 0) (get_or rows (8 * kind + 5) 0)
    ∷ []

unfoldable pub fill_slots : List ℕ → ℕ → ℕ → List ℕ → List ℕ
fill_slots rows kind f s = slot (get_or s f 0) (get_or rows (8 * kind + 6) 0) ∷ slot (get_or s (f + 1) 0) (get_or rows (8 * kind + 7) 0) ∷ []

abbrev draws_of : List ℕ → List ℕ
draws_of s =
    draw_slots table (u16_at s 2) (get_or table (8 * u16_at s 2) 0) (apart (u16_at s 2) (get_or table (8 * u16_at s 2) 0) s) s

abbrev fills_of : List ℕ → List ℕ
fills_of s = fill_slots table (u16_at s 2) (get_or table (8 * u16_at s 2 + 1) 0) s

drawn_slots : (w : Work) (rest : List ℕ) → Same (draws_of (encode_work w ++ rest)) (draws w)
unfolding record_of u16_at table draw_slots apart
drawn_slots (Work.Uni op dst s1) rest = keep2 s1 (off _ (off _ (off _ none)))
drawn_slots (Work.Bi op dst s1 s2) rest = bi s1 s2 _ _ (eqb (bin_number op) 13) (eqb s1 s2)
drawn_slots (Work.Mov dst s1) rest = keep2 s1 (off _ (off _ (off _ none)))
drawn_slots (Work.Load dst p) rest = at_place p (off _ (off _ (off _ (off _ none))))
drawn_slots (Work.Save src p) rest = keep2 src (off _ (off _ (off _ none)))
drawn_slots (Work.LoadConst dst idx) rest = off _ (off _ (off _ (off _ none)))
drawn_slots (Work.Fused op dst a b c) rest = keep2 a (keep2 b (keep c (off _ none)))
drawn_slots (Work.IfElse dst t f p) rest = at_place p (keep2 t (keep2 f (off _ (off _ none))))
drawn_slots (Work.LoadComplex xd yd p) rest = at_place p (at_next p (off _ (off _ (off _ (off _ none)))))
drawn_slots (Work.SaveComplex xs ys p) rest = keep2 xs (keep2 ys (off _ (off _ none)))
drawn_slots (Work.ComplexBi op xd yd x1 y1 x2 y2) rest = keep2 x1 (keep2 y1 (keep x2 (keep y2 none)))

filled_slots : (w : Work) (rest : List ℕ) → Same (fills_of (encode_work w ++ rest)) (fills w)
unfolding record_of u16_at table fill_slots
filled_slots (Work.Uni op dst s1) rest = keep dst (off _ none)
filled_slots (Work.Bi op dst s1 s2) rest = keep dst (off _ none)
filled_slots (Work.Mov dst s1) rest = keep dst (off _ none)
filled_slots (Work.Load dst p) rest = keep dst (off _ none)
filled_slots (Work.Save src p) rest = at_place p (off _ (off _ none))
filled_slots (Work.LoadConst dst idx) rest = keep dst (off _ none)
filled_slots (Work.Fused op dst a b c) rest = keep dst (off _ none)
filled_slots (Work.IfElse dst t f p) rest = keep dst (off _ none)
filled_slots (Work.LoadComplex xd yd p) rest = keep xd (keep yd none)
filled_slots (Work.SaveComplex xs ys p) rest = at_place p (at_next p (off _ (off _ none)))
filled_slots (Work.ComplexBi op xd yd x1 y1 x2 y2) rest = keep xd (keep yd none)

-- the kinds of working records are at most 13, those of the others above
pub work_kind : (w : Work) (rest : List ℕ) → u16_at (encode_work w ++ rest) 2 ≤ 13
unfolding record_of u16_at
work_kind (Work.Uni op dst s1) rest = omega arith
work_kind (Work.Bi op dst s1 s2) rest = omega arith
work_kind (Work.Mov dst s1) rest = omega arith
work_kind (Work.Load dst p) rest = omega arith
work_kind (Work.Save src p) rest = omega arith
work_kind (Work.LoadConst dst idx) rest = omega arith
work_kind (Work.Fused op dst a b c) rest = omega arith
work_kind (Work.IfElse dst t f p) rest = omega arith
work_kind (Work.LoadComplex xd yd p) rest = omega arith
work_kind (Work.SaveComplex xs ys p) rest = omega arith
work_kind (Work.ComplexBi op xd yd x1 y1 x2 y2) rest = omega arith

-- registers begin early enough that four are among 11 bytes
abbrev column : ℕ → List ℕ → ℕ → List ℕ
column zero rows i = []
column (suc n) rows i = get_or rows i 0 ∷ column n rows (i + 8)

column_at : (n k i : ℕ) (rows : List ℕ) → k < n → get_or (column n rows i) k 0 ≡ get_or rows (8 * k + i) 0
column_at zero k i rows h = absurd (omega arith)
column_at (suc n) zero i rows h = ap (λ (j : ℕ). get_or rows j 0) {x = i} {y = 8 * 0 + i} (omega arith)
column_at (suc n) (suc k) i rows h =
    column_at n k (i + 8) rows (omega arith) ∙ ap (λ (j : ℕ). get_or rows j 0) {x = 8 * k + (i + 8)} {y = 8 * suc k + i} (omega arith)

column_length : (n i : ℕ) (rows : List ℕ) → length (column n rows i) ≡ n
column_length zero i rows = refl
column_length (suc n) i rows = ap suc (column_length n (i + 8) rows)

low_at : (i : ℕ) → T (every (λ x. leb x 7) (column 14 table i)) → (k : ℕ) → k ≤ 13 → get_or table (8 * k + i) 0 ≤ 7
low_at i t k h =
    let e = column_length 14 i table in
    let l = leb→le (get_or (column 14 table i) k 0) 7 (holds (λ x. leb x 7) (column 14 table i) t k 0 (omega (arith, e))) in
    let q = column_at 14 k i table (omega arith) in
    omega (arith, l, q)

pub begin_low : (k : ℕ) → k ≤ 13 → (get_or table (8 * k) 0 ≤ 7) × (get_or table (8 * k + 1) 0 ≤ 7)
unfolding table
begin_low k h =
    let l = low_at 0 tt k h in
    let e = ap (λ (j : ℕ). get_or table j 0) {x = 8 * k + 0} {y = 8 * k} (omega arith) in
    (omega (arith, l, e), low_at 1 tt k h)

-- a working record by its slots
module _ (rows s : List ℕ) (kind d f e n : ℕ) (t : rows ≡ table) (k : kind ≡ u16_at s 2) (dd : d ≡ get_or rows (8 * kind) 0)
    (ff : f ≡ get_or rows (8 * kind + 1) 0) (ee : e ≡ apart kind d s) (nn : n ≡ u16_at s 0) where
  draws-as : draw_slots rows kind d e s ≡ draws_of s
  draws-as = cc

  fills-as : fill_slots rows kind f s ≡ fills_of s
  fills-as = cc

  pub works-by : {F D F' D' : List Bool} (w : Work) (rest : List ℕ) → s ≡ encode_work w ++ rest → Drawn F D (draw_slots rows kind d e s) D'
      → Filled F (fill_slots rows kind f s) F' → Worked w F D F' D' n
  works-by {F} {D} {F'} {D'} w rest q a b =
      record {
        long = nn ∙ ap (λ (x : List ℕ). u16_at x 0) q ∙ encoded-length (Record.Work w) rest;
        drawn = drawn-as (drawn_slots w rest) (subst (λ (x : List ℕ). Drawn F D x D') (draws-as ∙ ap draws_of q) a);
        filled = filled_as (filled_slots w rest) (subst (λ (x : List ℕ). Filled F x F') (fills-as ∙ ap fills_of q) b);
      }

-- the kind of a record that is no working record
pub label_kind : (l : ℕ) (rest : List ℕ) → u16_at (encode (Record.Label l) ++ rest) 2 ≡ 14
unfolding record_of u16_at
label_kind l rest = refl

pub branch_kind : (l : ℕ) (rest : List ℕ) → u16_at (encode (Record.Branch l) ++ rest) 2 ≡ 15
unfolding record_of u16_at
branch_kind l rest = refl

pub call_kind : (l : ℕ) (rest : List ℕ) → u16_at (encode (Record.Call l) ++ rest) 2 ≡ 16
unfolding record_of u16_at
call_kind l rest = refl

pub branch_if_kind : (c l : ℕ) (e : Bool) (rest : List ℕ) → u16_at (encode (Record.BranchIf c l e) ++ rest) 2 ≡ 17
unfolding record_of u16_at
branch_if_kind c l e rest = refl

-- by its kind, below and above 13
module _ {F D F' D' : List Bool} (s : List ℕ) (kind n : ℕ) (k : kind ≡ u16_at s 2) where
  pub does-low : kind ≤ 13 → n ≤ 65535 → ((w : Work) (rest : List ℕ) → s ≡ encode_work w ++ rest → Worked w F D F' D' n) → Does s F D F' D' n
  does-low h l f = record { low = l; does = go }
    where
      no : {A : Type 0} (j : ℕ) (r : Record) (rest : List ℕ) → s ≡ encode r ++ rest → u16_at (encode r ++ rest) 2 ≡ j → 13 < j → A
      no j r rest e q m = let z : kind ≡ j = k ∙ ap (λ (x : List ℕ). u16_at x 2) e ∙ q in absurd (omega arith)

      go : (r : Record) (rest : List ℕ) → s ≡ encode r ++ rest → Done r F D F' D' n
      go (Record.Work w) rest e = f w rest e
      go (Record.Label l) rest e = no 14 (Record.Label l) rest e (label_kind l rest) (omega arith)
      go (Record.Branch l) rest e = no 15 (Record.Branch l) rest e (branch_kind l rest) (omega arith)
      go (Record.Call l) rest e = no 16 (Record.Call l) rest e (call_kind l rest) (omega arith)
      go (Record.BranchIf c l b) rest e = no 17 (Record.BranchIf c l b) rest e (branch_if_kind c l b rest) (omega arith)

pub does_high : {F D : List Bool} (s : List ℕ) (kind : ℕ) → kind ≡ u16_at s 2 → 13 < kind → Does s F D F D 0
does_high {F} {D} s kind k h = record { low = omega arith; does = go }
  where
    go : (r : Record) (rest : List ℕ) → s ≡ encode r ++ rest → Done r F D F D 0
    go (Record.Work w) rest e =
        let z : kind ≡ u16_at (encode_work w ++ rest) 2 = k ∙ ap (λ (x : List ℕ). u16_at x 2) e in
        let l = work_kind w rest in
        absurd (omega (arith, z, l))
    go (Record.Label l) rest e = record { none = refl; drawn = refl; filled = refl }
    go (Record.Branch l) rest e = record { none = refl; drawn = refl; filled = refl }
    go (Record.Call l) rest e = record { none = refl; drawn = refl; filled = refl }
    go (Record.BranchIf c l b) rest e = record { none = refl; drawn = refl; filled = refl }

-- the table is long enough, and registers begin low
pub rows_long : {rows : List ℕ} → rows ≡ table → length rows ≡ 112
unfolding table
rows_long e = ap length e

pub start_low : (rows : List ℕ) (kind d : ℕ) → rows ≡ table → kind ≤ 13 → d ≡ get_or rows (8 * kind) 0 → d ≤ 7
start_low rows kind d t h e =
    let l = (begin_low kind h).0 in
    let q = e ∙ ap (λ (r : List ℕ). get_or r (8 * kind) 0) t in
    omega (arith, l, q)

pub fill_low : (rows : List ℕ) (kind f : ℕ) → rows ≡ table → kind ≤ 13 → f ≡ get_or rows (8 * kind + 1) 0 → f ≤ 7
fill_low rows kind f t h e =
    let l = (begin_low kind h).1 in
    let q = e ∙ ap (λ (r : List ℕ). get_or r (8 * kind + 1) 0) t in
    omega (arith, l, q)

-- bytes that were read, as the record has them
pub apart_by : (kind d op a b : ℕ) (s : List ℕ) → op ≡ get_or s 4 0 → a ≡ get_or s d 0 → b ≡ get_or s (d + 1) 0
    → cond (eqb kind 2 && eqb op 13 && eqb a b) 128 0 ≡ apart kind d s
unfolding apart
apart_by kind d op a b s e f g = ap₂ (λ (x y : Bool). cond (eqb kind 2 && x && y) 128 0) (ap (λ (x : ℕ). eqb x 13) e) (ap₂ eqb f g)

module _ (rows s : List ℕ) (kind p f e a b c d x y : ℕ) (ea : a ≡ get_or s p 0) (eb : b ≡ get_or s (p + 1) 0) (ec : c ≡ get_or s (p + 2) 0)
    (ed : d ≡ get_or s (p + 3) 0) (ex : x ≡ get_or s f 0) (ey : y ≡ get_or s (f + 1) 0) where
  pub drawn-by : {F D F' D' : List Bool} → Marked rows (8 * kind) (bit_or a e) (bit_or b e) c d x y F D F' D' → Drawn F D (draw_slots rows kind p e s) D'
  unfolding slot draw_slots
  drawn-by {F} {D} {F'} {D'} m =
      subst (λ (l : List ℕ). Drawn F D l D')
      (ap₂ (λ (u v : ℕ). bit_or (bit_or u e) (get_or rows (8 * kind + 2) 0) ∷ bit_or (bit_or v e) (get_or rows (8 * kind + 3) 0) ∷ bit_or c (get_or rows (8 * kind + 4) 0) ∷ bit_or d (get_or rows (8 * kind + 5) 0) ∷ []) ea eb
      ∙ ap₂ (λ (u v : ℕ). bit_or (bit_or (get_or s p 0) e) (get_or rows (8 * kind + 2) 0) ∷ bit_or (bit_or (get_or s (p + 1) 0) e) (get_or rows (8 * kind + 3) 0) ∷ bit_or u (get_or rows (8 * kind + 4) 0) ∷ bit_or v (get_or rows (8 * kind + 5) 0) ∷ []) ec ed)
      m.drawn

  pub filled-by : {F D F' D' : List Bool} → Marked rows (8 * kind) (bit_or a e) (bit_or b e) c d x y F D F' D' → Filled F (fill_slots rows kind f s) F'
  unfolding slot fill_slots
  filled-by {F} {D} {F'} {D'} m =
      subst (λ (l : List ℕ). Filled F l F')
      (ap₂ (λ (u v : ℕ). bit_or u (get_or rows (8 * kind + 6) 0) ∷ bit_or v (get_or rows (8 * kind + 7) 0) ∷ []) ex ey)
      m.filled
