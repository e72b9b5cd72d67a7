-- Walking over records: one working record after the other, to the block, and all records with their labels.
use Prim.Native.Nat.{ℕ, ◌+◌, ◌-◌, ◌<◌, ◌≤◌}
use native.Mathlib.Omega.{arith}
use mathlib.Core.Path.{◌≡◌, refl, sym, ap, ap₂, ◌∙◌, subst}
use mathlib.Core.Bool.{Bool, true, false, not, cond, ◌&&◌, ◌||◌}
use mathlib.Core.List.{List, [], ◌∷◌, ◌++◌}
use lib.ListN.{length, get_or, take, drop, length-append, length-drop}
use lib.Seq.{drop-append_seam, drop-drop}
use lib.Dec.{eqb}
use Rattle.mir.specs.declared.records.Work.{Work}
use Rattle.mir.specs.declared.records.Record.{Record}
use Rattle.mir.specs.Field.{u16_at}
use Rattle.mir.specs.Encode.{record_of, encode, encode_all}
use Rattle.mir.proofs.Parts.{part}
use Rattle.records.proofs.Round.{encoded-length}
use Rattle.player_machine.specs.Machine.{works, is_label, seek, block}
use Rattle.player_machine.specs.Draws.{draws, fills}
use Rattle.marks.specs.Marks.{Marking, among, start, working, through, step, scan}
use Rattle.marks_pass.specs.Standing.{Stands, Worked, Still, Does, Led, Straight, BlockAt, BlockMarked}

-- a record has bytes, as many as it says
pub encode_long : (r : Record) → 5 ≤ length (encode r)
unfolding record_of
encode_long (Record.Work (Work.Uni op dst s1)) = omega arith
encode_long (Record.Work (Work.Bi op dst s1 s2)) = omega arith
encode_long (Record.Work (Work.Mov dst s1)) = omega arith
encode_long (Record.Work (Work.Load dst p)) = omega arith
encode_long (Record.Work (Work.Save src p)) = omega arith
encode_long (Record.Work (Work.LoadConst dst idx)) = omega arith
encode_long (Record.Work (Work.Fused op dst a b c)) = omega arith
encode_long (Record.Work (Work.IfElse dst t f p)) = omega arith
encode_long (Record.Work (Work.LoadComplex xd yd p)) = omega arith
encode_long (Record.Work (Work.SaveComplex xs ys p)) = omega arith
encode_long (Record.Work (Work.ComplexBi op xd yd x1 y1 x2 y2)) = omega arith
encode_long (Record.Label l) = omega arith
encode_long (Record.Branch l) = omega arith
encode_long (Record.Call l) = omega arith
encode_long (Record.BranchIf c l e) = omega arith

-- behind the first record
pub behind : (s : List ℕ) (at n : ℕ) (r : Record) (rs : List Record) → drop at s ≡ encode_all (r ∷ rs) → n ≡ length (encode r)
    → drop (at + n) s ≡ encode_all rs
behind s at n r rs e l =
    sym (drop-drop n at s) ∙ ap₂ drop l e ∙ drop-append_seam (encode r) (encode_all rs)

-- where bytes are left, so are records; and where none are, none
pub left-none : {A : Type 0} (s : List ℕ) (at : ℕ) → drop at s ≡ encode_all [] → at < length s → A
left-none s at e h = let l = length-drop at s in let z = ap length e in absurd (omega (arith, l, z))

pub left_some : {A : Type 0} (s : List ℕ) (at : ℕ) (r : Record) (rs : List Record) → drop at s ≡ encode_all (r ∷ rs) → length s ≤ at → A
left_some s at r rs e h =
    let l = length-drop at s in
    let z = ap length e ∙ length-append (encode r) (encode_all rs) in
    let k = encode_long r in
    absurd (omega (arith, l, z, k))

-- a working record done
pub stands_work : {F D F' D' : List Bool} {n : ℕ} (w : Work) (m : Marking) → Worked w F D F' D' n → Stands F D m → Stands F' D' (working w m)
stands_work w m k s =
    record {
      filled = λ i h. k.filled.each i h ∙ ap (λ (x : Bool). x || among (fills w) i) (s.filled i h);
      drawn = λ i h. k.drawn.each i h ∙ ap₂ (λ (x y : Bool). x || (among (draws w) i && not y)) (s.drawn i h) (s.filled i h);
    }

-- on the way over working records
pub record Going (s : List ℕ) (rest : List Record) (m : Marking) (F D : List Bool) (at : ℕ) : Type 0 where
  pub left : List Record
  pub there : drop at s ≡ encode_all left
  pub behind : Marking
  pub stands : Stands F D behind
  pub scans : (b : List Work) → scan b rest m ≡ scan b left behind
  pub passes : through (works rest) m ≡ through (works left) behind

pub going_start : {F D : List Bool} (s : List ℕ) (at : ℕ) (rest : List Record) (m : Marking) → drop at s ≡ encode_all rest → Stands F D m → Going s rest m F D at
going_start s at rest m e st = record { left = rest; there = e; behind = m; stands = st; scans = λ b. refl; passes = refl }

-- the code's part of a slice, from a position on
abbrev pub from : List ℕ → ℕ → List ℕ
from s at = take (length s - at) (drop at s)

module _ {F D F' D' : List Bool} (s : List ℕ) (rest : List Record) (m : Marking) (at n : ℕ) (given : Does (from s at) F D F' D' n) (h : at < length s) where
  d : Does (drop at s) F D F' D' n
  d = subst (λ (x : List ℕ). Does x F D F' D' n) (part s at) given

  pub going_on : (n ≡ 0 → ⊥) → Going s rest m F D at → Going s rest m F' D' (at + n)
  unfolding works scan step
  going_on z g = go g.left g.there g.scans g.passes
    where
      other : {A : Type 0} → Still F D F' D' n → A
      other k = absurd (z k.none)

      go : (left : List Record) → drop at s ≡ encode_all left → ((b : List Work) → scan b rest m ≡ scan b left g.behind)
          → through (works rest) m ≡ through (works left) g.behind → Going s rest m F' D' (at + n)
      go [] e c p = left-none s at e h
      go (Record.Work w ∷ rs) e c p =
          let k = d.does (Record.Work w) (encode_all rs) e in
          record {
            left = rs;
            there = behind s at n (Record.Work w) rs e k.long;
            behind = working w g.behind;
            stands = stands_work w g.behind k g.stands;
            scans = c;
            passes = p;
          }
      go (Record.Label l ∷ rs) e c p = other (d.does (Record.Label l) (encode_all rs) e)
      go (Record.Branch l ∷ rs) e c p = other (d.does (Record.Branch l) (encode_all rs) e)
      go (Record.Call l ∷ rs) e c p = other (d.does (Record.Call l) (encode_all rs) e)
      go (Record.BranchIf a l b ∷ rs) e c p = other (d.does (Record.BranchIf a l b) (encode_all rs) e)

  pub going-stops : n ≡ 0 → Going s rest m F D at → Led s rest m F' D' at
  unfolding works
  going-stops z g = go g.left g.there g.scans g.passes
    where
      stop : (left : List Record) → drop at s ≡ encode_all left → works left ≡ [] → ((b : List Work) → scan b rest m ≡ scan b left g.behind)
          → through (works rest) m ≡ g.behind → Still F D F' D' n → Led s rest m F' D' at
      stop left e w c p k =
          record {
            left = left;
            there = e;
            stopped = w;
            behind = g.behind;
            stands = subst (λ (x : List Bool). Stands x D' g.behind) (sym k.filled) (subst (λ (x : List Bool). Stands F x g.behind) (sym k.drawn) g.stands);
            scans = c;
            passes = p;
          }

      go : (left : List Record) → drop at s ≡ encode_all left → ((b : List Work) → scan b rest m ≡ scan b left g.behind)
          → through (works rest) m ≡ through (works left) g.behind → Led s rest m F' D' at
      go [] e c p = left-none s at e h
      go (Record.Work w ∷ rs) e c p =
          let k = (d.does (Record.Work w) (encode_all rs) e).long in
          let l = encode_long (Record.Work w) in
          absurd (omega (arith, k, l))
      go (Record.Label l ∷ rs) e c p = stop (Record.Label l ∷ rs) e refl c p (d.does (Record.Label l) (encode_all rs) e)
      go (Record.Branch l ∷ rs) e c p = stop (Record.Branch l ∷ rs) e refl c p (d.does (Record.Branch l) (encode_all rs) e)
      go (Record.Call l ∷ rs) e c p = stop (Record.Call l ∷ rs) e refl c p (d.does (Record.Call l) (encode_all rs) e)
      go (Record.BranchIf a l b ∷ rs) e c p = stop (Record.BranchIf a l b ∷ rs) e refl c p (d.does (Record.BranchIf a l b) (encode_all rs) e)

pub going_ends : {F D : List Bool} (s : List ℕ) (rest : List Record) (m : Marking) (at : ℕ) → length s ≤ at → Going s rest m F D at → Led s rest m F D at
unfolding works
going_ends {F} {D} s rest m at h g = go g.left g.there g.scans g.passes
  where
    go : (left : List Record) → drop at s ≡ encode_all left → ((b : List Work) → scan b rest m ≡ scan b left g.behind)
        → through (works rest) m ≡ through (works left) g.behind → Led s rest m F D at
    go [] e c p = record { left = []; there = e; stopped = refl; behind = g.behind; stands = g.stands; scans = c; passes = p }
    go (r ∷ rs) e c p = left_some s at r rs e h

-- the first Label 1
pub block_test : (r : Record) (rest : List ℕ) → (eqb (u16_at (encode r ++ rest) 2) 14 && eqb (get_or (encode r ++ rest) 4 0) 1) ≡ is_label 1 r
unfolding record_of u16_at is_label
block_test (Record.Work (Work.Uni op dst s1)) rest = refl
block_test (Record.Work (Work.Bi op dst s1 s2)) rest = refl
block_test (Record.Work (Work.Mov dst s1)) rest = refl
block_test (Record.Work (Work.Load dst p)) rest = refl
block_test (Record.Work (Work.Save src p)) rest = refl
block_test (Record.Work (Work.LoadConst dst idx)) rest = refl
block_test (Record.Work (Work.Fused op dst a b c)) rest = refl
block_test (Record.Work (Work.IfElse dst t f p)) rest = refl
block_test (Record.Work (Work.LoadComplex xd yd p)) rest = refl
block_test (Record.Work (Work.SaveComplex xs ys p)) rest = refl
block_test (Record.Work (Work.ComplexBi op xd yd x1 y1 x2 y2)) rest = refl
block_test (Record.Label l) rest = refl
block_test (Record.Branch l) rest = refl
block_test (Record.Call l) rest = refl
block_test (Record.BranchIf c l e) rest = refl

pub record Seeking (s : List ℕ) (rs : List Record) (at : ℕ) : Type 0 where
  pub left : List Record
  pub there : drop at s ≡ encode_all left
  pub ahead : drop 1 (seek 1 rs) ≡ drop 1 (seek 1 left)

module _ (s : List ℕ) (rs : List Record) (at n : ℕ) (t : Bool) (l : n ≡ u16_at (from s at) 0)
    (b : t ≡ (eqb (u16_at (from s at) 2) 14 && eqb (get_or (from s at) 4 0) 1)) (h : at < length s) where
  long-by : (r : Record) (q : List Record) → drop at s ≡ encode_all (r ∷ q) → n ≡ length (encode r)
  long-by r q e = l ∙ ap (λ (x : List ℕ). u16_at x 0) (part s at ∙ e) ∙ encoded-length r (encode_all q)

  test_by : (r : Record) (q : List Record) → drop at s ≡ encode_all (r ∷ q) → t ≡ is_label 1 r
  test_by r q e = b ∙ ap (λ (x : List ℕ). eqb (u16_at x 2) 14 && eqb (get_or x 4 0) 1) (part s at ∙ e) ∙ block_test r (encode_all q)

  pub seeking-on : t ≡ false → Seeking s rs at → Seeking s rs (at + n)
  unfolding seek
  seeking-on f g = go g.left g.there g.ahead
    where
      go : (left : List Record) → drop at s ≡ encode_all left → drop 1 (seek 1 rs) ≡ drop 1 (seek 1 left) → Seeking s rs (at + n)
      go [] e a = left-none s at e h
      go (r ∷ q) e a =
          record {
            left = q;
            there = behind s at n r q e (long-by r q e);
            ahead = a ∙ ap (λ (x : Bool). drop 1 (cond x (r ∷ q) (seek 1 q))) (sym (test_by r q e) ∙ f);
          }

  pub seeking-found : t ≡ true → Seeking s rs at → drop (at + n) s ≡ encode_all (drop 1 (seek 1 rs))
  unfolding seek
  seeking-found f g = go g.left g.there g.ahead
    where
      go : (left : List Record) → drop at s ≡ encode_all left → drop 1 (seek 1 rs) ≡ drop 1 (seek 1 left) → drop (at + n) s ≡ encode_all (drop 1 (seek 1 rs))
      go [] e a = left-none s at e h
      go (r ∷ q) e a =
          behind s at n r q e (long-by r q e)
          ∙ ap encode_all (sym (a ∙ ap (λ (x : Bool). drop 1 (cond x (r ∷ q) (seek 1 q))) (sym (test_by r q e) ∙ f)))

  pub seeking-long : Seeking s rs at → n ≡ 0 → ⊥
  seeking-long g z = go g.left g.there
    where
      go : (left : List Record) → drop at s ≡ encode_all left → ⊥
      go [] e = left-none s at e h
      go (r ∷ q) e = let k = long-by r q e in let j = encode_long r in absurd (omega (arith, k, j))

pub seeking_none : (s : List ℕ) (rs : List Record) (at : ℕ) → length s ≤ at → Seeking s rs at → drop at s ≡ encode_all (drop 1 (seek 1 rs))
unfolding seek
seeking_none s rs at h g = go g.left g.there g.ahead
  where
    go : (left : List Record) → drop at s ≡ encode_all left → drop 1 (seek 1 rs) ≡ drop 1 (seek 1 left) → drop at s ≡ encode_all (drop 1 (seek 1 rs))
    go [] e a = e ∙ ap encode_all (sym a)
    go (r ∷ q) e a = left_some s at r q e h

-- the block's marks
pub block_by : {F D F' D' : List Bool} (s : List ℕ) (from at : ℕ) → BlockAt s from → Straight s from F D F' D' at → BlockMarked s F D F' D'
unfolding block
block_by {F} {D} {F'} {D'} s from at b t rs e st =
    let l = t.leads (drop 1 (seek 1 rs)) start (b rs e) st in
    subst (Stands F' D') (sym l.passes) l.stands
