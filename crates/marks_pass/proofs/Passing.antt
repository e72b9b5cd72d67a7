-- The pass over all records, and its marks as lists.
use Prim.Native.Nat.{ℕ, zero, suc, ◌+◌, ◌*◌, ◌<◌, ◌≤◌}
use native.Mathlib.Omega.{arith}
use mathlib.Core.Path.{◌≡◌, refl, sym, ap, ◌∙◌, subst}
use mathlib.Core.Bool.{Bool, true, false, ◌||◌}
use mathlib.Core.List.{List, [], ◌∷◌}
use Rattle.std.proofs.Common.{Option, None}
use lib.ListN.{length, get_or, drop, replicate, get_or-replicate, length-replicate}
use lib.Seq.{ext_get_or}
use Rattle.mir.specs.declared.records.Work.{Work}
use Rattle.mir.specs.declared.records.Record.{Record}
use Rattle.mir.specs.Field.{u16_at}
use Rattle.mir.specs.Encode.{encode, encode_all}
use Rattle.mir.proofs.Parts.{part}
use Rattle.records.proofs.Round.{encoded-length}
use Rattle.player_machine.specs.Machine.{works, block}
use Rattle.marks.specs.Marks.{Set, Marking, start, step, scan, marking, flags, registers}
use Rattle.marks_pass.specs.Standing.{Stands, Ways, Led, Straight, Knows, NoWork, All, was_call, Directed, Begun, First}
use Rattle.marks_pass.proofs.Records.{from, encode_long, behind, left-none, left_some}
use Rattle.marks_pass.proofs.Directing.{through_ways}

-- at a record that is no working record, or at the end
pub record Passing (s : List ℕ) (rs : List Record) (known : Bool) (fills draws F D W : List Bool) (at : ℕ) : Type 0 where
  pub left : List Record
  pub there : drop at s ≡ encode_all left
  pub stopped : works left ≡ []
  pub now : Marking
  pub all : All rs known fills draws F D W now
  pub scans : scan (block rs) rs start ≡ scan (block rs) left now

-- where working records led
led-to : {fills draws F D W : List Bool} (s : List ℕ) (rs rest : List Record) (known : Bool) (m : Marking) (at : ℕ) → Led s rest m F D at
    → Knows rs known fills draws → Ways W m.ways → scan (block rs) rs start ≡ scan (block rs) rest m → Passing s rs known fills draws F D W at
led-to {W = W} s rs rest known m at l k w e =
    record {
      left = l.left;
      there = l.there;
      stopped = l.stopped;
      now = l.behind;
      all = record {
        knows = k;
        stands = l.stands;
        ways = subst (Ways W) (sym (through_ways (works rest) m) ∙ ap (λ (x : Marking). x.ways) l.passes) w;
      };
      scans = e ∙ l.scans (block rs);
    }

pub passing_start : {fills draws F D W : List Bool} (s : List ℕ) (at : ℕ) → Begun s F D at → Ways W start.ways → Stands fills draws start
    → (rs : List Record) → s ≡ encode_all rs → Passing s rs false fills draws F D W at
passing_start s at b w k rs e = led-to s rs rs false start at (b rs e) k w refl

pub led_end : {F D : List Bool} (s : List ℕ) (rs : List Record) (at : ℕ) → length s ≤ at → Led s rs start F D at → Stands F D (marking rs)
unfolding scan
led_end {F} {D} s rs at h l = go l.left l.there (l.scans (block rs))
  where
    go : (left : List Record) → drop at s ≡ encode_all left → scan (block rs) rs start ≡ scan (block rs) left l.behind → Stands F D (marking rs)
    go [] g c = subst (Stands F D) (sym c) l.stands
    go (r ∷ q) g c = left_some s at r q g h

module _ {fills draws F D W fills' draws' F' D' W' : List Bool} (s : List ℕ) (rs : List Record) (known : Bool) (at n : ℕ) (did : Option Bool)
    (l : n ≡ u16_at (from s at) 0) (h : at < length s) (e : s ≡ encode_all rs)
    (d : Directed s (from s at) known fills draws F D W fills' draws' F' D' W' did) (p : Passing s rs known fills draws F D W at) where
  -- the record at hand is no working record
  no-work : (r : Record) (q : List Record) → works (r ∷ q) ≡ [] → NoWork r
  unfolding works
  no-work (Record.Work w) q z = let x : ◌≡◌ {A = ℕ} 1 0 = ap (λ (ws : List Work). head ws) z in absurd (omega arith)
    where
      head : List Work → ℕ
      head [] = 0
      head (w ∷ ws) = 1
  no-work (Record.Label j) q z = tt
  no-work (Record.Branch j) q z = tt
  no-work (Record.Call j) q z = tt
  no-work (Record.BranchIf c j b) q z = tt

  long-by : (r : Record) (q : List Record) → drop at s ≡ encode_all (r ∷ q) → n ≡ length (encode r)
  long-by r q g = l ∙ ap (λ (x : List ℕ). u16_at x 0) (part s at ∙ g) ∙ encoded-length r (encode_all q)

  pub passing-long : n ≡ 0 → ⊥
  passing-long z = go p.left p.there
    where
      go : (left : List Record) → drop at s ≡ encode_all left → ⊥
      go [] g = left-none s at g h
      go (r ∷ q) g = let j = long-by r q g in let k = encode_long r in absurd (omega (arith, j, k))

  pub passing-whole : 16896 ≤ length W → did ≡ None → ⊥
  passing-whole b z = go p.left p.there p.stopped
    where
      go : (left : List Record) → drop at s ≡ encode_all left → works left ≡ [] → ⊥
      go [] g w = left-none s at g h
      go (r ∷ q) g w = d.whole r (encode_all q) (part s at ∙ g) (no-work r q w) b z

  pub passing-on : {F'' D'' : List Bool} (to : ℕ) → (did ≡ None → ⊥) → Straight s (at + n) F' D' F'' D'' to
      → Passing s rs (known || was_call did) fills' draws' F'' D'' W' to
  unfolding scan
  passing-on {F''} {D''} to z t = go p.left p.there p.stopped p.scans
    where
      go : (left : List Record) → drop at s ≡ encode_all left → works left ≡ [] → scan (block rs) rs start ≡ scan (block rs) left p.now
          → Passing s rs (known || was_call did) fills' draws' F'' D'' W' to
      go [] g w c = left-none s at g h
      go (r ∷ q) g w c =
          let a = d.all rs r (encode_all q) p.now e (part s at ∙ g) (no-work r q w) z p.all in
          led-to s rs q (known || was_call did) (step (block rs) r p.now) to
          (t.leads q (step (block rs) r p.now) (behind s at n r q g (long-by r q g)) a.stands) a.knows a.ways c

pub passing_end : {fills draws F D W : List Bool} (s : List ℕ) (rs : List Record) (known : Bool) (at : ℕ) → length s ≤ at
    → Passing s rs known fills draws F D W at → Stands F D (marking rs)
unfolding scan
passing_end {F = F} {D} s rs known at h p = go p.left p.there p.scans
  where
    go : (left : List Record) → drop at s ≡ encode_all left → scan (block rs) rs start ≡ scan (block rs) left p.now → Stands F D (marking rs)
    go [] g c = subst (Stands F D) (sym c) p.all.stands
    go (r ∷ q) g c = left_some s at r q g h

-- before record 0
pub fresh : (n : ℕ) → 66 ≤ n → Stands (replicate n false) (replicate n false) start
fresh n h =
    record {
      filled = λ i l. get_or-replicate n i false false (omega arith);
      drawn = λ i l. get_or-replicate n i false false (omega arith);
    }

pub no_ways : (n : ℕ) → Ways (replicate n true) start.ways
no_ways n = record { each = λ l i b h. get_or-replicate n (66 * l + i) true false (let z = length-replicate n true in omega (arith, z)) }

pub begun : {F D : List Bool} (s : List ℕ) (at : ℕ) → Straight s 0 (replicate 256 false) (replicate 256 false) F D at → Begun s F D at
begun s at t rs e = t.leads rs start e (fresh 256 (omega arith))

-- the marks as lists
flags_long : (n : ℕ) (A : Set) → length (flags n A) ≡ n
flags_long zero A = refl
flags_long (suc n) A = ap suc (flags_long n (λ i. A (suc i)))

flags_at : (n : ℕ) (A : Set) (i : ℕ) → i < n → get_or (flags n A) i false ≡ A i
flags_at zero A i h = absurd (omega arith)
flags_at (suc n) A zero h = refl
flags_at (suc n) A (suc i) h = flags_at n (λ j. A (suc j)) i (omega arith)

pub first-is : (all r : List Bool) (A : Set) → length r ≡ 66 → First all r → ((i : ℕ) → i < 66 → get_or all i false ≡ A i) → r ≡ registers A
first-is all r A l f s =
    ext_get_or false r (flags 66 A) (l ∙ sym (flags_long 66 A)) (λ i h. f.each i (omega (arith, l)) ∙ s i (omega (arith, l)) ∙ sym (flags_at 66 A i (omega (arith, l))))
