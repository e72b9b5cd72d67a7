-- The jump rules over the code's tables of labels.
use Prim.Native.Nat.{ℕ, zero, suc, ◌+◌, ◌-◌, ◌≤◌, ◌<◌}
use native.Mathlib.Omega.{arith}
use native.Mathlib.Nat.{zero-add, add-zero}
use mathlib.Core.Path.{◌≡◌, refl, sym, ap, ◌∙◌, subst}
use mathlib.Core.Bool.{Bool, true, false, not, ◌&&◌, ◌||◌, cond}
use mathlib.Core.List.{List, [], ◌∷◌}
use mathlib.Core.Option.{none, some}
use lib.ListN.{length, take, drop, get_or, set, length-set, replicate}
use lib.Dec.{eqb, ltb}
use lib.Seq.{get_or-set_same, get_or-set_other}
use borrow.Author.Tests.{eqb-true, eqb-false, eq-eqb, ne_eqb, lt-ltb, le-ltb}
use Rattle.mir.specs.declared.records.Record.{Record}
use Rattle.mir.specs.Field.{byte_at, u16_at}
use Rattle.mir.proofs.Decoding.{Done}
use Rattle.records.specs.Record.{record_from}
use Rattle.player_machine.specs.Machine.{is_label}
use Rattle.player_machine.specs.Jumps.{bit, tally, has, is_return, in_block, breaks, breach_from, breach}
use Rattle.player.specs.Encoded.{jump_encoded, jump_in, such}
use Rattle.player.specs.Positions.{left, fault, Counted, AllCounted, Tables, BreaksRule}
use Rattle.player.proofs.Encoding.{label_of, a-jump, a-branch-if, such-label, such-return}
use Rattle.player.proofs.Walks.{bit_small, tally-on, tally-none}
use Rattle.player.proofs.Looks.{Stands}

-- ---- counting

-- a Label, in its entry; any other record, in none
counted_at : (t : List ℕ) (l m : ℕ) (b : Bool) → eqb l m ≡ b → l < length t → get_or (set t l (get_or t l 0 + 1)) m 0 ≡ get_or t m 0 + bit b
counted_at t l m true e h =
    ap (λ m. get_or (set t l (get_or t l 0 + 1)) m 0) (sym (eqb-true l m e)) ∙ get_or-set_same t l (get_or t l 0 + 1) 0 h
    ∙ ap (λ m. get_or t m 0 + 1) (eqb-true l m e)
counted_at t l m false e h =
    get_or-set_other t l m (get_or t l 0 + 1) 0 (λ f. eqb-false l m e (sym f)) ∙ sym (add-zero (get_or t m 0))

pub counted_one : (s t : List ℕ) (l : ℕ) → u16_at s 2 ≡ 14 → l ≡ byte_at s 4 → l < length t → Counted s t (set t l (get_or t l 0 + 1))
counted_one s t l k e h =
    record {
      long = length-set t l (get_or t l 0 + 1);
      each = λ m.
          counted_at t l m (eqb l m) refl h
          ∙ ap (λ x. get_or t m 0 + bit (eqb x m)) e
          ∙ ap (λ b. get_or t m 0 + bit (cond b (eqb (byte_at s 4) m) false)) (sym (eq-eqb _ _ k))
          ∙ ap (λ b. get_or t m 0 + bit b) (sym (label_of (u16_at s 2) s m));
    }

pub counted_none : (s t : List ℕ) → (u16_at s 2 ≡ 14 → ⊥) → Counted s t t
counted_none s t k =
    record {
      long = refl;
      each = λ m.
          sym (add-zero (get_or t m 0))
          ∙ ap (λ b. get_or t m 0 + bit (cond b (eqb (byte_at s 4) m) false)) (sym (ne_eqb _ _ k))
          ∙ ap (λ b. get_or t m 0 + bit b) (sym (label_of (u16_at s 2) s m));
    }

pub counted_few : {s t u : List ℕ} → Counted s t u → (m : ℕ) → get_or u m 0 ≤ get_or t m 0 + 1
counted_few {s} c m =
    let i = c.each m in
    let j = bit_small (such (is_label m) (jump_encoded s)) in
    omega (arith, i, j)

-- the Labels and Branches 0 before a position, counted
pub record CountedTo (count : ℕ) (s : List ℕ) (at : ℕ) (t : List ℕ) (n : ℕ) : Type 0 where
  pub labels : (l : ℕ) → get_or t l 0 + tally (is_label l) (left count s at) ≡ tally (is_label l) (left count s 0)
  pub returns : n + tally is_return (left count s at) ≡ tally is_return (left count s 0)
  pub sound : fault count s at ≡ 0

pub counted_start : (count : ℕ) {s t : List ℕ} → ((l : ℕ) → get_or t l 0 ≤ 0) → fault count s 0 ≡ 0 → CountedTo count s 0 t 0
counted_start count h z =
    record { labels = λ l. let i = h l in omega (arith, i); returns = zero-add _; sound = z }

-- the code's part of the listing at a position
abbrev pub from : List ℕ → ℕ → List ℕ
from s at = take (length s - at) (drop at s)

module _ {count : ℕ} {s : List ℕ} {at : ℕ} where
  pub counted-on : {k m n : ℕ} {t u : List ℕ} → Stands count s at k → CountedTo count s at t m → Counted (from s at) t u
      → n ≡ m + bit (such is_return (jump_encoded (from s at))) → CountedTo count s (at + k) u n
  counted-on {k} {m} {n} {t} {u} w c d f =
      let h = w.here in
      let e = w.encodes in
      record {
        labels = λ l.
            let a = tally-on (is_label l) h in
            let i = c.labels l in
            let j = d.each l ∙ ap (λ b. get_or t l 0 + bit b) (such-label (from s at) w.rec e l) in
            omega (arith, a, i, j);
        returns =
            let a = tally-on is_return h in
            let i = c.returns in
            let j = f ∙ ap (λ b. m + bit b) (such-return (from s at) w.rec e) in
            omega (arith, a, i, j);
        sound = sym h.sound ∙ c.sound;
      }

  pub counted-labels : {k n : ℕ} {t : List ℕ} → Done (record_from count) s at k → CountedTo count s at t n → (l : ℕ)
      → get_or t l 0 ≡ tally (is_label l) (left count s 0)
  counted-labels d c l = let a = tally-none (is_label l) d in let i = c.labels l in omega (arith, a, i)

  pub counted-returns : {k n : ℕ} {t : List ℕ} → Done (record_from count) s at k → CountedTo count s at t n
      → n ≡ tally is_return (left count s 0)
  counted-returns d c = let a = tally-none is_return d in let i = c.returns in omega (arith, a, i)

-- ---- one record

ltb_step : (a b : ℕ) → ltb a (a + b) ≡ ltb 0 b
ltb_step a zero = le-ltb a (a + 0) (omega arith)
ltb_step a (suc b) = lt-ltb a (a + suc b) (omega arith) ∙ sym (lt-ltb 0 (suc b) (omega arith))

ltb_any : (a b : ℕ) → ltb 0 (a + b) ≡ (ltb 0 a || ltb 0 b)
ltb_any zero b = ap (ltb 0) (zero-add b)
ltb_any (suc a) b = lt-ltb 0 (suc a + b) (omega arith) ∙ sym (ap (λ x. x || ltb 0 b) (lt-ltb 0 (suc a) (omega arith)))

pub or-true : (b : Bool) → (b || true) ≡ true
or-true true = refl
or-true false = refl

pub or-or_true : (a b : Bool) → true ≡ (a || (b || true))
or-or_true true b = refl
or-or_true false b = sym (or-true b)

pub or-false : (b : Bool) → (b || false) ≡ b
or-false true = refl
or-false false = refl

-- the tests of a Branch, and those of the other jumps among them
branch_tests : (a b c d : Bool) → (a || (b || (c || d))) ≡ (a || false || (b || false || (c || false || false || (d || false))))
branch_tests true b c d = refl
branch_tests false true c d = refl
branch_tests false false true d = refl
branch_tests false false false d = sym (or-false d)

module _ {before behind : List Record} {t u : List ℕ} {b : Bool} {m n : ℕ} where
  told-label : (l : ℕ) → Tables before (Record.Label l ∷ behind) t u b m n
      → (eqb l 0 || ltb 0 (get_or u l 0) || (b || (eqb l 1 && not (ltb n m)))) ≡ breaks before (Record.Label l) behind
  unfolding breaks
  told-label l k =
      let e : ltb n m ≡ has is_return behind =
      ap (λ n. ltb n m) k.returned ∙ ap (ltb (tally is_return before)) (k.returns ∙ ap (◌+◌ (tally is_return before)) (zero-add _))
      ∙ ltb_step (tally is_return before) (tally is_return behind) in
      ap (λ x. eqb l 0 || ltb 0 x || (b || (eqb l 1 && not (ltb n m)))) (k.stood l)
      ∙ ap (λ x. eqb l 0 || has (is_label l) before || (x || (eqb l 1 && not (ltb n m)))) k.inside
      ∙ ap (λ x. eqb l 0 || has (is_label l) before || (in_block before || (eqb l 1 && not x))) e
      ∙ ap (λ x. eqb l 0 || has (is_label l) before || (in_block before || x)) (sym (or-false (eqb l 1 && not (has is_return behind))))

  -- what the tables tell of the label of a branch
  later : {r : Record} (l : ℕ) → is_label l r ≡ false → Tables before (r ∷ behind) t u b m n
      → ltb (get_or u l 0) (get_or t l 0) ≡ has (is_label l) behind
  unfolding tally
  later {r} l f k =
      let x = tally (is_label l) before in
      let y = tally (is_label l) behind in
      ap (λ n. ltb n (get_or t l 0)) (k.stood l)
      ∙ ap (ltb x) (k.all l ∙ ap (λ p. x + (bit p + y)) f ∙ ap (◌+◌ x) (zero-add y))
      ∙ ltb_step x y

  told-branch : (l : ℕ) → Tables before (Record.Branch l ∷ behind) t u b m n
      → (ltb 1 l && not (ltb (get_or u l 0) (get_or t l 0)) || (ltb 2 l && ltb 0 (get_or u l 0) || (eqb l 1 || (not (eqb l 0) && b))))
      ≡ breaks before (Record.Branch l) behind
  unfolding breaks
  told-branch l k =
      ap (λ x. ltb 1 l && not x || (ltb 2 l && ltb 0 (get_or u l 0) || (eqb l 1 || (not (eqb l 0) && b)))) (later l refl k)
      ∙ ap (λ x. ltb 1 l && not (has (is_label l) behind) || (ltb 2 l && ltb 0 x || (eqb l 1 || (not (eqb l 0) && b)))) (k.stood l)
      ∙ ap (λ x. ltb 1 l && not (has (is_label l) behind) || (ltb 2 l && has (is_label l) before || (eqb l 1 || (not (eqb l 0) && x)))) k.inside
      ∙ branch_tests (ltb 1 l && not (has (is_label l) behind)) (ltb 2 l && has (is_label l) before) (eqb l 1) (not (eqb l 0) && in_block before)

  told-branch-if : (c l : ℕ) (x : Bool) → Tables before (Record.BranchIf c l x ∷ behind) t u b m n
      → (ltb 1 l && not (ltb (get_or u l 0) (get_or t l 0)) || (ltb 2 l && ltb 0 (get_or u l 0) || (ltb l 3 || b)))
      ≡ breaks before (Record.BranchIf c l x) behind
  unfolding breaks
  told-branch-if c l x k =
      ap (λ x. ltb 1 l && not x || (ltb 2 l && ltb 0 (get_or u l 0) || (ltb l 3 || b))) (later l refl k)
      ∙ ap (λ x. ltb 1 l && not (has (is_label l) behind) || (ltb 2 l && ltb 0 x || (ltb l 3 || b))) (k.stood l)
      ∙ ap (λ x. ltb 1 l && not (has (is_label l) behind) || (ltb 2 l && has (is_label l) before || (ltb l 3 || x))) k.inside
      ∙ ap (λ x. ltb 1 l && not (has (is_label l) behind) || (ltb 2 l && has (is_label l) before || (ltb l 3 || x))) (sym (or-false (in_block before)))
      ∙ ap (λ x. ltb 1 l && not (has (is_label l) behind) || (ltb 2 l && has (is_label l) before || (x || (in_block before || false)))) (sym (or-false (ltb l 3)))

  told-call : (l : ℕ) → Tables before (Record.Call l ∷ behind) t u b m n
      → (not (eqb l 1) || (b || not (ltb 0 (get_or t 1 0)))) ≡ breaks before (Record.Call l) behind
  unfolding breaks
  told-call l k =
      let e : ltb 0 (get_or t 1 0) ≡ (has (is_label 1) before || has (is_label 1) behind) =
      ap (ltb 0) (k.all 1 ∙ ap (◌+◌ (tally (is_label 1) before)) (zero-add _)) ∙ ltb_any (tally (is_label 1) before) (tally (is_label 1) behind) in
      ap (λ x. not (eqb l 1) || (b || not x)) e
      ∙ ap (λ x. not (eqb l 1) || (x || not (has (is_label 1) before || has (is_label 1) behind))) k.inside
      ∙ ap (λ x. not (eqb l 1) || (in_block before || x)) (sym (or-false (not (has (is_label 1) before || has (is_label 1) behind))))

-- no jump is encoded: a working record, which breaks no rule
told_work : (before behind : List Record) (rec : Record) → none ≡ jump_in rec → false ≡ breaks before rec behind
unfolding breaks
told_work before behind (Record.Work w) e = refl
told_work before behind (Record.Label l) e = cc
told_work before behind (Record.Branch l) e = cc
told_work before behind (Record.Call l) e = cc
told_work before behind (Record.BranchIf c l x) e = cc

-- by the kind and the label of the bytes
module _ (part : List ℕ) {before behind : List Record} {t u : List ℕ} {b : Bool} {m n : ℕ} (l : ℕ) (rec : Record)
    (k : Tables before (rec ∷ behind) t u b m n) (e : jump_encoded part ≡ jump_in rec) where
  known : {r : Record} → rec ≡ r → Tables before (r ∷ behind) t u b m n
  known f = subst (λ r. Tables before (r ∷ behind) t u b m n) f k

  pub told-of-label : l ≡ byte_at part 4 → u16_at part 2 ≡ 14
      → (eqb l 0 || ltb 0 (get_or u l 0) || (b || (eqb l 1 && not (ltb n m)))) ≡ breaks before rec behind
  told-of-label label h =
      let f = a-jump part rec e 14 h (ap (λ l. some (Record.Label l)) (sym label)) in
      told-label l (known f) ∙ ap (λ r. breaks before r behind) (sym f)

  pub told-of-branch : l ≡ byte_at part 4 → u16_at part 2 ≡ 15
      → (ltb 1 l && not (ltb (get_or u l 0) (get_or t l 0)) || (ltb 2 l && ltb 0 (get_or u l 0) || (eqb l 1 || (not (eqb l 0) && b))))
      ≡ breaks before rec behind
  told-of-branch label h =
      let f = a-jump part rec e 15 h (ap (λ l. some (Record.Branch l)) (sym label)) in
      told-branch l (known f) ∙ ap (λ r. breaks before r behind) (sym f)

  pub told-of-call : l ≡ byte_at part 4 → u16_at part 2 ≡ 16
      → (not (eqb l 1) || (b || not (ltb 0 (get_or t 1 0)))) ≡ breaks before rec behind
  told-of-call label h =
      let f = a-jump part rec e 16 h (ap (λ l. some (Record.Call l)) (sym label)) in
      told-call l (known f) ∙ ap (λ r. breaks before r behind) (sym f)

  pub told-of-branch-if : l ≡ byte_at part 5 → u16_at part 2 ≡ 17
      → (ltb 1 l && not (ltb (get_or u l 0) (get_or t l 0)) || (ltb 2 l && ltb 0 (get_or u l 0) || (ltb l 3 || b))) ≡ breaks before rec behind
  told-of-branch-if label h =
      let f = a-branch-if part rec e h label in
      told-branch-if (byte_at part 4) l (eqb (byte_at part 6) 1) (known f) ∙ ap (λ r. breaks before r behind) (sym f)

pub told_of_work : (part : List ℕ) → (u16_at part 2 ≡ 14 → ⊥) → (u16_at part 2 ≡ 15 → ⊥) → (u16_at part 2 ≡ 16 → ⊥) → (u16_at part 2 ≡ 17 → ⊥)
    → (before : List Record) (rec : Record) (behind : List Record) → jump_encoded part ≡ jump_in rec → false ≡ breaks before rec behind
told_of_work part x y z w before rec behind e =
    told_work before behind rec (sym (simp (ne_eqb _ _ x, ne_eqb _ _ y, ne_eqb _ _ z, ne_eqb _ _ w)) ∙ e)

-- ---- the walk

-- the records before a position, with the tables there; what is the first breach from there on is the listing's first
pub record Ruled (count : ℕ) (s : List ℕ) (at index : ℕ) (t u : List ℕ) (b : Bool) (m n : ℕ) : Type 0 where
  pub before : List Record
  pub tables : Tables before (left count s at) t u b m n
  pub same : index + breach_from before (left count s at) ≡ breach (left count s 0)
  pub sound : fault count s at ≡ 0

pub ruled_start : (count : ℕ) {s t u : List ℕ} {m : ℕ} → fault count s 0 ≡ 0 → AllCounted s t m → ((l : ℕ) → get_or u l 0 ≤ 0)
    → Ruled count s 0 0 t u false m 0
unfolding breach tally in_block
ruled_start count z a h =
    record {
      before = [];
      tables = record {
        all = λ l. a.labels count z l ∙ sym (zero-add _);
        stood = λ l. let i = h l in omega (arith, i);
        inside = refl;
        returns = a.returns count z ∙ sym (zero-add _);
        returned = refl;
      };
      same = zero-add _;
      sound = z;
    }

module _ {count : ℕ} {s : List ℕ} {at index m n : ℕ} {t u : List ℕ} {b : Bool} (x : Ruled count s at index t u b m n) where
  pub ruled-end : {j : ℕ} → Done (record_from count) s at j → index ≡ breach (left count s 0)
  unfolding breach_from
  ruled-end d =
      let f = ap (breach_from x.before) d.same in
      let g = x.same in
      omega (arith, f, g)

  module _ {k : ℕ} (w : Stands count s at k) {r : Bool} (told : BreaksRule (from s at) t u b m n r) where
    -- the tables with the record at hand named
    named : Tables x.before (w.rec ∷ left count s (at + k)) t u b m n
    named = subst (λ l. Tables x.before l t u b m n) w.here.same x.tables

    breach-at : breach_from x.before (left count s at) ≡ cond r 0 (suc (breach_from (w.rec ∷ x.before) (left count s (at + k))))
    unfolding breach_from
    breach-at =
        ap (breach_from x.before) w.here.same
        ∙ ap (λ y. cond y 0 (suc (breach_from (w.rec ∷ x.before) (left count s (at + k)))))
        (sym (told x.before w.rec (left count s (at + k)) named w.encodes))

    pub ruled-stop : r ≡ true → index ≡ breach (left count s 0)
    ruled-stop e =
        let f : breach_from x.before (left count s at) ≡ 0 = breach-at ∙ simp e in
        let g = x.same in
        omega (arith, f, g)

    pub ruled-on : {p : ℕ} {v : List ℕ} {c : Bool} → r ≡ false → Counted (from s at) u v → p ≡ n + bit (such is_return (jump_encoded (from s at)))
        → c ≡ (such (is_label 1) (jump_encoded (from s at)) || (not (such is_return (jump_encoded (from s at))) && b))
        → Ruled count s (at + k) (index + 1) t v c m p
    unfolding tally in_block
    ruled-on e v i o =
        let part = from s at in
        let d = named in
        let f : breach_from x.before (left count s at) ≡ suc (breach_from (w.rec ∷ x.before) (left count s (at + k))) = breach-at ∙ simp e in
        let g = x.same in
        record {
          before = w.rec ∷ x.before;
          tables = record {
            all = λ l. let y = d.all l in omega (arith, y);
            stood = λ l.
                let y = d.stood l in
                let z = v.each l ∙ ap (λ b. get_or u l 0 + bit b) (such-label part w.rec w.encodes l) in
                omega (arith, y, z);
            inside = o ∙ ap (λ y. y || (not (such is_return (jump_encoded part)) && b)) (such-label part w.rec w.encodes 1)
                ∙ ap (λ y. is_label 1 w.rec || (not y && b)) (such-return part w.rec w.encodes)
                ∙ ap (λ y. is_label 1 w.rec || (not (is_return w.rec) && y)) d.inside;
            returns = let y = d.returns in omega (arith, y);
            returned =
                let y = d.returned in
                let z = i ∙ ap (λ b. n + bit b) (such-return part w.rec w.encodes) in
                omega (arith, y, z);
          };
          same = omega (arith, f, g);
          sound = sym w.here.sound ∙ x.sound;
        }

-- a fresh table
pub zeros : (n l : ℕ) → get_or {A = ℕ} (replicate n 0) l 0 ≡ 0
zeros zero l = refl
zeros (suc n) zero = refl
zeros (suc n) (suc l) = zeros n l
