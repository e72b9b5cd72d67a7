-- What a listing that keeps the jump rules is like: what stands behind each record keeps them too, and the block has its end.
use Prim.Native.Nat.{ℕ, zero, suc, ◌+◌, ◌<◌}
use native.Mathlib.Omega.{arith}
use mathlib.Core.Path.{◌≡◌, refl, sym, ap, ◌∙◌, subst}
use mathlib.Core.Bool.{Bool, true, false, not, ◌||◌}
use mathlib.Core.List.{List, [], ◌∷◌}
use lib.ListN.{length, drop}
use lib.Dec.{ltb, eqb}
use borrow.Author.Tests.{eqb-true, ltb-true, not-false}
use Rattle.mir.specs.declared.records.Work.{Work}
use Rattle.mir.specs.declared.records.Record.{Record}
use Rattle.player_machine.specs.Machine.{works, is_label, seek, block}
use Rattle.player_machine.specs.Jumps.{is_return, bit, tally, in_block, twice_or_zero, no_label_later, label_before, barred, jump_in_block, no_label_to_call, block_without_return, breaks, breach_from}

-- tests that do not hold
first_off : (a b : Bool) → (a || b) ≡ false → a ≡ false
first_off true b e = e
first_off false b e = refl

second_off : (a b : Bool) → (a || b) ≡ false → b ≡ false
second_off true b e = cc
second_off false b e = e

never : {X : Type 0} {b : Bool} → b ≡ true → b ≡ false → X
never t f = let z : ◌≡◌ {A = ℕ} 0 1 = cc in absurd (omega arith)

-- what a record that breaks no rule keeps
record Obeys (before : List Record) (r : Record) (rs : List Record) : Type 0 where
  pub allowed : barred before r rs ≡ false
  pub outside : jump_in_block before r rs ≡ false
  pub called : no_label_to_call before r rs ≡ false
  pub closed : block_without_return before r rs ≡ false

obeys : (before : List Record) (r : Record) (rs : List Record) → breaks before r rs ≡ false → Obeys before r rs
unfolding breaks
obeys before r rs e =
    let a = second_off (twice_or_zero before r rs) _ e in
    let b = second_off (label_before before r rs) _ (second_off (no_label_later before r rs) _ a) in
    let c = second_off (barred before r rs) _ b in
    let d = second_off (jump_in_block before r rs) _ c in
    record {
      allowed = first_off (barred before r rs) _ b;
      outside = first_off (jump_in_block before r rs) _ c;
      called = first_off (no_label_to_call before r rs) _ d;
      closed = first_off (block_without_return before r rs) _ (second_off (no_label_to_call before r rs) _ d);
    }

-- the rules are kept from some record on, with the records that stand before it; n Labels 1 stand in the listing
pub record RulesKept (n : ℕ) (rs : List Record) : Type 0 where
  pub before : List Record
  pub none : breach_from before rs ≡ length rs
  pub ones : tally (is_label 1) before + tally (is_label 1) rs ≡ n

record First (before : List Record) (r : Record) (rs : List Record) : Type 0 where
  pub test : Obeys before r rs
  pub rest : breach_from (r ∷ before) rs ≡ length rs

first_by : (before : List Record) (r : Record) (rs : List Record) (b : Bool)
    → breaks before r rs ≡ b → breach_from before (r ∷ rs) ≡ suc (length rs) → First before r rs
unfolding breach_from
first_by before r rs true t e =
    let z : 0 ≡ suc (length rs) = sym (simp t) ∙ e in
    absurd (omega (arith, z))
first_by before r rs false t e =
    let z : suc (breach_from (r ∷ before) rs) ≡ suc (length rs) = sym (simp t) ∙ e in
    record { test = obeys before r rs t; rest = omega (arith, z) }

first : (before : List Record) (r : Record) (rs : List Record) → breach_from before (r ∷ rs) ≡ suc (length rs) → First before r rs
first before r rs e = first_by before r rs _ refl e

pub kept_tail : {n : ℕ} {r : Record} {rs : List Record} → RulesKept n (r ∷ rs) → RulesKept n rs
unfolding tally
kept_tail {n} {r} {rs} k =
    let e = k.ones in
    record { before = r ∷ k.before; none = (first k.before r rs k.none).rest; ones = omega (arith, e) }

kept_at : (n l : ℕ) (r : Record) (rs : List Record) (b : Bool) → is_label l r ≡ b → RulesKept n (r ∷ rs) → RulesKept n (seek l rs)
    → RulesKept n (seek l (r ∷ rs))
unfolding seek
kept_at n l r rs true e k h = simp e k
kept_at n l r rs false e k h = simp e h

pub kept_seek : (n l : ℕ) (rs : List Record) → RulesKept n rs → RulesKept n (seek l rs)
unfolding seek
kept_seek n l [] k = k
kept_seek n l (r ∷ rs) k = kept_at n l r rs _ refl k (kept_seek n l rs (kept_tail k))

pub kept_drop : (n i : ℕ) (rs : List Record) → RulesKept n rs → RulesKept n (drop i rs)
kept_drop n zero rs k = k
kept_drop n (suc i) [] k = k
kept_drop n (suc i) (r ∷ rs) k = kept_drop n i rs (kept_tail k)

-- a Call is of Label 1, and a Label 1 stands somewhere
pub record Callable (n l : ℕ) : Type 0 where
  pub some : 0 < n
  pub label : l ≡ 1

somewhere : (a b n : ℕ) → a + b ≡ n → not (ltb 0 a || ltb 0 b) ≡ false → 0 < n
somewhere zero zero n e h = never (sym h) refl
somewhere zero (suc b) n e h = omega (arith, e)
somewhere (suc a) b n e h = omega (arith, e)

pub kept_call : {n l : ℕ} {rs : List Record} → RulesKept n (Record.Call l ∷ rs) → Callable n l
unfolding barred no_label_to_call tally is_label
kept_call {n} {l} {rs} k =
    let t = (first k.before (Record.Call l) rs k.none).test in
    let e = k.ones in
    record {
      some = somewhere (tally (is_label 1) k.before) (tally (is_label 1) rs) n (omega (arith, e)) t.called;
      label = eqb-true l 1 (not-false (eqb l 1) t.allowed);
    }

-- working records, and what stands behind them
abbrev pub worked : List Work → List Record → List Record
worked [] rs = rs
worked (w ∷ ws) rs = Record.Work w ∷ worked ws rs

-- the block's records up to its Branch 0
record Ends (rs : List Record) : Type 0 where
  pub rest : List Record
  pub same : rs ≡ worked (works rs) (Record.Branch 0 ∷ rest)

ends_branch : (before : List Record) (l : ℕ) (rs : List Record) (x : Bool) → eqb l 0 ≡ x → in_block before ≡ true
    → jump_in_block before (Record.Branch l) rs ≡ false → Ends (Record.Branch l ∷ rs)
unfolding works jump_in_block is_return
ends_branch before l rs true e i t = record { rest = rs; same = ap (λ m. Record.Branch m ∷ rs) (eqb-true l 0 e) }
ends_branch before l rs false e i t = never i (simp e at t)

ends : (before rs : List Record) → in_block before ≡ true → breach_from before rs ≡ length rs → 0 < tally is_return rs → Ends rs
unfolding works tally is_return is_label jump_in_block in_block
ends before [] i e h = absurd (omega (arith, h))
ends before (Record.Work w ∷ rs) i e h =
    let t = first before (Record.Work w) rs e in
    let r = ends (Record.Work w ∷ before) rs i t.rest (omega (arith, h)) in
    record { rest = r.rest; same = ap (λ l. Record.Work w ∷ l) r.same }
ends before (Record.Label l ∷ rs) i e h = never i (first before (Record.Label l) rs e).test.outside
ends before (Record.Branch l ∷ rs) i e h = ends_branch before l rs _ refl i (first before (Record.Branch l) rs e).test.outside
ends before (Record.Call l ∷ rs) i e h = never i (first before (Record.Call l) rs e).test.outside
ends before (Record.BranchIf c l x ∷ rs) i e h = never i (first before (Record.BranchIf c l x) rs e).test.outside

-- the block stands behind the first Label 1, and Branch 0 behind it
pub record Shaped (rs : List Record) : Type 0 where
  pub rest : List Record
  pub same : seek 1 rs ≡ Record.Label 1 ∷ worked (block rs) (Record.Branch 0 ∷ rest)

returns_there : (n : ℕ) → not (ltb 0 n) ≡ false → 0 < n
returns_there n e = ltb-true 0 n (not-false _ e)

shaped_one : (before rs : List Record) → breach_from before (Record.Label 1 ∷ rs) ≡ suc (length rs)
    → Shaped (Record.Label 1 ∷ rs)
unfolding seek is_label block block_without_return in_block
shaped_one before rs e =
    let t = first before (Record.Label 1) rs e in
    let h = returns_there _ t.test.closed in
    let r = ends (Record.Label 1 ∷ before) rs refl t.rest h in
    record { rest = r.rest; same = ap (λ l. Record.Label 1 ∷ l) r.same }

shaped_on : (r : Record) (rs : List Record) → is_label 1 r ≡ false → Shaped rs → Shaped (r ∷ rs)
unfolding seek block
shaped_on r rs f s = record { rest = s.rest; same = simp f s.same }

tally-on : (p : Record → Bool) (r : Record) (rs : List Record) → p r ≡ false → 0 < tally p (r ∷ rs) → 0 < tally p rs
unfolding tally
tally-on p r rs f h = let e = ap bit f in omega (arith, h, e)

shaped_label : (before : List Record) (m : ℕ) (rs : List Record) (x : Bool) → eqb m 1 ≡ x
    → breach_from before (Record.Label m ∷ rs) ≡ suc (length rs) → (0 < tally (is_label 1) rs → Shaped rs)
    → 0 < tally (is_label 1) (Record.Label m ∷ rs) → Shaped (Record.Label m ∷ rs)
unfolding is_label
shaped_label before m rs true x e k h =
    subst (λ m. breach_from before (Record.Label m ∷ rs) ≡ suc (length rs) → Shaped (Record.Label m ∷ rs))
    (sym (eqb-true m 1 x)) (shaped_one before rs) e
shaped_label before m rs false x e k h = shaped_on (Record.Label m) rs x (k (tally-on (is_label 1) (Record.Label m) rs x h))

pub shaped : (before rs : List Record) → breach_from before rs ≡ length rs → 0 < tally (is_label 1) rs → Shaped rs
unfolding is_label tally
shaped before [] e h = absurd (omega (arith, h))
shaped before (Record.Work w ∷ rs) e h =
    shaped_on (Record.Work w) rs refl
    (shaped _ rs (first before (Record.Work w) rs e).rest (tally-on (is_label 1) (Record.Work w) rs refl h))
shaped before (Record.Label m ∷ rs) e h =
    shaped_label before m rs _ refl e (λ k. shaped _ rs (first before (Record.Label m) rs e).rest k) h
shaped before (Record.Branch l ∷ rs) e h =
    shaped_on (Record.Branch l) rs refl
    (shaped _ rs (first before (Record.Branch l) rs e).rest (tally-on (is_label 1) (Record.Branch l) rs refl h))
shaped before (Record.Call l ∷ rs) e h =
    shaped_on (Record.Call l) rs refl
    (shaped _ rs (first before (Record.Call l) rs e).rest (tally-on (is_label 1) (Record.Call l) rs refl h))
shaped before (Record.BranchIf c l x ∷ rs) e h =
    shaped_on (Record.BranchIf c l x) rs refl
    (shaped _ rs (first before (Record.BranchIf c l x) rs e).rest (tally-on (is_label 1) (Record.BranchIf c l x) rs refl h))
