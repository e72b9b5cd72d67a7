-- Laws of arrays of marks: a mark set, registers drawn on and filled one after the other, a run of marks made.
use Prim.Native.Nat.{ℕ, ◌+◌, ◌<◌}
use native.Mathlib.Omega.{arith}
use native.Mathlib.Decide.{ℕ_discrete, dec_lt}
use mathlib.Core.Path.{◌≡◌, refl, sym, ap, ap₂, ◌∙◌, subst}
use mathlib.Core.Bool.{Bool, true, false, not, cond, ◌&&◌, ◌||◌}
use mathlib.Core.List.{List, [], ◌∷◌}
use lib.ListN.{length, get_or, set}
use lib.Seq.{get_or-set_same, get_or-set_other}
use lib.Dec.{leb, ltb, eqb}
use borrow.Author.Tests.{eq-eqb, ne_eqb, lt-ltb, le-ltb, le-leb, lt-leb, eqb-true}
use Rattle.marks.specs.Marks.{Set, among}
use Rattle.marks_pass.specs.Standing.{Drawn, Filled, Made}

pub flat : (x : Bool) → (x || false) ≡ x
flat true = refl
flat false = refl

pub clash : {A : Type 0} → false ≡ true → A
clash e = let z : ◌≡◌ {A = ℕ} 0 1 = ap (λ (b : Bool). cond b 1 0) e in absurd (omega arith)

-- one mark
pub set_at : (l : List Bool) (r : ℕ) (v : Bool) (i : ℕ) → r < length l → get_or (set l r v) i false ≡ cond (eqb i r) v (get_or l i false)
set_at l r v i h = go (ℕ_discrete i r)
  where
    go : Dec (i ≡ r) → get_or (set l r v) i false ≡ cond (eqb i r) v (get_or l i false)
    go (yes e) =
        ap (λ (k : ℕ). get_or (set l r v) k false) e ∙ get_or-set_same l r v false h ∙ sym (ap (λ (q : Bool). cond q v (get_or l i false)) (eq-eqb i r e))
    go (no n) = get_or-set_other l r i v false n ∙ sym (ap (λ (q : Bool). cond q v (get_or l i false)) (ne_eqb i r n))

module _ (F D : List Bool) where
  pub drawn-one : (r : ℕ) → r < length D → Drawn F D (r ∷ []) (set D r (get_or D r false || not (get_or F r false)))
  drawn-one r h = record { each = λ i l. set_at D r (get_or D r false || not (get_or F r false)) i h ∙ go i (eqb i r) refl }
    where
      go : (i : ℕ) (q : Bool) → eqb i r ≡ q
          → cond q (get_or D r false || not (get_or F r false)) (get_or D i false) ≡ (get_or D i false || ((q || false) && not (get_or F i false)))
      go i true e = ap (λ (k : ℕ). get_or D k false || not (get_or F k false)) (sym (eqb-true i r e))
      go i false e = sym (flat (get_or D i false))

  then-drawn : (d q a n : Bool) → ((d || ((q || false) && n)) || (a && n)) ≡ (d || ((q || a) && n))
  then-drawn true q a n = refl
  then-drawn false true true true = refl
  then-drawn false true true false = refl
  then-drawn false true false true = refl
  then-drawn false true false false = refl
  then-drawn false false a n = refl

  pub drawn-more : {D' D'' : List Bool} {a : ℕ} {is : List ℕ} → Drawn F D (a ∷ []) D' → Drawn F D' is D'' → Drawn F D (a ∷ is) D''
  drawn-more {a = a} {is} d e =
      record { each = λ i l. e.each i l ∙ ap (λ (x : Bool). x || (among is i && not (get_or F i false))) (d.each i l) ∙ then-drawn (get_or D i false) (eqb i a) (among is i) (not (get_or F i false)) }

module _ (F : List Bool) where
  pub filled-one : (r : ℕ) → r < length F → Filled F (r ∷ []) (set F r true)
  filled-one r h = record { each = λ i l. set_at F r true i h ∙ go i (eqb i r) }
    where
      go : (i : ℕ) (q : Bool) → cond q true (get_or F i false) ≡ (get_or F i false || (q || false))
      go i true = top (get_or F i false)
        where
          top : (x : Bool) → true ≡ (x || true)
          top true = refl
          top false = refl
      go i false = sym (flat (get_or F i false))

  then-filled : (f q a : Bool) → ((f || (q || false)) || a) ≡ (f || (q || a))
  then-filled true q a = refl
  then-filled false true a = refl
  then-filled false false a = refl

  pub filled_more : {F' F'' : List Bool} {a : ℕ} {is : List ℕ} → Filled F (a ∷ []) F' → Filled F' is F'' → Filled F (a ∷ is) F''
  filled_more {a = a} {is} d e =
      record { each = λ i l. e.each i l ∙ ap (λ (x : Bool). x || among is i) (d.each i l) ∙ then-filled (get_or F i false) (eqb i a) (among is i) }

-- two lists have the same registers
pub record Same (is js : List ℕ) : Type 0 where
  pub each : (i : ℕ) → i < 66 → among is i ≡ among js i

pub drawn-as : {F D D' : List Bool} {is js : List ℕ} → Same is js → Drawn F D is D' → Drawn F D js D'
drawn-as {F} {D} s d = record { each = λ i l. d.each i l ∙ ap (λ (x : Bool). get_or D i false || (x && not (get_or F i false))) (s.each i l) }

pub filled_as : {F F' : List Bool} {is js : List ℕ} → Same is js → Filled F is F' → Filled F js F'
filled_as {F} s d = record { each = λ i l. d.each i l ∙ ap (λ (x : Bool). get_or F i false || x) (s.each i l) }

-- a run of marks, one more
module _ (from : ℕ) (A : Set) (before : List Bool) where
  pub made_none : Made from 0 A before before
  made_none = record { each = λ k. sym (ap (λ (q : Bool). cond q (A k) (get_or before k false)) (outside k (dec_lt k from))) }
    where
      outside : (k : ℕ) → Dec (k < from) → (leb from k && ltb k (from + 0)) ≡ false
      outside k (yes h) = ap (λ (q : Bool). q && ltb k (from + 0)) (lt-leb from k h)
      outside k (no h) = ap₂ ◌&&◌ (le-leb from k (omega arith)) (le-ltb k (from + 0) (omega arith))

  pub made-next : (n : ℕ) {now : List Bool} → Made from n A before now → get_or now (from + n) false ≡ get_or before (from + n) false
  made-next n m =
      m.each (from + n)
      ∙ ap (λ (q : Bool). cond q (A (from + n)) (get_or before (from + n) false))
      (ap₂ ◌&&◌ (le-leb from (from + n) (omega arith)) (le-ltb (from + n) (from + n) (omega arith)))

  pub made-on : (n : ℕ) {now : List Bool} (v : Bool) → Made from n A before now → from + n < length now → v ≡ A (from + n)
      → Made from (n + 1) A before (set now (from + n) v)
  made-on n {now} v m h e = record { each = λ k. set_at now (from + n) v k h ∙ go k (ℕ_discrete k (from + n)) (dec_lt k from) (dec_lt k (from + n)) }
    where
      go : (k : ℕ) → Dec (k ≡ from + n) → Dec (k < from) → Dec (k < from + n)
          → cond (eqb k (from + n)) v (get_or now k false) ≡ cond (leb from k && ltb k (from + (n + 1))) (A k) (get_or before k false)
      go k (yes p) a b =
          ap (λ (q : Bool). cond q v (get_or now k false)) (eq-eqb k (from + n) p)
          ∙ (e ∙ ap A (sym p))
          ∙ sym (ap (λ (q : Bool). cond q (A k) (get_or before k false))
          (ap₂ ◌&&◌ (le-leb from k (omega arith)) (lt-ltb k (from + (n + 1)) (omega arith))))
      go k (no p) (yes a) b =
          ap (λ (q : Bool). cond q v (get_or now k false)) (ne_eqb k (from + n) p)
          ∙ m.each k
          ∙ ap (λ (q : Bool). cond (q && ltb k (from + n)) (A k) (get_or before k false)) (lt-leb from k a)
          ∙ sym (ap (λ (q : Bool). cond (q && ltb k (from + (n + 1))) (A k) (get_or before k false)) (lt-leb from k a))
      go k (no p) (no a) (yes b) =
          ap (λ (q : Bool). cond q v (get_or now k false)) (ne_eqb k (from + n) p)
          ∙ m.each k
          ∙ ap (λ (q : Bool). cond (leb from k && q) (A k) (get_or before k false)) (lt-ltb k (from + n) b ∙ sym (lt-ltb k (from + (n + 1)) (omega arith)))
      go k (no p) (no a) (no b) =
          ap (λ (q : Bool). cond q v (get_or now k false)) (ne_eqb k (from + n) p)
          ∙ m.each k
          ∙ ap (λ (q : Bool). cond (leb from k && q) (A k) (get_or before k false)) (le-ltb k (from + n) (omega arith) ∙ sym (le-ltb k (from + (n + 1)) (omega arith)))

pub made_all : {from : ℕ} {A : Set} {before now : List Bool} (n : ℕ) → n ≡ 66 → Made from n A before now → Made from 66 A before now
made_all {from} {A} {before} {now} n e m = subst (λ (k : ℕ). Made from k A before now) e m

-- the same from the first mark on
module _ (A : Set) (before : List Bool) where
  pub made-next-0 : (n : ℕ) {now : List Bool} → Made 0 n A before now → get_or now n false ≡ get_or before n false
  made-next-0 n {now} m =
      let z : n ≡ 0 + n = omega arith in
      ap (λ (k : ℕ). get_or now k false) z ∙ made-next 0 A before n m ∙ ap (λ (k : ℕ). get_or before k false) (sym z)

  pub made-on-0 : (n : ℕ) {now : List Bool} (v : Bool) → Made 0 n A before now → n < length now → v ≡ A n → Made 0 (n + 1) A before (set now n v)
  made-on-0 n {now} v m h e =
      let z : 0 + n ≡ n = omega arith in
      subst (λ (k : ℕ). Made 0 (n + 1) A before (set now k v)) z (made-on 0 A before n v m (omega arith) (e ∙ ap A (sym z)))

  pub made-66 : {now : List Bool} → Made 0 66 A before now → (i : ℕ) → i < 66 → get_or now i false ≡ A i
  made-66 m i h =
      m.each i ∙ ap (λ (q : Bool). cond q (A i) (get_or before i false)) (ap₂ ◌&&◌ (le-leb 0 i (omega arith)) (lt-ltb i (0 + 66) (omega arith)))
