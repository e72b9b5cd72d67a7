-- What the records that direct the play do to the arrays is what they do to the marking that these stand for.
use Prim.Native.Nat.{ℕ, ◌+◌, ◌*◌, ◌-◌, ◌<◌, ◌≤◌}
use native.Mathlib.Omega.{arith}
use native.Mathlib.Decide.{ℕ_discrete, dec_lt}
use mathlib.Core.Path.{◌≡◌, refl, sym, ap, ap₂, ◌∙◌, subst}
use mathlib.Core.Bool.{Bool, true, false, not, cond, ◌&&◌, ◌||◌}
use mathlib.Core.List.{List, [], ◌∷◌, ◌++◌}
use Rattle.std.proofs.Common.{Option, None, Some}
use lib.ListN.{length, get_or}
use lib.Dec.{leb, ltb}
use borrow.Author.Tests.{eq-eqb, ne_eqb, lt-ltb, le-ltb, le-leb, lt-leb, leb-true}
use Rattle.mir.specs.declared.records.Work.{Work}
use Rattle.mir.specs.declared.records.Record.{Record}
use Rattle.mir.specs.Field.{u16_at}
use Rattle.mir.specs.Encode.{record_of, encode, encode_all}
use Rattle.player_machine.specs.Machine.{block}
use Rattle.marks.specs.Marks.{Set, everything, meet, among, Marking, start, working, through, noted, step}
use Rattle.marks.proofs.Masks.{through_filled, through_drawn}
use Rattle.marks_pass.specs.Standing.{Stands, Ways, Drawn, Called, Noted, Entered, Branched, Directs, Jumped, BlockMarked, Knows, CallsBlock, NoWork, All, Directed}
use Rattle.marks_pass.proofs.Arrays.{flat, clash, made-66}
use Rattle.marks_pass.proofs.Rows.{label_kind, branch_kind, call_kind, branch_if_kind}

-- ---- a Call

-- working records change no way
pub through_ways : (b : List Work) (m : Marking) → (through b m).ways ≡ m.ways
through_ways [] m = refl
through_ways (w ∷ b) m = through_ways b (working w m)

pub calls : {F D fills draws F' D' : List Bool} (b : List Work) (m : Marking) → Called F D fills draws F' D' → Stands fills draws (through b start)
    → Stands F D m → Stands F' D' (through b m)
calls b m c k s =
    record {
      filled = λ i h. made-66 _ _ c.filled i h ∙ ap₂ ◌||◌ (s.filled i h) (k.filled i h) ∙ sym (through_filled b m i);
      drawn = λ i h. made-66 _ _ c.drawn i h ∙ ap₂ ◌||◌ (s.drawn i h) (ap₂ (λ (u v : Bool). u && not v) (k.drawn i h) (s.filled i h)) ∙ sym (through_drawn b m i);
    }

module _ {F D fills draws F' D' : List Bool} (s : List ℕ) (known : Bool) where
  pub called-known : known ≡ true → Called F D fills draws F' D' → CallsBlock s known fills draws F D fills draws F' D'
  called-known t c =
      record {
        knows = λ rs e k. subst (λ (q : Bool). Knows rs q fills draws) t k;
        stands = λ rs m e k st. calls (block rs) m c (subst (λ (q : Bool). Knows rs q fills draws) t k) st;
      }

  pub called-new : {fills' draws' : List Bool} → known ≡ false → BlockMarked s fills draws fills' draws' → Called F D fills' draws' F' D'
      → CallsBlock s known fills draws F D fills' draws' F' D'
  called-new t b c =
      record {
        knows = λ rs e k. b rs e (subst (λ (q : Bool). Knows rs q fills draws) t k);
        stands = λ rs m e k st. calls (block rs) m c (b rs e (subst (λ (q : Bool). Knows rs q fills draws) t k)) st;
      }

-- ---- a Label, a Branch, a BranchIf

-- a kind that is not this record's
other : {A : Type 0} (s : List ℕ) (kind j i : ℕ) (r : Record) (rest : List ℕ) → kind ≡ u16_at s 2 → kind ≡ j → s ≡ encode r ++ rest
    → u16_at (encode r ++ rest) 2 ≡ i → (j ≡ i → ⊥) → A
other s kind j i r rest k kj e q n = absurd (n (sym kj ∙ k ∙ ap (λ (x : List ℕ). u16_at x 2) e ∙ q))

noted_ways : {F D W W' : List Bool} {r : Bool} (l : ℕ) (m : Marking) → length W' ≡ length W → Noted W l F W' r → r ≡ true → Stands F D m → Ways W m.ways
    → Ways W' (noted l m.filled m.ways)
noted_ways {F} {D} {W} {W'} l m long n t s w = record { each = λ k i b h. go k i (omega (arith, long)) h (ℕ_discrete k l) (dec_lt k l) }
  where
    within : ℕ → ℕ → Bool
    within k i = leb (66 * l) (66 * k + i) && ltb (66 * k + i) (66 * l + 66)

    at : (k i : ℕ) → Bool → Bool
    at k i q = cond q (get_or W (66 * k + i) false && get_or F (66 * k + i - 66 * l) false) (get_or W (66 * k + i) false)

    go : (k i : ℕ) → 66 * k + 66 ≤ length W → i < 66 → Dec (k ≡ l) → Dec (k < l) → get_or W' (66 * k + i) false ≡ noted l m.filled m.ways k i
    go k i b h (yes e) d =
        (n.made t).each (66 * k + i)
        ∙ ap (at k i) (ap₂ ◌&&◌ (le-leb (66 * l) (66 * k + i) (omega arith)) (lt-ltb (66 * k + i) (66 * l + 66) (omega arith)))
        ∙ ap₂ ◌&&◌ (w.each k i b h) (ap (λ (j : ℕ). get_or F j false) {x = 66 * k + i - 66 * l} {y = i} (omega arith) ∙ s.filled i h)
        ∙ sym (ap (λ (q : Bool). cond q (meet (m.ways k) m.filled) (m.ways k) i) (eq-eqb k l e))
    go k i b h (no e) (yes d) =
        (n.made t).each (66 * k + i)
        ∙ ap (λ (q : Bool). at k i (q && ltb (66 * k + i) (66 * l + 66))) (lt-leb (66 * l) (66 * k + i) (omega arith))
        ∙ w.each k i b h
        ∙ sym (ap (λ (q : Bool). cond q (meet (m.ways k) m.filled) (m.ways k) i) (ne_eqb k l e))
    go k i b h (no e) (no d) =
        (n.made t).each (66 * k + i)
        ∙ ap (at k i) (ap₂ ◌&&◌ (le-leb (66 * l) (66 * k + i) (omega arith)) (le-ltb (66 * k + i) (66 * l + 66) (omega (arith, apart e d))))
        ∙ w.each k i b h
        ∙ sym (ap (λ (q : Bool). cond q (meet (m.ways k) m.filled) (m.ways k) i) (ne_eqb k l e))
      where
        apart : (k ≡ l → ⊥) → (k < l → ⊥) → l < k
        apart e d = omega arith

whole_by : (W : List Bool) (l : ℕ) {r : Bool} → r ≡ leb (66 * l + 66) (length W) → l < 256 → 16896 ≤ length W → r ≡ true
whole_by W l e b h = e ∙ le-leb (66 * l + 66) (length W) (omega arith)

label_at : (l : ℕ) (rest : List ℕ) → get_or (encode (Record.Label l) ++ rest) 4 0 ≡ l
unfolding record_of
label_at l rest = refl

branch_at : (l : ℕ) (rest : List ℕ) → get_or (encode (Record.Branch l) ++ rest) 4 0 ≡ l
unfolding record_of
branch_at l rest = refl

cond_at : (c l : ℕ) (e : Bool) (rest : List ℕ) → get_or (encode (Record.BranchIf c l e) ++ rest) 4 0 ≡ c
unfolding record_of
cond_at c l e rest = refl

to_at : (c l : ℕ) (e : Bool) (rest : List ℕ) → get_or (encode (Record.BranchIf c l e) ++ rest) 5 0 ≡ l
unfolding record_of
to_at c l e rest = refl

module _ (s : List ℕ) (kind l : ℕ) (k : kind ≡ u16_at s 2) (g : l ≡ get_or s 4 0) (b : l < 256) where
  read : (j : ℕ) (rec : Record) (rest : List ℕ) → s ≡ encode rec ++ rest → get_or (encode rec ++ rest) 4 0 ≡ j → l ≡ j
  read j rec rest e q = g ∙ ap (λ (x : List ℕ). get_or x 4 0) e ∙ q

  pub jumped-label : {F D W F' : List Bool} {r : Bool} → kind ≡ 14 → Entered F W l F' r → Jumped s F D W F' D W r
  unfolding step
  jumped-label {F} {D} {W} {F'} {r} z n = record { stands = go; ways = same; whole = whole }
    where
      go : (rec : Record) (rest : List ℕ) (c : List Work) (m : Marking) → s ≡ encode rec ++ rest → Directs rec → r ≡ true → Stands F D m → Ways W m.ways
          → Stands F' D (step c rec m)
      go (Record.Work w) rest c m e d t st w' = absurd d
      go (Record.Label j) rest c m e d t st w' =
          record {
            filled = λ i h. made-66 _ _ (n.made t) i h ∙ ap₂ ◌&&◌ (st.filled i h) (w'.each l i (leb-true (66 * l + 66) (length W) (sym n.has ∙ t)) h ∙ ap (λ (x : ℕ). m.ways x i) (read j (Record.Label j) rest e (label_at j rest)));
            drawn = st.drawn;
          }
      go (Record.Branch j) rest c m e d t st w' = other s kind 14 15 (Record.Branch j) rest k z e (branch_kind j rest) (λ p. omega arith)
      go (Record.Call j) rest c m e d t st w' = absurd d
      go (Record.BranchIf a j x) rest c m e d t st w' = other s kind 14 17 (Record.BranchIf a j x) rest k z e (branch_if_kind a j x rest) (λ p. omega arith)

      same : (rec : Record) (rest : List ℕ) (c : List Work) (m : Marking) → s ≡ encode rec ++ rest → Directs rec → r ≡ true → Stands F D m → Ways W m.ways
          → Ways W (step c rec m).ways
      same (Record.Work w) rest c m e d t st w' = absurd d
      same (Record.Label j) rest c m e d t st w' = w'
      same (Record.Branch j) rest c m e d t st w' = other s kind 14 15 (Record.Branch j) rest k z e (branch_kind j rest) (λ p. omega arith)
      same (Record.Call j) rest c m e d t st w' = absurd d
      same (Record.BranchIf a j x) rest c m e d t st w' = other s kind 14 17 (Record.BranchIf a j x) rest k z e (branch_if_kind a j x rest) (λ p. omega arith)

      whole : (rec : Record) (rest : List ℕ) → s ≡ encode rec ++ rest → Directs rec → 16896 ≤ length W → r ≡ true
      whole rec rest e d h = whole_by W l n.has b h

  branched-at : (q : Bool) (A : Set) (i : ℕ) {x : Bool} → x ≡ A i → cond q true x ≡ cond q everything A i
  branched-at true A i e = refl
  branched-at false A i e = e

  pub jumped-branch : {F D W F' W' : List Bool} {r : Bool} → length W' ≡ length W → kind ≡ 15 → Branched F W l F' W' r → Jumped s F D W F' D W' r
  unfolding step
  jumped-branch {F} {D} {W} {F'} {W'} {r} long z n = record { stands = go; ways = same; whole = whole }
    where
      go : (rec : Record) (rest : List ℕ) (c : List Work) (m : Marking) → s ≡ encode rec ++ rest → Directs rec → r ≡ true → Stands F D m → Ways W m.ways
          → Stands F' D (step c rec m)
      go (Record.Work w) rest c m e d t st w' = absurd d
      go (Record.Label j) rest c m e d t st w' = other s kind 15 14 (Record.Label j) rest k z e (label_kind j rest) (λ p. omega arith)
      go (Record.Branch j) rest c m e d t st w' =
          record {
            filled = λ i h. n.filled i h ∙ ap (λ (x : ℕ). cond (ltb x 3) true (get_or F i false)) (read j (Record.Branch j) rest e (branch_at j rest)) ∙ branched-at (ltb j 3) m.filled i (st.filled i h);
            drawn = st.drawn;
          }
      go (Record.Call j) rest c m e d t st w' = absurd d
      go (Record.BranchIf a j x) rest c m e d t st w' = other s kind 15 17 (Record.BranchIf a j x) rest k z e (branch_if_kind a j x rest) (λ p. omega arith)

      same : (rec : Record) (rest : List ℕ) (c : List Work) (m : Marking) → s ≡ encode rec ++ rest → Directs rec → r ≡ true → Stands F D m → Ways W m.ways
          → Ways W' (step c rec m).ways
      same (Record.Work w) rest c m e d t st w' = absurd d
      same (Record.Label j) rest c m e d t st w' = other s kind 15 14 (Record.Label j) rest k z e (label_kind j rest) (λ p. omega arith)
      same (Record.Branch j) rest c m e d t st w' =
          subst (λ (x : ℕ). Ways W' (noted x m.filled m.ways)) (read j (Record.Branch j) rest e (branch_at j rest)) (noted_ways l m long n.noted t st w')
      same (Record.Call j) rest c m e d t st w' = absurd d
      same (Record.BranchIf a j x) rest c m e d t st w' = other s kind 15 17 (Record.BranchIf a j x) rest k z e (branch_if_kind a j x rest) (λ p. omega arith)

      whole : (rec : Record) (rest : List ℕ) → s ≡ encode rec ++ rest → Directs rec → 16896 ≤ length W → r ≡ true
      whole rec rest e d h = whole_by W l n.noted.has b h

  pub jumped-if : {F D W D' W' : List Bool} {r : Bool} (to : ℕ) → length W' ≡ length W → to ≡ get_or s 5 0 → to < 256 → kind ≡ 17 → Drawn F D (l ∷ []) D' → Noted W to F W' r
      → Jumped s F D W F D' W' r
  unfolding step
  jumped-if {F} {D} {W} {D'} {W'} {r} to long gt bt z dr n = record { stands = go; ways = same; whole = whole }
    where
      go : (rec : Record) (rest : List ℕ) (c : List Work) (m : Marking) → s ≡ encode rec ++ rest → Directs rec → r ≡ true → Stands F D m → Ways W m.ways
          → Stands F D' (step c rec m)
      go (Record.Work w) rest c m e d t st w' = absurd d
      go (Record.Label j) rest c m e d t st w' = other s kind 17 14 (Record.Label j) rest k z e (label_kind j rest) (λ p. omega arith)
      go (Record.Branch j) rest c m e d t st w' = other s kind 17 15 (Record.Branch j) rest k z e (branch_kind j rest) (λ p. omega arith)
      go (Record.Call j) rest c m e d t st w' = absurd d
      go (Record.BranchIf a j x) rest c m e d t st w' =
          record {
            filled = st.filled;
            drawn = λ i h.
                dr.each i h
                ∙ ap₂ (λ (u v : Bool). u || (among (l ∷ []) i && not v)) (st.drawn i h) (st.filled i h)
                ∙ ap (λ (y : ℕ). m.drawn i || (among (y ∷ []) i && not (m.filled i))) (read a (Record.BranchIf a j x) rest e (cond_at a j x rest));
          }

      same : (rec : Record) (rest : List ℕ) (c : List Work) (m : Marking) → s ≡ encode rec ++ rest → Directs rec → r ≡ true → Stands F D m → Ways W m.ways
          → Ways W' (step c rec m).ways
      same (Record.Work w) rest c m e d t st w' = absurd d
      same (Record.Label j) rest c m e d t st w' = other s kind 17 14 (Record.Label j) rest k z e (label_kind j rest) (λ p. omega arith)
      same (Record.Branch j) rest c m e d t st w' = other s kind 17 15 (Record.Branch j) rest k z e (branch_kind j rest) (λ p. omega arith)
      same (Record.Call j) rest c m e d t st w' = absurd d
      same (Record.BranchIf a j x) rest c m e d t st w' =
          subst (λ (y : ℕ). Ways W' (noted y m.filled m.ways)) (gt ∙ ap (λ (y : List ℕ). get_or y 5 0) e ∙ to_at a j x rest) (noted_ways to m long n t st w')

      whole : (rec : Record) (rest : List ℕ) → s ≡ encode rec ++ rest → Directs rec → 16896 ≤ length W → r ≡ true
      whole rec rest e d h = whole_by W to n.has bt h

pub jumped_none : {F D W : List Bool} (s : List ℕ) (kind : ℕ) → kind ≡ u16_at s 2 → (kind ≡ 14 → ⊥) → (kind ≡ 15 → ⊥) → (kind ≡ 17 → ⊥)
    → Jumped s F D W F D W false
jumped_none {F} {D} {W} s kind k a b c =
    record { stands = λ rec rest x m e d t. clash t; ways = λ rec rest x m e d t. clash t; whole = go }
  where
    go : (rec : Record) (rest : List ℕ) → s ≡ encode rec ++ rest → Directs rec → 16896 ≤ length W → false ≡ true
    go (Record.Work w) rest e d h = absurd d
    go (Record.Label j) rest e d h = absurd (a (k ∙ ap (λ (x : List ℕ). u16_at x 2) e ∙ label_kind j rest))
    go (Record.Branch j) rest e d h = absurd (b (k ∙ ap (λ (x : List ℕ). u16_at x 2) e ∙ branch_kind j rest))
    go (Record.Call j) rest e d h = absurd d
    go (Record.BranchIf i j x) rest e d h = absurd (c (k ∙ ap (λ (y : List ℕ). u16_at y 2) e ∙ branch_if_kind i j x rest))

-- ---- any record that is no working record

or-true : (q : Bool) → (q || true) ≡ true
or-true true = refl
or-true false = refl

module _ (listing s : List ℕ) (known : Bool) (kind : ℕ) (k : kind ≡ u16_at s 2) where
  pub directed-call : {fills draws F D W fills' draws' F' D' : List Bool} → kind ≡ 16 → CallsBlock listing known fills draws F D fills' draws' F' D'
      → Directed listing s known fills draws F D W fills' draws' F' D' W (Some true)
  unfolding step
  directed-call {fills} {draws} {F} {D} {W} {fills'} {draws'} {F'} {D'} z c = record { all = go; whole = λ rec rest e w h x. cc }
    where
      go : (rs : List Record) (rec : Record) (rest : List ℕ) (m : Marking) → listing ≡ encode_all rs → s ≡ encode rec ++ rest → NoWork rec
          → (Some true ≡ None → ⊥) → All rs known fills draws F D W m → All rs (known || true) fills' draws' F' D' W (step (block rs) rec m)
      go rs (Record.Work w) rest m l e n x a = absurd n
      go rs (Record.Label j) rest m l e n x a = other s kind 16 14 (Record.Label j) rest k z e (label_kind j rest) (λ p. omega arith)
      go rs (Record.Branch j) rest m l e n x a = other s kind 16 15 (Record.Branch j) rest k z e (branch_kind j rest) (λ p. omega arith)
      go rs (Record.Call j) rest m l e n x a =
          record {
            knows = subst (λ (q : Bool). Knows rs q fills' draws') (sym (or-true known)) (c.knows rs l a.knows);
            stands = c.stands rs m l a.knows a.stands;
            ways = subst (Ways W) (sym (through_ways (block rs) m)) a.ways;
          }
      go rs (Record.BranchIf i j y) rest m l e n x a = other s kind 16 17 (Record.BranchIf i j y) rest k z e (branch_if_kind i j y rest) (λ p. omega arith)

  pub directed-jump : {fills draws F D W F' D' W' : List Bool} {r : Bool} → (kind ≡ 16 → ⊥) → r ≡ true → Jumped s F D W F' D' W' r
      → Directed listing s known fills draws F D W fills draws F' D' W' (Some false)
  directed-jump {fills} {draws} {F} {D} {W} {F'} {D'} {W'} z t j = record { all = go; whole = λ rec rest e w h x. cc }
    where
      by : (rs : List Record) (rec : Record) (rest : List ℕ) (m : Marking) → s ≡ encode rec ++ rest → Directs rec → All rs known fills draws F D W m
          → All rs (known || false) fills draws F' D' W' (step (block rs) rec m)
      by rs rec rest m e d a =
          record {
            knows = subst (λ (q : Bool). Knows rs q fills draws) (sym (flat known)) a.knows;
            stands = j.stands rec rest (block rs) m e d t a.stands a.ways;
            ways = j.ways rec rest (block rs) m e d t a.stands a.ways;
          }

      go : (rs : List Record) (rec : Record) (rest : List ℕ) (m : Marking) → listing ≡ encode_all rs → s ≡ encode rec ++ rest → NoWork rec
          → (Some false ≡ None → ⊥) → All rs known fills draws F D W m → All rs (known || false) fills draws F' D' W' (step (block rs) rec m)
      go rs (Record.Work w) rest m l e n x a = absurd n
      go rs (Record.Label i) rest m l e n x a = by rs (Record.Label i) rest m e tt a
      go rs (Record.Branch i) rest m l e n x a = by rs (Record.Branch i) rest m e tt a
      go rs (Record.Call i) rest m l e n x a = absurd (z (k ∙ ap (λ (y : List ℕ). u16_at y 2) e ∙ call_kind i rest))
      go rs (Record.BranchIf c i y) rest m l e n x a = by rs (Record.BranchIf c i y) rest m e tt a

  pub directed-none : {fills draws F D W F' D' W' : List Bool} {r : Bool} → (kind ≡ 16 → ⊥) → r ≡ false → Jumped s F D W F' D' W' r
      → Directed listing s known fills draws F D W fills draws F' D' W' None
  directed-none {W = W} {r = r} z f j = record { all = λ rs rec rest m l e n x a. absurd (x refl); whole = go }
    where
      by : (rec : Record) (rest : List ℕ) → s ≡ encode rec ++ rest → Directs rec → 16896 ≤ length W → ⊥
      by rec rest e d h = clash (sym f ∙ j.whole rec rest e d h)

      go : (rec : Record) (rest : List ℕ) → s ≡ encode rec ++ rest → NoWork rec → 16896 ≤ length W → ◌≡◌ {A = Option Bool} None None → ⊥
      go (Record.Work w) rest e n h x = absurd n
      go (Record.Label i) rest e n h x = by (Record.Label i) rest e tt h
      go (Record.Branch i) rest e n h x = by (Record.Branch i) rest e tt h
      go (Record.Call i) rest e n h x = absurd (z (k ∙ ap (λ (y : List ℕ). u16_at y 2) e ∙ call_kind i rest))
      go (Record.BranchIf c i y) rest e n h x = by (Record.BranchIf c i y) rest e tt h
