-- The labels that looking ahead sees, marked one after the other.
use Prim.Native.Nat.{ℕ, ◌+◌, ◌-◌, ◌*◌, ◌≤◌, ◌<◌}
use mathlib.Core.Path.{◌≡◌, refl, sym, ap, ◌∙◌, subst}
use mathlib.Core.Bool.{Bool, true, false, not, cond, ◌&&◌, ◌||◌, true≢false, or_assoc, or-true, or-false}
use mathlib.Core.List.{List, [], ◌∷◌}
use mathlib.Core.Option.{Option, none, some}
use native.Mathlib.Omega.{arith}
use borrow.Author.Tests.{ltb-true, ltb-false}
use lib.ListN.{length, take, drop, get_or, set, replicate, get_or-replicate, length-replicate, length-drop, drop_of_length-le, get_or-eq_default, length-set}
use lib.Dec.{ltb, eqb}
use lib.Seq.{drop-drop, get_or-drop}
use Rattle.mir.specs.Length.{length_of}
use Rattle.mir.specs.Read.{Read, got, refused, refuse}
use Rattle.mir.specs.Encode.{flag_byte}
use Rattle.mir.specs.Field.{byte_at, u16_at, takes_kind, head_from}
use Rattle.mir.specs.Decode.{decoded}
use Rattle.mir.proofs.Parts.{part}
use Rattle.mir.proofs.Passing.{either, passed, got_same}
use Rattle.mir.proofs.Decoding as Decoding
use Rattle.mir.proofs.Decoding.{decoded-none, decoded-torn, Bytes, Each, each}
use Rattle.lowering.specs.declared.realness.Realness.{Realness}
use Rattle.lowering.specs.Labels.{none_standing, label_seen, any_sees, later}
use Rattle.lowering.proofs.Ahead.{ahead_one}
use Rattle.refusals.specs.Noted.{label_here, row, unlike, Noted, seen_in, mark_seen, mark_all, is_label, any_label}
use Rattle.refusals.proofs.Marking.{mark-at, mark-other}

-- ---- one record

abbrev on_head : Option ℕ → Read ℕ → Read (Option ℕ)
on_head o (got k) = got o
on_head o (refused n) = cond (eqb n 1) (refused 1) (got o)

by_tests : (a b c t e : Bool) (k : ℕ) (o : Option ℕ)
    → refuse a 1 (refuse b 1 (refuse c 1 (refuse (t && not e) 1 (got o))))
    ≡ on_head o (refuse a 1 (refuse b 1 (refuse c 1 (refuse (not t) 2 (refuse (not e) 1 (got k))))))
by_tests true b c t e k o = refl
by_tests false true c t e k o = refl
by_tests false false true t e k o = refl
by_tests false false false false e k o = refl
by_tests false false false true true k o = refl
by_tests false false false true false k o = refl

-- what a record's head tells of looking ahead
pub head_seen : (s : List ℕ) → label_seen s ≡ on_head (label_here s) (head_from (takes_kind false) s)
unfolding label_seen head_from
head_seen s =
    by_tests (ltb (length s) 4) (ltb (u16_at s 0) 4) (ltb (length s) (u16_at s 0)) (takes_kind false (u16_at s 2))
    (eqb (length_of (u16_at s 2)) (u16_at s 0)) (u16_at s 2) (label_here s)

pub head_read : (s : List ℕ) (k : ℕ) → head_from (takes_kind false) s ≡ got k → label_seen s ≡ got (label_here s)
head_read s k e = head_seen s ∙ ap (on_head (label_here s)) e

pub head_refused : (s : List ℕ) (n : ℕ) → head_from (takes_kind false) s ≡ refused n → label_seen s ≡ cond (eqb n 1) (refused 1) (got (label_here s))
head_refused s n e = head_seen s ∙ ap (on_head (label_here s)) e

-- the length of a record that is not torn
record Long (s : List ℕ) : Type 0 where
  least : 4 ≤ u16_at s 0
  inside : u16_at s 0 ≤ length s

long : (s : List ℕ) (o : Option ℕ) → label_seen s ≡ got o → Long s
unfolding label_seen
long s o e =
    let a = passed (ltb (length s) 4) 1 _ o e in
    let b = passed (ltb (u16_at s 0) 4) 1 _ o a.rest in
    let c = passed (ltb (length s) (u16_at s 0)) 1 _ o b.rest in
    record { least = ltb-false (u16_at s 0) 4 b.test; inside = ltb-false (length s) (u16_at s 0) c.test }

-- it is torn, or it is not
pub torn_seen : (s : List ℕ) {r : Bool} → label_seen s ≡ cond r (refused 1) (got (label_here s)) → r ≡ true → label_seen s ≡ refused 1
torn_seen s e f = e ∙ ap (λ (q : Bool). cond q (refused 1) (got (label_here s))) f

pub whole_seen : (s : List ℕ) {r : Bool} → label_seen s ≡ cond r (refused 1) (got (label_here s)) → r ≡ false → label_seen s ≡ got (label_here s)
whole_seen s e f = e ∙ ap (λ (q : Bool). cond q (refused 1) (got (label_here s))) f

-- a Label is marked, another record is not
pub is-label : (s marks : List ℕ) {marks' : List ℕ} → eqb (u16_at s 2) 14 ≡ true → marks' ≡ set marks (byte_at s 4) 1
    → (true ≡ is_label (label_here s)) × (marks' ≡ mark_seen (label_here s) marks)
is-label s marks e f =
    let k : label_here s ≡ some (byte_at s 4) = ap (λ (q : Bool). cond q (some (byte_at s 4)) none) e in
    (ap is_label (sym k), f ∙ ap (λ o. mark_seen o marks) (sym k))

pub is_other : (s marks : List ℕ) → eqb (u16_at s 2) 14 ≡ false → (false ≡ is_label (label_here s)) × (marks ≡ mark_seen (label_here s) marks)
is_other s marks e =
    let k : label_here s ≡ none = ap (λ (q : Bool). cond q (some (byte_at s 4)) none) e in
    (ap is_label (sym k), ap (λ o. mark_seen o marks) (sym k))

-- ---- at a position

abbrev pub from : List ℕ → ℕ → List ℕ
from s at = take (length s - at) (drop at s)

module _ (sheet : List ℕ) (at : ℕ) where
  -- it is not torn
  module _ (o : Option ℕ) (e : label_seen (from sheet at) ≡ got o) where
    z : Long (drop at sheet)
    z = long (drop at sheet) o (ap label_seen (sym (part sheet at)) ∙ e)

    pub step-on : (n : ℕ) → n ≡ u16_at (from sheet at) 0 → (at < at + n) × (at + n ≤ length sheet)
    step-on n k =
        let f = ap (λ s. u16_at s 0) (part sheet at) in
        let a = z.least in
        let b = z.inside in
        let g = length-drop at sheet in
        (omega (arith, k, f, a), omega (arith, k, f, a, b, g))

    pub step-seen : (n : ℕ) → n ≡ u16_at (from sheet at) 0 → seen_in (drop at sheet) ≡ o ∷ seen_in (drop (at + n) sheet)
    step-seen n k =
        let f = k ∙ ap (λ s. u16_at s 0) (part sheet at) in
        ap (λ d. d.items) (ahead_one (drop at sheet) o (ap label_seen (sym (part sheet at)) ∙ e) z.least z.inside)
        ∙ ap (λ s. o ∷ seen_in s) (drop-drop (u16_at (drop at sheet) 0) at sheet ∙ ap (λ k. drop (at + k) sheet) (sym f))

  -- it is, or none stands there
  pub torn-none : (n : ℕ) → at < length sheet → label_seen (from sheet at) ≡ refused n → seen_in (drop at sheet) ≡ []
  torn-none n h e =
      let g = length-drop at sheet in
      ap (λ d. d.items) (decoded-torn label_seen (drop at sheet) n (ap label_seen (sym (part sheet at)) ∙ e) (omega (arith, g)))

  pub ended-none : length sheet ≤ at → seen_in (drop at sheet) ≡ []
  ended-none h = ap (λ d. d.items) (ap (decoded label_seen) (drop_of_length-le sheet h) ∙ decoded-none label_seen)

-- ---- the walk

-- what is marked with what is left to mark is all of it, and so with whether there is one
pub record Halfway (os : List (Option ℕ)) (marks : List ℕ) (any : Bool) (os' : List (Option ℕ)) (marks' : List ℕ) (any' : Bool) : Type 0 where
  pub marked : mark_all os' marks' ≡ mark_all os marks
  pub found : (any' || any_label os') ≡ (any || any_label os)

pub halfway_first : {os : List (Option ℕ)} {marks : List ℕ} {any : Bool} → Halfway os marks any os marks any
halfway_first = record { marked = refl; found = refl }

module _ {os : List (Option ℕ)} {marks : List ℕ} {os' : List (Option ℕ)} {marks' : List ℕ} {any' : Bool} (h : Halfway os marks false os' marks' any') where
  -- a record that is not torn
  pub halfway-on : {o : Option ℕ} {os'' : List (Option ℕ)} {marks'' : List ℕ} {found any'' : Bool} → os' ≡ o ∷ os'' → found ≡ is_label o
      → marks'' ≡ mark_seen o marks' → any'' ≡ (any' || found) → Halfway os marks false os'' marks'' any''
  halfway-on {o} {os''} e f g k =
      record {
        marked = ap (mark_all os'') g ∙ ap (λ x. mark_all x marks') (sym e) ∙ h.marked;
        found =
            ap (λ (q : Bool). q || any_label os'') (k ∙ ap (λ (q : Bool). any' || q) f) ∙ or_assoc any' (is_label o) (any_label os'')
            ∙ ap (λ x. any' || any_label x) (sym e) ∙ h.found;
      }

  -- none is left
  pub halfway-done : os' ≡ [] → (any' ≡ any_label os) × (marks' ≡ mark_all os marks)
  halfway-done e =
      (sym (or-false any') ∙ ap (λ x. any' || any_label x) (sym e) ∙ h.found, ap (λ x. mark_all x marks') (sym e) ∙ h.marked)

-- ---- each label that is seen is marked

abbrev IsByte : Option ℕ → Type 0
IsByte none = Unit {0}
IsByte (some l) = l < 256

seen_byte : (s : List ℕ) (o : Option ℕ) → Bytes s → label_seen s ≡ got o → IsByte o
unfolding label_seen
seen_byte s o h e =
    let a = passed (ltb (length s) 4) 1 _ o e in
    let b = passed (ltb (u16_at s 0) 4) 1 _ o a.rest in
    let c = passed (ltb (length s) (u16_at s 0)) 1 _ o b.rest in
    let d = passed (takes_kind false (u16_at s 2) && not (eqb (length_of (u16_at s 2)) (u16_at s 0))) 1 _ o c.rest in
    subst IsByte (got_same _ _ d.rest) (go (eqb (u16_at s 2) 14))
  where
    go : (q : Bool) → IsByte (cond q (some (byte_at s 4)) none)
    go true = h 4
    go false = tt

mark_each : (os : List (Option ℕ)) (marks : List ℕ) (l : ℕ) (f : Bool) → Each IsByte os → 256 ≤ length marks → get_or marks l 0 ≡ flag_byte f
    → get_or (mark_all os marks) l 0 ≡ flag_byte (f || any_sees l os)
mark_each [] marks l f Decoding.none n e = e ∙ ap flag_byte (sym (or-false f))
mark_each (none ∷ os) marks l f (Decoding.and b bs) n e = mark_each os marks l f bs n e
mark_each (some m ∷ os) marks l f (Decoding.and b bs) n e =
    let k = length-set marks m 1 in
    either (eqb m l)
    (λ t.
    mark_each os (set marks m 1) l true bs (omega (arith, k, n)) (mark-at marks m 1 (omega (arith, b, n)) l t)
    ∙ sym (ap flag_byte (ap (λ (q : Bool). f || (q || any_sees l os)) t ∙ or-true f)))
    (λ t.
    mark_each os (set marks m 1) l f bs (omega (arith, k, n)) (mark-other marks m 1 (omega (arith, b, n)) l t ∙ e)
    ∙ sym (ap (λ (q : Bool). flag_byte (f || (q || any_sees l os))) t))

-- ---- before the first instruction

-- bytes behind a position
pub bytes_behind : (s : List ℕ) (at : ℕ) → Bytes s → Bytes (drop at s)
bytes_behind s at h i = let e = get_or-drop at s i 0 in let k = h (at + i) in omega (arith, e, k)

pub seen-length : (o : Option ℕ) (marks : List ℕ) → length (mark_seen o marks) ≡ length marks
seen-length none marks = refl
seen-length (some m) marks = length-set marks m 1

marked_length : (os : List (Option ℕ)) (marks : List ℕ) → length (mark_all os marks) ≡ length marks
marked_length [] marks = refl
marked_length (o ∷ os) marks = marked_length os (mark_seen o marks) ∙ seen-length o marks

none-some : (os : List (Option ℕ)) (l : ℕ) → any_label os ≡ false → any_sees l os ≡ false
none-some [] l e = refl
none-some (none ∷ os) l e = none-some os l e
none-some (some m ∷ os) l e = absurd (true≢false e)

module _ (rest marks marks' rows : List ℕ) (r : Bool) (bytes : Bytes rest) (zero : marks ≡ replicate 256 0)
    (s : (r ≡ any_label (seen_in rest)) × (marks' ≡ mark_all (seen_in rest) marks)) (h : r ≡ true → length rows ≡ 24576) where
  begun : marks' ≡ mark_all (seen_in rest) (replicate 256 0)
  begun = s.1 ∙ ap (mark_all (seen_in rest)) zero

  as_long : length marks' ≡ 256
  as_long = ap length begun ∙ marked_length (seen_in rest) (replicate 256 0) ∙ length-replicate {A = ℕ} 256 0

  zeros : (l : ℕ) → ◌≡◌ {A = ℕ} (get_or (replicate 256 0) l 0) 0
  zeros l =
      either (ltb l 256) (λ t. get_or-replicate 256 l 0 0 (ltb-true l 256 t))
      (λ f. get_or-eq_default (replicate 256 0) 0 {n = l} (ltb-false l 256 f))

  marked : (l : ℕ) → get_or marks' l 0 ≡ flag_byte (later l rest)
  unfolding later
  marked l =
      let n = length-replicate {A = ℕ} 256 0 in
      ap (λ m. get_or m l 0) begun
      ∙ mark_each (seen_in rest) (replicate 256 0) l false (each IsByte label_seen seen_byte rest bytes) (omega (arith, n)) (zeros l)

  unmarked : (l : ℕ) → r ≡ false → later l rest ≡ false
  unfolding later
  unmarked l f = none-some (seen_in rest) l (sym s.0 ∙ f)

  wide : (l : ℕ) → 0 < get_or marks' l 0 → length rows ≡ 24576 → 96 * l + 96 ≤ length rows
  wide l p e =
      either (ltb l 256) (λ t. let k = ltb-true l 256 t in omega (arith, k, e))
      (λ f.
      let k = ltb-false l 256 f in
      let d = get_or-eq_default marks' 0 {n = l} (omega (arith, k, as_long)) in
      absurd (omega (arith, d, p)))

  pub begin-noted : Noted none_standing rest marks' rows
  begin-noted =
      record {
        long = as_long;
        room = λ l p. either r (λ t. wide l p (h t)) (λ f. let a = marked l ∙ ap flag_byte (unmarked l f) in absurd (omega (arith, a, p)));
        stood = λ l. unstood (later l rest) ∙ sym (ap (λ x. eqb x 4) (marked l));
        ahead = λ l f. told (later l rest) ∙ sym (ap (λ x. ltb 0 x) (marked l));
        differ = λ l ρ z f. alike (later l rest) (row l rows) ρ ∙ sym (ap (λ x. unlike x (row l rows) ρ) (marked l));
      }
    where
      unstood : (q : Bool) → false ≡ eqb (flag_byte q) 4
      unstood true = refl
      unstood false = refl

      told : (q : Bool) → q ≡ ltb 0 (flag_byte q)
      told true = refl
      told false = refl

      alike : (q : Bool) (bytes : List ℕ) (ρ : Realness) → false ≡ unlike (flag_byte q) bytes ρ
      alike true bytes ρ = refl
      alike false bytes ρ = refl
