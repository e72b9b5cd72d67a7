-- The check of Rows at the registers of an instruction. Its lines are written for registers 0, 1 and 2, whose halves are 4 to 9, and for the
-- place Stack 2, whose words are 70 and 71: these are the names of the halves of d, a and b and of the words of p.
use mathlib.Core.Path.{◌≡◌, refl, sym, ap, ◌∙◌, subst}
use mathlib.Core.Bool.{Bool, true, false, cond, ◌&&◌, ◌||◌, true≢false}
use mathlib.Core.Logic.{◌≢◌, ◌⊎◌, ⊎_elim, inl, inr}
use mathlib.Core.List.{List, [], ◌∷◌, map}
use Prim.Native.Nat.{ℕ, suc, ◌+◌, ◌*◌, ◌%◌, ◌≤◌, ◌<◌}
use native.Mathlib.Nat.{mul-mod_right, suc-mod}
use native.Mathlib.Omega.{arith}
use native.Mathlib.Decide.{ℕ_discrete, dec_lt}
use lib.ListN.{length, get_or, get_or-eq_default}
use lib.Seq.{get_or-set_same, get_or-set_other, set_out}
use lib.Dec.{T, eqb, ltb, eqb→eq}
use borrow.Author.Tests.{lt-ltb, le-ltb, ne_eqb}
use Rattle.mir.specs.declared.records.Loc.{Loc}
use Rattle.mir.specs.declared.records.Work.{Work}
use Rattle.mir.specs.declared.records.Record.{Record}
use Rattle.mir.specs.Register.{re, im}
use Rattle.mir.proofs.Tables.{and_left, and_right}
use Rattle.records.proofs.Holding.{AllHold}
use Rattle.mir.specs.Place.{class, index}
use Rattle.player_machine.specs.Machine.{Store, at, place, execs}
use Rattle.lowering.specs.declared.realness.Realness.{Realness}
use Rattle.lowering.specs.Realness.{is_real_reg, is_real_loc, set_reg}
use Rattle.leftovers.specs.Kept.{Kept, kept_re, kept_im, kept_word, kept_next}
use Rattle.player_machine.proofs.Agreeing.{Agree, weaken, has, or_cases}
use Rattle.leftovers.proofs.Rows.{all_in, check, known, given, ren, Named, steps-agree, steps-keep, undrawn}
use Rattle.marks.specs.Leads.{DrawnFirst}
use Rattle.leftovers.proofs.Held.{All, registers, all_listed, Asks, held-lines}

-- the word that a name means: Temp, scratch and Ret mean themselves, a place's real word means p's, and its imaginary word p's
unfoldable pub name : ℕ → ℕ → ℕ → Loc → ℕ → ℕ
name d a b p n =
    get_or (0 ∷ 1 ∷ 2 ∷ 3 ∷ re d ∷ im d ∷ re a ∷ im a ∷ re b ∷ im b ∷ []) n
    (cond (ltb n 66) n (cond (eqb (n % 2) 0) (place p) (suc (place p))))

module _ (d a b : ℕ) (p q : Loc) where
  name-from : (n x : ℕ) → 66 ≤ n → n % 2 ≡ x → name d a b p n ≡ cond (eqb x 0) (place p) (suc (place p))
  unfolding name
  name-from n x h e =
      get_or-eq_default (0 ∷ 1 ∷ 2 ∷ 3 ∷ re d ∷ im d ∷ re a ∷ im a ∷ re b ∷ im b ∷ []) _ {n = n} (omega arith)
      ∙ rw (le-ltb n 66 h, e)

  even : place q ≡ 2 * (33 + (256 * class q + index q))
  even = omega arith

  pub name-real : name d a b p (place q) ≡ place p
  name-real = name-from (place q) 0 (omega arith) (rw even (mul-mod_right 2 _))

  pub name-imaginary : name d a b p (suc (place q)) ≡ suc (place p)
  name-imaginary = name-from (suc (place q)) 1 (omega arith) (suc-mod (place q) 2 ∙ rw (even, mul-mod_right))

-- the lines l at registers d, a, b and place p
unfoldable pub rename : ℕ → ℕ → ℕ → Loc → List Work → List Work
unfolding ren name re im
rename d a b p l = map (ren (name d a b p) (λ q. p)) l

pub pick_all : (P : ℕ → Type 0) (xs : List ℕ) (n : ℕ) → All P xs → T (has n xs) → P n
pick_all P (x ∷ xs) n h m =
    ⊎_elim (λ e. rw (eqb→eq n x e) h.0) (λ t. pick_all P xs n h.1 t) (or_cases (eqb n x) (has n xs) m)
pick_all P [] n h m = elim m [ ]

pub in_all : (n : ℕ) (xs ys : List ℕ) → T (all_in xs ys) → T (has n xs) → T (has n ys)
unfolding all_in
in_all n (x ∷ xs) ys h m =
    ⊎_elim (λ e. rw (eqb→eq n x e) (and_left (has x ys) (all_in xs ys) h))
    (λ t. in_all n xs ys (and_right (has x ys) (all_in xs ys) h) t)
    (or_cases (eqb n x) (has n xs) m)
in_all n [] ys h m = elim m [ ]

-- ---- the halves

-- the imaginary half of a register stands behind its real half
pub im_next : (r : ℕ) → im r ≡ suc (re r)
unfolding re im
im_next r = go (ltb r 30) (eqb r 30)
  where
    go : (x y : Bool) → cond x (5 + 2 * r) (cond y 65 1) ≡ suc (cond x (4 + 2 * r) (cond y 64 0))
    go true y = omega arith
    go false true = refl
    go false false = refl

-- the halves of Ret stand behind those of the general registers, and Temp's first
pub data Span (d : ℕ) : Type 0 where
  upper : d < 31 → re d ≡ 4 + 2 * d → Span d
  temp : 30 < d → re d ≡ 0 → Span d

pub span : (d : ℕ) → Span d
unfolding re
span d = go (dec_lt d 30) (ℕ_discrete d 30)
  where
    go : Dec (d < 30) → Dec (d ≡ 30) → Span d
    go (yes h) e = upper (omega arith) (rw (lt-ltb d 30 h))
    go (no h) (yes e) = upper (omega arith) (rw e)
    go (no h) (no e) = temp (omega arith) (rw (le-ltb d 30 (omega arith), ne_eqb d 30 e))

-- halves are registers of a listing, and not scratch; the real ones are even
pub re_in : (r : ℕ) → (re r ≤ 64) × (re r ≢ 2) × (re r % 2 ≡ 0)
re_in r = go (span r)
  where
    go : Span r → (re r ≤ 64) × (re r ≢ 2) × (re r % 2 ≡ 0)
    go (upper h e) = omega arith
    go (temp h e) = omega arith

pub re_gen : (r : ℕ) → r < 31 → re r ≡ 4 + 2 * r
re_gen r h = go (span r)
  where
    go : Span r → re r ≡ 4 + 2 * r
    go (upper l e) = e
    go (temp l e) = absurd (omega arith)

-- the halves of registers are apart
pub halves_apart : (r d : ℕ) → re r ≢ im d
halves_apart r d = omega (arith, im_next d, (re_in r).2, (re_in d).2)

pub im_apart : (r d : ℕ) → r < 32 → d < 32 → r ≢ d → im r ≢ im d
im_apart r d hr hd n = go (span r) (span d)
  where
    go : Span r → Span d → im r ≢ im d
    go (upper g e) (upper h f) = omega (arith, im_next r, im_next d)
    go (upper g e) (temp h f) = omega (arith, im_next r, im_next d)
    go (temp g e) (upper h f) = omega (arith, im_next r, im_next d)
    go (temp g e) (temp h f) = omega arith

-- what the lines may write: scratch, Temp, Ret, the destination and the place
abbrev pub free : List ℕ
free = 0 ∷ 1 ∷ 2 ∷ 3 ∷ 4 ∷ 5 ∷ 64 ∷ 65 ∷ 70 ∷ 71 ∷ []

-- a general register other than the destination is none of these
pub apart : (d a b : ℕ) (p : Loc) (r w : ℕ) → r < 30 → r ≢ d → (w ≡ re r) ⊎ (w ≡ im r) → All (λ n. name d a b p n ≢ w) free
unfolding name
apart d a b p r w h n e = go (span d) (⊎_elim (λ e. inl (e ∙ re_gen r (omega arith))) (λ e. inr (e ∙ im_next r ∙ ap suc (re_gen r (omega arith)))) e)
  where
    go : Span d → (w ≡ 4 + 2 * r) ⊎ (w ≡ suc (4 + 2 * r)) → All (λ n. name d a b p n ≢ w) free
    go (upper g f) (inl e) = omega (arith, im_next d)
    go (upper g f) (inr e) = omega (arith, im_next d)
    go (temp g f) (inl e) = omega (arith, im_next d)
    go (temp g f) (inr e) = omega (arith, im_next d)

-- ---- scratch

abbrev pub Scratch : ℕ → Type 0
Scratch i = (2 ≤ i) × (i ≤ 3)

-- the names that lines may draw on without filling them before: halves and the place's words, of which none is scratch
abbrev spoken : List ℕ
spoken = 0 ∷ 1 ∷ 4 ∷ 5 ∷ 6 ∷ 7 ∷ 8 ∷ 9 ∷ 70 ∷ 71 ∷ []

scratch_apart : (d a b : ℕ) (p : Loc) (i : ℕ) → Scratch i → All (λ n. name d a b p n ≢ i) spoken
unfolding name
scratch_apart d a b p i s =
    omega (arith, s.0, s.1, im_next d, (re_in d).1, (re_in d).2, im_next a, (re_in a).1, (re_in a).2, im_next b, (re_in b).1, (re_in b).2)

-- lines that pass the check from such names do not draw on scratch before they fill it
pub lines_undrawn : (d a b : ℕ) (p : Loc) (st : List ℕ) (l : List Work) (i : ℕ) → Scratch i → T (all_in st spoken) → T (check st l)
    → DrawnFirst i (rename d a b p l) → ⊥
unfolding name rename
lines_undrawn d a b p st l i s t c =
    undrawn (name d a b p) (λ q. p) (name-real d a b p) (name-imaginary d a b p) i st l
    (λ n h. pick_all (λ n. name d a b p n ≢ i) spoken n (scratch_apart d a b p i s) (in_all n st spoken t h)) c

-- ---- the words that are kept, after a register's record has changed

pub kept_up : {ρ : Realness} {w : ℕ} (d : ℕ) → Kept (set_reg ρ d true) w → Kept ρ w
kept_up d (kept_re r h) = kept_re r h
kept_up {ρ} d (kept_im r h e) = kept_im r h (go (ℕ_discrete r d) (dec_lt d (length ρ.regs)))
  where
    go : Dec (r ≡ d) → Dec (d < length ρ.regs) → is_real_reg ρ r ≡ false
    go (no n) _ = sym (get_or-set_other ρ.regs d r true false n) ∙ e
    go (yes q) (yes l) = absurd (true≢false (sym (get_or-set_same ρ.regs d true false l) ∙ (rw q at e)))
    go (yes q) (no l) = rw (set_out ρ.regs d true (omega arith)) at e
kept_up d (kept_word p h) = kept_word p h
kept_up d (kept_next p h e) = kept_next p h e

pub kept_new : {ρ : Realness} {w : ℕ} (d : ℕ) → Kept (set_reg ρ d false) w → Kept ρ w ⊎ (im d ≡ w)
kept_new d (kept_re r h) = inl (kept_re r h)
kept_new {ρ} d (kept_im r h e) = go (ℕ_discrete r d)
  where
    go : Dec (r ≡ d) → Kept ρ (im r) ⊎ (im d ≡ im r)
    go (no n) = inl (kept_im r h (sym (get_or-set_other ρ.regs d r false false n) ∙ e))
    go (yes q) = inr (ap im (sym q))
kept_new d (kept_word p h) = inl (kept_word p h)
kept_new d (kept_next p h e) = inl (kept_next p h e)

-- ---- the lines of an instruction

-- from names st that are kept, lines that pass the check leave the kept words and all known names agreed
pub lines_agree : (ρ : Realness) (d a b : ℕ) (p : Loc) (k : List ℕ) (st : List ℕ) (l : List Work) {σ τ : Store}
    → All (λ n. Kept ρ (name d a b p n)) st → T (check st l)
    → Agree (Kept ρ) σ τ
    → Agree (Named (name d a b p) (λ q. p) (name-real d a b p) (name-imaginary d a b p) (Kept ρ) (known st l))
    (execs k (rename d a b p l) σ) (execs k (rename d a b p l) τ)
unfolding name Named rename
lines_agree ρ d a b p k st l h c g =
    steps-agree (name d a b p) (λ q. p) (name-real d a b p) (name-imaginary d a b p) k (Kept ρ) st l c
    (weaken (λ w. elim [ inl q ↦ q | inr m ↦ subst (Kept ρ) m.2 (pick_all (λ n. Kept ρ (name d a b p n)) st m.0 h m.1) ]) g)

-- From σ to τ the pair of a general register outside X does not change, save that the imaginary half of one in Z is cleared.
abbrev pub Frame : (ℕ → Type 0) → (ℕ → Type 0) → Store → Store → Type 0
Frame X Z σ τ =
    (r : ℕ) → r < 30 → (X r → ⊥) → (at τ (re r) ≡ at σ (re r)) × ((at τ (im r) ≡ at σ (im r)) ⊎ (Z r × (at τ (im r) ≡ 0)))

-- lines that write only what is free leave every general register but the destination
pub lines_keep : (d a b : ℕ) (p : Loc) (k : List ℕ) (l : List Work) (σ : Store) (r w : ℕ)
    → T (all_in (given l) free) → r < 30 → r ≢ d → (w ≡ re r) ⊎ (w ≡ im r) → at (execs k (rename d a b p l) σ) w ≡ at σ w
unfolding name rename
lines_keep d a b p k l σ r w h hr n e =
    steps-keep (name d a b p) (λ q. p) (name-real d a b p) (name-imaginary d a b p) k σ w l
    (λ m t. pick_all (λ n. name d a b p n ≢ w) free m (apart d a b p r w hr n e) (in_all m (given l) free h t))

pub lines_frame : (X Z : ℕ → Type 0) (d a b : ℕ) (p : Loc) (k : List ℕ) (l : List Work) → T (all_in (given l) free)
    → ((r : ℕ) → r < 30 → (X r → ⊥) → r ≢ d) → (σ : Store) → Frame X Z σ (execs k (rename d a b p l) σ)
lines_frame X Z d a b p k l t out σ r h n =
    let q = out r h n in
    (lines_keep d a b p k l σ r (re r) t h q (inl refl), inl (lines_keep d a b p k l σ r (im r) t h q (inr refl)))

-- the names that are known at its start: real halves, the place's real word, and what x, y and z (a, b and the place are real) leave
abbrev pub start : Bool → Bool → Bool → List ℕ
start x y z = 4 ∷ 6 ∷ 8 ∷ 70 ∷ cond x 4 7 ∷ cond y 4 9 ∷ cond z 4 71 ∷ []

-- the one computed test: lines l draw on what is known, leave d's imaginary half known unless it becomes real (g), write only what is
-- free, and a listing takes them
unfoldable pub good : Bool → Bool → Bool → Bool → List Work → Bool
unfolding check known given all_in all_listed
good x y z g l = (check (start x y z) l && ((g || has 5 (known (start x y z) l)) && all_in (given l) free)) && all_listed l

four_tests : (a b c d : Bool) → T ((a && (b && c)) && d) → T a × T b × T c × T d
four_tests true true true true h = (tt, tt, tt, tt)
four_tests false b c d h = elim h [ ]
four_tests true false c d h = elim h [ ]
four_tests true true false d h = elim h [ ]
four_tests true true true false h = elim h [ ]

-- each part of the test
pub good_parts : (x y z g : Bool) (l : List Work) → T (good x y z g l)
    → T (check (start x y z) l) × T (g || has 5 (known (start x y z) l)) × T (all_in (given l) free) × T (all_listed l)
unfolding good
good_parts x y z g l h = four_tests (check (start x y z) l) (g || has 5 (known (start x y z) l)) (all_in (given l) free) (all_listed l) h

start_spoken : (x y z : Bool) → T (all_in (start x y z) spoken)
unfolding all_in
start_spoken true true true = tt
start_spoken true true false = tt
start_spoken true false true = tt
start_spoken true false false = tt
start_spoken false true true = tt
start_spoken false true false = tt
start_spoken false false true = tt
start_spoken false false false = tt

pub leaf_undrawn : (d a b : ℕ) (p : Loc) (x y z g : Bool) (l : List Work) → T (good x y z g l) → (i : ℕ) → Scratch i
    → DrawnFirst i (rename d a b p l) → ⊥
leaf_undrawn d a b p x y z g l t i s =
    lines_undrawn d a b p (start x y z) l i s (start_spoken x y z) (good_parts x y z g l t).0

module _ (ρ : Realness) (d a b : ℕ) (p : Loc) (hd : d < 32) (ha : a < 32) (hb : b < 32) (hp : index p < 256)
    (x y z : Bool) (ex : is_real_reg ρ a ≡ x) (ey : is_real_reg ρ b ≡ y) (ez : is_real_loc ρ.places p ≡ z) where
  start-kept : All (λ n. Kept ρ (name d a b p n)) (start x y z)
  unfolding name
  start-kept = (kept_re d hd, (kept_re a ha, (kept_re b hb, (kept_word p hp, (at_a x ex, (at_b y ey, (at_p z ez, tt)))))))
    where
      at_a : (x : Bool) → is_real_reg ρ a ≡ x → Kept ρ (name d a b p (cond x 4 7))
      at_a true e = kept_re d hd
      at_a false e = kept_im a ha e

      at_b : (x : Bool) → is_real_reg ρ b ≡ x → Kept ρ (name d a b p (cond x 4 9))
      at_b true e = kept_re d hd
      at_b false e = kept_im b hb e

      at_p : (x : Bool) → is_real_loc ρ.places p ≡ x → Kept ρ (name d a b p (cond x 4 71))
      at_p true e = kept_re d hd
      at_p false e = kept_next p hp e

  pub leaf-agree : (k : List ℕ) (g : Bool) (l : List Work) {σ τ : Store} → T (good x y z g l) → Agree (Kept ρ) σ τ
      → Agree (Kept (set_reg ρ d g)) (execs k (rename d a b p l) σ) (execs k (rename d a b p l) τ)
  unfolding name Named
  leaf-agree k g l {σ} {τ} h ag =
      let t = good_parts x y z g l h in
      weaken (out g t.1) (lines_agree ρ d a b p k (start x y z) l start-kept t.0 ag)
    where
      out : (g : Bool) → T (g || has 5 (known (start x y z) l)) → (w : ℕ) → Kept (set_reg ρ d g) w
          → Named (name d a b p) (λ q. p) (name-real d a b p) (name-imaginary d a b p) (Kept ρ) (known (start x y z) l) w
      out true t w q = inl (kept_up d q)
      out false t w q = ⊎_elim (λ q. inl q) (λ e. inr (5, t, e)) (kept_new d q)

-- lines that pass the test can be held
names_low : (d a b : ℕ) (p : Loc) → All (λ n. name d a b p n ≤ 65) registers
unfolding name
names_low d a b p =
    omega (arith, (re_in d).0, im_next d, (re_in a).0, im_next a, (re_in b).0, im_next b)

pub rename_held : (d a b : ℕ) (p : Loc) (k : List ℕ) (l : List Work) → length k ≤ 65536 → index p < 256 → T (all_listed l)
    → Asks (length k) p l
    → AllHold (length k) (map Record.Work (rename d a b p l))
unfolding rename
rename_held d a b p k l few hp t h =
    held-lines (length k) few (name d a b p) p hp (λ n m. pick_all (λ n. name d a b p n ≤ 65) registers n (names_low d a b p) m) l t h
