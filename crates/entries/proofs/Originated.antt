-- Where a constant came from: by induction over the instructions, the one of whose constants it is.
use Prim.Native.Nat.{ℕ, zero, suc, ◌+◌, ◌-◌, ◌≤◌, ◌<◌}
use mathlib.Core.Path.{◌≡◌, refl, sym, ap, ◌∙◌, subst}
use mathlib.Core.Bool.{Bool, true, false, cond}
use mathlib.Core.List.{List, [], ◌∷◌, ◌++◌}
use native.Mathlib.Omega.{arith}
use borrow.Author.Tests.{ltb-true, ltb-false}
use lib.Dec.{ltb}
use lib.ListN.{length, take, drop, get_or, replicate, length-append, length-take, length-replicate, get_or-replicate}
use lib.Seq.{sets, get_or-take, get_or-append-add, take_at, take-take}
use Rattle.mir.specs.declared.records.Instruction.{Instruction}
use Rattle.sheet.specs.declared.setup.Mode.{Mode}
use Rattle.mir.specs.Register.{re, im}
use Rattle.mir.specs.Field.{takes_kind}
use Rattle.mir.specs.Operation.{uni_ops, bin_ops}
use Rattle.mir.specs.Decode.{decoded}
use Rattle.mir.specs.Encode.{record_of}
use Rattle.sheet.specs.Setup.{setup, constant_at, constants_of}
use Rattle.sheet.specs.Instruction.{instruction_from, instructions}
use Rattle.sheet.proofs.Setting.{length_constants}
use Rattle.lowering.specs.Complexifier.{State, then, unlisted, appends}
use Rattle.lowering.specs.Complexifier as c
use Rattle.lowering.specs.Rerun.{rerun, rerun_uni, rerun_bin, complexify}
use Rattle.lowering.specs.Lower.{start_state, lower_sheet}
use Rattle.lowering.specs.Origins.{from_sheet, origins_from, origins_of}
use Rattle.complexify.specs.Entry.{wrong_setup, refused_setup, answer, constants_after, origins_after}
use Rattle.complexify.proofs.Copies.{taken_first}
use Rattle.complexify.proofs.Finished.{right_answer, ends, counted}
use Rattle.complexify.proofs.Within.{within}
use Rattle.leftovers.specs.Leftovers.{sheet_of, up_to}
use Rattle.leftovers.proofs.Constants.{grown_length, grown_keeps, grown_new}
use Rattle.leftovers.proofs.Listing.{rerun_grows, grows}
use Rattle.entries.specs.Examples.{bytes, words}
use Rattle.entries.specs.Originated.{constants_at, FirstAppended, Originated, finding, refusing, lent, Finding, Refusing}
use Rattle.entries.proofs.Entered.{rightly}

-- elements in the first of two lists
front : (k l : List ℕ) (p : ℕ) → p < length k → get_or (k ++ l) p 0 ≡ get_or k p 0
front k l p h = sym (get_or-take (length k) (k ++ l) p 0 h) ∙ ap (λ x. get_or x p 0) (take_at k l (length k) refl)

-- ---- over the instructions

-- the constants after the first j of some instructions
abbrev after : Mode → List Instruction → State → ℕ → List ℕ
after mode is s j = (complexify mode (take j is) s).after.consts

-- as many constants as origins
pub one_each : (mode : Mode) (index : ℕ) (is : List Instruction) (s : State)
    → length s.consts + length (origins_from mode index is s) ≡ length (complexify mode is s).after.consts
unfolding origins_from complexify then unlisted
one_each mode index [] s = omega arith
one_each mode index (i ∷ is) s =
    let n = length (rerun mode i s).after.consts - length s.consts in
    let r = length-replicate n index in
    let a = length-append (replicate n index) (origins_from mode (suc index) is (rerun mode i s).after) in
    let g = grown_length (rerun_grows mode i s) in
    let h = one_each mode (suc index) is (rerun mode i s).after in
    omega (arith, r, a, g, h)

-- the instruction that appended the constant at a position, the q-th of those appended
record Came (mode : Mode) (index : ℕ) (is : List Instruction) (s : State) (q : ℕ) : Type 0 where
  j : ℕ
  named : get_or (origins_from mode index is s) q 0 ≡ index + j
  below : j < length is
  before : length (after mode is s j) ≤ length s.consts + q
  stands : length s.consts + q < length (after mode is s (suc j))
  absent : appends (get_or (after mode is s (suc j)) (length s.consts + q) 0) (after mode is s j) ≡ true
  kept : get_or (complexify mode is s).after.consts (length s.consts + q) 0 ≡ get_or (after mode is s (suc j)) (length s.consts + q) 0

-- one instruction more in front
module _ (mode : Mode) (index : ℕ) (i : Instruction) (is : List Instruction) (s : State) where
  abbrev next : State
  next = (rerun mode i s).after

  abbrev new : ℕ
  new = length next.consts - length s.consts

  abbrev rest : List ℕ
  rest = origins_from mode (suc index) is next

  grew : length s.consts ≤ length next.consts
  grew = grown_length (rerun_grows mode i s)

  -- it is of the first one
  came-first : (q : ℕ) → q < new → Came mode index (i ∷ is) s q
  unfolding origins_from complexify then unlisted
  came-first q l =
      let g = grew in
      let n = length-replicate new index in
      record {
        j = 0;
        named = front (replicate new index) rest q (omega (arith, n, l)) ∙ get_or-replicate new q index 0 l ∙ omega arith;
        below = omega arith;
        before = omega arith;
        stands = omega (arith, l, g);
        absent = grown_new (rerun_grows mode i s) (length s.consts + q) (omega arith) (omega (arith, l, g));
        kept = grown_keeps (grows mode is next) (length s.consts + q) (omega (arith, l, g));
      }

  -- or of one behind it
  came-later : (q : ℕ) → new ≤ q → Came mode (suc index) is next (q - new) → Came mode index (i ∷ is) s q
  unfolding origins_from complexify then unlisted
  came-later q l w =
      let g = grew in
      let n = length-replicate new index in
      let z : length (replicate new index) + (q - new) ≡ q = omega (arith, n, l) in
      let m : length next.consts + (q - new) ≡ length s.consts + q = omega (arith, l, g) in
      record {
        j = suc w.j;
        named =
            ap (λ q. get_or (replicate new index ++ rest) q 0) (sym z)
            ∙ get_or-append-add (replicate new index) rest (q - new) 0
            ∙ w.named
            ∙ omega arith;
        below = let b = w.below in omega (arith, b);
        before = let b = w.before in omega (arith, b, m);
        stands = let b = w.stands in omega (arith, b, m);
        absent = subst (λ p. appends (get_or (after mode is next (suc w.j)) p 0) (after mode is next w.j) ≡ true) m w.absent;
        kept = subst (λ p. get_or (complexify mode is next).after.consts p 0 ≡ get_or (after mode is next (suc w.j)) p 0) m w.kept;
      }

  came-one : (q : ℕ) → q < length (origins_from mode index (i ∷ is) s) → ((q : ℕ) → q < length rest → Came mode (suc index) is next q)
      → Came mode index (i ∷ is) s q
  unfolding origins_from
  came-one q h ih = go (ltb q new) refl
    where
      go : (x : Bool) → ltb q new ≡ x → Came mode index (i ∷ is) s q
      go true e = came-first q (ltb-true q new e)
      go false e =
          let l = ltb-false q new e in
          let a = length-append (replicate new index) rest in
          let n = length-replicate new index in
          came-later q l (ih (q - new) (omega (arith, a, n, h, l)))

came : (mode : Mode) (index : ℕ) (is : List Instruction) (s : State) (q : ℕ) → q < length (origins_from mode index is s) → Came mode index is s q
unfolding origins_from
came mode index [] s q h = absurd (omega arith)
came mode index (i ∷ is) s q h = came-one mode index i is s q h (λ q h. came mode (suc index) is (rerun mode i s).after q h)

-- ---- of a sheet

-- an element of what was stored first
stored_first : (l v : List ℕ) (p : ℕ) → length v ≤ length l → p < length v → get_or (sets l 0 v) p 0 ≡ get_or v p 0
stored_first l v p h i = sym (get_or-take (length v) (sets l 0 v) p 0 i) ∙ ap (λ x. get_or x p 0) (taken_first l v (length v) refl h)

module _ (sheet : List ℕ) where
  own : length (constants_of sheet (setup sheet).count) ≡ (setup sheet).count
  own = length_constants sheet (setup sheet).count 0

  abbrev begun : State
  begun = start_state (setup sheet).places (constants_of sheet (setup sheet).count)

  -- as many origins as constants
  pub origins-length : (n : ℕ) → length (origins_of sheet n) ≡ length (constants_at sheet n)
  unfolding origins_of
  origins-length n =
      let is = take n (sheet_of sheet).instructions in
      let a = length-append (replicate (setup sheet).count from_sheet) (origins_from (setup sheet).mode 0 is begun) in
      let b = length-replicate (setup sheet).count from_sheet in
      let c = one_each (setup sheet).mode 0 is begun in
      omega (arith, a, b, c, own)

  from-sheet : (n p : ℕ) → p < (setup sheet).count → get_or (origins_of sheet n) p 0 ≡ from_sheet
  unfolding origins_of
  from-sheet n p h =
      let b = length-replicate (setup sheet).count from_sheet in
      front (replicate (setup sheet).count from_sheet) (origins_from (setup sheet).mode 0 (take n (sheet_of sheet).instructions) begun) p (omega (arith, b, h))
      ∙ get_or-replicate (setup sheet).count p from_sheet 0 h

  first-appended : (n p : ℕ) → (setup sheet).count ≤ p → p < length (constants_at sheet n)
      → FirstAppended sheet n p (get_or (constants_at sheet n) p 0) (get_or (origins_of sheet n) p 0)
  unfolding origins_of
  first-appended n p h l =
      let s = sheet_of sheet in
      let is = take n s.instructions in
      let front : List ℕ = replicate (setup sheet).count from_sheet in
      let b = length-replicate (setup sheet).count from_sheet in
      let c = one_each s.mode 0 is begun in
      let q : ℕ = p - (setup sheet).count in
      let w = came s.mode 0 is begun q (omega (arith, c, own, h, l)) in
      let m : length begun.consts + q ≡ p = omega (arith, own, h) in
      let z : length front + q ≡ p = omega (arith, b, h) in
      let t = length-take n s.instructions in
      let j = w.below in
      let lower : take w.j is ≡ take w.j s.instructions = take-take w.j n s.instructions (omega (arith, j, t)) in
      let upper : take (suc w.j) is ≡ take (suc w.j) s.instructions = take-take (suc w.j) n s.instructions (omega (arith, j, t)) in
      let at : List Instruction → List ℕ = λ is. (complexify s.mode is begun).after.consts in
      let k : get_or (front ++ origins_from s.mode 0 is begun) p 0 ≡ w.j =
      ap (λ p. get_or (front ++ origins_from s.mode 0 is begun) p 0) (sym z) ∙ get_or-append-add front (origins_from s.mode 0 is begun) q 0 ∙ w.named ∙ omega arith in
      let kept : get_or (at is) p 0 ≡ get_or (at (take (suc w.j) s.instructions)) p 0 =
      subst (λ p. get_or (at is) p 0 ≡ get_or (at (take (suc w.j) is)) p 0) m w.kept ∙ ap (λ l. get_or (at l) p 0) upper in
      let x = w.before in
      let y = w.stands in
      subst (λ k. FirstAppended sheet n p (get_or (constants_at sheet n) p 0) k) (sym k)
      (record {
        finished = omega (arith, j, t);
        absent =
            ap (λ v. appends v (at (take w.j s.instructions))) kept
            ∙ subst (λ p. appends (get_or (at (take (suc w.j) s.instructions)) p 0) (at (take w.j s.instructions)) ≡ true) m
            (subst (λ l. appends (get_or (at l) (length begun.consts + q) 0) (at (take w.j s.instructions)) ≡ true) upper
            (subst (λ l. appends (get_or (at (take (suc w.j) is)) (length begun.consts + q) 0) (at l) ≡ true) lower w.absent));
        before = let e = ap (λ l. length (at l)) lower in omega (arith, x, e, m);
        after = let e = ap (λ l. length (at l)) upper in omega (arith, y, e, m);
        stands = sym kept;
      })

-- ---- of a call

module _ (sheet listing constants origins : List ℕ) (w : wrong_setup sheet listing constants origins ≡ false) where
  abbrev end : ℕ
  end = (lower_sheet sheet (length listing)).index

  state : (lower_sheet sheet (length listing)).state.consts ≡ constants_at sheet end
  state = ap (λ s. s.consts) (ends sheet (length listing)).state ∙ ap (constants_at sheet) (counted sheet (length listing))

  count-is : (answer sheet listing constants origins).count ≡ length (constants_at sheet end)
  count-is = ap (λ b. (cond b refused_setup (right_answer sheet (length listing))).count) w ∙ ap length state

  index_is : (answer sheet listing constants origins).index ≡ end
  index_is = ap (λ b. (cond b refused_setup (right_answer sheet (length listing))).index) w

  few : length (constants_at sheet end) ≤ 256
  few = let c = count-is in let h = (within sheet listing constants origins refl).count in omega (arith, c, h)

  module _ (p : ℕ) (h : p < (answer sheet listing constants origins).count) where
    inside : p < length (constants_at sheet end)
    inside = let c = count-is in omega (arith, c, h)

    word-is : get_or (constants_after sheet listing constants origins) p 0 ≡ get_or (constants_at sheet end) p 0
    word-is =
        let r = (rightly sheet listing constants origins w).words in
        ap (λ b. get_or (cond b constants (sets constants 0 (lower_sheet sheet (length listing)).state.consts)) p 0) w
        ∙ ap (λ k. get_or (sets constants 0 k) p 0) state
        ∙ stored_first constants (constants_at sheet end) p (omega (arith, few, r)) inside

    origin-is : get_or (origins_after sheet listing constants origins) p 0 ≡ get_or (origins_of sheet end) p 0
    origin-is =
        let r = (rightly sheet listing constants origins w).names in
        let n = origins-length sheet end in
        ap (λ b. get_or (cond b origins (sets origins 0 (origins_of sheet end))) p 0) w
        ∙ stored_first origins (origins_of sheet end) p (omega (arith, few, n, r)) (omega (arith, inside, n))

    named-rightly :
        (p < (setup sheet).count → get_or (origins_after sheet listing constants origins) p 0 ≡ from_sheet)
        × ((setup sheet).count ≤ p → FirstAppended sheet (answer sheet listing constants origins).index p (get_or (constants_after sheet listing constants origins) p 0)
        (get_or (origins_after sheet listing constants origins) p 0))
    named-rightly = (
      λ l. origin-is ∙ from-sheet sheet end p l,
      λ l.
          subst (λ n. FirstAppended sheet n p (get_or (constants_after sheet listing constants origins) p 0) (get_or (origins_after sheet listing constants origins) p 0)) (sym index_is)
          (subst (λ v. FirstAppended sheet end p v (get_or (origins_after sheet listing constants origins) p 0)) (sym word-is)
          (subst (λ k. FirstAppended sheet end p (get_or (constants_at sheet end) p 0) k) (sym origin-is) (first-appended sheet end p l inside))),
    )

pub originated : Originated
originated sheet listing constants origins n p h = go (wrong_setup sheet listing constants origins) refl
  where
    go : (b : Bool) → wrong_setup sheet listing constants origins ≡ b
        → (p < (setup sheet).count → get_or (origins_after sheet listing constants origins) p 0 ≡ from_sheet)
        × ((setup sheet).count ≤ p → FirstAppended sheet (answer sheet listing constants origins).index p (get_or (constants_after sheet listing constants origins) p 0)
        (get_or (origins_after sheet listing constants origins) p 0))
    go true w = absurd (n (ap (λ b. (cond b refused_setup (right_answer sheet (length listing))).number) w))
    go false w = named-rightly sheet listing constants origins w p h

-- ---- two sheets, computed

pub named : Finding
unfolding finding bytes words lent lower_sheet setup constant_at decoded instruction_from takes_kind uni_ops bin_ops rerun rerun_uni rerun_bin c.divide c.abs re im record_of origins_of
named = record { answered = refl; constants = refl; origins = refl }

pub named_none : Refusing
unfolding refusing bytes words lent lower_sheet setup constant_at decoded instruction_from takes_kind uni_ops bin_ops rerun rerun_uni rerun_bin c.divide c.abs re im record_of origins_of
named_none = record { answered = refl; constants = refl; origins = refl }
