-- The marks that `lower` answers with are those of the records that the player reads, so that what is proved of a listing's marks holds of
-- them.
use Prim.Native.Nat.{ℕ, ◌≤◌, ◌<◌}
use native.Mathlib.Omega.{arith}
use native.Mathlib.Decide.{dec_lt}
use mathlib.Core.Path.{◌≡◌, refl, sym, ap, ◌∙◌, subst}
use mathlib.Core.Bool.{Bool, true, false, cond}
use mathlib.Core.List.{List}
use lib.ListN.{length, get_or}
use lib.Dec.{T, lit<, lit≤}
use Rattle.mir.specs.declared.records.Record.{Record}
use Rattle.player_machine.specs.Machine.{at}
use Rattle.player_machine.specs.Jumps.{breach}
use Rattle.lowering.specs.Lower.{start_state, listed}
use Rattle.complexify.specs.Entry.{wrong_setup, refused_setup, answer}
use Rattle.complexify.proofs.Finished.{right_answer}
use Rattle.leftovers.specs.Leftovers.{sheet_of, records_of}
use Rattle.leftovers.proofs.Jumping.{no_breach}
use Rattle.leftovers.proofs.Names.{Scratch}
use Rattle.leftovers.proofs.Points.{whole, whole-quiet}
use Rattle.leftovers.proofs.Sheets.{Sound, sound, read_back, all_in}
use Rattle.marks.specs.Marks.{start, drawn_on, registers}
use Rattle.marks.proofs.Theorem.{flag_at, drawn-alone, unmarked}
use Rattle.marks.proofs.Leading.{led-to}
use Rattle.entries.specs.Entries.{left}
use Rattle.entries.specs.Drawn.{NoneDrawn, mark, MarkedAlone, MarkedLed, ScratchUndrawn}
use Rattle.entries.proofs.Entered.{entered}
use Rattle.entries.proofs.Demand.{same}
use Rattle.entries.proofs.Complexified.{complexified}

module _ (sheet listing constants origins : List ℕ) (accepted : (answer sheet listing constants origins).number ≡ 0) where
  abbrev rs : List Record
  rs = records_of (left sheet listing constants origins)

  -- the records that the player reads are those listed
  read_as : rs ≡ listed sheet (answer sheet listing constants origins).index
  unfolding listed
  read_as = ap (λ d. d.items) ((complexified sheet listing constants origins (λ e. let z = sym accepted ∙ e in absurd (omega (arith, z)))).1 accepted).read

  -- the answer has their marks
  pub drawn-as : (answer sheet listing constants origins).drawn ≡ registers (drawn_on rs)
  drawn-as = go (wrong_setup sheet listing constants origins) refl ∙ ap (λ l. registers (drawn_on l)) (sym read_as)
    where
      go : (b : Bool) → wrong_setup sheet listing constants origins ≡ b
          → (answer sheet listing constants origins).drawn ≡ registers (drawn_on (listed sheet (answer sheet listing constants origins).index))
      go true w =
          let z : ◌≡◌ {A = ℕ} 8 0 = sym (ap (λ b. (cond b refused_setup (right_answer sheet (length listing))).number) w) ∙ accepted in
          absurd (omega (arith, z))
      go false w =
          subst
          (λ b. let a = cond b refused_setup (right_answer sheet (length listing)) in a.drawn ≡ registers (drawn_on (listed sheet a.index)))
          (sym w) refl

  pub mark-as : (i : ℕ) → i < 66 → mark (answer sheet listing constants origins) i ≡ drawn_on rs i
  mark-as i h = ap (λ l. get_or l i false) drawn-as ∙ flag_at 66 (drawn_on rs) i h

  right : Sound sheet (length listing)
  right = sound sheet (length listing) (entered sheet listing constants origins accepted).accepted

  -- they are those of all instructions
  read_whole : rs ≡ (whole (sheet_of sheet)).records
  read_whole =
      ap records_of (sym (same sheet listing constants origins (entered sheet listing constants origins accepted)) ∙ right.same)
      ∙ ap (λ d. d.items) (read_back (sheet_of sheet) right.in-range right.few)

  -- they keep the jump rules
  kept : breach rs ≡ length rs
  kept =
      let s = sheet_of sheet in
      subst (λ l. breach l ≡ length l) (sym read_whole)
      (no_breach s.mode (length s.constants) s.instructions (start_state s.places s.constants) right.in-range refl right.fair)

  -- they set no mark of scratch
  quiet : (i : ℕ) → Scratch i → T (drawn_on rs i) → ⊥
  quiet i h t =
      let s = sheet_of sheet in
      (whole-quiet s (all_in s right.in-range right.few) i h).before start (subst (λ l. T (drawn_on l i)) read_whole t)

  unmarked-at : (i : ℕ) → Scratch i → i < 66 → mark (answer sheet listing constants origins) i ≡ false
  unmarked-at i h l = go (mark (answer sheet listing constants origins) i) (mark-as i l)
    where
      go : (b : Bool) → b ≡ drawn_on rs i → b ≡ false
      go true e = absurd (quiet i h (subst T e tt))
      go false e = refl

pub none-drawn : NoneDrawn (λ a. a.drawn)
none-drawn sheet listing constants origins σ τ e n a =
    let l = left sheet listing constants origins in
    unmarked l.listing l.constants σ τ (sym (drawn-as sheet listing constants origins e) ∙ n) a

pub marked-alone : MarkedAlone
marked-alone sheet listing constants origins σ τ e a m =
    let l = left sheet listing constants origins in
    let h = drawn-alone l.listing l.constants σ τ a (λ i t. go i t (dec_lt i 66)) in
    record { equal = h.equal; within = λ i t. back i t (dec_lt i 66) (h.within i) (h.equal.places i) }
  where
    is-mark : (i : ℕ) → i < 66 → mark (answer sheet listing constants origins) i ≡ drawn_on (records_of (left sheet listing constants origins)) i
    is-mark = mark-as sheet listing constants origins e

    go : (i : ℕ) → T (drawn_on (records_of (left sheet listing constants origins)) i) → Dec (i < 66) → at σ i ≡ at τ i
    go i t (yes h) = m i (subst T (sym (is-mark i h)) t)
    go i t (no h) = a.places i (omega arith)

    back : (i : ℕ) {P : Type 0} → T (mark (answer sheet listing constants origins) i) → Dec (i < 66)
        → (T (drawn_on (records_of (left sheet listing constants origins)) i) → P) → (66 ≤ i → P) → P
    back i t (yes h) f g = f (subst T (is-mark i h) t)
    back i t (no h) f g = g (omega arith)

pub marked-led : MarkedLed
marked-led sheet listing constants origins i e h =
    let m = mark-as sheet listing constants origins e i h in
    let w = led-to (records_of (left sheet listing constants origins)) i (kept sheet listing constants origins e) in
    (λ t. w.0 (subst T m t), λ l. subst T (sym m) (w.1 l))

pub scratch-undrawn : ScratchUndrawn
scratch-undrawn sheet listing constants origins e =
    (unmarked-at sheet listing constants origins e 2 (lit≤ tt, lit≤ tt) (lit< tt), unmarked-at sheet listing constants origins e 3 (lit≤ tt, lit≤ tt) (lit< tt))
