-- Lines that name registers, places within the limits and constants of the table are records that a listing can hold.
use mathlib.Core.Path.{◌≡◌}
use mathlib.Core.Bool.{Bool, true, ◌&&◌}
use mathlib.Core.List.{List, [], ◌∷◌, ◌++◌, map}
use Prim.Native.Nat.{ℕ, ◌≤◌, ◌<◌}
use native.Mathlib.Omega.{arith}
use lib.Dec.{T}
use Rattle.mir.specs.declared.records.Loc.{Loc}
use Rattle.mir.specs.declared.records.Work.{Work}
use Rattle.mir.specs.declared.records.Record.{Record}
use Rattle.mir.specs.Place.{index}
use Rattle.mir.specs.Takes.{takes_uni, takes_bin, takes_fused}
use Rattle.mir.proofs.Tables.{and_left, and_right}
use Rattle.mir.proofs.Decoding.{none, and}
use Rattle.mir.proofs.IfRead.{Saved, Stacked}
use Rattle.records.proofs.Holding.{Holds, AllHold}
use Rattle.player_machine.proofs.Agreeing.{has}
use Rattle.leftovers.proofs.Rows.{T→true, all_in, ren}

abbrev pub All : (ℕ → Type 0) → List ℕ → Type 0
All P [] = Unit {0}
All P (x ∷ xs) = P x × All P xs

-- the names that mean registers
abbrev pub registers : List ℕ
registers = 0 ∷ 1 ∷ 2 ∷ 3 ∷ 4 ∷ 5 ∷ 6 ∷ 7 ∷ 8 ∷ 9 ∷ 64 ∷ 65 ∷ []

-- a line has an operation that a listing takes, and its registers' names are such
unfoldable pub listed : Work → Bool
unfolding all_in
listed (Work.Uni op d a) = takes_uni true op && all_in (d ∷ a ∷ []) registers
listed (Work.Bi op d a b) = takes_bin true op && all_in (d ∷ a ∷ b ∷ []) registers
listed (Work.Mov d a) = all_in (d ∷ a ∷ []) registers
listed (Work.Load d q) = all_in (d ∷ []) registers
listed (Work.Save a q) = all_in (a ∷ []) registers
listed (Work.LoadConst d i) = all_in (d ∷ []) registers
listed (Work.Fused op d a b c) = takes_fused true op && all_in (d ∷ a ∷ b ∷ c ∷ []) registers
listed (Work.IfElse d a b q) = all_in (d ∷ a ∷ b ∷ []) registers
listed (Work.LoadComplex x y q) = all_in (x ∷ y ∷ []) registers
listed (Work.SaveComplex x y q) = all_in (x ∷ y ∷ []) registers
listed (Work.ComplexBi op x y x1 y1 x2 y2) = all_in (x ∷ y ∷ x1 ∷ y1 ∷ x2 ∷ y2 ∷ []) registers

unfoldable pub all_listed : List Work → Bool
unfolding listed
all_listed [] = true
all_listed (w ∷ l) = listed w && all_listed l

-- what else is asked, where p is the place of the lines: of the place by a save or a condition, and of constants
abbrev pub Asks : ℕ → Loc → List Work → Type 0
Asks count p [] = Unit {0}
Asks count p (Work.Uni op d a ∷ l) = Asks count p l
Asks count p (Work.Bi op d a b ∷ l) = Asks count p l
Asks count p (Work.Mov d a ∷ l) = Asks count p l
Asks count p (Work.Load d q ∷ l) = Asks count p l
Asks count p (Work.Save a q ∷ l) = Saved p × Asks count p l
Asks count p (Work.LoadConst d i ∷ l) = (i < count) × Asks count p l
Asks count p (Work.Fused op d a b c ∷ l) = Asks count p l
Asks count p (Work.IfElse d a b q ∷ l) = Stacked p × Asks count p l
Asks count p (Work.LoadComplex x y q ∷ l) = Asks count p l
Asks count p (Work.SaveComplex x y q ∷ l) = Saved p × Asks count p l
Asks count p (Work.ComplexBi op x y x1 y1 x2 y2 ∷ l) = Asks count p l

pub held_append : {count : ℕ} {rs rs' : List Record} → AllHold count rs → AllHold count rs' → AllHold count (rs ++ rs')
held_append none k = k
held_append (and h hs) k = and h (held_append hs k)

-- what the first of the lines asks, and what the others do
split : (count : ℕ) (p : Loc) (w : Work) (l : List Work) → Asks count p (w ∷ l) → Asks count p (w ∷ []) × Asks count p l
split count p (Work.Uni op d a) l h = (tt, h)
split count p (Work.Bi op d a b) l h = (tt, h)
split count p (Work.Mov d a) l h = (tt, h)
split count p (Work.Load d q) l h = (tt, h)
split count p (Work.Save a q) l h = ((h.0, tt), h.1)
split count p (Work.LoadConst d i) l h = ((h.0, tt), h.1)
split count p (Work.Fused op d a b c) l h = (tt, h)
split count p (Work.IfElse d a b q) l h = ((h.0, tt), h.1)
split count p (Work.LoadComplex x y q) l h = (tt, h)
split count p (Work.SaveComplex x y q) l h = ((h.0, tt), h.1)
split count p (Work.ComplexBi op x y x1 y1 x2 y2) l h = (tt, h)

-- f says which register a name means, p is the place meant
module _ (count : ℕ) (few : count ≤ 65536) (f : ℕ → ℕ) (p : Loc) (hp : index p < 256)
    (low : (n : ℕ) → T (has n registers) → f n ≤ 65) where
  lows : (xs : List ℕ) → T (all_in xs registers) → All (λ n. f n ≤ 65) xs
  unfolding all_in
  lows [] t = tt
  lows (x ∷ xs) t =
      (low x (and_left (has x registers) (all_in xs registers) t), lows xs (and_right (has x registers) (all_in xs registers) t))

  -- with an operation that is tested first
  taken : (b : Bool) (xs : List ℕ) → T (b && all_in xs registers) → b ≡ true
  taken b xs t = T→true b (and_left b (all_in xs registers) t)

  after : (b : Bool) (xs : List ℕ) → T (b && all_in xs registers) → All (λ n. f n ≤ 65) xs
  after b xs t = lows xs (and_right b (all_in xs registers) t)

  held-line : (w : Work) → T (listed w) → Asks count p (w ∷ []) → Holds count (Record.Work (ren f (λ q. p) w))
  unfolding listed ren
  held-line (Work.Uni op d a) t h =
      let r = after (takes_uni true op) (d ∷ a ∷ []) t in
      (taken (takes_uni true op) (d ∷ a ∷ []) t, r.0, r.1.0)
  held-line (Work.Bi op d a b) t h =
      let r = after (takes_bin true op) (d ∷ a ∷ b ∷ []) t in
      (taken (takes_bin true op) (d ∷ a ∷ b ∷ []) t, r.0, r.1.0, r.1.1.0)
  held-line (Work.Mov d a) t h = let r = lows (d ∷ a ∷ []) t in (r.0, r.1.0)
  held-line (Work.Load d q) t h = let r = lows (d ∷ []) t in (r.0, omega arith)
  held-line (Work.Save a q) t h = let r = lows (a ∷ []) t in (r.0, h.0)
  held-line (Work.LoadConst d i) t h = let r = lows (d ∷ []) t in (r.0, h.0, omega (arith, h.0))
  held-line (Work.Fused op d a b c) t h =
      let r = after (takes_fused true op) (d ∷ a ∷ b ∷ c ∷ []) t in
      (taken (takes_fused true op) (d ∷ a ∷ b ∷ c ∷ []) t, r.0, r.1.0, r.1.1.0, r.1.1.1.0)
  held-line (Work.IfElse d a b q) t h = let r = lows (d ∷ a ∷ b ∷ []) t in (r.0, r.1.0, r.1.1.0, h.0)
  held-line (Work.LoadComplex x y q) t h = let r = lows (x ∷ y ∷ []) t in (r.0, r.1.0, omega arith)
  held-line (Work.SaveComplex x y q) t h = let r = lows (x ∷ y ∷ []) t in (r.0, r.1.0, h.0)
  held-line (Work.ComplexBi op x y x1 y1 x2 y2) t h =
      let r = lows (x ∷ y ∷ x1 ∷ y1 ∷ x2 ∷ y2 ∷ []) t in
      let s = r.1.1 in
      (r.0, r.1.0, s.0, s.1.0, s.1.1.0, s.1.1.1.0)

  pub held-lines : (l : List Work) → T (all_listed l) → Asks count p l → AllHold count (map Record.Work (map (ren f (λ q. p)) l))
  unfolding all_listed
  held-lines [] t h = none
  held-lines (w ∷ l) t h =
      let q = split count p w l h in
      and (held-line w (and_left (listed w) (all_listed l) t) q.0) (held-lines l (and_right (listed w) (all_listed l) t) q.1)
