-- Along the records marks are only set, and what is filled on every branch to a label only shrinks.
use Prim.Native.Nat.{ℕ}
use mathlib.Core.Bool.{Bool, true, false, cond, ◌&&◌}
use mathlib.Core.List.{List, [], ◌∷◌}
use lib.Dec.{T, eqb, eqb_refl}
use Rattle.mir.specs.declared.records.Work.{Work}
use Rattle.mir.specs.declared.records.Record.{Record}
use Rattle.player_machine.specs.Draws.{draws}
use Rattle.marks.specs.Marks.{Set, among, without, Marking, draw_on, working, through, noted, step, scan}
use Rattle.mir.proofs.Tables.{and_left, and_right}
use Rattle.player_machine.proofs.Agreeing.{or_l}

-- ---- marks

drawn-more : (is : List ℕ) (s : Marking) (i : ℕ) → T (s.drawn i) → T ((draw_on is s).drawn i)
drawn-more is s i h = or_l (s.drawn i) (without (among is) s.filled i) h

working_more : (w : Work) (s : Marking) (i : ℕ) → T (s.drawn i) → T ((working w s).drawn i)
working_more w s i h = drawn-more (draws w) s i h

pub through_more : (ws : List Work) (s : Marking) (i : ℕ) → T (s.drawn i) → T ((through ws s).drawn i)
through_more [] s i h = h
through_more (w ∷ ws) s i h = through_more ws (working w s) i (working_more w s i h)

step_more : (b : List Work) (r : Record) (s : Marking) (i : ℕ) → T (s.drawn i) → T ((step b r s).drawn i)
unfolding step
step_more b (Record.Work w) s i h = working_more w s i h
step_more b (Record.Label l) s i h = h
step_more b (Record.Branch l) s i h = h
step_more b (Record.Call l) s i h = through_more b s i h
step_more b (Record.BranchIf c l e) s i h = drawn-more (c ∷ []) s i h

pub scan_more : (b : List Work) (rs : List Record) (s : Marking) (i : ℕ) → T (s.drawn i) → T ((scan b rs s).drawn i)
unfolding scan
scan_more b [] s i h = h
scan_more b (r ∷ rs) s i h = scan_more b rs (step b r s) i (step_more b r s i h)

-- ---- ways

-- what is filled on every branch to a label is filled on one that is noted, and was so before
pub noted_own : (l : ℕ) (A : Set) (ways : ℕ → Set) (i : ℕ) → T (noted l A ways l i) → T (A i)
noted_own l A ways i h = go (eqb l l) (eqb_refl l) h
  where
    go : (q : Bool) → T q → T (cond q (λ (i : ℕ). ways l i && A i) (ways l) i) → T (A i)
    go true t h = and_right (ways l i) (A i) h
    go false t h = elim t [ ]

pub noted_less : (l : ℕ) (A : Set) (ways : ℕ → Set) (m i : ℕ) → T (noted l A ways m i) → T (ways m i)
noted_less l A ways m i h = go (eqb m l) h
  where
    go : (q : Bool) → T (cond q (λ (i : ℕ). ways m i && A i) (ways m) i) → T (ways m i)
    go true h = and_left (ways m i) (A i) h
    go false h = h

through_ways : (ws : List Work) (s : Marking) (m i : ℕ) → T ((through ws s).ways m i) → T (s.ways m i)
through_ways [] s m i h = h
through_ways (w ∷ ws) s m i h = through_ways ws (working w s) m i h

pub step_ways : (b : List Work) (r : Record) (s : Marking) (m i : ℕ) → T ((step b r s).ways m i) → T (s.ways m i)
unfolding step
step_ways b (Record.Work w) s m i h = h
step_ways b (Record.Label l) s m i h = h
step_ways b (Record.Branch l) s m i h = noted_less l s.filled s.ways m i h
step_ways b (Record.Call l) s m i h = through_ways b s m i h
step_ways b (Record.BranchIf c l e) s m i h = noted_less l s.filled s.ways m i h
