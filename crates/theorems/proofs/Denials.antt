-- That the statements which the edits of must-fail/ put in place of the theorems are false, each under its edit's name.
use Prim.Native.Nat.{ℕ, ◌^◌, ◌≤◌}
use mathlib.Core.Path.{◌≡◌, refl, sym, ap, ◌∙◌, subst}
use mathlib.Core.Bool.{true, false}
use mathlib.Core.List.{List, [], ◌∷◌}
use native.Mathlib.Omega.{arith}
use lib.ListN.{length, drop, take, replicate, length-replicate}
use lib.Dec.{lit<, lit≤}
use Rattle.mir.specs.declared.ops.UniOp.{UniOp}
use Rattle.mir.specs.declared.records.Loc.{Loc}
use Rattle.mir.specs.declared.records.Instruction.{Instruction}
use Rattle.mir.specs.declared.records.Work.{Work}
use Rattle.mir.specs.declared.records.Record.{Record}
use Rattle.mir.specs.Register.{im}
use Rattle.mir.specs.Length.{length_of}
use Rattle.mir.specs.Field.{u16_at, takes_kind}
use Rattle.mir.specs.Decode.{decoded}
use Rattle.sheet.specs.Setup.{setup}
use Rattle.records.specs.Record.{record_from}
use Rattle.float.specs.Word.{if_else}
use Rattle.float.specs.Mends.{estimate, EightMends}
use Rattle.float.specs.Laws.{IfElseLaw}
use Rattle.player_machine.specs.Machine.{Write, ◌≔◌, writes, execs, works, seek, is_label, block, ticks, play}
use Rattle.player_machine.specs.Jumps.{breach}
use Rattle.player_machine.specs.Answer.{answer}
use Rattle.player_machine.specs.Refusal as Player
use Rattle.player_machine.specs.Count.{Bounds}
use Rattle.player_machine.specs.Step.{follows, written, step, steps, PlaysBySteps}
use Rattle.player_machine.specs.Draws.{draws, fills, done, Confined}
use Rattle.lowering.specs.declared.realness.Realness.{Realness}
use Rattle.lowering.specs.Realness.{fresh, set_reg}
use Rattle.lowering.specs.Complexifier as c
use Rattle.lowering.specs.Complexifier.{State}
use Rattle.lowering.specs.Rerun.{rerun_uni, rerun}
use Rattle.lowering.specs.Elsewhere.{ElsewhereStable}
use Rattle.lowering.specs.Lower.{lower_from, lower_sheet}
use Rattle.leftovers.specs.Leftovers.{Leftover, half, Accepted}
use Rattle.leftovers.specs.Kept.{Kept, kept_im, Parted}
use Rattle.leftovers.specs.Examples.{zeros, header, touched, mixing, stable_mixing, minding_mixing, clean}
use Rattle.entries.specs.Examples.{bytes, words, names, Needed, Minded, Met, JumpedOver}
use Rattle.entries.specs.Drawn.{NoneDrawn}
use Rattle.entries.specs.DrawnExamples.{filling, drawing, filled_with, DrawnApart}
use Rattle.entries.proofs.Entered.{answered}
use Rattle.entries.proofs.Demand.{entries_demand-3}
use Rattle.entries.proofs.Examples.{needed, needed-stable, minded, met}
use Rattle.entries.proofs.Drawn.{none-drawn}
use Rattle.entries.proofs.DrawnExamples.{undrawn, drawn-apart}
use Rattle.figures.specs.Shelf.{refusal}
use Rattle.figures.specs.Told.{FiguresReported}
use Rattle.pages.specs.Pages.{row_line, constant_row}
use Rattle.pages.specs.Uncut.{UncutLaw}

-- ---- demand 3

-- where the endings differ the condition fails, and where it holds they are alike
apart : (sheet : List ℕ) (i : ℕ) → Needed sheet i → Met sheet i → ⊥
apart sheet i n m = n.differs ((entries_demand-3 sheet bytes words names zeros i zeros touched n.given).ending m.unmixed)

pub met_where_mixing : Met mixing 1 → ⊥
met_where_mixing m = apart mixing 1 needed m

pub needed_where_met : Needed clean 2 → ⊥
needed_where_met n = apart clean 2 n met

pub reached_half_jumped_over : JumpedOver mixing 1 1 → ⊥
reached_half_jumped_over j = met_where_mixing j.met

pub needed_where_minding : Needed minding_mixing 1 → ⊥
needed_where_minding n = n.differs minded.alike

pub minded_where_stable : Minded stable_mixing 1 1 → ⊥
minded_where_stable m = needed-stable.differs m.alike

-- general 0 is complex in the one record and real in the other: its imaginary half would be kept and a leftover
pub parted_by_two_records : ((ρ π : Realness) → Parted (Kept ρ) (Leftover π)) → ⊥
parted_by_two_records p =
    let ρ = fresh (replicate 64 0) in
    let π = set_reg ρ 0 true in
    (p ρ π).not_both (im 0) (kept_im 0 (lit< tt) refl) (half 0 (lit< tt) refl)

-- ---- marks

-- the sheet whose plays end apart fills no register
pub none_filled : NoneDrawn (λ a. a.filled) → ⊥
none_filled law =
    let d = drawn-apart in
    d.apart ((law drawing bytes words names (filled_with 0) (filled_with 1) d.accepted d.unfilled d.places).places 578 (lit≤ tt))

pub apart_where_unmarked : DrawnApart filling (filled_with 0) (filled_with 1) 578 → ⊥
apart_where_unmarked d =
    d.apart ((none-drawn filling bytes words names (filled_with 0) (filled_with 1) d.accepted undrawn.unmarked d.places).places 578 (lit≤ tt))

-- ---- mode 2

-- of a Half of a real register mode 2 lists one line, stable mode two
real_first : State
real_first = record { real = record { regs = true ∷ []; places = [] }; is_root_defined = false; consts = [] }

pub stable_everywhere : ElsewhereStable (λ i. false) → ⊥
unfolding rerun rerun_uni c.half real_first
stable_everywhere f = differ (ap (λ o. length o.records) (f (Instruction.Uni UniOp.Half 1 0) real_first refl))
  where
    differ : ◌≡◌ {A = ℕ} 1 2 → ⊥
    differ e = omega arith

-- ---- what a record draws on and fills

-- LoadComplex writes two words
pub second_word_not_filled : Confined draws (λ w. take 1 (fills w)) → ⊥
unfolding writes
second_word_not_filled c = differ (ap length (c.written [] (Work.LoadComplex 0 1 (Loc.Stack 0)) []))
  where
    differ : ◌≡◌ {A = ℕ} 2 1 → ⊥
    differ e = omega arith

-- Mov writes the word that it draws on
value : List Write → ℕ
value [] = 0
value (i ≔ v ∷ ws) = v

pub first_word_not_drawn_on : Confined (λ w. drop 1 (draws w)) fills → ⊥
unfolding writes value
first_word_not_drawn_on c = differ (ap value (c.depends [] (Work.Mov 0 1) [] (0 ∷ 5 ∷ []) done))
  where
    differ : ◌≡◌ {A = ℕ} 0 5 → ⊥
    differ e = omega arith

-- ---- calls

-- Branch 2 over a block of Label 1 and Branch 0, Label 2, and three Calls, each of which reaches both records of the block: 11 of 7 records
calling : List ℕ
calling =
    5 ∷ 0 ∷ 15 ∷ 0 ∷ 2 ∷ 5 ∷ 0 ∷ 14 ∷ 0 ∷ 1 ∷ 5 ∷ 0 ∷ 15 ∷ 0 ∷ 0 ∷ 5 ∷ 0 ∷ 14 ∷ 0 ∷ 2 ∷ 5 ∷ 0 ∷ 16 ∷ 0 ∷ 1 ∷ 5 ∷ 0 ∷ 16 ∷ 0 ∷ 1 ∷ 5 ∷ 0 ∷ 16 ∷ 0 ∷ 1 ∷ []

called : List Record
called =
    Record.Branch 2 ∷ Record.Label 1 ∷ Record.Branch 0 ∷ Record.Label 2 ∷ Record.Call 1 ∷ Record.Call 1 ∷ Record.Call 1 ∷ []

pub bound_without_calls : Bounds length → ⊥
unfolding calling zeros answer decoded record_from takes_kind u16_at length_of play works ticks execs seek is_label block breach
bound_without_calls law = differ (law calling [] 0 zeros)
  where
    differ : 11 ≤ 7 → ⊥
    differ h = omega (arith, h)

pub steps_without_calls : PlaysBySteps length → ⊥
unfolding called steps step follows written play works ticks execs seek is_label block breach
steps_without_calls law = differ (ap (λ e. e.played) (law [] called 0 7 [] refl (lit≤ tt)))
  where
    differ : ◌≡◌ {A = ℕ} 7 11 → ⊥
    differ e = omega arith

-- ---- the arithmetic

-- of 1 and 0 chosen by a one
pub false_first : IfElseLaw (λ c t f. if_else c f t) → ⊥
false_first law = differ (law 0 1 1 0 (lit< tt) (lit< tt))
  where
    differ : ◌≡◌ {A = ℕ} 0 1 → ⊥
    differ e = omega arith

-- for the root of 2 the estimate is too small
pub estimate-not-mended : EightMends estimate → ⊥
estimate-not-mended law = let h = (law (2 ^ 53) (lit≤ tt) (lit< tt)).0.1 in omega (arith, h)

-- ---- figures

-- a header alone is accepted
header_accepted : Accepted header 65536
unfolding header lower_sheet setup u16_at lower_from decoded
header_accepted = record { right = refl; slice = lit≤ tt; number = refl }

pub figures_of_no_sheet : FiguresReported (λ sheet. refusal 8 0) → ⊥
figures_of_no_sheet law =
    let listing : List ℕ = replicate 65536 0 in
    let long : length listing ≡ 65536 = length-replicate {A = ℕ} 65536 0 in
    let two : length (replicate {A = ℕ} 256 0) ≡ 256 = length-replicate {A = ℕ} 256 0 in
    let a = answered header listing (replicate 256 0) (replicate 256 0) (subst (λ n. Accepted header n) (sym long) header_accepted) two two in
    differ (sym a ∙ (law header listing (replicate 256 0) (replicate 256 0) long two two).number)
  where
    differ : ◌≡◌ {A = ℕ} 0 8 → ⊥
    differ e = omega arith

-- ---- the printed page

-- a constant alone, its line cut behind 72 characters
pub line_feed_lost : UncutLaw (λ row. take 72 (row_line row)) → ⊥
unfolding Player.refusal breach decoded row_line constant_row
line_feed_lost law = differ (law [] (0 ∷ []) (λ i. lit< tt) refl).0.0.long
  where
    differ : ◌≡◌ {A = ℕ} 72 73 → ⊥
    differ e = omega arith
