-- What is proved of the definitions, beside the promises of the functions. Each statement is a type in the specs/ of the crate that it
-- speaks of.
use Rattle.std.specs.Float.{binary64}
use Rattle.float.specs.Root.{square_root}
use Rattle.float.specs.Fused.{fused_multiply_add}
use Rattle.float.specs.Word.{root, if_else}
use Rattle.float.specs.Mends.{mended, EightMends, RootByMends}
use Rattle.float.specs.Integral.{round_to_integral}
use Rattle.float.specs.Laws.{RootLaw, OneRoot, IntegralLaw, MulAddLaw, IfElseLaw}
use Rattle.player_machine.specs.Count.{most, Bounds}
use Rattle.player_machine.specs.Step.{PlaysBySteps}
use Rattle.player_machine.specs.Draws.{draws, fills, Confined}
use Rattle.player_machine.specs.Refusal.{refusal, Refused}
use Rattle.player_machine.specs.Look.{look}
use Rattle.player_machine.specs.Looked.{Looked, bench, LookedOn}
use Rattle.lowering.specs.declared.realness.Realness.{Realness}
use Rattle.lowering.specs.Elsewhere.{minded, ElsewhereStable}
use Rattle.leftovers.specs.Leftovers.{Leftover}
use Rattle.leftovers.specs.Kept.{Kept, Parted}
use Rattle.leftovers.specs.Examples.{mixing, stable_mixing, minding_mixing, clean, jumping, clearing}
use Rattle.marks.specs.Claims.{Unmarked, DrawnAlone}
use Rattle.marks.specs.Leads.{LedTo}
use Rattle.entries.specs.Entries.{EntriesDemand3}
use Rattle.entries.specs.Examples.{Needed, Minded, Met, JumpedOver, Cleared}
use Rattle.entries.specs.Drawn.{NoneDrawn, MarkedAlone, MarkedLed, ScratchUndrawn}
use Rattle.entries.specs.DrawnExamples.{filling, drawing, filled_with, Undrawn, DrawnApart}
use Rattle.meaning.specs.Preserved.{Preserved}
use Rattle.meaning.specs.Settled.{Settled}
use Rattle.meaning.specs.Tidy.{Tidied}
use Rattle.meaning.specs.Examples.{dividing, TidyMet, SettledMet}
use Rattle.entries.specs.Complexified.{Complexified}
use Rattle.entries.specs.Originated.{Originated, Finding, Refusing}
use Rattle.figures.specs.Shelf.{shelf}
use Rattle.figures.specs.Told.{FiguresReported}
use Rattle.assembly.specs.SheetText.{sheet_text}
use Rattle.assembly.specs.RoundTrip.{RoundTrip}
use Rattle.nearest.specs.Nearest.{nearest}
use Rattle.nearest.specs.Laws.{NearestLaw}
use Rattle.peak.specs.Peak.{after}
use Rattle.peak.specs.Laws.{PeakLaw}
use Rattle.pages.specs.Pages.{row_line, pages_from}
use Rattle.pages.specs.Uncut.{UncutLaw, Joined}

-- all of it, one theorem a field
pub record Theorems : Type 0 where
  -- demand 2: a call of `lower` leaves what `complexify` lists for the instructions that it finished, all of them where it answers 0
  pub complexified : Complexified
  -- "per constant, the instruction that first appended it, or 65,535 for one from the sheet", of every call of `lower` that is not refused by
  -- 8; there are such constants, and a refused instruction names none
  pub originated : Originated
  pub named : Finding
  pub named_none : Refusing
  -- mode 2 lists and records as stable mode does, but for Half and for Divide into Temp
  pub elsewhere_stable : ElsewhereStable minded
  -- demand 3, of every call of `lower` that answers 0
  pub demand3 : EntriesDemand3
  -- its condition about Half is needed, in stable mode too, and not in mode 2; and it can be met
  pub needed : Needed mixing 1
  pub needed_stable : Needed stable_mixing 1
  pub minded : Minded minding_mixing 1 1
  pub met : Met clean 2
  -- a Half that the play jumps over does not stand in the way
  pub jumped_over : JumpedOver jumping 1 2
  -- an instruction that clears the imaginary half of a real operand, writes its destination and keeps another register
  pub cleared : Cleared clearing 1
  -- "If no mark is set, two plays from record 0 whose stores agree in all places end with equal places, however their registers began.": of
  -- every call of `lower` that answers 0, and of every listing
  pub none_drawn : NoneDrawn (λ a. a.drawn)
  pub unmarked : Unmarked
  -- the registers marked are all that comes from outside
  pub marked_alone : MarkedAlone
  pub drawn_alone : DrawnAlone
  -- a register is marked just where some way from record 0 leads to a record that draws on it, past none that fills it
  pub marked_led : MarkedLed
  pub led_to : LedTo
  -- no scratch register is marked
  pub scratch_undrawn : ScratchUndrawn
  -- there is a sheet without a mark, with stores that agree in no register; and one with marks whose plays end apart
  pub undrawn : Undrawn filling (filled_with 0) (filled_with 1)
  pub drawn_apart : DrawnApart drawing (filled_with 0) (filled_with 1) 578
  -- playing a sheet's listing computes what the sheet means, of every call of `lower` that answers 0
  pub preserved : Preserved
  -- whatever a Half would lose, where no Half of a real register into a complex one stands; there is such a sheet with a Half
  pub settled : Settled
  pub settled_met : SettledMet clean
  -- of a tidy sheet each instruction does its row and no more; there is one, by which 6 / (1 + i) is 3 - 3i
  pub tidied : Tidied
  pub tidy_met : TidyMet dividing 0x4008_0000_0000_0000 0xc008_0000_0000_0000
  -- every word of the store is a leftover or must be the same in both endings
  pub parted : (ρ : Realness) → Parted (Kept ρ) (Leftover ρ)
  -- "Records played are at most all records plus calls times block records."
  pub bound : Bounds most
  -- the machine by steps plays as the machine does
  pub by_steps : PlaysBySteps most
  -- what refuses a play, as a number and an index alone
  pub refused : Refused refusal
  -- "It equals playing that record on a copy."
  pub looked : Looked look
  -- looking and writing, again and again, is the play's way
  pub looked_on : LookedOn bench
  -- "These equal what lowering and playing report."
  pub figures : FiguresReported shelf
  -- assembling the text of a readable sheet gives its bytes again
  pub round_trip : RoundTrip sheet_text
  -- a record depends on the words that it draws on alone, and writes those that it fills alone
  pub confined : Confined draws fills
  -- Root goes to the nearest value, and there is one
  pub nearest_root : RootLaw (square_root binary64)
  pub one_root : OneRoot
  -- "in a proved eight steps at most": the mended estimate is the whole root; rounded, it is Root's word
  pub eight_mends : EightMends mended
  pub root_by_mends : RootByMends root
  -- "One fact about integral rounding serves all directions and Round."
  pub integral : IntegralLaw (λ d. round_to_integral d binary64)
  -- MulAdd rounds the exact value of a * b + c once
  pub mul_add : MulAddLaw (fused_multiply_add binary64)
  -- IfElse chooses bit by bit
  pub if_else : IfElseLaw if_else
  -- "The index of the point with the smallest comes back"; "of equal distances the latest is to be chosen"
  pub nearest_point : NearestLaw nearest
  -- "for each position the largest in the window that ends there"
  pub running_peak : PeakLaw after
  -- "No field is ever cut, and this is shown for every accepted listing and every table of up to 256 constants."
  pub uncut : UncutLaw row_line
  -- pages laid out in two parts are those laid out at once
  pub joined : Joined pages_from
