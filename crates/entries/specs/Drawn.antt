-- Which halves come from outside (document 02, l), of what the two entries do: the marks that `lower` answers with, and the plays from
-- record 0 of what it left. Nothing is asked of Half.
use Rattle.std.specs.Prelude.{ℕ, ◌<◌, ◌≡◌, Bool, false, ◌↔◌, List, get_or, replicate, T}
use Rattle.mir.specs.Register.{T0, T1}
use Rattle.player_machine.specs.Machine.{Store, at}
use Rattle.player_machine.specs.Answer as Player
use Rattle.complexify.specs.declared.entry.LowerAnswer.{LowerAnswer}
use Rattle.complexify.specs.Entry.{answer}
use Rattle.leftovers.specs.Leftovers.{records_of}
use Rattle.marks.specs.Claims.{SamePlaces, EndEqual, EndEqualIn}
use Rattle.marks.specs.Leads.{LeadsTo}
use Rattle.entries.specs.Entries.{left}

-- a play from record 0 of what `lower` left
abbrev pub play_left : List ℕ → List ℕ → List ℕ → List ℕ → Store → Player.Answer
play_left sheet listing constants origins σ =
    let l = left sheet listing constants origins in
    Player.answer l.listing l.constants 0 σ

-- "If no mark is set, two plays from record 0 whose stores agree in all places end with equal places, however their registers began. This
-- needs no condition about Half.": of every call of `lower` that answers 0 (theorem `none_drawn`, of the answer's `drawn`)
abbrev pub NoneDrawn : (LowerAnswer → List Bool) → Type 0
NoneDrawn marks =
    (sheet listing constants origins : List ℕ) (σ τ : Store)
    → (answer sheet listing constants origins).number ≡ 0 → marks (answer sheet listing constants origins) ≡ replicate 66 false → SamePlaces σ τ
    → EndEqual (play_left sheet listing constants origins σ) (play_left sheet listing constants origins τ)

-- the mark that an answer has for register i
abbrev pub mark : LowerAnswer → ℕ → Bool
mark a i = get_or a.drawn i false

-- the registers marked are all that comes from outside: two plays whose stores agree in all places and in these end with equal places, after
-- equally many records, and with equal words in these (theorem `marked_alone`)
abbrev pub MarkedAlone : Type 0
MarkedAlone =
    (sheet listing constants origins : List ℕ) (σ τ : Store)
    → (answer sheet listing constants origins).number ≡ 0 → SamePlaces σ τ
    → ((i : ℕ) → T (mark (answer sheet listing constants origins) i) → at σ i ≡ at τ i)
    → EndEqualIn (mark (answer sheet listing constants origins)) (play_left sheet listing constants origins σ) (play_left sheet listing constants origins τ)

-- of an accepted sheet a register is marked just where some way leads in the listing's records to one that draws on it, past none that fills
-- it (theorem `marked_led`)
abbrev pub MarkedLed : Type 0
MarkedLed =
    (sheet listing constants origins : List ℕ) (i : ℕ) → (answer sheet listing constants origins).number ≡ 0 → i < 66
    → T (mark (answer sheet listing constants origins) i) ↔ LeadsTo (records_of (left sheet listing constants origins)) i

-- and neither of the scratch registers 2 and 3 is (theorem `scratch_undrawn`)
abbrev pub ScratchUndrawn : Type 0
ScratchUndrawn =
    (sheet listing constants origins : List ℕ) → (answer sheet listing constants origins).number ≡ 0
    → (mark (answer sheet listing constants origins) T0 ≡ false) × (mark (answer sheet listing constants origins) T1 ≡ false)
