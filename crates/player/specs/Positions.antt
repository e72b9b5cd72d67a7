-- What the functions over positions in a listing give. A position stands for the records from it on.
use Rattle.std.specs.Prelude.{ℕ, ◌+◌, ◌≤◌, ◌<◌, ◌≡◌, Bool, true, false, Option, None, Some, List, ◌∷◌, length, drop, get_or, eqb}
use Rattle.mir.specs.declared.records.Work.{Work}
use Rattle.mir.specs.declared.records.Record.{Record}
use Rattle.mir.specs.Read.{got}
use Rattle.records.specs.declared.reader.Step.{Step}
use Rattle.records.specs.Record.{record_from, records}
use Rattle.player_machine.specs.Machine.{Store, End, execs, works, is_label, seek, ticks, play, going}
use Rattle.player_machine.specs.Jumps.{bit, tally, is_jump, is_return, in_block, breaks, breach}
use Rattle.player_machine.specs.Refusal.{refusal}
use Rattle.player.specs.declared.Verdict.{Verdict}
use Rattle.player.specs.declared.passes.Examination.{Examination}
use Rattle.player.specs.declared.run.Progress.{Progress}
use Rattle.player.specs.Encoded.{jump_encoded, jump_in, such}

-- the records from a position on, and the number that refuses the one behind them
abbrev pub left : ℕ → List ℕ → ℕ → List Record
left count s at = (records count (drop at s)).items

abbrev pub fault : ℕ → List ℕ → ℕ → ℕ
fault count s at = (records count (drop at s)).fault

-- from a position on every record was examined, with some count of constants, and none is refused
pub record Sound (s : List ℕ) (at : ℕ) : Type 0 where
  pub count : ℕ
  pub none : fault count s at ≡ 0

-- the first Label l from a position on
pub record AtLabel (s : List ℕ) (at l r : ℕ) : Type 0 where
  pub same : (count : ℕ) → fault count s at ≡ 0 → left count s r ≡ seek l (left count s at)
  pub sound : (count : ℕ) → fault count s at ≡ 0 → fault count s r ≡ 0
  pub on : at ≤ r

-- k records behind a position
pub record Behind (s : List ℕ) (at k r : ℕ) : Type 0 where
  pub same : (count : ℕ) → fault count s at ≡ 0 → left count s r ≡ drop k (left count s at)
  pub sound : (count : ℕ) → fault count s at ≡ 0 → fault count s r ≡ 0

-- a record that jumps stands at a position
pub record Jumps (count : ℕ) (s : List ℕ) (at : ℕ) : Type 0 where
  pub rec : Record
  pub here : record_from count (drop at s) ≡ got rec
  pub jump : is_jump rec ≡ true

-- what a record's step tells of it
abbrev pub jump_seen : Step → Bool
jump_seen Step.Work = false
jump_seen (Step.Label l) = true
jump_seen (Step.Branch l) = true
jump_seen (Step.Call l) = true
jump_seen (Step.BranchIf l) = true

abbrev pub label_seen : ℕ → Step → Bool
label_seen l Step.Work = false
label_seen l (Step.Label m) = eqb m l
label_seen l (Step.Branch m) = false
label_seen l (Step.Call m) = false
label_seen l (Step.BranchIf m) = false

-- the record behind the first Label 1, where the block begins
pub record BlockStart (count : ℕ) (s : List ℕ) (r : ℕ) : Type 0 where
  pub same : left count s r ≡ drop 1 (seek 1 (left count s 0))
  pub sound : fault count s 0 ≡ 0 → fault count s r ≡ 0

-- the whole listing, record by record
pub record Examined (count : ℕ) (s : List ℕ) (x : Examination) : Type 0 where
  pub number : x.number ≡ (records count s).fault
  pub index : x.index ≡ length (records count s).items
  pub jumps : x.jumps ≡ tally is_jump (records count s).items
  pub body : BlockStart count s x.body

-- what refuses a play, or the positions where it begins and where its block does
pub record Judged (s : List ℕ) (constants start words : ℕ) (v : Verdict) : Type 0 where
  pub same : record { number = v.number; index = v.index } ≡ refusal s constants start words
  pub refused : (v.number ≡ 0 → ⊥) → (v.body ≡ 0) × (v.from ≡ 0)
  pub body : v.number ≡ 0 → BlockStart constants s v.body
  pub from : v.number ≡ 0 → Behind s 0 start v.from

-- ---- the tables of labels, 256 entries by number

-- one table behind another: a record's Label counted
pub record Counted (s t u : List ℕ) : Type 0 where
  pub long : length u ≡ length t
  pub each : (l : ℕ) → get_or u l 0 ≡ get_or t l 0 + bit (such (is_label l) (jump_encoded s))

-- all Labels of the listing counted, and the Branches 0
pub record AllCounted (s t : List ℕ) (r : ℕ) : Type 0 where
  pub long : length t ≡ 256
  pub labels : (count : ℕ) → fault count s 0 ≡ 0 → (l : ℕ) → get_or t l 0 ≡ tally (is_label l) (left count s 0)
  pub returns : (count : ℕ) → fault count s 0 ≡ 0 → r ≡ tally is_return (left count s 0)

-- What is known of the records before a position and of those from it on: t counts all Labels of the listing, u those before, b tells whether
-- the block is open, m counts all Branches 0, and n those before.
pub record Tables (before behind : List Record) (t u : List ℕ) (b : Bool) (m n : ℕ) : Type 0 where
  pub all : (l : ℕ) → get_or t l 0 ≡ tally (is_label l) before + tally (is_label l) behind
  pub stood : (l : ℕ) → get_or u l 0 ≡ tally (is_label l) before
  pub inside : b ≡ in_block before
  pub returns : m ≡ tally is_return before + tally is_return behind
  pub returned : n ≡ tally is_return before

-- r tells whether the record that s begins with breaks a rule
abbrev pub BreaksRule : List ℕ → List ℕ → List ℕ → Bool → ℕ → ℕ → Bool → Type 0
BreaksRule s t u b m n r =
    (before : List Record) (rec : Record) (behind : List Record) → Tables before (rec ∷ behind) t u b m n
    → jump_encoded s ≡ jump_in rec → r ≡ breaks before rec behind

-- the first breach of the jump rules, of a listing that was examined
abbrev pub FirstBreach : List ℕ → ℕ → Type 0
FirstBreach s r = (count : ℕ) → fault count s 0 ≡ 0 → r ≡ breach (left count s 0)

abbrev pub BreachOf : List ℕ → Examination → ℕ → Type 0
BreachOf s x r = (count : ℕ) → Examined count s x → fault count s 0 ≡ 0 → r ≡ breach (left count s 0)

-- a table of 256 entries, none above a bound
abbrev pub Table : ℕ → List ℕ → Type 0
Table most t = (length t ≡ 256) × ((l : ℕ) → get_or t l 0 ≤ most)

-- ---- the play

-- the working records of the block that begins at a position
abbrev pub block_at : List ℕ → List ℕ → ℕ → List Work
block_at constants s body = works (left (length constants) s body)

-- the block played from σ to τ, and the record that ends it counted too
pub record BlockPlayed (constants s : List ℕ) (body : ℕ) (σ τ : Store) (r : ℕ) : Type 0 where
  pub same : τ ≡ execs constants (block_at constants s body) σ
  pub count : r ≡ 1 + length (block_at constants s body)
  pub small : r ≤ 65600

-- the play from a position on
abbrev pub on_from : List ℕ → List ℕ → ℕ → ℕ → Store → End
on_from constants s body at σ = play constants (block_at constants s body) going (left (length constants) s at) σ

-- what is left of the play behind a record, by where the next one stands: nothing where it ended
abbrev pub onward : List ℕ → List ℕ → ℕ → Store → Option ℕ → ℕ → End
onward constants s body τ (Some next) n = ticks n (on_from constants s body next τ)
onward constants s body τ None n = record { store = τ; played = n }

-- one record played from σ to τ, and the play of what follows it
pub record RecordPlayed (constants s : List ℕ) (body at : ℕ) (σ τ : Store) (p : Progress) : Type 0 where
  pub same : on_from constants s body at σ ≡ onward constants s body τ p.next p.played
  pub on : (next : ℕ) → p.next ≡ Some next → at < next
  pub sound : (next : ℕ) → p.next ≡ Some next → fault (length constants) s next ≡ 0
  pub small : p.played ≤ 65602

-- the whole play from σ to τ
pub record Played (constants s : List ℕ) (body start : ℕ) (σ τ : Store) (r : ℕ) : Type 0 where
  pub same : on_from constants s body start σ ≡ record { store = τ; played = r }
