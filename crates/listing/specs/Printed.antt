-- What the program prints for a sheet (document 01, "One sheet on paper").
use Rattle.std.specs.Prelude.{ℕ, Bool, false, cond, List, length, take, replicate, eqb}
use Rattle.records.specs.Record.{records}
use Rattle.complexify.specs.declared.entry.LowerAnswer.{LowerAnswer}
use Rattle.complexify.specs.Entry.{answer, listing_after, constants_after}
use Rattle.text.specs.Text.{page, refused_line}
use Rattle.reports.specs.Lines.{refusal_line}

-- "It prints constants [..], records and bytes, then the records": of a table of constants and a listing's bytes
abbrev pub page_of : List ℕ → List ℕ → List ℕ
page_of constants listing = page constants (records (length constants) listing).items (length listing)

-- a refusal: "A refusal prints only `refused`, its number and index"; for a sheet in a file that was named, its word too
abbrev pub refusal_of : Bool → ℕ → ℕ → List ℕ
refusal_of named number index = cond named (refusal_line number index) (refused_line number index)

-- by the answer of lowering and the two slices after it
abbrev pub text_of : Bool → LowerAnswer → List ℕ → List ℕ → List ℕ
text_of named a constants listing =
    cond (eqb a.number 0) (page_of (take a.count constants) (take a.written listing)) (refusal_of named a.number a.index)

-- "reads a sheet": lowered with all the room that a listing and a table of constants can have
unfoldable pub printed_for : Bool → List ℕ → List ℕ
printed_for named sheet =
    let listing : List ℕ = replicate 65536 0 in
    let constants : List ℕ = replicate 256 0 in
    let origins : List ℕ = replicate 256 0 in
    text_of named (answer sheet listing constants origins) (constants_after sheet listing constants origins)
    (listing_after sheet listing constants origins)

-- from standard input
abbrev pub printed : List ℕ → List ℕ
printed sheet = printed_for false sheet
