-- Assembling the text of a readable sheet gives its bytes again.
use Rattle.std.specs.Prelude.{ℕ, ◌<◌, ◌≡◌, List, get_or}
use Rattle.assembly.specs.SheetText.{Readable}
use Rattle.assembly.specs.Assembled.{accepted, assembled}

-- of any way to write a sheet as text
abbrev pub RoundTrip : (List ℕ → List ℕ) → Type 0
RoundTrip text = (sheet : List ℕ) → ((i : ℕ) → get_or sheet i 0 < 256) → Readable sheet → assembled (text sheet) ≡ accepted sheet
