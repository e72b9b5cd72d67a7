-- Refusals by the numbers of document 01's table, of which document 02 has 10 (d), 11 (f) and 14 (h).
use Rattle.std.specs.Prelude.{ℕ, Ok, Err, Result}
use Rattle.mir.specs.declared.refusal.Refusal.{Refusal}
use Rattle.mir.specs.Read.{Read, got, refused}

abbrev pub number : Refusal → ℕ
number Refusal.TornRecord = 1
number Refusal.UnknownWork = 2
number Refusal.BadRegister = 3
number Refusal.BadPlace = 4
number Refusal.MissingConstant = 5
number Refusal.BarredOperand = 6
number Refusal.ListingFull = 7
number Refusal.WrongSetup = 8
number Refusal.StrayJump = 9
number Refusal.MisplacedLabel = 10
number Refusal.UnequalRecords = 11
number Refusal.SheetTooLong = 14

-- the answer of a reader in the code: what it found, or the number that refuses it
abbrev pub as_read : {A : Type 0} → Result A Refusal → Read A
as_read (Ok a) = got a
as_read (Err e) = refused (number e)
