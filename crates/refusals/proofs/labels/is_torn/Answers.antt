-- `refusals::labels::is_torn`: by what the head's reader answers.
use denote.Enum.Bare.{sameb}
use lib.Dec.{eqb}
use mathlib.Core.Bool.{cond}
use Rattle.std.proofs.Common.{◌≡◌, refl, sym, ap, ◌∙◌}
use Rattle.mir.specs.declared.refusal.Refusal.{Refusal}
use Rattle.mir.specs.contracts.refusal.Refusal.{the_type}
use Rattle.mir.specs.Read.{got, refused}
use Rattle.mir.specs.Refusal.{number, as_read}
use Rattle.refusals.specs.Noted.{label_here}
use Rattle.refusals.proofs.Searching.{head_read, head_refused}
use Rattle.refusals.proofs.labels.is_torn.Goals as goal

-- only a torn record has the number 1
torn : (e : Refusal) → sameb the_type e Refusal.TornRecord ≡ eqb (number e) 1
torn Refusal.TornRecord = refl
torn Refusal.UnknownWork = refl
torn Refusal.BadRegister = refl
torn Refusal.BadPlace = refl
torn Refusal.MissingConstant = refl
torn Refusal.BarredOperand = refl
torn Refusal.ListingFull = refl
torn Refusal.WrongSetup = refl
torn Refusal.StrayJump = refl
torn Refusal.MisplacedLabel = refl
torn Refusal.UnequalRecords = refl
torn Refusal.SheetTooLong = refl

pub returns-in-Ok : goal.returns-in-Ok
returns-in-Ok c = head_read c.args.s.now _ (sym c.read_head.ensures ∙ ap as_read c.in-Ok.is)

pub returns-in-Err : goal.returns-in-Err
returns-in-Err c =
    let s = c.args.s.now in
    head_refused s _ (sym c.read_head.ensures ∙ ap as_read c.in-Err.is)
    ∙ ap (λ b. cond b (refused 1) (got (label_here s))) (sym (c.eq.ensures ∙ torn c.in-Err.refusal))
