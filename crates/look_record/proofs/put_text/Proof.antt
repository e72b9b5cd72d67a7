-- `look_record::put_text` meets its contract.
use borrow.Author.Rules.{rules}
use Prim.Native.Nat.{◌/◌}
use mathlib.Core.Path.{ap}
use lib.ListN.{length}
use Rattle.text.proofs.Putting.{renamed}
use Rattle.look.specs.Call.{LookCall}
use Rattle.look_record.specs.Looks.{look_text}
use Rattle.look_record.proofs.put_text.Statement.{statement}
use Rattle.look_record.proofs.put_text.Tie as tie

pub put_text_spec : {M : Type 1} → statement M
put_text_spec =
    tie.close
    (tie.spec
    (λ c. search rules) (λ c κs. search rules) (λ c. search rules) (λ c κs. search rules) (λ c. search rules)
    (λ c.
    let a = c.args in
    renamed (ap (λ (k : LookCall). look_text a.listing.now (length a.constants.now / 8) a.start k.answer) c.tulipcricket_look_unguarded.ensures) c.put_look.ensures))
