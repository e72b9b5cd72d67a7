-- `look::show::save_complex_fills` meets its contract.
use borrow.Author.Rules.{rules}
use mathlib.Core.Path.{sym, ap, ◌∙◌}
use Rattle.mir.specs.Refusal.{as_read}
use Rattle.look.proofs.Fills.{save-complex-at, save-complex-bad}
use Rattle.look.proofs.show.save_complex_fills.Statement.{statement}
use Rattle.look.proofs.show.save_complex_fills.Tie as tie

pub save_complex_fills_spec : {M : Type 1} → statement M
save_complex_fills_spec =
    tie.close
    (tie.spec
    (λ c κs. search rules)
    (λ c. search rules)
    (λ c κs. search rules)
    (λ c. search rules)
    (λ c κs. search rules)
    (λ c. search rules)
    (λ c κs. search rules)
    (λ c. save-complex-at c.args.s.now (ap as_read (sym c.in-Ok.is) ∙ c.read_place.ensures) c.place-i.ensures c.two.ensures)
    (λ c. save-complex-bad c.args.s.now (ap as_read (sym c.in-Err.is) ∙ c.read_place.ensures)))
