-- `figures::entry::shelf`: 8, or the figures behind a setup that is right.
use mathlib.Core.Path.{refl, ap, sym, ◌∙◌}
use mathlib.Core.Bool.{false}
use Rattle.std.specs.Prelude.{Ok}
use Rattle.sheet.specs.Setup.{as_setup}
use Rattle.sheet.proofs.Setting.{set-up, unset}
use Rattle.figures.proofs.Starting.{wrong, begin-ready, placed, whole}
use Rattle.figures.proofs.entry.shelf.Goals as goal

pub returns-in_default : goal.returns-in_default
returns-in_default c =
    let s = c.args.sheet.now in
    let x = c.read_setup in
    c.refusal.ensures ∙ sym (wrong s (as_setup x.result) x.ensures (unset s x.ensures c.in_default.is))

pub run_marked-requires-clause-count_ready : goal.run_marked-requires-clause-count_ready
run_marked-requires-clause-count_ready c =
    let s = c.args.sheet.now in
    let u = as_setup (Ok c.in-Ok.setup) in
    let e = set-up s c.read_setup.ensures c.in-Ok.is in
    begin-ready s u e refl refl (placed s u e refl c.put_constants.ensures)

pub returns : goal.returns
returns c =
    let s = c.args.sheet.now in
    let u = as_setup (Ok c.in-Ok.setup) in
    let e = set-up s c.read_setup.ensures c.in-Ok.is in
    c.run_marked.ensures
    ∙ whole s u e refl (placed s u e refl c.put_constants.ensures) (ap (λ ρ. record { real = ρ; root_defined = false }) c.fresh.ensures)
