-- `complexify::entry::lower`: behind a setup that is right and slices of the right lengths.
use native.Mathlib.Omega.{arith}
use mathlib.Core.Path.{refl, ap, ◌∙◌}
use mathlib.Core.Bool.{false}
use Rattle.std.specs.Prelude.{Ok}
use Rattle.sheet.specs.Setup.{as_setup}
use Rattle.sheet.proofs.Setting.{set-up}
use Rattle.complexify.proofs.Answers.{own-few, begin-ready, begin-origins, answering}
use Rattle.complexify.proofs.entry.lower.Goals as goal

pub copy_constants-requires : goal.copy_constants-requires
copy_constants-requires c =
    let a = c.args in
    let h = own-few a.sheet.now a.listing.now a.constants.now a.origins.now (as_setup (Ok c.in-Ok.setup)) (set-up a.sheet.now c.read_setup.ensures c.in-Ok.is) refl (omega arith) (omega arith) (omega arith) in
    omega (arith, h)

pub put_origins-requires-clause-end_in_bounds : goal.put_origins-requires-clause-end_in_bounds
put_origins-requires-clause-end_in_bounds c =
    let a = c.args in
    let h = own-few a.sheet.now a.listing.now a.constants.now a.origins.now (as_setup (Ok c.in-Ok.setup)) (set-up a.sheet.now c.read_setup.ensures c.in-Ok.is) refl (omega arith) (omega arith) (omega arith) in
    omega (arith, h)

pub run_marked-stop-requires-clause-ready : goal.run_marked-stop-requires-clause-ready
run_marked-stop-requires-clause-ready c =
    let a = c.args in
    begin-ready a.sheet.now a.listing.now a.constants.now a.origins.now (as_setup (Ok c.in-Ok.setup)) (set-up a.sheet.now c.read_setup.ensures c.in-Ok.is) refl (omega arith) (omega arith) (omega arith) refl c.copy_constants.ensures

pub returns : goal.returns
returns c =
    let a = c.args in
    let e = c.run_marked-stop.ensures in
    let q = answering a.sheet.now a.listing.now a.constants.now a.origins.now (as_setup (Ok c.in-Ok.setup)) (set-up a.sheet.now c.read_setup.ensures c.in-Ok.is) refl (omega arith) (omega arith) (omega arith) c.copy_constants.ensures (ap (λ ρ. record { real = ρ; root_defined = false }) c.fresh.ensures) c.put_origins.ensures e.1 e.0 c.marked.ensures in
    (q.answered, q.bytes, q.words, q.names)
