use mathlib.Core.Bool.{false}
use mathlib.Core.List.{[], ◌∷◌}
use Rattle.mir.specs.declared.records.Record.{Record}
use Rattle.mir.specs.Register.{Ret}
use Rattle.lowering.specs.Realness.{set_reg}
use Rattle.lowering.specs.Complexifier.{call_root}
use Rattle.complexifier.specs.Does.{listing}
use Rattle.complexifier.proofs.state.Complexifier.call_root.Goals as goal

pub returns : goal.returns
unfolding call_root
returns c = listing (Record.Call 1 ∷ []) (λ ρ. set_reg ρ Ret false) c.push_call.ensures c.set_reg_complex.ensures
