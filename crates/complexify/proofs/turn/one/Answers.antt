-- `complexify::turn::one`: what was read is lowered, or refuses it.
use Rattle.complexify.proofs.Turns.{one-got, one-refused}
use Rattle.complexify.proofs.turn.one.Goals as goal

pub returns-in-Ok : goal.returns-in-Ok
returns-in-Ok c =
    let a = c.args in
    one-got a.own a.sheet.now a.p.at a.mode a.listing.now a.constants.now c.read_instruction.ensures c.in-Ok.is c.lower_one.ensures

pub returns-in-Err : goal.returns-in-Err
returns-in-Err c =
    let a = c.args in
    one-refused a.own a.sheet.now a.p.at a.mode a.listing.now a.constants.now c.read_instruction.ensures c.in-Err.is c.number.ensures c.refused.ensures
