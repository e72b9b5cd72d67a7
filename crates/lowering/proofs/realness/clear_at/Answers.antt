-- A bit cleared by its mask.
use Rattle.std.proofs.Common.{arith, rules, ap, get_or, ◌<◌, ◌/◌, ◌%◌}
use lib.ListN.{set}
use Rattle.lowering.proofs.Bits.{mask}
use Rattle.lowering.proofs.realness.clear_at.Goals as goal

pub returns-then-at-lt64 : goal.returns-then-at-lt64
returns-then-at-lt64 c =
    let a = c.args in
    let h : get_or a.places (a.i / 8) 0 < 256 = search rules in
    ap (set a.places (a.i / 8)) (mask (get_or a.places (a.i / 8) 0) (a.i % 8) h (omega arith))
