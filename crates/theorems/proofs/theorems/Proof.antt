-- Each theorem, by the proof that its crate has of it.
use Rattle.float.proofs.Right.{root_nearest, mul-add_exact, if_else_bit}
use Rattle.float.proofs.OneRoot.{one-root}
use Rattle.float.proofs.WholeLaw.{integral_law}
use Rattle.float.proofs.Heron.{eight-mends}
use Rattle.float.proofs.ByMends.{root-by-mends}
use Rattle.player_machine.proofs.Bound.{answer_bound}
use Rattle.player_machine.proofs.Stepping.{by-steps}
use Rattle.player_machine.proofs.Drawing.{confined}
use Rattle.player_machine.proofs.Refusing.{refused}
use Rattle.player_machine.proofs.Looking.{looked, looked-on}
use Rattle.lowering.proofs.Elsewhere.{elsewhere-stable}
use Rattle.leftovers.proofs.Words.{parted}
use Rattle.entries.proofs.Demand.{entries_demand-3}
use Rattle.entries.proofs.Examples.{needed, needed-stable, minded, met, jumped-over, cleared}
use Rattle.marks.proofs.Theorem.{unmarked, drawn-alone}
use Rattle.marks.proofs.Leading.{led-to}
use Rattle.entries.proofs.Drawn.{none-drawn, marked-alone, marked-led, scratch-undrawn}
use Rattle.entries.proofs.DrawnExamples.{undrawn, drawn-apart}
use Rattle.meaning.proofs.Theorem.{preserved}
use Rattle.meaning.proofs.Settling.{settled}
use Rattle.meaning.proofs.Tidied.{tidied}
use Rattle.meaning.proofs.Examples.{settled-met, tidy-met}
use Rattle.entries.proofs.Complexified.{complexified}
use Rattle.entries.proofs.Originated.{originated, named, named_none}
use Rattle.figures.proofs.Theorem.{figures}
use Rattle.assembly.proofs.Theorem.{round_trip}
use Rattle.nearest.proofs.Law.{nearest_law}
use Rattle.peak.proofs.Law.{peak_law}
use Rattle.pages.proofs.Fitting.{uncut, joined}
use Rattle.theorems.proofs.theorems.Statement.{statement}
use Rattle.theorems.proofs.theorems.Tie as tie

returns : tie.Need-returns
returns c =
    record {
      complexified = complexified;
      originated = originated;
      named = named;
      named_none = named_none;
      elsewhere_stable = elsewhere-stable;
      demand3 = entries_demand-3;
      needed = needed;
      needed_stable = needed-stable;
      minded = minded;
      met = met;
      jumped_over = jumped-over;
      cleared = cleared;
      none_drawn = none-drawn;
      unmarked = unmarked;
      marked_alone = marked-alone;
      drawn_alone = drawn-alone;
      marked_led = marked-led;
      led_to = led-to;
      scratch_undrawn = scratch-undrawn;
      undrawn = undrawn;
      drawn_apart = drawn-apart;
      preserved = preserved;
      settled = settled;
      settled_met = settled-met;
      tidied = tidied;
      tidy_met = tidy-met;
      parted = parted;
      bound = answer_bound;
      by_steps = by-steps;
      refused = refused;
      looked = looked;
      looked_on = looked-on;
      figures = figures;
      round_trip = round_trip;
      confined = confined;
      nearest_root = root_nearest;
      one_root = one-root;
      eight_mends = eight-mends;
      root_by_mends = root-by-mends;
      integral = integral_law;
      mul_add = mul-add_exact;
      if_else = if_else_bit;
      nearest_point = nearest_law;
      running_peak = peak_law;
      uncut = uncut;
      joined = joined;
    }

pub theorems_spec : {M : Type 1} → statement M
theorems_spec = tie.close (tie.spec returns)
