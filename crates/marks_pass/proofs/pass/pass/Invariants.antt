-- From here on the records give the marks of all.
use Rattle.std.proofs.Common.{◌≡◌, ◌-◌, List, length}
use Rattle.mir.specs.declared.records.Record.{Record}
use Rattle.mir.specs.Encode.{encode_all}
use Rattle.marks_pass.proofs.Passing as P
use Rattle.marks_pass.proofs.pass.pass.Given as goal

abbrev pub invariant-loop-at : goal.invariant-loop-at
invariant-loop-at l = record {
  fills_long : length l.fills ≡ 256;
  draws_long : length l.draws ≡ 256;
  passing : (rs : List Record) → l.listing ≡ encode_all rs → P.Passing l.listing rs l.known l.fills l.draws l.filled l.drawn l.ways l.at;
}

abbrev pub decreases-loop-at : goal.decreases-loop-at
decreases-loop-at l = length l.listing - l.at
