-- `marks_pass::pass::block_start` meets its contract. The invariant: from here on the first Label 1 is that of all records.
use borrow.Author.Rules.{rules}
use Prim.Native.Nat.{◌-◌}
use mathlib.Core.Path.{◌≡◌, refl}
use mathlib.Core.List.{List}
use native.Mathlib.Omega.{arith}
use lib.ListN.{length}
use Rattle.mir.specs.declared.records.Record.{Record}
use Rattle.mir.specs.Encode.{encode_all}
use Rattle.marks_pass.proofs.Records as R
use Rattle.marks_pass.proofs.pass.block_start.Statement.{statement}
use Rattle.marks_pass.proofs.pass.block_start.Tie as tie

abbrev invariant-loop-at : tie.invariant-loop-at
invariant-loop-at listing at₀ at = (rs : List Record) → listing ≡ encode_all rs → R.Seeking listing rs at

abbrev decreases-loop-at : tie.decreases-loop-at
decreases-loop-at listing at₀ at = length listing - at

loop-holds : tie.Need-loop-at-init invariant-loop-at decreases-loop-at
loop-holds c = λ rs e. record { left = rs; there = e; ahead = refl }

returns : tie.Need-returns-then-at_block invariant-loop-at decreases-loop-at
returns c = λ rs e. R.seeking-found _ rs c.loop-at.at _ _ c.u16_at-n.ensures c.at_block.ensures c.loop-at-test.true c.if-at_block.true (c.loop-at.invariant rs e)

returns-2 : tie.Need-returns-then-n-eq0 invariant-loop-at decreases-loop-at
returns-2 c = λ rs e. absurd (R.seeking-long _ rs c.loop-at.at _ _ c.u16_at-n.ensures c.at_block.ensures c.loop-at-test.true (c.loop-at.invariant rs e) c.if-n-eq0.true)

loop-less : tie.Need-loop-at-smaller invariant-loop-at decreases-loop-at
loop-less c = omega arith

loop-again : tie.Need-loop-at-preserved invariant-loop-at decreases-loop-at
loop-again c = λ rs e. R.seeking-on _ rs c.loop-at.at _ _ c.u16_at-n.ensures c.at_block.ensures c.loop-at-test.true c.if-at_block.false (c.loop-at.invariant rs e)

returns-3 : tie.Need-returns invariant-loop-at decreases-loop-at
returns-3 c = λ rs e. R.seeking_none _ rs c.loop-at.at (omega arith) (c.loop-at.invariant rs e)

pub block_start_spec : {M : Type 1} → statement M
block_start_spec =
    tie.close
    (tie.spec invariant-loop-at decreases-loop-at
    loop-holds (λ c. search rules) (λ c. search rules) (λ c. search rules) (λ c κs. search rules) (λ c. search rules)
    (λ c κs. search rules) (λ c. search rules) returns returns-2 (λ c. search rules) loop-less loop-again returns-3)
