use Rattle.rerun.proofs.Roots.{root_before, root-plain, root-stable}
use Rattle.rerun.proofs.methods.define_root.Goals as goal

pub returns-then-low : goal.returns-then-low
returns-then-low c = root_before _ c.if-low.true c.nothing.ensures

pub returns-then-stable : goal.returns-then-stable
returns-then-stable c = simp c.if-stable.true (root-stable c.if-low.false c.seek_three-t.ensures c.stable_around_block.ensures)

pub returns : goal.returns
returns c = simp c.if-stable.false (root-plain c.if-low.false c.nothing-2.ensures c.plain_around_block.ensures)
