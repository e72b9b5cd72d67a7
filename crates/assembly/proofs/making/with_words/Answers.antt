-- No words, a line that is read, and one that is none.
use Rattle.std.proofs.Common.{arith, refl, ◌+◌, drop}
use Rattle.assembly.specs.Assembled.{words_of}
use Rattle.assembly.specs.Reading.{run}
use Rattle.assembly.specs.Making.{sheet_of}
use Rattle.assembly.proofs.Runs.{no_words, word-at}
use Rattle.assembly.proofs.Heard.{heard, unheard}
use Rattle.assembly.proofs.Growing.{refusing}
use Rattle.assembly.proofs.Stepping.{step-none, step-heard, unheard-first, unheard-later}
use Rattle.assembly.proofs.making.with_words.Goals as goal

pub returns-then-l-run_end : goal.returns-then-l-run_end
returns-then-l-run_end c =
    let a = c.args in
    let p = c.run_end in
    step-none (sheet_of a.s a.out.now) (words_of a.l.now) a.s a.out.now c.requires refl
    (no_words a.l.now 0 p.result p.ensures c.if-l-run_end.true)

pub with_first-requires : goal.with_first-requires
with_first-requires c = (c.requires, (heard (words_of c.args.l.now) c.in-Some.t c.in-Some.ensures).short)

pub returns-in-Some : goal.returns-in-Some
returns-in-Some c =
    let a = c.args in
    let l = a.l.now in
    let p = c.run_end in
    let h = heard (words_of l) c.in-Some.t c.in-Some.ensures in
    step-heard (sheet_of a.s a.out.now) (words_of l) (word-at l 0 p.result p.ensures (p.result + run 0 (drop p.result l)) (omega arith) refl)
    c.in-Some.t h c.with_first.ensures

pub returns-then-s-eq0 : goal.returns-then-s-eq0
returns-then-s-eq0 c =
    let a = c.args in
    let l = a.l.now in
    let p = c.run_end in
    let h = unheard (words_of l) c.in_default.ensures in
    refusing 0 c.refuse.ensures
    (unheard-first (sheet_of a.s a.out.now) (words_of l)
    (word-at l 0 p.result p.ensures (p.result + run 0 (drop p.result l)) (omega arith) refl) h c.if-s-eq0.true)

pub returns : goal.returns
returns c =
    let a = c.args in
    let l = a.l.now in
    let p = c.run_end in
    let h = unheard (words_of l) c.in_default.ensures in
    refusing 2 c.refuse-2.ensures
    (unheard-later (sheet_of a.s a.out.now) (words_of l)
    (word-at l 0 p.result p.ensures (p.result + run 0 (drop p.result l)) (omega arith) refl) h c.if-s-eq0.false)
