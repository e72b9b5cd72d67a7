-- `interface::lower_words` meets its contract: what lowering has written is put over the constants' and the origins' bytes.
use borrow.Author.Rules.{rules}
use Prim.Native.Nat.{ℕ, ◌<◌}
use native.Mathlib.Omega.{arith}
use mathlib.Core.Path.{refl, sym, ◌∙◌}
use lib.ListN.{length, get_or, replicate}
use lib.Seq.{length-take-le}
use Rattle.complexify.proofs.Within.{within}
use Rattle.interface.specs.Calls.{unnamed}
use Rattle.interface.proofs.Lowering.{same_answer, same-listing, same-origins, over}
use Rattle.interface.proofs.lower_words.Goals as goal

pub slice_bounds-words-end : goal.slice_bounds-words-end
slice_bounds-words-end c =
    let k = (within c.args.sheet.now c.args.listing.now (replicate 256 0) (replicate 256 0) c.lower-a.ensures.0).count in
    search rules

pub slice_bounds-save-end : goal.slice_bounds-save-end
slice_bounds-save-end c =
    let k = (within c.args.sheet.now c.args.listing.now (replicate 256 0) (replicate 256 0) c.lower-a.ensures.0).count in
    sym (length-take-le _ _ (search rules))

pub slice_bounds-numbers-end : goal.slice_bounds-numbers-end
slice_bounds-numbers-end c =
    let k = (within c.args.sheet.now c.args.listing.now (replicate 256 0) (replicate 256 0) c.lower-a.ensures.0).count in
    search rules

pub slice_bounds-put_numbers-end : goal.slice_bounds-put_numbers-end
slice_bounds-put_numbers-end c =
    let k = (within c.args.sheet.now c.args.listing.now (replicate 256 0) (replicate 256 0) c.lower-a.ensures.0).count in
    sym (length-take-le _ _ (search rules))

pub put_numbers-requires : goal.put_numbers-requires
put_numbers-requires c =
    let k = (within c.args.sheet.now c.args.listing.now (replicate 256 0) (replicate 256 0) c.lower-a.ensures.0).count in
    let p = c.lower-a in
    let m = length-take-le p.result.count p.new.origins (search rules) in
    let o = c.requires.origins_len in
    omega (arith, k, m, o)

pub returns : goal.returns
unfolding unnamed
returns c =
    let a = c.args in
    let p = c.lower-a.ensures in
    let e = c.requires.constants_len in
    let below : (i : ℕ) → i < length a.constants.now → get_or a.constants.now i 0 < 256 = λ i h. search rules in (
      p.0 ∙ same_answer a.sheet.now a.listing.now a.constants.now (replicate 256 0) e refl below,
      p.1 ∙ same-listing a.sheet.now a.listing.now a.constants.now (replicate 256 0) e refl below,
      over a.sheet.now a.listing.now a.constants.now (replicate 256 0) e refl below p.0 p.2 c.save.ensures,
      same-origins a.sheet.now a.listing.now a.constants.now (replicate 256 0) e refl below a.origins.now p.0 p.3 c.put_numbers.ensures,
    )
