-- The part that is filled, between what stands before and behind it.
use Rattle.std.proofs.Common.{arith, sym, ap, ◌∙◌, ◌≡◌, ◌-◌, ◌+◌, length, take, drop, length-drop, ◌++◌, append_assoc}
use lib.ListN.{replicate, length-replicate}
use lib.Seq.{length-take-le}
use borrow.Rule.Slice.PartMut.{put_mid}
use Rattle.std.proofs.lemmas.List.{drop-drop}
use Rattle.std.proofs.lemmas.List.Edits.{sets-eq}
use Rattle.complexify.proofs.copying.put_origins.Goals as goal

pub returns : goal.returns
returns c =
    let a = c.args in
    let n = a.end - a.start in
    let d = length-drop a.start a.origins.now in
    let k : length (take n (drop a.start a.origins.now)) ≡ n = length-take-le n (drop a.start a.origins.now) (omega (arith, d)) in
    let f : c.fill.new.self ≡ replicate n a.origin = c.fill.ensures.after (λ y e. e) ∙ ap (λ m. replicate m a.origin) k in
    let r : length (replicate n a.origin) ≡ n = length-replicate n a.origin in
    let e = sets-eq (replicate n a.origin) a.origins.now a.start (omega (arith, r)) in
    ap (put_mid a.start n a.origins.now) f ∙ sym (rw r at e ∙ append_assoc (take a.start a.origins.now) (replicate n a.origin) (drop (a.start + n) a.origins.now) ∙ ap (λ t. take a.start a.origins.now ++ (replicate n a.origin ++ t)) (sym (drop-drop n a.start a.origins.now)))
