-- `put_sheet` meets its contract. Assumes nothing.
use borrow.Author.Rules.{rules}
use native.Mathlib.Omega.{arith}
use Prim.Native.Nat.{ℕ}
use mathlib.Core.Path.{◌∙◌}
use lib.ListN.{replicate, length-replicate}
use Rattle.complexify.proofs.Within.{within}
use Rattle.text.proofs.Putting.{renamed}
use Rattle.listing.proofs.Answering.{all_printed}
use Rattle.listing.proofs.put_sheet.Statement.{statement}
use Rattle.listing.proofs.put_sheet.Tie as tie

pub put_sheet_spec : {M : Type 1} → statement M
put_sheet_spec =
    tie.close
    (tie.spec
    (λ c. search rules) (λ c. search rules) (λ c. search rules) (λ c κs. search rules) (λ c. search rules) (λ c. search rules)
    (λ c κs.
    let l = c.lower-a in
    let h = l.auto.listing ∙ length-replicate {A = ℕ} 65536 0 in
    let k = l.auto.constants ∙ length-replicate {A = ℕ} 256 0 in
    let w = within c.args.sheet.now (replicate 65536 0) (replicate 256 0) (replicate 256 0) l.ensures.0 in
    let n = length-replicate {A = ℕ} 65536 0 in
    omega (arith, h, k, n, w.written, w.count))
    (λ c. search rules)
    (λ c.
    let e = c.lower-a.ensures in
    let p = c.put_text.ensures in
    renamed (all_printed c.args.named c.args.sheet.now e.0 e.1 e.2) p))
