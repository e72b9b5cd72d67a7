-- The text for an answer of lowering, and for a sheet.
use Prim.Native.Nat.{ℕ, ◌-◌}
use mathlib.Core.Path.{◌≡◌, ap, ◌∙◌}
use mathlib.Core.Bool.{Bool}
use mathlib.Core.List.{List}
use native.Mathlib.Nat.{sub-zero}
use borrow.Author.Tests.{eq-eqb, ne_eqb}
use lib.ListN.{take, replicate}
use Rattle.complexify.specs.declared.entry.LowerAnswer.{LowerAnswer}
use Rattle.complexify.specs.Entry.{answer, listing_after, constants_after}
use Rattle.listing.specs.Printed.{page_of, refusal_of, text_of, printed_for}

module _ (named : Bool) (a : LowerAnswer) (constants listing : List ℕ) where
  pub refused-text : (a.number ≡ 0 → ⊥) → refusal_of named a.number a.index ≡ text_of named a constants listing
  refused-text h = simp (ne_eqb _ _ h)

  pub accepted-text : a.number ≡ 0 → page_of (take (a.count - 0) constants) (take (a.written - 0) listing) ≡ text_of named a constants listing
  accepted-text h = simp (sub-zero, eq-eqb _ _ h)

pub all_printed : (named : Bool) (sheet : List ℕ) {a : LowerAnswer} {constants listing : List ℕ} → a ≡ answer sheet (replicate 65536 0) (replicate 256 0) (replicate 256 0)
    → listing ≡ listing_after sheet (replicate 65536 0) (replicate 256 0) (replicate 256 0) → constants ≡ constants_after sheet (replicate 65536 0) (replicate 256 0) (replicate 256 0)
    → text_of named a constants listing ≡ printed_for named sheet
unfolding printed_for
all_printed named sheet {a} {constants} {listing} e f g =
    ap (λ a. text_of named a constants listing) e
    ∙ ap (λ k. text_of named (answer sheet (replicate 65536 0) (replicate 256 0) (replicate 256 0)) k listing) g
    ∙ ap (text_of named (answer sheet (replicate 65536 0) (replicate 256 0) (replicate 256 0)) (constants_after sheet (replicate 65536 0) (replicate 256 0) (replicate 256 0))) f
