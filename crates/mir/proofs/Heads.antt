-- What is known of a record whose head is read: its kind, and that its length is the kind's and within the bytes.
use Prim.Native.Nat.{ℕ, ◌≤◌}
use mathlib.Core.Path.{◌≡◌, sym, ap, ◌∙◌}
use mathlib.Core.Bool.{Bool, true, not}
use mathlib.Core.List.{List}
use native.Mathlib.Omega.{arith}
use lib.ListN.{length, get_or-eq_default}
use lib.Dec.{ltb, eqb}
use borrow.Author.Tests.{ltb-true, ltb-false, eqb-true, not-false}
use Rattle.mir.specs.Length.{lengths, length_of}
use Rattle.mir.specs.Read.{got}
use Rattle.mir.specs.Field.{u16_at, head_from}
use Rattle.mir.proofs.Passing.{either, passed}
use Rattle.mir.proofs.Puts.{longest}

-- a record has at most 11 bytes
pub at_most : (kind : ℕ) → length_of kind ≤ 11
unfolding length_of lengths
at_most kind =
    either (ltb kind 18)
    (λ t. longest kind (ltb-true kind 18 t))
    (λ f. let h = ltb-false kind 18 f in let e = get_or-eq_default lengths 0 {n = kind} h in omega arith)

-- the length of a record that is read
pub record Sized (s : List ℕ) : Type 0 where
  pub least : 4 ≤ u16_at s 0
  pub most : u16_at s 0 ≤ 11
  pub inside : u16_at s 0 ≤ length s
  pub rule : length_of (u16_at s 2) ≡ u16_at s 0

pub record Headed (takes : ℕ → Bool) (s : List ℕ) (kind : ℕ) : Type 0 where
  pub same : kind ≡ u16_at s 2
  pub taken : takes kind ≡ true
  pub sized : Sized s

pub headed : (takes : ℕ → Bool) (s : List ℕ) (kind : ℕ) → head_from takes s ≡ got kind → Headed takes s kind
unfolding head_from
headed takes s kind e =
    let a = passed (ltb (length s) 4) 1 _ kind e in
    let b = passed (ltb (u16_at s 0) 4) 1 _ kind a.rest in
    let c = passed (ltb (length s) (u16_at s 0)) 1 _ kind b.rest in
    let d = passed (not (takes (u16_at s 2))) 2 _ kind c.rest in
    let f = passed (not (eqb (length_of (u16_at s 2)) (u16_at s 0))) 1 _ kind d.rest in
    let same : u16_at s 2 ≡ kind = cc f.rest in
    let rule : length_of (u16_at s 2) ≡ u16_at s 0 = eqb-true _ _ (not-false _ f.test) in
    record {
      same = sym same;
      taken = ap takes (sym same) ∙ not-false (takes (u16_at s 2)) d.test;
      sized = record {
        least = ltb-false (u16_at s 0) 4 b.test;
        most = omega (arith, rule, at_most (u16_at s 2));
        inside = ltb-false (length s) (u16_at s 0) c.test;
        rule = rule;
      };
    }
