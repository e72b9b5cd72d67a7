-- `float::wide::jam_word` meets its contract. Assumes nothing.
use mathlib.Core.Path.{◌≡◌, sym, ◌∙◌, subst}
use mathlib.Core.Logic.{inl}
use Prim.Native.Nat.{ℕ, ◌+◌, ◌-◌, ◌%◌, ◌^◌, ◌<◌}
use native.Mathlib.Omega.{arith}
use lib.Pow.{pow_pos, high, low}
use borrow.Author.Rules.{rules}
use Rattle.float.specs.Near.{Near, both}
use Rattle.float.proofs.Sticky.{jam_near}
use Rattle.float.proofs.wide.jam_word.Statement.{statement}
use Rattle.float.proofs.wide.jam_word.Tie as tie

sub-result : tie.Need-overflow_sub-result
sub-result c = search rules

add-result : tie.Need-overflow_add-result
add-result c = search rules

exact : (hi lo : ℕ) → lo ≡ 0 → Near (both hi lo) hi (2 ^ 64)
exact hi lo e = inl (omega arith)

jammed : (hi lo : ℕ) → lo < 2 ^ 64 → (lo ≡ 0 → ⊥) → Near (both hi lo) (hi + (1 - hi % 2)) (2 ^ 64)
jammed hi lo h n =
    subst (λ (q : ℕ). Near (both hi lo) (q + (1 - q % 2)) (2 ^ 64)) (high hi 64 h)
    (jam_near (both hi lo) (2 ^ 64) (pow_pos 64) (λ (e : both hi lo % 2 ^ 64 ≡ 0). n (sym (low hi 64 h) ∙ e)))

returns : tie.Need-returns-then-v-eq0
returns c = let v = c.args.v in exact v.hi v.lo c.if-v-eq0.true

returns-2 : tie.Need-returns-else-v-eq0
returns-2 c =
    let v = c.args.v in
    let h : v.lo < 2 ^ 64 = omega arith in
    jammed v.hi v.lo h c.if-v-eq0.false

pub jam_word_spec : {M : Type 1} → statement M
jam_word_spec = tie.close (tie.spec sub-result add-result returns returns-2)
