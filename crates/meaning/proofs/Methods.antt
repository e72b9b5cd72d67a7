-- Each method that only lists lines computes its operation, in every case of realness.
use mathlib.Core.Path.{refl}
use mathlib.Core.List.{List}
use Prim.Native.Nat.{ℕ, ◌<◌}
use Rattle.mir.specs.declared.ops.UniOp.{UniOp}
use Rattle.mir.specs.declared.ops.BinOp.{BinOp}
use Rattle.mir.specs.declared.records.Work.{Work}
use Rattle.float.specs.Word as Word
use Rattle.player_machine.specs.Machine.{uni_word, bin_word, complex_words}
use Rattle.lowering.specs.Lines.{fmov_lines, each_lines, minding_half_lines, abs2_lines, timesILines, timesNegILines, plus_lines, minus_lines, times_lines}
use Rattle.lowering.specs.Lines.{real_lines, imaginary_lines, conjugate_lines, complex_lines, order_lines, bits_lines, not_lines}
use Rattle.lowering.specs.Complexifier as c
use Rattle.lowering.specs.Complexifier.{State, one_by_one, by_two, copied, as_real, as_complex, promoted, both_as_real, both_as_complex}
use Rattle.leftovers.proofs.Names.{rename}
use Rattle.meaning.specs.Value as Value
use Rattle.meaning.specs.Value.{R, C, re_of, im_of}
use Rattle.meaning.specs.Means.{put}
use Rattle.meaning.proofs.Eval.{run}
use Rattle.meaning.proofs.Leaf.{passes}
use Rattle.meaning.proofs.Stretch.{by, Does, unary, binary}

module _ (k : List ℕ) (B : List Work) (s : State) where
  module _ (d a : ℕ) (hd : d < 32) (ha : a < 32) where
    pub mov-does : Does k B (λ X. put d (X.reg a) X) s (c.fmov d a s)
    unfolding c.fmov fmov_lines passes rename run
    mov-does = unary k B s fmov_lines copied (λ v. v) d a hd ha (tt, refl, λ ω. refl) (tt, refl, λ ω. refl)

    pub each-does : (op : UniOp) → Does k B (λ X. put d (Value.each (uni_word op) (X.reg a)) X) s (one_by_one (each_lines op) copied d a s)
    unfolding each_lines passes rename run Value.each
    each-does op = unary k B s (each_lines op) copied (Value.each (uni_word op)) d a hd ha (tt, refl, λ ω. refl) (tt, refl, λ ω. refl)

    -- Half in mode 2
    pub minding-half-does : Does k B (λ X. put d (Value.each Word.half (X.reg a)) X) s (c.minding_half d a s)
    unfolding c.minding_half minding_half_lines passes rename run uni_word Value.each
    minding-half-does = unary k B s minding_half_lines copied (Value.each Word.half) d a hd ha (tt, refl, λ ω. refl) (tt, refl, λ ω. refl)

    pub conjugate-does : Does k B (λ X. put d (Value.conjugate (X.reg a)) X) s (one_by_one conjugate_lines copied d a s)
    unfolding conjugate_lines passes rename run uni_word Value.conjugate
    conjugate-does = unary k B s conjugate_lines copied Value.conjugate d a hd ha (tt, refl, λ ω. refl) (tt, refl, λ ω. refl)

    pub times-i-does : Does k B (λ X. put d (Value.times_i (X.reg a)) X) s (one_by_one timesILines as_complex d a s)
    unfolding timesILines passes rename run uni_word Value.times_i
    times-i-does = unary k B s timesILines as_complex Value.times_i d a hd ha (tt, refl, λ ω. refl) (tt, refl, λ ω. refl)

    pub times-neg-i-does : Does k B (λ X. put d (Value.times_neg_i (X.reg a)) X) s (one_by_one timesNegILines as_complex d a s)
    unfolding timesNegILines passes rename run uni_word Value.times_neg_i
    times-neg-i-does = unary k B s timesNegILines as_complex Value.times_neg_i d a hd ha (tt, refl, λ ω. refl) (tt, refl, λ ω. refl)

    pub abs2-does : Does k B (λ X. put d (Value.abs2 (X.reg a)) X) s (one_by_one abs2_lines copied d a s)
    unfolding abs2_lines passes rename run bin_word Value.abs2
    abs2-does = unary k B s abs2_lines copied Value.abs2 d a hd ha (tt, refl, λ ω. refl) (tt, refl, λ ω. refl)

    pub real-does : Does k B (λ X. put d (R (re_of (X.reg a))) X) s (one_by_one real_lines as_real d a s)
    unfolding real_lines passes rename run re_of
    real-does = unary k B s real_lines as_real (λ v. R (re_of v)) d a hd ha (tt, refl, λ ω. refl) (tt, refl, λ ω. refl)

    pub imaginary-does : Does k B (λ X. put d (R (im_of (X.reg a))) X) s (one_by_one imaginary_lines as_real d a s)
    unfolding imaginary_lines passes rename run im_of
    imaginary-does = unary k B s imaginary_lines as_real (λ v. R (im_of v)) d a hd ha (tt, refl, λ ω. refl) (tt, refl, λ ω. refl)

    pub not-does : Does k B (λ X. put d (R (Word.not (re_of (X.reg a)))) X) s (one_by_one not_lines as_real d a s)
    unfolding not_lines passes rename run uni_word re_of
    not-does = unary k B s not_lines as_real (λ v. R (Word.not (re_of v))) d a hd ha (tt, refl, λ ω. refl) (tt, refl, λ ω. refl)

  module _ (d a b : ℕ) (hd : d < 32) (ha : a < 32) (hb : b < 32) where
    pub plus-does : Does k B (by Value.plus d a b) s (c.plus d a b s)
    unfolding c.plus plus_lines passes rename run bin_word complex_words Value.plus
    plus-does =
        binary k B s plus_lines promoted Value.plus d a b hd ha hb (tt, refl, λ ω. refl) (tt, refl, λ ω. refl) (tt, refl, λ ω. refl) (tt, refl, λ ω. refl)

    pub minus-does : Does k B (by Value.minus d a b) s (c.minus d a b s)
    unfolding c.minus minus_lines passes rename run uni_word bin_word complex_words Value.minus
    minus-does =
        binary k B s minus_lines promoted Value.minus d a b hd ha hb (tt, refl, λ ω. refl) (tt, refl, λ ω. refl) (tt, refl, λ ω. refl) (tt, refl, λ ω. refl)

    pub times-does : Does k B (by Value.times d a b) s (c.times d a b s)
    unfolding c.times times_lines passes rename run bin_word complex_words Value.times
    times-does =
        binary k B s times_lines promoted Value.times d a b hd ha hb (tt, refl, λ ω. refl) (tt, refl, λ ω. refl) (tt, refl, λ ω. refl) (tt, refl, λ ω. refl)

    pub bits-does : (op : BinOp) → Does k B (by (Value.bits (bin_word op)) d a b) s (c.bits op d a b s)
    unfolding c.bits bits_lines passes rename run Value.bits
    bits-does op =
        binary k B s (bits_lines op) promoted (Value.bits (bin_word op)) d a b hd ha hb (tt, refl, λ ω. refl) (tt, refl, λ ω. refl) (tt, refl, λ ω. refl) (tt, refl, λ ω. refl)

    pub order-does : (op : BinOp) → Does k B (by (Value.order (bin_word op)) d a b) s (by_two (order_lines op) both_as_real d a b s)
    unfolding order_lines passes rename run re_of
    order-does op =
        binary k B s (order_lines op) both_as_real (Value.order (bin_word op)) d a b hd ha hb (tt, refl, λ ω. refl) (tt, refl, λ ω. refl) (tt, refl, λ ω. refl) (tt, refl, λ ω. refl)

    pub complex-does : Does k B (by (λ x y. C (re_of x) (re_of y)) d a b) s (by_two complex_lines both_as_complex d a b s)
    unfolding complex_lines passes rename run re_of
    complex-does =
        binary k B s complex_lines both_as_complex (λ x y. C (re_of x) (re_of y)) d a b hd ha hb (tt, refl, λ ω. refl) (tt, refl, λ ω. refl) (tt, refl, λ ω. refl) (tt, refl, λ ω. refl)
