-- A record of realness stored as bytes.
use Prim.Native.Nat.{ℕ, ◌+◌, ◌≤◌, ◌<◌}
use mathlib.Core.Path.{◌≡◌, sym, ap, ◌∙◌}
use mathlib.Core.Bool.{Bool, false}
use mathlib.Core.List.{List, ◌++◌, map}
use native.Mathlib.Omega.{arith}
use lib.ListN.{length, drop, get_or, set, length-append, length-map, get_or-map}
use lib.Seq.{sets, length-sets}
use Rattle.mir.specs.Encode.{flag_byte}
use Rattle.words.specs.Bytes.{stored}
use Rattle.words.proofs.Copying.{turn, ended}
use Rattle.words.proofs.Lengths.{sets-append, sets_whole}
use Rattle.words.proofs.Stored.{stored_fits}
use Rattle.lowering.specs.declared.realness.Realness.{Realness}
use Rattle.lowering.specs.RecordBytes.{record_bytes}

module _ (l : List ℕ) (flags : List Bool) (at i : ℕ) where
  -- one flag more
  pub flag-stored : {v : ℕ} → v ≡ flag_byte (get_or flags i false) → i < length flags
      → sets (set l (at + i) v) (at + (i + 1)) (drop (i + 1) (map flag_byte flags)) ≡ sets l (at + i) (drop i (map flag_byte flags))
  flag-stored e h =
      ap (λ x. sets (set l (at + i) x) (at + (i + 1)) (drop (i + 1) (map flag_byte flags))) (e ∙ sym (get_or-map flag_byte flags i false))
      ∙ sym (turn l (map flag_byte flags) at i (omega (arith, h, length-map flags flag_byte)))

  -- none is left
  pub flags-ended : length flags ≤ i → sets l (at + i) (drop i (map flag_byte flags)) ≡ l
  flags-ended h = ended l (map flag_byte flags) at i (omega (arith, h, length-map flags flag_byte))

pub length_record : (ρ : Realness) → length ρ.regs ≡ 32 → length ρ.places ≡ 64 → length (record_bytes ρ) ≡ 96
length_record ρ h k =
    let a = length-append (map flag_byte ρ.regs) ρ.places in
    let b : length (map flag_byte ρ.regs) ≡ length ρ.regs = length-map ρ.regs flag_byte in
    omega (arith, a, b, h, k)

-- a list stored behind another
pub then_stored : (l a b : List ℕ) (n : ℕ) {m : List ℕ} → length a ≡ n → n + length b ≤ length l → m ≡ sets l 0 a
    → stored m n b ≡ sets l 0 (a ++ b)
then_stored l a b n h k e =
    let c : 0 + length a ≡ n = omega (arith, h) in
    ap (λ m. stored m n b) e
    ∙ stored_fits (sets l 0 a) n b (omega (arith, k, length-sets l 0 a))
    ∙ ap (λ i. sets (sets l 0 a) i b) (sym c)
    ∙ sym (sets-append l a b 0)

-- two lists that fill a third
pub both_stored : (l a b : List ℕ) (n : ℕ) {m : List ℕ} → length a ≡ n → n + length b ≡ length l → m ≡ sets l 0 a → stored m n b ≡ a ++ b
both_stored l a b n h k e =
    then_stored l a b n h (omega (arith, k)) e ∙ sets_whole l (a ++ b) (omega (arith, h, k, length-append a b))
