-- A sheet's instructions one after the other: each has its length, and what `read_instruction` answers says what stands at a position.
use Prim.Native.Nat.{ℕ, ◌+◌, ◌<◌}
use mathlib.Core.Path.{◌≡◌, sym, ap, ◌∙◌}
use mathlib.Core.Bool.{false}
use mathlib.Core.List.{List}
use lib.ListN.{length, drop}
use lib.Seq.{drop-drop}
use Rattle.mir.specs.declared.records.Instruction.{Instruction}
use Rattle.mir.specs.Read.{got}
use Rattle.mir.specs.Field.{u16_at, takes_kind, head_from}
use Rattle.mir.specs.declared.refusal.Refusal.{Refusal}
use Rattle.mir.specs.Refusal.{number}
use Rattle.mir.specs.Decode.{read_at, as_next}
use Rattle.std.specs.Prelude.{Ok, Err, Result}
use Rattle.mir.proofs.Passing.{then, got_same}
use Rattle.mir.proofs.Heads.{headed}
use Rattle.mir.proofs.Decoding.{Whole, Here, Done, here, torn}
use Rattle.sheet.specs.Instruction.{fields_from, instruction_from, instruction_at}

pub whole : (count : ℕ) → Whole (instruction_from count)
unfolding instruction_from
whole count = record {
  sized = λ s i e.
      let t = then (head_from (takes_kind false) s) (λ kind. fields_from count kind s) i e in
      (headed (takes_kind false) s t.first t.found).sized;
}

module _ (count : ℕ) (s : List ℕ) (at : ℕ) {r : Result (Instruction × ℕ) Refusal} where
  pub here-instruction : {i : Instruction} {next : ℕ} → as_next r ≡ instruction_at count s at → r ≡ Ok (i, next)
      → Here (instruction_from count) s at i next
  here-instruction {i} {next} e f = here (instruction_from count) s at (whole count) i next (sym e ∙ ap as_next f)

  -- its length leads to the next position
  pub past-instruction : {i : Instruction} {next : ℕ} → as_next r ≡ instruction_at count s at → r ≡ Ok (i, next)
      → drop (u16_at (drop at s) 0) (drop at s) ≡ drop next s
  unfolding read_at
  past-instruction {i} {next} e f =
      let n = u16_at (drop at s) 0 in
      let t = then (instruction_from count (drop at s)) (λ i. got (record { item = i; next = at + n })) (record { item = i; next = next })
      (sym e ∙ ap as_next f) in
      drop-drop n at s ∙ ap (λ y. drop y.next s) (got_same _ _ t.rest)

  pub torn-instruction : {k : Refusal} → as_next r ≡ instruction_at count s at → r ≡ Err k → at < length s
      → Done (instruction_from count) s at (number k)
  torn-instruction {k} e f h = torn (instruction_from count) s at (number k) (sym e ∙ ap as_next f) h
