-- `record_bytes` meets its contract.
use borrow.Author.Rules.{rules}
use native.Mathlib.Omega.{arith}
use mathlib.Core.Path.{◌≡◌, ◌∙◌}
use mathlib.Core.List.{map}
use lib.ListN.{length, replicate, length-map}
use Rattle.mir.specs.Encode.{flag_byte}
use Rattle.words.proofs.Stored.{stored_fits}
use Rattle.lowering.proofs.RecordStored.{both_stored}
use Rattle.lowering.proofs.bytes.record_bytes.Statement.{statement}
use Rattle.lowering.proofs.bytes.record_bytes.Tie as tie

pub record_bytes_spec : {M : Type 1} → statement M
record_bytes_spec =
    tie.close
    (tie.spec
    (λ c. search rules) (λ c. search rules) (λ c κs. search rules) (λ c. search rules) (λ c. search rules) (λ c κs. search rules)
    (λ c. let ρ = c.args.real in let h : length ρ.regs ≡ 32 = search rules in let k : length ρ.places ≡ 64 = search rules in let n = length-map ρ.regs flag_byte in
    c.put.ensures
    ∙ both_stored (replicate 96 0) (map flag_byte ρ.regs) ρ.places 32 (n ∙ h) (omega (arith, k))
    (c.put_flags.ensures ∙ stored_fits (replicate 96 0) 0 (map flag_byte ρ.regs) (omega (arith, h, n)))))
