-- What a reader promises where the caller has found the operation.
use Rattle.std.specs.Prelude.{ℕ, Bool, List}
use Rattle.mir.specs.declared.ops.UniOp.{UniOp}
use Rattle.mir.specs.declared.ops.BinOp.{BinOp}
use Rattle.mir.specs.declared.ops.FusedOp.{FusedOp}
use Rattle.mir.specs.declared.records.Instruction.{Instruction}
use Rattle.mir.specs.Read.{Read, got, and_then, registers}
use Rattle.mir.specs.Field.{byte_at, bytes_at}
use Rattle.mir.specs.Kinds.{last_register}

-- Uni, Bi and Fused behind their operation, which was found or is refused
abbrev pub uni_behind : Bool → Read UniOp → List ℕ → Read Instruction
uni_behind listing found s =
    and_then found (λ op. registers (last_register listing) (bytes_at s 5 2) (got (Instruction.Uni op (byte_at s 5) (byte_at s 6))))

abbrev pub bi_behind : Bool → Read BinOp → List ℕ → Read Instruction
bi_behind listing found s =
    and_then found (λ op. registers (last_register listing) (bytes_at s 5 3) (got (Instruction.Bi op (byte_at s 5) (byte_at s 6) (byte_at s 7))))

abbrev pub fused_behind : Bool → Read FusedOp → List ℕ → Read Instruction
fused_behind listing found s =
    and_then found
    (λ op.
    registers (last_register listing) (bytes_at s 5 4)
    (got (Instruction.Fused op (byte_at s 5) (byte_at s 6) (byte_at s 7) (byte_at s 8))))
