-- A record of realness as bytes.
use Rattle.std.specs.Prelude.{ℕ, List, ◌++◌, map}
use Rattle.mir.specs.Encode.{flag_byte}
use Rattle.lowering.specs.declared.realness.Realness.{Realness}

-- a record of realness in 96 bytes: the registers' flags, 1 where one is recorded as real, then the places
abbrev pub record_bytes : Realness → List ℕ
record_bytes ρ = map flag_byte ρ.regs ++ ρ.places
