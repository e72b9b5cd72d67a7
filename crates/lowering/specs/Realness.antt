-- The record of realness: complexify.rs's `real_regs` and `real_locs`, the set of places as the 64 bytes of a sheet's header.
use Rattle.std.specs.Prelude.{ℕ, ◌+◌, ◌-◌, ◌/◌, ◌%◌, ◌^◌, Bool, true, false, cond, ◌&&◌, List, get_or, set, replicate, eqb}
use Rattle.mir.specs.declared.records.Loc.{Loc}
use Rattle.lowering.specs.declared.realness.Realness.{Realness}

-- "bit i mod 8 of byte i div 8"
abbrev pub byte_of : List ℕ → ℕ → ℕ
byte_of places i = get_or places (i / 8) 0

abbrev pub bit_at : List ℕ → ℕ → Bool
bit_at places i = eqb (byte_of places i / 2 ^ (i % 8) % 2) 1

-- the bit cleared
abbrev pub clear_at : List ℕ → ℕ → List ℕ
clear_at places i = set places (i / 8) (cond (bit_at places i) (byte_of places i - 2 ^ (i % 8)) (byte_of places i))

-- `is_real_loc`: the bits of Stack, then "the next 32 bytes likewise for Param"; "Mem is always complex"
unfoldable pub is_real_loc : List ℕ → Loc → Bool
is_real_loc places (Loc.Stack i) = bit_at places i
is_real_loc places (Loc.Mem i) = false
is_real_loc places (Loc.Param i) = bit_at places (256 + i)

-- `is_real_reg`
abbrev pub is_real_reg : Realness → ℕ → Bool
is_real_reg ρ r = get_or ρ.regs r false

-- `set_loc_complex`: "A save to Stack removes that place from the real ones."
unfoldable pub without_loc : List ℕ → Loc → List ℕ
without_loc places (Loc.Stack i) = clear_at places i
without_loc places (Loc.Mem i) = places
without_loc places (Loc.Param i) = clear_at places (256 + i)

abbrev pub set_loc_complex : Realness → Loc → Realness
set_loc_complex ρ p = record { regs = ρ.regs; places = without_loc ρ.places p }

-- a record's realness
abbrev pub real : Bool
real = true

abbrev pub complex : Bool
complex = false

-- a register recorded as real or complex
abbrev pub set_reg : Realness → ℕ → Bool → Realness
set_reg ρ r f = record { regs = set ρ.regs r f; places = ρ.places }

-- `set_reg_real`, `set_reg_complex`, `copy_real`, `promote_real`
abbrev pub set_reg_real : Realness → ℕ → Realness
set_reg_real ρ dst = set_reg ρ dst real

abbrev pub set_reg_complex : Realness → ℕ → Realness
set_reg_complex ρ dst = set_reg ρ dst complex

abbrev pub copy_real : Realness → ℕ → ℕ → Realness
copy_real ρ dst s1 = set_reg ρ dst (is_real_reg ρ s1)

abbrev pub promote_real : Realness → ℕ → ℕ → ℕ → Realness
promote_real ρ dst s1 s2 = set_reg ρ dst (is_real_reg ρ s1 && is_real_reg ρ s2)

-- "Every register starts recorded as complex."
abbrev pub fresh : List ℕ → Realness
fresh places = record { regs = replicate 32 complex; places = places }
