-- Registers (document 01, Sheet and Lowering): utils.rs's `Reg` by number, and complexify.rs's `re` and `im`.
use Rattle.std.specs.Prelude.{ℕ, ◌+◌, ◌*◌, cond, ltb, eqb}

-- "Sheet registers: 0 to 29 general, 30 Ret, 31 Temp."
abbrev pub Ret : ℕ
Ret = 30

abbrev pub Temp : ℕ
Temp = 31

-- "Listing registers 2 and 3 are scratch": complexify.rs's `T0` and `T1`
abbrev pub T0 : ℕ
T0 = 2

abbrev pub T1 : ℕ
T1 = 3

-- "general r becomes listing registers 4 + 2r and 5 + 2r; Ret becomes Ret and Temp; Temp becomes 0 and 1"; of a listing,
-- "0 to 63 general, 64 Ret, 65 Temp"
unfoldable pub re : ℕ → ℕ
re r = cond (ltb r 30) (4 + 2 * r) (cond (eqb r 30) 64 0)

unfoldable pub im : ℕ → ℕ
im r = cond (ltb r 30) (5 + 2 * r) (cond (eqb r 30) 65 1)
