-- The player's machine (document 01, Player; document 02, d), over a listing's decoded records.
use Rattle.std.specs.Prelude.{ℕ, zero, suc, ◌+◌, ◌*◌, Bool, true, false, not, cond, List, [], ◌∷◌, length, drop, get_or, set, eqb}
use Rattle.std.proofs.Math.Option.{Option, none, some}
use Rattle.mir.specs.declared.ops.UniOp.{UniOp}
use Rattle.mir.specs.declared.ops.BinOp.{BinOp}
use Rattle.mir.specs.declared.ops.ArithOp.{ArithOp}
use Rattle.mir.specs.declared.ops.FusedOp.{FusedOp}
use Rattle.mir.specs.declared.records.Loc.{Loc}
use Rattle.mir.specs.declared.records.Work.{Work}
use Rattle.mir.specs.declared.records.Record.{Record}
use Rattle.mir.specs.Place.{class, index}
use Rattle.float.specs.Word as Word

-- "The store is 1,602 u64 words: the 66 registers, then 256 pairs each of Stack, Mem, Param."
abbrev pub Store : Type 0
Store = List ℕ

-- the word at an index; a register's index is its number
abbrev pub at : Store → ℕ → ℕ
at σ w = get_or σ w 0

-- "Each place has two words, real then imaginary": the index of the real word, which the imaginary word follows
abbrev pub place : Loc → ℕ
place p = 66 + (512 * class p + 2 * index p)

-- the operations of a record on words; a listing takes only those that have a meaning here, and of any other the first word stays
unfoldable pub uni_word : UniOp → ℕ → ℕ
uni_word UniOp.Neg a = Word.neg a
uni_word UniOp.Not a = Word.not a
uni_word UniOp.Abs a = Word.abs a
uni_word UniOp.Root a = Word.root a
uni_word UniOp.RealRoot a = a
uni_word UniOp.Recip a = Word.recip a
uni_word UniOp.Round a = Word.round a
uni_word UniOp.Floor a = Word.floor a
uni_word UniOp.Ceiling a = Word.ceiling a
uni_word UniOp.Trunc a = Word.trunc a
uni_word UniOp.Real a = a
uni_word UniOp.Imaginary a = a
uni_word UniOp.Conjugate a = a
uni_word UniOp.Half a = Word.half a
uni_word UniOp.IsZero a = Word.is_zero a
uni_word UniOp.IsNotZero a = a
uni_word UniOp.Sign a = Word.sign a
uni_word UniOp.Abs2 a = a
uni_word UniOp.TimesI a = a
uni_word UniOp.TimesNegI a = a

unfoldable pub bin_word : BinOp → ℕ → ℕ → ℕ
bin_word BinOp.Plus a b = Word.plus a b
bin_word BinOp.Minus a b = Word.minus a b
bin_word BinOp.Times a b = Word.times a b
bin_word BinOp.Divide a b = Word.divide a b
bin_word BinOp.GreaterThan a b = Word.greater_than a b
bin_word BinOp.GreaterThanEqual a b = Word.greater_than_equal a b
bin_word BinOp.LittleThan a b = Word.little_than a b
bin_word BinOp.LittleThanEqual a b = Word.little_than_equal a b
bin_word BinOp.Equal a b = Word.equal a b
bin_word BinOp.NotEqual a b = Word.not_equal a b
bin_word BinOp.And a b = Word.and a b
bin_word BinOp.AndNot a b = a
bin_word BinOp.Or a b = Word.or a b
bin_word BinOp.Xor a b = Word.xor a b
bin_word BinOp.Complex a b = a

unfoldable pub fused_word : FusedOp → ℕ → ℕ → ℕ → ℕ
fused_word FusedOp.MulAdd a b c = Word.mul_add a b c
fused_word FusedOp.MulSub a b c = a
fused_word FusedOp.NegMulAdd a b c = a
fused_word FusedOp.NegMulSub a b c = a

unfoldable pub complex_words : ArithOp → ℕ → ℕ → ℕ → ℕ → ℕ × ℕ
complex_words ArithOp.Plus x1 y1 x2 y2 = Word.complex_plus x1 y1 x2 y2
complex_words ArithOp.Minus x1 y1 x2 y2 = Word.complex_minus x1 y1 x2 y2
complex_words ArithOp.Times x1 y1 x2 y2 = Word.complex_times x1 y1 x2 y2
complex_words ArithOp.Divide x1 y1 x2 y2 = Word.complex_divide x1 y1 x2 y2

-- a store index and the word that it then holds
pub data Write : Type 0 where
  ◌≔◌ : ℕ → ℕ → Write

infix 80 ◌≔◌
-- What a record writes, in order; its operands are read before. "plain Load and Save use the real one"; "IfElse takes a bit from true
-- where the place's real word has a one, else from false"; "ComplexBi reads its four operands before writing"; "Of two destinations the
-- first is written first". `constants` is the table lent with the listing.
unfoldable pub writes : List ℕ → Store → Work → List Write
writes constants σ (Work.Uni op dst s1) = dst ≔ uni_word op (at σ s1) ∷ []
writes constants σ (Work.Bi op dst s1 s2) = dst ≔ bin_word op (at σ s1) (at σ s2) ∷ []
writes constants σ (Work.Mov dst s1) = dst ≔ at σ s1 ∷ []
writes constants σ (Work.Load dst p) = dst ≔ at σ (place p) ∷ []
writes constants σ (Work.Save src p) = place p ≔ at σ src ∷ []
writes constants σ (Work.LoadConst dst idx) = dst ≔ get_or constants idx 0 ∷ []
writes constants σ (Work.Fused op dst a b c) = dst ≔ fused_word op (at σ a) (at σ b) (at σ c) ∷ []
writes constants σ (Work.IfElse dst t f p) = dst ≔ Word.if_else (at σ (place p)) (at σ t) (at σ f) ∷ []
writes constants σ (Work.LoadComplex xd yd p) = xd ≔ at σ (place p) ∷ yd ≔ at σ (suc (place p)) ∷ []
writes constants σ (Work.SaveComplex xs ys p) = place p ≔ at σ xs ∷ suc (place p) ≔ at σ ys ∷ []
writes constants σ (Work.ComplexBi op xd yd x1 y1 x2 y2) =
    xd ≔ (complex_words op (at σ x1) (at σ y1) (at σ x2) (at σ y2)).0
    ∷ yd ≔ (complex_words op (at σ x1) (at σ y1) (at σ x2) (at σ y2)).1
    ∷ []

-- "Of two destinations the first is written first"
unfoldable pub put : List Write → Store → Store
put [] σ = σ
put (i ≔ v ∷ ws) σ = put ws (set σ i v)

-- one working record, and some one after the other
unfoldable pub exec : List ℕ → Work → Store → Store
exec constants w σ = put (writes constants σ w) σ

unfoldable pub execs : List ℕ → List Work → Store → Store
execs constants [] σ = σ
execs constants (w ∷ ws) σ = execs constants ws (exec constants w σ)

-- the working records that stand first
unfoldable pub works : List Record → List Work
works [] = []
works (Record.Work w ∷ rs) = w ∷ works rs
works (Record.Label l ∷ rs) = []
works (Record.Branch l ∷ rs) = []
works (Record.Call l ∷ rs) = []
works (Record.BranchIf c l e ∷ rs) = []

-- is a record Label l?
unfoldable pub is_label : ℕ → Record → Bool
is_label l (Record.Work w) = false
is_label l (Record.Label m) = eqb m l
is_label l (Record.Branch m) = false
is_label l (Record.Call m) = false
is_label l (Record.BranchIf c m e) = false

-- the records from the first Label l on
unfoldable pub seek : ℕ → List Record → List Record
seek l [] = []
seek l (r ∷ rs) = cond (is_label l r) (r ∷ rs) (seek l rs)

-- "The block runs from Label 1 to the first Branch 0 after it, with no other Label, Branch or Call inside": the records between the two
unfoldable pub block : List Record → List Work
block rs = works (drop 1 (seek 1 rs))

-- where a play ends: the store, and how many records were reached
pub record End : Type 0 where
  pub store : Store
  pub played : ℕ

-- n records more
unfoldable pub ticks : ℕ → End → End
ticks n e = record { store = e.store; played = n + e.played }

-- document 02, d): "The player branches when the condition word is not all zero, or when it is zero if the byte is 1"
abbrev pub branches : Bool → ℕ → Bool
branches true w = eqb w 0
branches false w = not (eqb w 0)

-- A play goes on with the next record, or seeks the Label of a Branch.
pub data Way : Type 0 where
  going : Way
  seeking : ℕ → Way

-- A play of the records that are left, with the block b. "Each record reached counts, Labels and jumps too; a jump reaches its Label":
-- jumps go forward, and what a jump passes over is not reached. A Call reaches its own record, Label 1, the block and Branch 0.
-- "Branch 0 returns, or ends a play outside a call."
unfoldable pub play : List ℕ → List Work → Way → List Record → Store → End
play constants b going [] σ = record { store = σ; played = 0 }
play constants b going (Record.Work w ∷ rs) σ = ticks 1 (play constants b going rs (exec constants w σ))
play constants b going (Record.Label l ∷ rs) σ = ticks 1 (play constants b going rs σ)
play constants b going (Record.Branch l ∷ rs) σ =
    cond (eqb l 0) (record { store = σ; played = 1 }) (ticks 1 (play constants b (seeking l) rs σ))
play constants b going (Record.Call l ∷ rs) σ = ticks (3 + length b) (play constants b going rs (execs constants b σ))
play constants b going (Record.BranchIf c l e ∷ rs) σ =
    ticks 1 (cond (branches e (at σ c)) (play constants b (seeking l) rs σ) (play constants b going rs σ))
play constants b (seeking l) [] σ = record { store = σ; played = 0 }
play constants b (seeking l) (Record.Work w ∷ rs) σ = play constants b (seeking l) rs σ
play constants b (seeking l) (Record.Label m ∷ rs) σ =
    cond (eqb m l) (ticks 1 (play constants b going rs σ)) (play constants b (seeking l) rs σ)
play constants b (seeking l) (Record.Branch m ∷ rs) σ = play constants b (seeking l) rs σ
play constants b (seeking l) (Record.Call m ∷ rs) σ = play constants b (seeking l) rs σ
play constants b (seeking l) (Record.BranchIf c m e ∷ rs) σ = play constants b (seeking l) rs σ

-- The store with which a play of these records stands at record n outside a call; none where a jump passes over n or the play ends before.
unfoldable pub reach : List ℕ → List Work → Way → ℕ → List Record → Store → Option Store
reach constants b going zero rs σ = some σ
reach constants b going (suc n) [] σ = none
reach constants b going (suc n) (Record.Work w ∷ rs) σ = reach constants b going n rs (exec constants w σ)
reach constants b going (suc n) (Record.Label l ∷ rs) σ = reach constants b going n rs σ
reach constants b going (suc n) (Record.Branch l ∷ rs) σ = cond (eqb l 0) none (reach constants b (seeking l) n rs σ)
reach constants b going (suc n) (Record.Call l ∷ rs) σ = reach constants b going n rs (execs constants b σ)
reach constants b going (suc n) (Record.BranchIf c l e ∷ rs) σ =
    cond (branches e (at σ c)) (reach constants b (seeking l) n rs σ) (reach constants b going n rs σ)
reach constants b (seeking l) zero [] σ = none
reach constants b (seeking l) zero (r ∷ rs) σ = cond (is_label l r) (some σ) none
reach constants b (seeking l) (suc n) [] σ = none
reach constants b (seeking l) (suc n) (Record.Work w ∷ rs) σ = reach constants b (seeking l) n rs σ
reach constants b (seeking l) (suc n) (Record.Label m ∷ rs) σ =
    cond (eqb m l) (reach constants b going n rs σ) (reach constants b (seeking l) n rs σ)
reach constants b (seeking l) (suc n) (Record.Branch m ∷ rs) σ = reach constants b (seeking l) n rs σ
reach constants b (seeking l) (suc n) (Record.Call m ∷ rs) σ = reach constants b (seeking l) n rs σ
reach constants b (seeking l) (suc n) (Record.BranchIf c m e ∷ rs) σ = reach constants b (seeking l) n rs σ
