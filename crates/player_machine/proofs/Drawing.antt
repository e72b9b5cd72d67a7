-- A record depends only on the words that it draws on, and changes only the words that it fills.
use Prim.Native.Nat.{ℕ}
use mathlib.Core.Path.{◌≡◌, refl, sym, ◌∙◌}
use mathlib.Core.Bool.{Bool, true, false, cond, ◌&&◌}
use mathlib.Core.List.{List, [], ◌∷◌, map}
use lib.ListN.{length, set, length-set}
use lib.Seq.{get_or-set_other}
use lib.Dec.{T, eqb, eqb→eq}
use lib.Bits.{xor_self}
use Rattle.mir.specs.declared.ops.BinOp.{BinOp}
use Rattle.mir.specs.declared.records.Work.{Work}
use Rattle.player_machine.specs.Machine.{Store, at, bin_word, Write, ◌≔◌, writes, put, exec}
use Rattle.player_machine.specs.Draws.{is_xor, draws, fills, target, AgreeAt, done, same, Off, clear, other, Confined}

-- a Xor of equal operands writes 0, whatever they held
pub xor-zero : (x : ℕ) → bin_word BinOp.Xor x x ≡ 0
unfolding bin_word
xor-zero x = xor_self x

xor_is : (op : BinOp) → T (is_xor op) → op ≡ BinOp.Xor
xor_is BinOp.Xor h = refl
xor_is BinOp.Plus h = elim h [ ]
xor_is BinOp.Minus h = elim h [ ]
xor_is BinOp.Times h = elim h [ ]
xor_is BinOp.Divide h = elim h [ ]
xor_is BinOp.GreaterThan h = elim h [ ]
xor_is BinOp.GreaterThanEqual h = elim h [ ]
xor_is BinOp.LittleThan h = elim h [ ]
xor_is BinOp.LittleThanEqual h = elim h [ ]
xor_is BinOp.Equal h = elim h [ ]
xor_is BinOp.NotEqual h = elim h [ ]
xor_is BinOp.And h = elim h [ ]
xor_is BinOp.AndNot h = elim h [ ]
xor_is BinOp.Or h = elim h [ ]
xor_is BinOp.Complex h = elim h [ ]

-- operands that are drawn on, or not for being equal ones of a Xor
bi_depends : (op : BinOp) (a b : ℕ) (σ τ : Store) (x y : Bool) → eqb a b ≡ x → is_xor op ≡ y → AgreeAt σ τ (cond (x && y) [] (a ∷ b ∷ []))
    → bin_word op (at σ a) (at σ b) ≡ bin_word op (at τ a) (at τ b)
bi_depends op a b σ τ true true e x h =
    rw (xor_is op (rw x tt), eqb→eq a b (rw e tt)) (xor-zero (at σ b) ∙ sym (xor-zero (at τ b)))
bi_depends op a b σ τ true false e x (same p (same q done)) = cc
bi_depends op a b σ τ false y e x (same p (same q done)) = cc

-- stores that agree on what a record draws on get the same writes
pub depends : (constants : List ℕ) (w : Work) (σ τ : Store) → AgreeAt σ τ (draws w) → writes constants σ w ≡ writes constants τ w
unfolding writes
depends constants (Work.Uni op dst s1) σ τ (same a done) = cc
depends constants (Work.Bi op dst s1 s2) σ τ h = let e = bi_depends op s1 s2 σ τ _ _ refl refl h in cc
depends constants (Work.Mov dst s1) σ τ (same a done) = cc
depends constants (Work.Load dst p) σ τ (same a done) = cc
depends constants (Work.Save src p) σ τ (same a done) = cc
depends constants (Work.LoadConst dst idx) σ τ done = refl
depends constants (Work.Fused op dst x y z) σ τ (same a (same b (same c done))) = cc
depends constants (Work.IfElse dst t f p) σ τ (same a (same b (same c done))) = cc
depends constants (Work.LoadComplex xd yd p) σ τ (same a (same b done)) = cc
depends constants (Work.SaveComplex xs ys p) σ τ (same a (same b done)) = cc
depends constants (Work.ComplexBi op xd yd x1 y1 x2 y2) σ τ (same a (same b (same c (same d done)))) = cc

-- it writes just the words that it fills
pub written : (constants : List ℕ) (w : Work) (σ : Store) → map target (writes constants σ w) ≡ fills w
unfolding writes
written constants (Work.Uni op dst s1) σ = refl
written constants (Work.Bi op dst s1 s2) σ = refl
written constants (Work.Mov dst s1) σ = refl
written constants (Work.Load dst p) σ = refl
written constants (Work.Save src p) σ = refl
written constants (Work.LoadConst dst idx) σ = refl
written constants (Work.Fused op dst a b c) σ = refl
written constants (Work.IfElse dst t f p) σ = refl
written constants (Work.LoadComplex xd yd p) σ = refl
written constants (Work.SaveComplex xs ys p) σ = refl
written constants (Work.ComplexBi op xd yd x1 y1 x2 y2) σ = refl

-- a word that is not written stays
put_off : (ws : List Write) (σ : Store) (i : ℕ) → Off i (map target ws) → at (put ws σ) i ≡ at σ i
unfolding put
put_off [] σ i clear = refl
put_off (j ≔ v ∷ ws) σ i (other h o) = put_off ws (set σ j v) i o ∙ get_or-set_other σ j i v 0 h

pub stays : (constants : List ℕ) (w : Work) (σ : Store) (i : ℕ) → Off i (fills w) → at (exec constants w σ) i ≡ at σ i
unfolding exec
stays constants w σ i o = put_off (writes constants σ w) σ i (rw (written constants w σ) o)

pub confined : Confined draws fills
confined = record { depends = depends; written = written; stays = stays }

-- the store keeps its length
pub put-length : (ws : List Write) (σ : Store) → length (put ws σ) ≡ length σ
unfolding put
put-length [] σ = refl
put-length (j ≔ v ∷ ws) σ = put-length ws (set σ j v) ∙ length-set σ j v
