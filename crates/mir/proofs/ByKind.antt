-- The kinds that sheets and listings share: what is read of one is as P says, where P holds of all that its tests let through.
use Prim.Native.Nat.{ℕ, ◌≤◌, ◌<◌}
use mathlib.Core.Path.{◌≡◌}
use mathlib.Core.Bool.{Bool, true}
use mathlib.Core.List.{List}
use Rattle.mir.specs.declared.ops.UniOp.{UniOp}
use Rattle.mir.specs.declared.ops.BinOp.{BinOp}
use Rattle.mir.specs.declared.ops.FusedOp.{FusedOp}
use Rattle.mir.specs.declared.records.Loc.{Loc}
use Rattle.mir.specs.Place.{index}
use Rattle.mir.specs.Operation.{uni_ops, bin_ops, fused_ops}
use Rattle.mir.specs.Takes.{takes_uni, takes_bin, takes_fused}
use Rattle.mir.specs.Field.{byte_at, bytes_at, u16_at}
use Rattle.mir.specs.Kinds.{last_register, uni_from, bi_from, mov_from, load_from, save_from, load_const_from, fused_from, if_else_from}
use Rattle.mir.proofs.IfRead.{IfRead, read, parted, limited, counted, operation, place, save, condition, Saved, Stacked}

-- a register within the limit
abbrev pub Within : Bool → ℕ → Type 0
Within listing r = r ≤ last_register listing

module _ {A : Type 0} {P : A → Type 0} (listing : Bool) (s : List ℕ) where
  pub uni : (make : UniOp → ℕ → ℕ → A)
      → ((op : UniOp) (d a : ℕ) → takes_uni listing op ≡ true → Within listing d → Within listing a → P (make op d a))
      → IfRead P (uni_from listing make s)
  unfolding uni_from
  uni make h =
      parted (operation (takes_uni listing) uni_ops (byte_at s 4))
      (λ op t. limited (last_register listing) (bytes_at s 5 2) (λ l. read (h op _ _ t l.0 l.1.0)))

  pub bi : (make : BinOp → ℕ → ℕ → ℕ → A)
      → ((op : BinOp) (d a b : ℕ) → takes_bin listing op ≡ true → Within listing d → Within listing a → Within listing b → P (make op d a b))
      → IfRead P (bi_from listing make s)
  unfolding bi_from
  bi make h =
      parted (operation (takes_bin listing) bin_ops (byte_at s 4))
      (λ op t. limited (last_register listing) (bytes_at s 5 3) (λ l. read (h op _ _ _ t l.0 l.1.0 l.1.1.0)))

  pub mov : (make : ℕ → ℕ → A) → ((d a : ℕ) → Within listing d → Within listing a → P (make d a)) → IfRead P (mov_from listing make s)
  unfolding mov_from
  mov make h = limited (last_register listing) (bytes_at s 4 2) (λ l. read (h _ _ l.0 l.1.0))

  pub load : (make : ℕ → Loc → A) → ((d : ℕ) (p : Loc) → Within listing d → index p ≤ 255 → P (make d p)) → IfRead P (load_from listing make s)
  unfolding load_from
  load make h = limited (last_register listing) (bytes_at s 4 1) (λ l. parted (place s 5) (λ p q. read (h _ p l.0 q)))

  pub saving : (make : ℕ → Loc → A) → ((a : ℕ) (p : Loc) → Within listing a → Saved p → P (make a p)) → IfRead P (save_from listing make s)
  unfolding save_from
  saving make h = limited (last_register listing) (bytes_at s 4 1) (λ l. parted (save s 5) (λ p q. read (h _ p l.0 q)))

  pub load-const : (make : ℕ → ℕ → A) (count : ℕ) → ((d : ℕ) → Within listing d → u16_at s 5 < count → P (make d (u16_at s 5)))
      → IfRead P (load_const_from listing make count s)
  unfolding load_const_from
  load-const make count h =
      limited (last_register listing) (bytes_at s 4 1) (λ l. counted count (u16_at s 5) (λ c. read (h _ l.0 c)))

  pub fused : (make : FusedOp → ℕ → ℕ → ℕ → ℕ → A)
      → ((op : FusedOp) (d a b c : ℕ) → takes_fused listing op ≡ true → Within listing d → Within listing a → Within listing b → Within listing c → P (make op d a b c))
      → IfRead P (fused_from listing make s)
  unfolding fused_from
  fused make h =
      parted (operation (takes_fused listing) fused_ops (byte_at s 4))
      (λ op t. limited (last_register listing) (bytes_at s 5 4) (λ l. read (h op _ _ _ _ t l.0 l.1.0 l.1.1.0 l.1.1.1.0)))

  pub if-else : (make : ℕ → ℕ → ℕ → Loc → A)
      → ((d a b : ℕ) (p : Loc) → Within listing d → Within listing a → Within listing b → Stacked p → P (make d a b p))
      → IfRead P (if_else_from listing make s)
  unfolding if_else_from
  if-else make h =
      limited (last_register listing) (bytes_at s 4 3)
      (λ l. parted (condition s 7) (λ p q. read (h _ _ _ p l.0 l.1.0 l.1.1.0 q)))
