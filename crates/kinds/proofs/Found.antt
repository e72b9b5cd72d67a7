-- With the operation that a record's byte names, the fields behind it make what the definition of the kind makes.
use Prim.Native.Nat.{ℕ}
use mathlib.Core.Path.{◌≡◌, ap, ◌∙◌}
use mathlib.Core.Bool.{Bool}
use mathlib.Core.List.{List}
use Rattle.mir.specs.declared.ops.UniOp.{UniOp}
use Rattle.mir.specs.declared.ops.BinOp.{BinOp}
use Rattle.mir.specs.declared.ops.FusedOp.{FusedOp}
use Rattle.mir.specs.declared.records.Instruction.{Instruction}
use Rattle.mir.specs.Operation.{uni_ops, bin_ops, fused_ops, taken}
use Rattle.mir.specs.Takes.{takes_uni, takes_bin, takes_fused}
use Rattle.mir.specs.Read.{Read}
use Rattle.mir.specs.Field.{byte_at}
use Rattle.mir.specs.Kinds.{uni_from, bi_from, fused_from}
use Rattle.kinds.specs.Answer.{uni_behind, bi_behind, fused_behind}

module _ (listing : Bool) (s : List ℕ) {n : ℕ} where
  pub uni-found : {found : Read UniOp} → found ≡ taken (takes_uni listing) uni_ops n → n ≡ byte_at s 4
      → uni_behind listing found s ≡ uni_from listing Instruction.Uni s
  unfolding uni_from
  uni-found e b = ap (λ o. uni_behind listing o s) (e ∙ ap (taken (takes_uni listing) uni_ops) b)

  pub bi-found : {found : Read BinOp} → found ≡ taken (takes_bin listing) bin_ops n → n ≡ byte_at s 4
      → bi_behind listing found s ≡ bi_from listing Instruction.Bi s
  unfolding bi_from
  bi-found e b = ap (λ o. bi_behind listing o s) (e ∙ ap (taken (takes_bin listing) bin_ops) b)

  pub fused-found : {found : Read FusedOp} → found ≡ taken (takes_fused listing) fused_ops n → n ≡ byte_at s 4
      → fused_behind listing found s ≡ fused_from listing Instruction.Fused s
  unfolding fused_from
  fused-found e b = ap (λ o. fused_behind listing o s) (e ∙ ap (taken (takes_fused listing) fused_ops) b)
