-- What a Call finds: the root block of the sheet's mode, whose constants stand in the final table.
use mathlib.Core.Path.{◌≡◌, sym, ◌∙◌}
use mathlib.Core.Bool.{true, false, true≢false}
use mathlib.Core.List.{List}
use Prim.Native.Nat.{ℕ}
use Rattle.mir.specs.declared.records.Instruction.{Instruction}
use Rattle.sheet.specs.declared.setup.Mode.{Mode}
use Rattle.sheet.specs.Setup.{is_stable}
use Rattle.player_machine.specs.Machine.{block}
use Rattle.lowering.specs.Complexifier.{State}
use Rattle.lowering.specs.Rerun.{complexify}
use Rattle.leftovers.proofs.Instructions.{AllIn}
use Rattle.leftovers.proofs.Listing.{Shape, unrooted, rooted, shape, block-of}
use Rattle.meaning.proofs.Table.{Begins, begins_then, begins_grown}
use Rattle.meaning.proofs.Rooting.{RootBlock}

pub finds_root : (m : Mode) (count : ℕ) (l : List Instruction) (s : State) {k : List ℕ} → AllIn count l → s.is_root_defined ≡ false
    → (complexify m l s).after.is_root_defined ≡ true → Begins (complexify m l s).after.consts k → RootBlock (is_stable m) k (block (complexify m l s).records)
finds_root m count l s {k} v e h b = go (shape m count l s v e)
  where
    go : Shape (is_stable m) (complexify m l s) → RootBlock (is_stable m) k (block (complexify m l s).records)
    go (unrooted r g) = absurd (true≢false (sym h ∙ r))
    go (rooted r first p t f last p' g) =
        record {
          consts = f.consts;
          is = rw (g, block-of first last t p) f.is;
          begins = begins_then (begins_grown f.grown) b;
        }
