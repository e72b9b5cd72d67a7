-- An accepted sheet: its instructions are within their limits, its listing is read back as what `complexify` lists, and the player accepts
-- it from every point.
use mathlib.Core.Path.{◌≡◌, refl, sym, ap, subst}
use mathlib.Core.List.{List, [], ◌∷◌}
use Prim.Native.Nat.{ℕ, ◌≤◌}
use native.Mathlib.Omega.{arith}
use native.Mathlib.Nat.{le_refl, le_trans, le_of_eq}
use lib.ListN.{length, drop}
use borrow.Author.Tests.{le-ltb, eq-eqb}
use Rattle.mir.specs.declared.records.Instruction.{Instruction}
use Rattle.mir.specs.Encode.{encode_all}
use Rattle.sheet.specs.Setup.{setup}
use Rattle.sheet.specs.Instruction.{instructions}
use Rattle.sheet.proofs.Setting.{right, length_constants}
use Rattle.records.specs.Record.{records}
use Rattle.records.proofs.Holding.{AllHold}
use Rattle.records.proofs.Round.{round}
use Rattle.player_machine.specs.Machine.{Store, block}
use Rattle.player_machine.specs.Jumps.{tally, breach}
use Rattle.player_machine.specs.Answer.{accept, answer}
use Rattle.lowering.specs.Labels.{none_standing}
use Rattle.lowering.specs.Lower.{start_state, lower_sheet}
use Rattle.mir.specs.Decode.{decoded}
use Rattle.leftovers.proofs.Accepting.{wrote}
use Rattle.leftovers.proofs.Ranges.{all_in_limit}
use Rattle.leftovers.specs.Leftovers.{Sheet, sheet_of, Accepted, Lowered, lowered, point}
use Rattle.leftovers.proofs.Constants.{grown_few, grown_length}
use Rattle.sheet.proofs.Ranges.{InRange}
use Rattle.leftovers.proofs.Instructions.{AllIn}
use Rattle.leftovers.proofs.Listing.{grows, finds_block}
use Rattle.leftovers.proofs.Jumping.{Fair, no_breach}
use Rattle.leftovers.proofs.Points.{whole, play_from, point_below, all_kinds, all_held}
use Rattle.leftovers.proofs.Branches.{Sound as Meeting}
use Rattle.leftovers.proofs.Ahead.{reads}
use Rattle.leftovers.proofs.Standing.{fair, sound as each-meets}

-- ---- instructions within the limits of a longer table

in_more : (n m : ℕ) → n ≤ m → (i : Instruction) → InRange n i → InRange m i
in_more n m h Instruction.Nop v = v
in_more n m h (Instruction.Uni op d a) v = v
in_more n m h (Instruction.Bi op d a b) v = v
in_more n m h (Instruction.Mov d a) v = v
in_more n m h (Instruction.Load d p) v = v
in_more n m h (Instruction.Save a p) v = v
in_more n m h (Instruction.LoadConst d i) v = (v.0, le_trans v.1 h)
in_more n m h (Instruction.Fused op d a b c) v = v
in_more n m h (Instruction.IfElse d a b p) v = v
in_more n m h (Instruction.LoadMath op d a p) v = v
in_more n m h (Instruction.LoadConstMath op d a i) v = (v.0, v.1, le_trans v.2 h)
in_more n m h (Instruction.Label l) v = v
in_more n m h (Instruction.Branch l) v = v
in_more n m h (Instruction.BranchIf c l e) v = v

all_in_more : (n m : ℕ) → n ≤ m → (l : List Instruction) → AllIn n l → AllIn m l
all_in_more n m h [] v = tt
all_in_more n m h (i ∷ l) v = (in_more n m h i v.0, all_in_more n m h l v.1)

-- ---- the player accepts what is listed

module _ (s : Sheet) (v : AllIn (length s.constants) s.instructions) (f : length s.constants ≤ 251) where
  longer : length s.constants ≤ length (whole s).after.consts
  longer = grown_length (grows s.mode s.instructions (start_state s.places s.constants))

  pub table : length (whole s).after.consts ≤ 256
  table = omega (arith, grown_few (grows s.mode s.instructions (start_state s.places s.constants)))

  pub all_in : AllIn (length (whole s).after.consts) s.instructions
  all_in = all_in_more (length s.constants) (length (whole s).after.consts) longer s.instructions v

  held : AllHold (length (whole s).after.consts) (whole s).records
  held =
      all_held (whole s).after.consts (block (whole s).records) s.mode s.instructions (start_state s.places s.constants)
      (all_kinds s all_in) (omega (arith, table))

  pub read_back : records (length (whole s).after.consts) (encode_all (whole s).records) ≡ record { items = (whole s).records; fault = 0 }
  read_back = round (length (whole s).after.consts) (whole s).records held

  -- from any point, with any store of the machine's length
  pub answers : Fair [] (whole s).records → length (encode_all (whole s).records) ≤ 65536 → (i : ℕ) (σ : Store) → length σ ≡ 1602
      → answer (encode_all (whole s).records) (whole s).after.consts (point s i) σ ≡ accept (length (whole s).records) (play_from s i σ)
  unfolding answer
  answers f₀ room i σ h =
      let rs = (whole s).records in
      let k = (whole s).after.consts in
      let b = no_breach s.mode (length s.constants) s.instructions (start_state s.places s.constants) v refl f₀ in
      rw (
        le-ltb 65536 (length (encode_all rs)) room,
        le-ltb 256 (length k) table,
        eq-eqb (length σ) 1602 h,
        read_back,
        le-ltb (length rs) (point s i) (point_below s i),
        le-ltb (breach rs) (length rs) (le_of_eq (sym b)),
      )
      refl

-- ---- what an accepted sheet's bytes hold

-- what `complexify` lists, as lowering leaves it
abbrev pub as_lowered : Sheet → Lowered
as_lowered s =
    record { sheet = s; listing = encode_all (whole s).records; constants = (whole s).after.consts; last = (whole s).after.real }

pub record Sound (bytes : List ℕ) (room : ℕ) : Type 0 where
  pub same : lowered bytes room ≡ as_lowered (sheet_of bytes)
  pub in-range : AllIn (length (sheet_of bytes).constants) (sheet_of bytes).instructions
  pub few : length (sheet_of bytes).constants ≤ 251
  pub within : length (lower_sheet bytes room).bytes ≤ room
  pub fits : length (encode_all (whole (sheet_of bytes)).records) ≤ 65536
  pub fair : Fair [] (whole (sheet_of bytes)).records
  pub meets : let s = sheet_of bytes in Meeting (whole s).after.consts (block (whole s).records) s.mode s.instructions (start_state s.places s.constants)

pub sound : (bytes : List ℕ) (room : ℕ) → Accepted bytes room → Sound bytes room
unfolding decoded lower_sheet tally
sound bytes room a =
    let u = setup bytes in
    let s = sheet_of bytes in
    let rest = drop u.start bytes in
    let w = wrote s.mode room s.instructions (instructions u.count rest).fault rest none_standing 0 [] (start_state s.places s.constants) (omega arith) a.number in
    let r = reads u.count rest w.sound in
    let n = length_constants bytes u.count 0 in
    record {
      same = λ j. record { sheet = s; listing = w.listing j; constants = (w.last j).consts; last = (w.last j).real };
      in-range = subst (λ (n : ℕ). AllIn n s.instructions) (sym n) (all_in_limit u.count rest);
      few = omega (arith, n, (right bytes a.right).few);
      within = w.fits;
      fits = omega (arith, w.fits, ap length w.listing, a.slice);
      fair = fair s.mode u.count s.instructions rest [] none_standing (start_state s.places s.constants) r w.accepts (λ l q. refl);
      meets = each-meets (whole s).after.consts (block (whole s).records) s.mode u.count s.instructions rest none_standing (start_state s.places s.constants) r w.accepts;
    }
