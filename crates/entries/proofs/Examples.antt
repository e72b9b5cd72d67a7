-- The sheets of specs/Examples.antt: what is computed of their lowering holds of what the entry leaves.
use Prim.Native.Nat.{ℕ, ◌≤◌}
use mathlib.Core.Path.{◌≡◌, refl, sym, ap, ◌∙◌, subst}
use mathlib.Core.Bool.{not, ◌||◌}
use mathlib.Core.List.{List}
use mathlib.Core.Option.{some}
use lib.ListN.{length}
use lib.Dec.{ltb, eqb}
use borrow.Author.Tests.{le-ltb}
use Rattle.player_machine.specs.Machine.{Store}
use Rattle.complexify.specs.Entry.{answer, wrong_setup}
use Rattle.leftovers.specs.Leftovers as Leftovers
use Rattle.leftovers.specs.Leftovers.{Lowered, Accepted, lowered, standing, Mixing, Changes, EndAlike}
use Rattle.leftovers.specs.Examples.{room, zeros, mixing, stable_mixing, minding_mixing, clean, jumping, clearing, touched, marked, compared}
use Rattle.leftovers.proofs.Examples as computed
use Rattle.entries.specs.Entries.{Given}
use Rattle.entries.specs.Examples.{bytes, words, names, left_of, Needed, Minded, Met, JumpedOver, Cleared}
use Rattle.entries.proofs.Entered.{answered, entered}
use Rattle.entries.proofs.Demand.{same}

-- the slices are as long as is asked
pub accepts : (sheet : List ℕ) → Accepted sheet room → (answer sheet bytes words names).number ≡ 0
unfolding bytes words names
accepts sheet a = answered sheet bytes words names a refl refl

pub as_left : (sheet : List ℕ) → Accepted sheet room → lowered sheet room ≡ left_of sheet
unfolding bytes words names
as_left sheet a = same sheet bytes words names (entered sheet bytes words names (accepts sheet a))

given : (sheet : List ℕ) (i : ℕ) → Leftovers.Given sheet room zeros i zeros touched → Given sheet bytes words names zeros i zeros touched
given sheet i g =
    record {
      accepted = accepts sheet g.accepted;
      words = g.words;
      upper = g.upper;
      stands = subst (λ (l : Lowered). standing l 0 zeros i ≡ some zeros) (as_left sheet g.accepted) g.stands;
      changed = g.changed;
    }

met_at : (sheet : List ℕ) (i : ℕ) → Leftovers.Given sheet room zeros i zeros touched → (Mixing (lowered sheet room) i zeros → ⊥) → Met sheet i
met_at sheet i g n =
    record {
      given = given sheet i g;
      unmixed = λ m. n (subst (λ (l : Lowered). Mixing l i zeros) (sym (as_left sheet g.accepted)) m);
      other = computed.other;
    }

needed_at : (sheet : List ℕ) (i : ℕ) → Leftovers.Given sheet room zeros i zeros touched → (EndAlike (lowered sheet room) i zeros touched → ⊥) → Needed sheet i
needed_at sheet i g n =
    record {
      given = given sheet i g;
      differs = λ e. n (subst (λ (l : Lowered). EndAlike l i zeros touched) (sym (as_left sheet g.accepted)) e);
    }

pub needed : Needed mixing 1
needed = needed_at mixing 1 computed.mixing_given computed.mixing_differs

pub needed-stable : Needed stable_mixing 1
needed-stable = needed_at stable_mixing 1 computed.stable_given computed.stable_differs

pub minded : Minded minding_mixing 1 1
minded =
    let g = computed.minding_given in
    let e = as_left minding_mixing g.accepted in
    record {
      is_half = computed.minding-half;
      from_real = computed.minding_from;
      into_complex = computed.minding_into;
      reached = subst (λ (l : Lowered). standing l 1 zeros 1 ≡ some zeros) e computed.minding_reached;
      met = met_at minding_mixing 1 g computed.minding_unmixed;
      alike = subst (λ (l : Lowered). EndAlike l 1 zeros touched) e computed.minding_alike;
    }

pub met : Met clean 2
met = met_at clean 2 computed.clean_given computed.clean_unmixed

pub jumped-over : JumpedOver jumping 1 2
jumped-over =
    record {
      is_half = computed.jumping_half;
      from_real = computed.jumping_from;
      into_complex = computed.jumping_into;
      met = met_at jumping 1 computed.jumping_given computed.jumping_unmixed;
    }

pub cleared : Cleared clearing 1
cleared =
    record {
      is_equal = computed.clearing_equal;
      from_real = computed.clearing_real;
      changes =
          subst (λ (l : Lowered). Changes l 1 marked 1 marked compared) (as_left clearing computed.clearing_accepted) computed.clearing_changes;
      cleared = computed.clearing_clears;
      written = computed.clearing_writes;
      kept = computed.clearing_keeps;
    }
