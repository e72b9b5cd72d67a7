-- The jump rules (document 01, Player; document 02, d), and the record at which the first breach is refused.
use Rattle.std.specs.Prelude.{ℕ, suc, ◌+◌, Bool, true, false, not, ◌&&◌, ◌||◌, cond, List, [], ◌∷◌, ltb, eqb}
use Rattle.mir.specs.declared.records.Record.{Record}
use Rattle.player_machine.specs.Machine.{is_label}

-- one where a test holds
abbrev pub bit : Bool → ℕ
bit b = cond b 1 0

-- how many of the records are such, and whether one is
unfoldable pub tally : (Record → Bool) → List Record → ℕ
tally p [] = 0
tally p (r ∷ rs) = bit (p r) + tally p rs

abbrev pub has : (Record → Bool) → List Record → Bool
has p rs = ltb 0 (tally p rs)

-- is a record a Label, a Branch, a BranchIf, a Call whose label passes a test?
abbrev pub on_label : (ℕ → Bool) → Record → Bool
on_label p (Record.Work w) = false
on_label p (Record.Label l) = p l
on_label p (Record.Branch l) = false
on_label p (Record.Call l) = false
on_label p (Record.BranchIf c l e) = false

abbrev pub on_branch : (ℕ → Bool) → Record → Bool
on_branch p (Record.Work w) = false
on_branch p (Record.Label l) = false
on_branch p (Record.Branch l) = p l
on_branch p (Record.Call l) = false
on_branch p (Record.BranchIf c l e) = false

abbrev pub on_branch_if : (ℕ → Bool) → Record → Bool
on_branch_if p (Record.Work w) = false
on_branch_if p (Record.Label l) = false
on_branch_if p (Record.Branch l) = false
on_branch_if p (Record.Call l) = false
on_branch_if p (Record.BranchIf c l e) = p l

abbrev pub on_call : (ℕ → Bool) → Record → Bool
on_call p (Record.Work w) = false
on_call p (Record.Label l) = false
on_call p (Record.Branch l) = false
on_call p (Record.Call l) = p l
on_call p (Record.BranchIf c l e) = false

-- a Branch or a BranchIf whose label passes a test
abbrev pub on_either : (ℕ → Bool) → Record → Bool
on_either p r = on_branch p r || on_branch_if p r

-- a Label, a Branch, a BranchIf or a Call
abbrev pub is_jump : Record → Bool
is_jump r = on_label (λ l. true) r || on_either (λ l. true) r || on_call (λ l. true) r

-- Branch 0 ends the block
unfoldable pub is_return : Record → Bool
is_return r = on_branch (λ l. eqb l 0) r

-- "The block runs from Label 1 to the first Branch 0 after it": do these records, the nearest first, leave it open?
unfoldable pub in_block : List Record → Bool
in_block [] = false
in_block (r ∷ rs) = is_label 1 r || (not (is_return r) && in_block rs)

-- A rule is broken by a record, with the records before it, the nearest first, and those behind it.
abbrev pub Rule : Type 0
Rule = List Record → Record → List Record → Bool

-- "No label stands twice or is 0"
unfoldable pub twice_or_zero : Rule
twice_or_zero before r behind = on_label (λ l. eqb l 0 || has (is_label l) before) r

-- "Branch 2 needs Label 2 later"; of labels 3 to 255 "a branch with no such label later
unfoldable pub no_label_later : Rule
no_label_later before r behind = on_either (λ l. ltb 1 l && not (has (is_label l) behind)) r

-- or one before it"
unfoldable pub label_before : Rule
label_before before r behind = on_either (λ l. ltb 2 l && has (is_label l) before) r

-- "Branch 1 and Call of any label but 1 are refused"; "9 [..] for a BranchIf to 0, 1 or 2"
unfoldable pub barred : Rule
barred before r behind = on_branch (λ l. eqb l 1) r || on_branch_if (λ l. ltb l 3) r || on_call (λ l. not (eqb l 1)) r

-- "with no other Label, Branch or Call inside"; "the block of Root still holds none of these"
unfoldable pub jump_in_block : Rule
jump_in_block before r behind = is_jump r && not (is_return r) && in_block before

-- "A Call needs a Label 1 anywhere in the listing"
unfoldable pub no_label_to_call : Rule
no_label_to_call before r behind = on_call (λ l. not (has (is_label 1) before || has (is_label 1) behind)) r

-- "a block without its Branch 0 is refused at Label 1"
unfoldable pub block_without_return : Rule
block_without_return before r behind = is_label 1 r && not (has is_return behind)

abbrev pub rules : List Rule
rules = twice_or_zero ∷ no_label_later ∷ label_before ∷ barred ∷ jump_in_block ∷ no_label_to_call ∷ block_without_return ∷ []

-- does a record break one of the rules?
abbrev pub breaks_one : List Rule → Rule
breaks_one [] before r behind = false
breaks_one (rule ∷ rest) before r behind = rule before r behind || breaks_one rest before r behind

unfoldable pub breaks : Rule
unfolding tally is_label is_return in_block twice_or_zero no_label_later label_before barred jump_in_block no_label_to_call block_without_return
breaks before r behind = breaks_one rules before r behind

-- the index of the first record that breaks a rule; the count of records where none does
unfoldable pub breach_from : List Record → List Record → ℕ
unfolding breaks
breach_from before [] = 0
breach_from before (r ∷ behind) = cond (breaks before r behind) 0 (suc (breach_from (r ∷ before) behind))

unfoldable pub breach : List Record → ℕ
unfolding breach_from
breach rs = breach_from [] rs
