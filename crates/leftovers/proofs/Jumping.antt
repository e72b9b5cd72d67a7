-- A lowered listing keeps the jump rules.
use mathlib.Core.Path.{◌≡◌, refl, sym, ap, ◌∙◌, subst}
use mathlib.Core.Bool.{Bool, true, false, ◌||◌, true≢false}
use mathlib.Core.List.{List, [], ◌∷◌, ◌++◌, map, reverse_aux, append_assoc, append-nil}
use Prim.Native.Nat.{ℕ, zero, suc, ◌+◌, ◌<◌}
use native.Mathlib.Omega.{arith}
use native.Mathlib.Nat.{zero-add, suc-add}
use lib.ListN.{length, length-append}
use lib.Dec.{ltb}
use borrow.Author.Tests.{lt-ltb, le-ltb, ne_eqb}
use Rattle.mir.specs.declared.records.Work.{Work}
use Rattle.mir.specs.declared.records.Record.{Record}
use Rattle.mir.specs.declared.records.Instruction.{Instruction}
use Rattle.player_machine.specs.Machine.{is_label}
use Rattle.player_machine.specs.Jumps.{is_return, tally, has, in_block, breach_from, breach}
use Rattle.sheet.specs.declared.setup.Mode.{Mode}
use Rattle.sheet.specs.Setup.{is_stable}
use Rattle.lowering.specs.Complexifier.{State}
use Rattle.lowering.specs.Rerun.{complexify}
use Rattle.leftovers.proofs.Listing.{AllOutside, Plain, plain_works, Shape, unrooted, rooted, shape}
use Rattle.leftovers.proofs.Instructions.{AllIn}

-- what is found in a list is found with others before it
past : (p : Record → Bool) (xs rs : List Record) → 0 < tally p rs → 0 < tally p (xs ++ rs)
unfolding tally
past p [] rs h = h
past p (x ∷ xs) rs h =
    let i = past p xs rs h in
    omega arith

first_one : (p : Record → Bool) (r : Record) (rs : List Record) → p r ≡ true → 0 < tally p (r ∷ rs)
unfolding tally
first_one p r rs e = rw e (omega arith)

found : (p : Record → Bool) (rs : List Record) → 0 < tally p rs → has p rs ≡ true
found p rs h = lt-ltb 0 (tally p rs) h

not_found : (p : Record → Bool) (rs : List Record) → tally p rs ≡ 0 → has p rs ≡ false
not_found p rs e = ap (ltb 0) e

-- working records break no rule
works_pass : (before : List Record) (l : List Work) (rest : List Record)
    → breach_from before (map Record.Work l ++ rest) ≡ length (map Record.Work l) + breach_from (reverse_aux (map Record.Work l) before) rest
unfolding breach_from
works_pass before [] rest = sym (zero-add (breach_from before rest))
works_pass before (w ∷ l) rest = ap suc (works_pass (Record.Work w ∷ before) l rest) ∙ sym (suc-add (length (map Record.Work l)) _)

-- of a label of the sheet's own none stands before; of a branch to one it stands behind, and not before
abbrev pub FairAt : List Record → Record → List Record → Type 0
FairAt before (Record.Work w) behind = Unit {0}
FairAt before (Record.Label l) behind = 2 < l → has (is_label l) before ≡ false
FairAt before (Record.Branch l) behind = 2 < l → (has (is_label l) behind ≡ true) × (has (is_label l) before ≡ false)
FairAt before (Record.Call l) behind = Unit {0}
FairAt before (Record.BranchIf c l e) behind = 2 < l → (has (is_label l) behind ≡ true) × (has (is_label l) before ≡ false)

abbrev pub Fair : List Record → List Record → Type 0
Fair before [] = Unit {0}
Fair before (r ∷ rs) = FairAt before r rs × Fair (r ∷ before) rs

pub fair_past : (before rs rest : List Record) → Fair before (rs ++ rest) → Fair (reverse_aux rs before) rest
fair_past before [] rest f = f
fair_past before (r ∷ rs) rest f = fair_past (r ∷ before) rs rest f.1

-- what stands outside the block neither opens it nor ends it, and none of Root's labels is among it
outside-open : (calls : Bool) (rs before : List Record) → AllOutside true calls rs → in_block (reverse_aux rs before) ≡ in_block before
unfolding in_block is_label is_return
outside-open calls [] before p = refl
outside-open calls (Record.Work w ∷ rs) before p = outside-open calls rs (Record.Work w ∷ before) p.1
outside-open calls (Record.Label l ∷ rs) before p =
    outside-open calls rs (Record.Label l ∷ before) p.1 ∙ rw (ne_eqb l 1 (λ e. let h = p.0 in omega (arith, e, h))) refl
outside-open calls (Record.Branch l ∷ rs) before p =
    outside-open calls rs (Record.Branch l ∷ before) p.1 ∙ rw (ne_eqb l 0 (λ e. let h = p.0 in omega (arith, e, h))) refl
outside-open calls (Record.Call l ∷ rs) before p = outside-open calls rs (Record.Call l ∷ before) p.1
outside-open calls (Record.BranchIf c l e ∷ rs) before p = outside-open calls rs (Record.BranchIf c l e ∷ before) p.1

outside_labels : (calls : Bool) (l : ℕ) → l < 3 → (rs before : List Record) → AllOutside true calls rs
    → tally (is_label l) (reverse_aux rs before) ≡ tally (is_label l) before
unfolding tally is_label
outside_labels calls l o [] before p = refl
outside_labels calls l o (Record.Work w ∷ rs) before p = outside_labels calls l o rs (Record.Work w ∷ before) p.1 ∙ zero-add _
outside_labels calls l o (Record.Label m ∷ rs) before p =
    outside_labels calls l o rs (Record.Label m ∷ before) p.1 ∙ rw (ne_eqb m l (λ e. let h = p.0 in omega (arith, e, h))) (zero-add _)
outside_labels calls l o (Record.Branch m ∷ rs) before p = outside_labels calls l o rs (Record.Branch m ∷ before) p.1 ∙ zero-add _
outside_labels calls l o (Record.Call m ∷ rs) before p = outside_labels calls l o rs (Record.Call m ∷ before) p.1 ∙ zero-add _
outside_labels calls l o (Record.BranchIf c m e ∷ rs) before p = outside_labels calls l o rs (Record.BranchIf c m e ∷ before) p.1 ∙ zero-add _

-- outside the block they break no rule, where a Label 1 stands somewhere if there are Calls
anywhere : (a b : ℕ) → 0 < a + b → (ltb 0 a || ltb 0 b) ≡ true
anywhere zero b h = lt-ltb 0 b (omega (arith, h))
anywhere (suc a) b h = rw (lt-ltb 0 (suc a) (omega arith)) refl

outside_pass : (calls : Bool) (before rs rest : List Record) → AllOutside true calls rs → Fair before (rs ++ rest) → in_block before ≡ false
    → (calls ≡ true → 0 < tally (is_label 1) before + tally (is_label 1) (rs ++ rest))
    → breach_from before (rs ++ rest) ≡ length rs + breach_from (reverse_aux rs before) rest
unfolding breach_from
outside_pass calls before [] rest p f o h = sym (zero-add (breach_from before rest))
outside_pass calls before (Record.Work w ∷ rs) rest p f o h =
    ap suc (outside_pass calls (Record.Work w ∷ before) rs rest p.1 f.1 o (λ c. let i = h c in omega (arith, i))) ∙ sym (suc-add (length rs) _)
outside_pass calls before (Record.Label l ∷ rs) rest p f o h =
    let q = p.0 in
    let one = ne_eqb l 1 (λ e. omega (arith, e, q)) in
    rw (ne_eqb l 0 (λ e. omega (arith, e, q)), f.0 q, o, one)
    (ap suc (outside_pass calls (Record.Label l ∷ before) rs rest p.1 f.1 (rw (one, o) refl) (λ c. let i = rw one at h c in omega (arith, i)))
    ∙ sym (suc-add (length rs) _))
outside_pass calls before (Record.Branch l ∷ rs) rest p f o h =
    let q = p.0 in
    let n = ne_eqb l 0 (λ e. omega (arith, e, q)) in
    rw (lt-ltb 1 l (omega (arith, q)), (f.0 q).0, lt-ltb 2 l q, (f.0 q).1, ne_eqb l 1 (λ e. omega (arith, e, q)), n, o)
    (ap suc (outside_pass calls (Record.Branch l ∷ before) rs rest p.1 f.1 (rw (n, o) refl) (λ c. let i = h c in omega (arith, i)))
    ∙ sym (suc-add (length rs) _))
outside_pass true before (Record.Call l ∷ rs) rest p f o h =
    rw (p.0, o, anywhere (tally (is_label 1) before) (tally (is_label 1) (rs ++ rest)) (let i = h refl in omega (arith, i)))
    (ap suc (outside_pass true (Record.Call 1 ∷ before) rs rest p.1 (rw p.0 at f).1 o (λ c. let i = h c in omega (arith, i)))
    ∙ sym (suc-add (length rs) _))
outside_pass false before (Record.Call l ∷ rs) rest p f o h = absurd p.0
outside_pass calls before (Record.BranchIf c l e ∷ rs) rest p f o h =
    let q = p.0 in
    rw (lt-ltb 1 l (omega (arith, q)), (f.0 q).0, lt-ltb 2 l q, (f.0 q).1, le-ltb l 3 q, o)
    (ap suc (outside_pass calls (Record.BranchIf c l e ∷ before) rs rest p.1 f.1 o (λ c. let i = h c in omega (arith, i)))
    ∙ sym (suc-add (length rs) _))

-- the records before the block's Branch 0, and before what stands behind the block
abbrev opened : List Record → List Work → List Record
opened before t = reverse_aux (map Record.Work t) (Record.Label 1 ∷ Record.Branch 2 ∷ before)

abbrev closed : List Record → List Work → List Record
closed before t = Record.Label 2 ∷ Record.Branch 0 ∷ opened before t

-- the block keeps the rules
block_passes : (before : List Record) (t : List Work) (last : List Record) → in_block before ≡ false
    → tally (is_label 1) before ≡ 0 → tally (is_label 2) before ≡ 0
    → breach_from before (Record.Branch 2 ∷ Record.Label 1 ∷ (map Record.Work t ++ Record.Branch 0 ∷ Record.Label 2 ∷ last))
    ≡ 2 + (length (map Record.Work t) + (2 + breach_from (closed before t) last))
unfolding breach_from is_label is_return
block_passes before t last o n m =
    let tail = Record.Branch 0 ∷ Record.Label 2 ∷ last in
    let second = past (is_label 2) (Record.Branch 0 ∷ []) (Record.Label 2 ∷ last) (first_one (is_label 2) (Record.Label 2) last refl) in
    let two = past (is_label 2) (Record.Label 1 ∷ map Record.Work t) tail second in
    let end = past is_return (map Record.Work t) tail (first_one is_return (Record.Branch 0) (Record.Label 2 ∷ last) refl) in
    let l = outside_labels true 2 (omega arith) (map Record.Work t) (Record.Label 1 ∷ Record.Branch 2 ∷ before) (plain_works t) in
    let passed : breach_from (Record.Label 1 ∷ Record.Branch 2 ∷ before) (map Record.Work t ++ tail)
    ≡ length (map Record.Work t) + suc (suc (breach_from (closed before t) last)) =
    works_pass (Record.Label 1 ∷ Record.Branch 2 ∷ before) t tail
    ∙ rw (not_found (is_label 2) (Record.Branch 0 ∷ opened before t) (omega (arith, l, m))) refl in
    rw (found (is_label 2) (Record.Label 1 ∷ (map Record.Work t ++ tail)) two, found is_return (map Record.Work t ++ tail) end, o, not_found (is_label 1) (Record.Branch 2 ∷ before) (omega (arith, n)))
    (omega (arith, passed))

-- nothing follows
none_after : (before : List Record) → breach_from before [] ≡ 0
unfolding breach_from
none_after before = refl

-- without a Call
alone : (rs : List Record) → AllOutside true false rs → Fair [] rs → breach rs ≡ length rs
unfolding breach in_block
alone rs p f =
    let e = none_after (reverse_aux rs []) in
    let f' : Fair [] (rs ++ []) = rw (append-nil rs) f in
    ap (breach_from []) (sym (append-nil rs)) ∙ outside_pass false [] rs [] p f' refl (λ c. absurd (true≢false (sym c))) ∙ omega (arith, e)

with_block : (first last : List Record) (t : List Work) → Plain first → Plain last
    → let rs = first ++ (Record.Branch 2 ∷ Record.Label 1 ∷ (map Record.Work t ++ Record.Branch 0 ∷ Record.Label 2 ∷ last)) in
    Fair [] rs → breach rs ≡ length rs
unfolding breach is_label in_block tally is_return
with_block first last t p q f =
    let tail = Record.Branch 0 ∷ Record.Label 2 ∷ last in
    let mid = Record.Branch 2 ∷ Record.Label 1 ∷ (map Record.Work t ++ tail) in
    let body = map Record.Work t ++ tail in
    let label = past (is_label 1) (Record.Branch 2 ∷ []) (Record.Label 1 ∷ body) (first_one (is_label 1) (Record.Label 1) body refl) in
    let one = past (is_label 1) first mid label in
    let before = reverse_aux first [] in
    let a = outside_pass true [] first mid p f refl (λ c. omega (arith, one)) in
    let f1 : Fair (Record.Label 1 ∷ Record.Branch 2 ∷ before) (map Record.Work t ++ tail) = (fair_past [] first mid f).1.1 in
    let f2 : Fair (closed before t) (last ++ []) = rw (append-nil last) (fair_past (Record.Label 1 ∷ Record.Branch 2 ∷ before) (map Record.Work t) tail f1).1.1 in
    let b = block_passes before t last (outside-open true first [] p) (outside_labels true 1 (omega arith) first [] p) (outside_labels true 2 (omega arith) first [] p) in
    let o = outside_labels true 1 (omega arith) (map Record.Work t) (Record.Label 1 ∷ Record.Branch 2 ∷ before) (plain_works t) in
    let c : breach_from (closed before t) last ≡ length last + breach_from (reverse_aux last (closed before t)) [] =
    ap (breach_from (closed before t)) (sym (append-nil last)) ∙ outside_pass true (closed before t) last [] q f2 refl (λ c. omega (arith, o)) in
    let e = none_after (reverse_aux last (closed before t)) in
    omega (arith, a, b, c, e, length-append first mid, length-append (map Record.Work t) tail)

pub no_breach : (m : Mode) (count : ℕ) (l : List Instruction) (s : State) → AllIn count l → s.is_root_defined ≡ false
    → Fair [] (complexify m l s).records → breach (complexify m l s).records ≡ length (complexify m l s).records
no_breach m count l s v e f = go (shape m count l s v e)
  where
    go : Shape (is_stable m) (complexify m l s) → breach (complexify m l s).records ≡ length (complexify m l s).records
    go (unrooted r p) = alone (complexify m l s).records p f
    go (rooted r first p t b last q g) =
        let g' = g ∙ ap (λ (rs : List Record). first ++ (Record.Branch 2 ∷ Record.Label 1 ∷ rs)) (append_assoc (map Record.Work t) (Record.Branch 0 ∷ Record.Label 2 ∷ []) last) in
        subst (λ (rs : List Record). breach rs ≡ length rs) (sym g') (with_block first last t p q (subst (Fair []) g' f))
