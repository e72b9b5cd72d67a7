-- One turn of the count, and the loop over all of them: what is left to count from where it stands is the whole answer.
use Prim.Native.Nat.{ℕ, suc, ◌+◌, ◌≤◌, ◌<◌}
use mathlib.Core.Path.{◌≡◌, refl, sym, ap, ◌∙◌, subst}
use mathlib.Core.Bool.{true, false, cond}
use mathlib.Core.List.{List, [], ◌∷◌, ◌++◌}
use native.Mathlib.Numerals.{add-one}
use native.Mathlib.Omega.{arith}
use borrow.Author.Tests.{lt-ltb, le-ltb, ltb-true, ltb-false, eq-eqb, ne_eqb}
use lib.ListN.{length, take, drop, length-take}
use lib.Seq.{sets, length-sets}
use lib.Dec.{eqb}
use Rattle.mir.specs.declared.records.Instruction.{Instruction}
use Rattle.mir.specs.declared.records.Record.{Record}
use Rattle.mir.specs.Encode.{buf, encode_all}
use Rattle.mir.specs.Decode.{decoded}
use Rattle.mir.proofs.Passing.{either}
use Rattle.mir.proofs.Decoding.{Here}
use Rattle.std.specs.Prelude.{Ok, Err, Result}
use Rattle.mir.specs.declared.refusal.Refusal.{Refusal}
use Rattle.mir.specs.Refusal.{number}
use Rattle.mir.specs.Decode.{as_next}
use Rattle.sheet.specs.Instruction.{instruction_from, instruction_at}
use Rattle.lowering.specs.Complexifier.{State}
use Rattle.lowering.specs.Rerun.{rerun}
use Rattle.lowering.specs.Labels as Labels
use Rattle.lowering.specs.Labels.{Role, role, Standing, none_standing, misplaced, unequal, passed}
use Rattle.lowering.specs.Lower.{barred, past}
use Rattle.lowering.proofs.Tests.{no, neither, goes_on as admitted_on, refused-label, refused-barred, refused-long}
use Rattle.mir.specs.Read.{Read, got, refused}
use Rattle.sheet.proofs.Limit.{nothing, on-here, on-done, on-full}
use Rattle.sheet.proofs.Ranges.{InRange}
use Rattle.leftovers.proofs.Instructions.{AllIn}
use Rattle.leftovers.proofs.Ranges.{all_in_range}
use Rattle.refusals.specs.Noted.{Noted, PassedFirst}
use Rattle.refusals.proofs.Marking.{Follows}
use Rattle.complexifier.specs.Does.{state}
use Rattle.rerun.specs.declared.output.Output.{Output}
use Rattle.rerun.specs.Ends.{Ends, tabled, untabled}
use Rattle.complexify.specs.declared.turn.Cursor.{Cursor}
use Rattle.complexify.specs.Taken as Lowering
use Rattle.complexify.specs.Taken.{space}
use Rattle.complexify.proofs.Copies.{taken}
use Rattle.complexify.proofs.Turns as Turns
use Rattle.complexify.proofs.Turns.{decoded_at, on_true, on_false, cond_right}
use Rattle.figures.specs.declared.counting.Count.{Count}
use Rattle.figures.specs.declared.turn.CountCursor.{CountCursor}
use Rattle.figures.specs.declared.turn.CountNext.{CountNext}
use Rattle.figures.specs.Shelf.{refusal, branch_of, counted, run, shelf_from}
use Rattle.figures.specs.Walk.{StagedBytes, CountWithin}
use Rattle.figures.specs.Taken.{CountReady, figures_at, goes_on, left, refusing, finished, full, CountEnded, CountFinished, CountFits, CountKept, OwnLabel, CountedOne, CountTaken}
use Rattle.figures.proofs.Sizes.{listed_within}
use Rattle.sheet.specs.declared.setup.Mode.{Mode}
use Rattle.sheet.specs.Setup.{is_stable}

shelf_end : (mode : Mode) (fault : ℕ) (rest : List ℕ) (b : Standing) (index : ℕ) (c : Count) (s : State)
    → shelf_from mode [] fault rest b index c s
    ≡ cond (eqb fault 0) (record { number = 0; index = index; bytes = c.bytes; constants = length s.consts; records = run c }) (refusal fault index)
unfolding shelf_from
shelf_end mode fault rest b index c s = refl

-- the figures where the work ends
pub at-refused : (n : ℕ) (p : CountCursor) → (n ≡ 0 → ⊥) → figures_at n p ≡ refusal n p.index
at-refused n p h = simp (ne_eqb _ _ h)

pub at-end : (n : ℕ) (p : CountCursor) → n ≡ 0
    → figures_at n p ≡ record { number = 0; index = p.index; bytes = p.taken.bytes; constants = p.constants; records = run p.taken }
at-end n p h = simp (eq-eqb _ _ h)

-- ---- where lowering would stand

abbrev stand : CountCursor → Cursor
stand p = record { at = p.at; index = p.index; written = 0; count = p.constants; low = p.low }

abbrev ready : {g k : List ℕ} {p : CountCursor} → CountReady g k p → Lowering.Ready g [] k (stand p)
ready r = record { stage = r.stage; room = omega arith; written = omega arith; words = r.words; count = r.count; space = r.space }

-- ---- a refused instruction

unchanged : {g k : List ℕ} {p : CountCursor} (number : ℕ) → CountReady g k p → CountKept k k (refusing number p)
unchanged number r = record { words = refl; count = r.count; space = r.space; taken = r.taken }

module _ {mode : Mode} {i : Instruction} {next : ℕ} {g k : List ℕ} {p : CountCursor} (r : CountReady g k p) where
  refuses : (number : ℕ)
      → ((is : List Instruction) (fault : ℕ) (rest : List ℕ) (b : Standing) → misplaced (role i) b (past rest) ≡ false → unequal (role i) b p.low.real ≡ false
      → goes_on mode (i ∷ is) fault rest b k p ≡ figures_at number p)
      → CountedOne mode i next k p k (refusing number p)
  refuses number h = record { same = h; at = no; index = no; turned = λ own. unchanged number r }

  pub turn-barred : barred (is_stable mode) i p.low.real ≡ true → CountedOne mode i next k p k (refusing 6 p)
  unfolding shelf_from
  turn-barred e = refuses 6 (λ is fault rest b m u. refused-barred mode 65536 i b (past rest) _ _ (λ n. refusal n p.index) _ m e)

-- ---- what a turn of `rerun` listed and added, counted

module _ {t : Output} {i : Role} {rs : List Record} {next : ℕ} {k : List ℕ} {p : CountCursor} {r : CountNext} where
  pub too_long : 65536 < (counted p.taken i rs).bytes → r ≡ refusing 7 p → CountEnded t i rs next k p k r
  too_long h e =
      let z = sym (lt-ltb _ _ h) in
      record {
        stands = e ∙ ap (λ x. cond x (refusing 7 p) (finished t (counted p.taken i rs) next p)) z;
        added = ap (λ x. cond x k (sets k p.constants (take t.added.count t.added.words))) z;
      }

  pub copied : {k' : List ℕ} → (counted p.taken i rs).bytes ≤ 65536 → r ≡ finished t (counted p.taken i rs) next p
      → k' ≡ sets k p.constants (take t.added.count t.added.words)
      → CountEnded t i rs next k p k' r
  copied h e g =
      let z = sym (le-ltb _ _ h) in
      record {
        stands = e ∙ ap (λ x. cond x (refusing 7 p) (finished t (counted p.taken i rs) next p)) z;
        added = g ∙ ap (λ x. cond x k (sets k p.constants (take t.added.count t.added.words))) z;
      }

-- ---- an instruction listed in the stage

module _ (mode : Mode) (i : Instruction) {g g' k : List ℕ} {p : CountCursor} {t : Output}
    (r : CountReady g k p) (d : Ends (buf g 0) p.low (take p.constants k) (tabled (rerun mode i)) g' t)
    (b : barred (is_stable mode) i p.low.real ≡ false) (three : length t.added.words ≡ 3) where
  abbrev before : State
  before = state p.low (take p.constants k)

  abbrev records : List Record
  records = (rerun mode i before).records

  abbrev words : List ℕ
  words = take t.added.count t.added.words

  kept-count : length (take p.constants k) ≡ p.constants
  kept-count = simp length-take (omega (arith, r.words, r.count))

  e : Ends (buf g 0) p.low (take p.constants k) (rerun mode i) g' t
  e = untabled (rerun mode i) (omega (arith, kept-count, r.count)) d

  bytes : take t.at g' ≡ encode_all records
  bytes = Turns.listed-bytes mode i {listing = []} {p = stand p} (ready r) d b three

  pub listed-few : t.at ≤ 704
  listed-few = Turns.listed-few mode i {listing = []} {p = stand p} (ready r) d b three

  pub listed-length : length (take t.at g') ≡ t.at
  listed-length = Turns.listed-length mode i {listing = []} {p = stand p} (ready r) d b three

  pub listed-fits : p.index < 65536 → CountFits t (take t.at g') k p
  listed-fits h =
      let f = Turns.listed-fits mode i {listing = []} {p = stand p} (ready r) d b three h in
      record {
        listed = record { records = records; same = bytes; short = f.short };
        taken = r.taken;
        words = r.words;
        few = f.few;
        count = f.count;
        index = h;
      }

  turn-full : (next : ℕ) → full p (role i) records ≡ true → CountedOne mode i next k p k (refusing 7 p)
  unfolding shelf_from
  turn-full next h =
      refuses r 7
      (λ is fault rest stood m u.
      refused-long mode 65536 i stood (past rest) p.taken.bytes before (λ n. refusal n p.index) _ m b u (ltb-true _ _ h))

  turn-done : (next : ℕ) {k' : List ℕ} → p.index < 65536 → full p (role i) records ≡ false → k' ≡ sets k p.constants words
      → CountedOne mode i next k p k' (finished t (counted p.taken (role i) records) next p)
  unfolding shelf_from
  turn-done next {k'} x h q =
      let f = listed-fits x in
      let l = Turns.added-length mode i {listing = []} {p = stand p} (ready r) d b three in
      let c : p.constants + t.added.count ≡ p.constants + length words = omega (arith, l) in
      let y : take (p.constants + t.added.count) k' ≡ take p.constants k ++ words
      = ap (λ n. take n k') c ∙ ap (take (p.constants + length words)) q ∙ taken k words p.constants (omega (arith, f.count, l, r.words)) in
      record {
        same = λ is fault rest stood m u.
            let behind = passed (role i) p.low.real stood in
            (admitted_on mode 65536 i stood (past rest) p.taken.bytes before (λ n. refusal n p.index) _
            (record { placed = m; allowed = b; equal = u; fits = ltb-false _ _ h }))
            ∙ ap (λ s. shelf_from mode is fault (past rest) behind (suc p.index) (counted p.taken (role i) records) s) (sym e.kept)
            ∙ sym (λ j. shelf_from mode is fault (past rest) behind (add-one p.index j) (counted p.taken (role i) records) (state t.low (y j)));
        at = λ z. refl;
        index = λ z. add-one p.index;
        turned = λ own. record {
          words = ap length q ∙ length-sets k p.constants words;
          count = f.count;
          space = subst (λ k. space k ≤ 256) (sym y) (Turns.listed-space mode i {listing = []} {p = stand p} (ready r) d b three);
          taken = listed_within mode i before p.taken own r.taken (ltb-false _ _ h);
        };
      }

  by-room : (next : ℕ) {k' : List ℕ} {q : CountNext} → p.index < 65536 → CountEnded t (role i) records next k p k' q → CountedOne mode i next k p k' q
  by-room next {k'} {q} x f =
      either (full p (role i) records)
      (λ z.
      subst (λ q. CountedOne mode i next k p k' q) (sym (f.stands ∙ ap (λ x. cond x (refusing 7 p) (finished t (counted p.taken (role i) records) next p)) z))
      (subst (λ l. CountedOne mode i next k p l (refusing 7 p)) (sym (f.added ∙ ap (λ x. cond x k (sets k p.constants words)) z)) (turn-full next z)))
      (λ z.
      subst (λ q. CountedOne mode i next k p k' q) (sym (f.stands ∙ ap (λ x. cond x (refusing 7 p) (finished t (counted p.taken (role i) records) next p)) z))
      (turn-done next x z (f.added ∙ ap (λ x. cond x k (sets k p.constants words)) z)))

  pub turn-finished : (next : ℕ) {n : ℕ} {k' : List ℕ} {q : CountNext} → p.index < 65536 → n ≡ branch_of (role i)
      → CountFinished t (take t.at g') n next k p k' q → CountedOne mode i next k p k' q
  turn-finished next x e f = by-room next x (f (role i) e records bytes)

-- 1 or 0
pub branch_few : (i : Role) → branch_of i ≤ 1
branch_few Labels.works = omega arith
branch_few (Labels.labels l) = omega arith
branch_few (Labels.branches l) = omega arith

-- ---- one turn

-- the work from here on, where b stand before, is the work from there on, where `before` do
pub record CountGoes (mode : Mode) (own : ℕ) (sheet : List ℕ) (b : Standing) (k : List ℕ) (p : CountCursor) (k' marks' rows' : List ℕ) (r : CountNext) : Type 0 where
  pub before : Standing
  pub same : left mode own sheet b k p
      ≡ cond r.done (figures_at r.number r.cursor) (left mode own sheet before k' r.cursor)
  pub noted : r.done ≡ false → Noted before (drop r.cursor.at sheet) marks' rows'

-- one turn of the loop: the labels tested, the instruction taken
pub record CountTurn (mode : Mode) (own : ℕ) (sheet k marks rows : List ℕ) (p : CountCursor) (k' marks' rows' : List ℕ) (r : CountNext) : Type 0 where
  pub goes : (b : Standing) → Noted b (drop p.at sheet) marks rows → CountGoes mode own sheet b k p k' marks' rows' r
  pub on : r.done ≡ false → p.at < r.cursor.at
  pub index : r.done ≡ false → r.cursor.index ≡ suc p.index
  pub turned : CountKept k k' r

-- where no instruction stands, or one that is refused, nothing is left
pub stopped : (mode : Mode) (own : ℕ) (sheet : List ℕ) (b : Standing) (k : List ℕ) (p : CountCursor) {g : List ℕ} (n : ℕ) → CountReady g k p
    → decoded_at own sheet p.index p.at ≡ nothing n → left mode own sheet b k p ≡ figures_at n p
stopped mode own sheet b k p n r h =
    let l : length (take p.constants k) ≡ p.constants = simp length-take (omega (arith, r.words, r.count)) in
    ap (λ d. goes_on mode d.items d.fault (drop p.at sheet) b k p) h
    ∙ shelf_end mode n _ _ _ _ _
    ∙ (λ j.
    cond (eqb n 0) (record { number = 0; index = p.index; bytes = p.taken.bytes; constants = l j; records = run p.taken })
    (refusal n p.index))

-- an instruction that stands at a position
stands_here : (mode : Mode) (own : ℕ) (sheet : List ℕ) (b : Standing) (k : List ℕ) (p : CountCursor) {i : Instruction} {next : ℕ} → p.index < 612
    → Here (instruction_from own) sheet p.at i next
    → let d = decoded_at own sheet (suc p.index) next in
    left mode own sheet b k p ≡ goes_on mode (i ∷ d.items) d.fault (drop p.at sheet) b k p
stands_here mode own sheet b k p {i} {next} l h =
    ap (λ d. goes_on mode d.items d.fault (drop p.at sheet) b k p) (on-here own sheet p.at l h)

-- its label is the sheet's own
in_own : (own : ℕ) (i : Instruction) → InRange own i → OwnLabel (role i)
unfolding role
in_own own Instruction.Nop v = tt
in_own own (Instruction.Uni op d a) v = tt
in_own own (Instruction.Bi op d a b) v = tt
in_own own (Instruction.Mov d a) v = tt
in_own own (Instruction.Load d p) v = tt
in_own own (Instruction.Save a p) v = tt
in_own own (Instruction.LoadConst d i) v = tt
in_own own (Instruction.Fused op d a b c) v = tt
in_own own (Instruction.IfElse d a b p) v = tt
in_own own (Instruction.LoadMath op d a p) v = tt
in_own own (Instruction.LoadConstMath op d a i) v = tt
in_own own (Instruction.Label l) v = v
in_own own (Instruction.Branch l) v = tt
in_own own (Instruction.BranchIf c l e) v = tt

own-label : (own : ℕ) (sheet : List ℕ) (at : ℕ) {i : Instruction} {next : ℕ} → Here (instruction_from own) sheet at i next → OwnLabel (role i)
unfolding decoded
own-label own sheet at {i} {next} h = in_own own i (subst (λ is. AllIn own is) h.same (all_in_range own (drop at sheet) 0)).0

module _ {mode : Mode} {own : ℕ} {sheet k marks rows : List ℕ} {p : CountCursor} (few : p.index < 612) where
  module _ {i : Instruction} {next : ℕ} {marks' rows' : List ℕ} {n : ℕ} (h : Here (instruction_from own) sheet p.at i next)
      (e : instruction_from own (drop p.at sheet) ≡ got i) (w : Follows (role i) p.low.real marks rows marks' rows' n) where
    turn-got : {k' : List ℕ} {r : CountNext} → past (drop p.at sheet) ≡ drop next sheet → n ≡ 0 → CountedOne mode i next k p k' r
        → CountTurn mode own sheet k marks rows p k' marks' rows' r
    turn-got {k'} {r} g z l =
        record {
          goes = λ b t.
              let rest = drop p.at sheet in
              let f = Turns.seen own rest i e in
              let o = neither (role i) b (past rest) p.low.real (sym (w.told b rest f t) ∙ z) in
              let after = passed (role i) p.low.real b in
              let index = suc p.index in
              let d = decoded_at own sheet index next in
              record {
                before = after;
                same =
                    stands_here mode own sheet b k p few h
                    ∙ l.same d.items d.fault rest b o.0 o.1
                    ∙ cond_right r.done _ _ _
                    (λ z.
                    ap (λ rest. goes_on mode d.items d.fault rest after k' r.cursor) g
                    ∙ ap (λ at. goes_on mode (decoded_at own sheet index at).items (decoded_at own sheet index at).fault (drop at sheet) after k' r.cursor) (sym (l.at z))
                    ∙ ap (λ index. goes_on mode (decoded_at own sheet index r.cursor.at).items (decoded_at own sheet index r.cursor.at).fault (drop r.cursor.at sheet) after k' r.cursor) (sym (l.index z)));
                noted = λ y.
                    subst (λ rest. Noted after rest marks' rows') (g ∙ ap (λ at. drop at sheet) (sym (l.at y))) (w.noted b rest f t z);
              };
          on = λ z. let a = l.at z in let o = h.on in omega (arith, a, o);
          index = l.index;
          turned = l.turned (own-label own sheet p.at h);
        }

    -- 10 or 11 refuses it
    turn-refused : {g : List ℕ} → CountReady g k p → (n ≡ 0 → ⊥) → CountTurn mode own sheet k marks rows p k marks' rows' (refusing n p)
    unfolding shelf_from
    turn-refused r z =
        record {
          goes = λ b t.
              let rest = drop p.at sheet in
              record {
                before = b;
                same =
                    stands_here mode own sheet b k p few h
                    ∙ refused-label mode 65536 i b (past rest) _ _ (λ n. refusal n p.index) _ n (w.told b rest (Turns.seen own rest i e) t) z
                    ∙ sym (at-refused n p z);
                noted = no;
              };
          on = no;
          index = no;
          turned = unchanged n r;
        }

-- nothing is left but a number that refuses, a torn record's or 14
turn_stopped : {mode : Mode} {own : ℕ} {sheet k marks rows : List ℕ} {p : CountCursor} {g marks' rows' : List ℕ} {n : ℕ} → CountReady g k p
    → decoded_at own sheet p.index p.at ≡ nothing n → CountTurn mode own sheet k marks rows p k marks' rows' (refusing n p)
turn_stopped {mode} {own} {sheet} {k} {p = p} {n = n} r h =
    record { goes = λ b t. record { before = b; same = stopped mode own sheet b k p n r h; noted = no }; on = no; index = no; turned = unchanged n r }

-- one instruction too many: its labels are not looked at
pub turn_beyond : {mode : Mode} {own : ℕ} {sheet g k marks rows : List ℕ} {p : CountCursor} → CountReady g k p → p.index ≡ 612 → p.at < length sheet
    → CountTurn mode own sheet k marks rows p k marks rows (refusing 14 p)
turn_beyond {own = own} {sheet} {p = p} r e h = turn_stopped r (on-full own sheet p.at e h)

-- the code's answer
module _ (own : ℕ) (sheet : List ℕ) (at : ℕ) (mode : Mode) (k : List ℕ) {p : CountCursor} {r : CountNext} {a : Result (Instruction × ℕ) Refusal} where
  pub one-got : {i : Instruction} {next : ℕ} {k' : List ℕ} → as_next a ≡ instruction_at own sheet at → a ≡ Ok (i, next)
      → CountedOne mode i next k p k' r → CountTaken mode k p k' r (instruction_at own sheet at)
  one-got {k' = k'} e f l = subst (λ x. CountTaken mode k p k' r x) (sym (ap as_next f) ∙ e) l

  pub one-refused : {e : Refusal} {n : ℕ} → as_next a ≡ instruction_at own sheet at → a ≡ Err e → n ≡ number e → r ≡ refusing n p
      → CountTaken mode k p k r (instruction_at own sheet at)
  one-refused e f n h = subst (λ x. CountTaken mode k p k r x) (sym (ap as_next f) ∙ e) (h ∙ ap (λ n. refusing n p) n, refl)

-- the labels tested: a number refuses, or the instruction is taken
module _ {mode : Mode} {own : ℕ} {sheet g k marks rows marks' rows' : List ℕ} {p : CountCursor} {n : ℕ}
    (ready : CountReady g k p) (few : p.index < 612) (t : PassedFirst (drop p.at sheet) p.low.real marks rows marks' rows' n) where
  pub turn-halted : (n ≡ 0 → ⊥) → CountTurn mode own sheet k marks rows p k marks' rows' (refusing n p)
  turn-halted z = go (instruction_from own (drop p.at sheet)) refl
    where
      go : (x : Read Instruction) → instruction_from own (drop p.at sheet) ≡ x → CountTurn mode own sheet k marks rows p k marks' rows' (refusing n p)
      go (got i) e = turn-refused few (Turns.here-got own sheet p.at i e) e (Turns.told own sheet p.at t i e) ready z
      go (refused m) e = absurd (z (Turns.untold own sheet p.at t m e))

  pub turn-taken : {k' : List ℕ} {r : CountNext} → p.at < length sheet → n ≡ 0 → CountTaken mode k p k' r (instruction_at own sheet p.at)
      → CountTurn mode own sheet k marks rows p k' marks' rows' r
  turn-taken {k'} {r} inside z l = go (instruction_from own (drop p.at sheet)) refl
    where
      go : (x : Read Instruction) → instruction_from own (drop p.at sheet) ≡ x → CountTurn mode own sheet k marks rows p k' marks' rows' r
      go (got i) e =
          turn-got few (Turns.here-got own sheet p.at i e) e (Turns.told own sheet p.at t i e) (Turns.past-got own sheet p.at i e) z (subst (λ x. CountTaken mode k p k' r x) (Turns.at-got own sheet p.at i e) l)
      go (refused m) e =
          let q : (r ≡ refusing m p) × (k' ≡ k) = subst (λ x. CountTaken mode k p k' r x) (Turns.at-refused own sheet p.at m e) l in
          subst (λ r. CountTurn mode own sheet k marks rows p k' marks' rows' r) (sym q.0)
          (subst (λ k'. CountTurn mode own sheet k marks rows p k' marks' rows' (refusing m p)) (sym q.1) (turn_stopped ready (on-done own sheet p.at few (Turns.done_refused own sheet p.at m e inside))))

-- ---- the loop

-- what holds before each turn: what is left to count is the whole answer
pub record CountUnderway (mode : Mode) (own : ℕ) (sheet k₀ : List ℕ) (start : CountCursor) (g k marks rows : List ℕ) (p : CountCursor) : Type 0 where
  pub ready : CountReady g k p
  pub index : p.index ≤ 612
  pub before : Standing
  pub noted : Noted before (drop p.at sheet) marks rows
  pub same : left mode own sheet before k p ≡ left mode own sheet none_standing k₀ start

module _ {mode : Mode} {own : ℕ} {sheet k₀ : List ℕ} {start : CountCursor} {g k marks rows : List ℕ} {p : CountCursor}
    (s : CountUnderway mode own sheet k₀ start g k marks rows p) {k' marks' rows' : List ℕ} {r : CountNext} (t : CountTurn mode own sheet k marks rows p k' marks' rows' r) where
  gone : CountGoes mode own sheet s.before k p k' marks' rows' r
  gone = t.goes s.before s.noted

  pub underway-next : {g' : List ℕ} → length g' ≡ length g → p.index < 612 → r.done ≡ false
      → CountUnderway mode own sheet k₀ start g' k' marks' rows' r.cursor
  underway-next h f e =
      let u = t.turned in
      let q = s.ready in
      let i = t.index e in
      record {
        ready = record { stage = h ∙ q.stage; words = u.words ∙ q.words; count = u.count; space = u.space; taken = u.taken };
        index = omega (arith, i, f);
        before = gone.before;
        noted = gone.noted e;
        same = sym (gone.same ∙ on_false _ _ _ e) ∙ s.same;
      }

  pub halted : r.done ≡ true → figures_at r.number r.cursor ≡ left mode own sheet none_standing k₀ start
  halted e = sym (on_true _ _ _ e) ∙ sym gone.same ∙ s.same
