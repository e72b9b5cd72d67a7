-- One turn of lowering, and the loop over all of them: what is left to do from where lowering stands is the whole answer.
use Prim.Native.Nat.{ℕ, suc, ◌+◌, ◌-◌, ◌≤◌, ◌<◌}
use mathlib.Core.Path.{◌≡◌, refl, sym, ap, ◌∙◌, subst}
use mathlib.Core.Bool.{Bool, true, false, cond, ◌||◌}
use mathlib.Core.List.{List, [], ◌∷◌, ◌++◌}
use native.Mathlib.Numerals.{add-one}
use native.Mathlib.Omega.{arith}
use borrow.Author.Tests.{lt-ltb, le-ltb, ltb-true, ltb-false}
use lib.ListN.{length, take, drop, replicate, length-append, length-take}
use lib.Seq.{sets}
use Rattle.mir.specs.declared.records.Instruction.{Instruction}
use Rattle.mir.specs.Encode.{Buf, buf, encode_all}
use Rattle.mir.proofs.Passing.{either}
use Rattle.mir.proofs.Decoding.{Here, Done, torn}
use Rattle.mir.specs.Read.{Read, got, refused, and_then}
use Rattle.mir.specs.Field.{u16_at}
use Rattle.mir.specs.Decode.{read_at, Decoded}
use Rattle.sheet.specs.declared.setup.Mode.{Mode}
use Rattle.std.specs.Prelude.{Ok, Err, Result}
use Rattle.mir.specs.declared.refusal.Refusal.{Refusal}
use Rattle.mir.specs.Refusal.{number}
use Rattle.mir.specs.Decode.{as_next}
use Rattle.sheet.specs.Setup.{is_stable}
use Rattle.sheet.specs.Instruction.{instruction_from, instruction_at, instructions_on}
use Rattle.sheet.proofs.Limit.{nothing, on-here, on-done, on-end, on-full}
use Rattle.sheet.proofs.Reading.{here-instruction, past-instruction}
use Rattle.lowering.specs.declared.realness.Realness.{Realness}
use Rattle.lowering.specs.Complexifier.{State}
use Rattle.lowering.specs.Rerun.{rerun}
use Rattle.lowering.specs.Labels as Labels
use Rattle.lowering.specs.Labels.{Role, role, Standing, none_standing, sees, later, misplaced, unequal, passed}
use Rattle.lowering.specs.Lower.{Ended, ended, past, lower_from, barred}
use Rattle.lowering.specs.Origins.{origins_from}
use Rattle.lowering.proofs.Ahead.{label_in, seen_first}
use Rattle.lowering.proofs.Tests.{no, neither, goes_on as admitted_on, refused-label, refused-barred, refused-long}
use Rattle.lines.proofs.Fitting.{push_all_fits}
use Rattle.complexifier.specs.Does.{state}
use Rattle.rerun.specs.declared.output.Output.{Output}
use Rattle.complexify.specs.declared.turn.Cursor.{Cursor}
use Rattle.complexify.specs.declared.turn.Next.{Next}
use Rattle.complexify.specs.declared.turn.Stop.{Stop}
use Rattle.rerun.specs.Ends.{Ends, tabled, untabled}
use Rattle.refusals.specs.Noted.{Noted, role_read, tell, PassedFirst}
use Rattle.complexify.specs.Taken.{space, Ready, Appended, comes, ended_at, goes_on, left, refusal, finished, full, Finished, Fits, Extended, LoweredOne, Taken, stopped_at, stop_of, Ran}
use Rattle.complexify.proofs.Bounds.{staged, spaced}
use Rattle.complexify.proofs.Copies.{taken, kept_store, kept_none, kept_then}
use Rattle.refusals.proofs.Marking.{stands_at, SeenFirst, Follows, follows, passed_as}

lower_end : (mode : Mode) (room fault : ℕ) (rest : List ℕ) (b : Standing) (index : ℕ) (bytes : List ℕ) (s : State)
    → lower_from mode room [] fault rest b index bytes s ≡ ended fault index bytes s
unfolding lower_from
lower_end mode room fault rest b index bytes s = refl

-- ---- a refused instruction

unchanged : {stage listing constants : List ℕ} {p : Cursor} (number : ℕ) → Ready stage listing constants p
    → Extended listing constants p listing constants (refusal number p)
unchanged {stage} {listing} {constants} {p} number r =
    record {
      bytes = kept_none listing p.written r.written;
      words = kept_none constants p.count (omega (arith, r.words, r.count));
      space = r.space;
    }

module _ {mode : Mode} {i : Instruction} {next : ℕ} {stage listing constants : List ℕ} {p : Cursor} (r : Ready stage listing constants p) where
  refusing : (number : ℕ)
      → ((is : List Instruction) (fault : ℕ) (rest : List ℕ) (b : Standing) → misplaced (role i) b (past rest) ≡ false → unequal (role i) b p.low.real ≡ false
      → goes_on mode (length listing) (i ∷ is) fault rest b listing constants p ≡ ended_at number listing constants p)
      → LoweredOne mode i next listing constants p listing constants (refusal number p)
  refusing number h = record { same = h; at = no; index = no; stays = λ e. refl; after = no; turned = unchanged number r }

  pub turn-barred : barred (is_stable mode) i p.low.real ≡ true → LoweredOne mode i next listing constants p listing constants (refusal 6 p)
  unfolding lower_from
  turn-barred e = refusing 6 (λ is fault rest b m u. refused-barred mode (length listing) i b (past rest) _ _ (λ n. ended_at n listing constants p) _ m e)

-- ---- what a turn of `rerun` listed and added, copied

module _ {t : Output} {bytes : List ℕ} {next : ℕ} {listing constants : List ℕ} {p : Cursor} {r : Next} where
  pub too_long : length listing - p.written < length bytes → r ≡ refusal 7 p → Finished t bytes next listing constants p listing constants r
  too_long h e =
      let z = sym (lt-ltb _ _ h) in
      record {
        stands = e ∙ ap (λ x. cond x (refusal 7 p) (finished t bytes next p)) z;
        listed = ap (λ x. cond x listing (sets listing p.written bytes)) z;
        added = ap (λ x. cond x constants (sets constants p.count (take t.added.count t.added.words))) z;
      }

  pub copied : {listing' constants' : List ℕ} → length bytes ≤ length listing - p.written → r ≡ finished t bytes next p
      → listing' ≡ sets listing p.written bytes → constants' ≡ sets constants p.count (take t.added.count t.added.words)
      → Finished t bytes next listing constants p listing' constants' r
  copied h e f g =
      let z = sym (le-ltb _ _ h) in
      record {
        stands = e ∙ ap (λ x. cond x (refusal 7 p) (finished t bytes next p)) z;
        listed = f ∙ ap (λ x. cond x listing (sets listing p.written bytes)) z;
        added = g ∙ ap (λ x. cond x constants (sets constants p.count (take t.added.count t.added.words))) z;
      }

-- ---- an instruction listed in the stage

abbrev bytes_of : Buf → List ℕ
bytes_of (buf l at) = l

abbrev position_of : Buf → ℕ
position_of (buf l at) = at

module _ (mode : Mode) (i : Instruction) {stage stage' listing constants : List ℕ} {p : Cursor} {t : Output}
    (r : Ready stage listing constants p) (d : Ends (buf stage 0) p.low (take p.count constants) (tabled (rerun mode i)) stage' t)
    (b : barred (is_stable mode) i p.low.real ≡ false) (three : length t.added.words ≡ 3) where
  abbrev before : State
  before = state p.low (take p.count constants)

  abbrev bytes : List ℕ
  bytes = encode_all (rerun mode i before).records

  abbrev words : List ℕ
  words = take t.added.count t.added.words

  counted : length (take p.count constants) ≡ p.count
  counted = simp length-take (omega (arith, r.words, r.count))

  e : Ends (buf stage 0) p.low (take p.count constants) (rerun mode i) stage' t
  e = untabled (rerun mode i) (omega (arith, counted, r.count)) d

  whole : buf stage' t.at ≡ buf (sets stage 0 bytes) (0 + length bytes)
  whole = e.listed ∙ push_all_fits stage 0 (rerun mode i before).records (let h = staged mode i before in omega (arith, h, r.stage))

  listed_at : t.at ≡ length bytes
  listed_at = let h : t.at ≡ 0 + length bytes = ap position_of whole in omega (arith, h)

  pub listed-bytes : take t.at stage' ≡ bytes
  listed-bytes =
      let h = staged mode i before in
      let z : 0 + length bytes ≡ t.at = omega (arith, listed_at) in
      ap (λ l. take t.at l) (ap bytes_of whole)
      ∙ ap (λ n. take n (sets stage 0 bytes)) (sym z)
      ∙ taken stage bytes 0 (omega (arith, h, r.stage))

  pub listed-few : t.at ≤ 704
  listed-few = let h = staged mode i before in omega (arith, h, listed_at)

  pub listed-length : length (take t.at stage') ≡ t.at
  listed-length = ap length listed-bytes ∙ sym listed_at

  pub added-length : length words ≡ t.added.count
  added-length = let f = e.few in simp length-take (omega (arith, f, three))

  pub listed-space : space (take p.count constants ++ words) ≤ 256
  listed-space = subst (λ k. space k ≤ 256) (sym (ap (λ s. s.consts) e.kept)) (let h = spaced mode i before in omega (arith, h, r.space))

  added-fits : p.count + t.added.count ≤ 256
  added-fits =
      let n : length (take p.count constants ++ words) ≡ length (take p.count constants) + length words = simp length-append in
      omega (arith, listed-space, n, counted, added-length)

  pub listed-fits : p.index < 65536 → Fits t (take t.at stage') listing constants p
  listed-fits h =
      record {
        short = omega (arith, listed-length, listed-few);
        room = r.room;
        written = r.written;
        words = r.words;
        few = let f = e.few in omega (arith, f, three);
        count = added-fits;
        index = h;
      }

  written-length : length (take p.written listing) ≡ p.written
  written-length = simp length-take (omega (arith, r.written))

  turn-full : (next : ℕ) → length listing - p.written < length bytes → LoweredOne mode i next listing constants p listing constants (refusal 7 p)
  unfolding lower_from
  turn-full next h =
      refusing r 7
      (λ is fault rest stood m u.
      refused-long mode (length listing) i stood (past rest) _ before (λ n. ended_at n listing constants p) _ m b u (omega (arith, h, written-length, r.written)))

  turn-done : (next : ℕ) {listing' constants' : List ℕ} → length bytes ≤ length listing - p.written
      → listing' ≡ sets listing p.written bytes → constants' ≡ sets constants p.count words
      → LoweredOne mode i next listing constants p listing' constants' (finished t bytes next p)
  unfolding lower_from
  turn-done next {listing'} {constants'} h f g =
      let room : p.written + length bytes ≤ length listing = omega (arith, h, r.written) in
      let c : p.count + t.added.count ≡ p.count + length words = omega (arith, added-length) in
      let fits : p.count + length words ≤ length constants = omega (arith, added-fits, added-length, r.words) in
      let x : take (p.written + length bytes) listing' ≡ take p.written listing ++ bytes
      = ap (take (p.written + length bytes)) f ∙ taken listing bytes p.written room in
      let y : take (p.count + t.added.count) constants' ≡ take p.count constants ++ words
      = ap (λ n. take n constants') c ∙ ap (take (p.count + length words)) g ∙ taken constants words p.count fits in
      record {
        same = λ is fault rest stood m u.
            let next = passed (role i) p.low.real stood in
            (admitted_on mode (length listing) i stood (past rest) _ before (λ n. ended_at n listing constants p) _
            (record { placed = m; allowed = b; equal = u; fits = omega (arith, room, written-length) }))
            ∙ ap (λ s. lower_from mode (length listing) is fault (past rest) next (suc p.index) (take p.written listing ++ bytes) s) (sym e.kept)
            ∙ sym (λ j. lower_from mode (length listing) is fault (past rest) next (add-one p.index j) (x j) (state t.low (y j)));
        at = λ z. refl;
        index = λ z. add-one p.index;
        stays = λ z. no (sym z);
        after = λ z. ap (state t.low) y ∙ e.kept;
        turned = record {
          bytes = subst (λ l. Appended listing p.written l (p.written + length bytes)) (sym f) (kept_store listing bytes p.written room);
          words = subst (λ l. Appended constants p.count l (p.count + t.added.count)) (sym g)
              (subst (λ n. Appended constants p.count (sets constants p.count words) n) (sym c) (kept_store constants words p.count fits));
          space = subst (λ k. space k ≤ 256) (sym y) listed-space;
        };
      }

  by-room : (next : ℕ) {listing' constants' : List ℕ} {q : Next} → Finished t bytes next listing constants p listing' constants' q
      → LoweredOne mode i next listing constants p listing' constants' q
  by-room next {listing'} {constants'} {q} f =
      either (full bytes listing p)
      (λ z.
      subst (λ q. LoweredOne mode i next listing constants p listing' constants' q)
      (sym (f.stands ∙ ap (λ x. cond x (refusal 7 p) (finished t bytes next p)) z))
      (subst (λ k. LoweredOne mode i next listing constants p listing' k (refusal 7 p))
      (sym (f.added ∙ ap (λ x. cond x constants (sets constants p.count words)) z))
      (subst (λ l. LoweredOne mode i next listing constants p l constants (refusal 7 p))
      (sym (f.listed ∙ ap (λ x. cond x listing (sets listing p.written bytes)) z)) (turn-full next (ltb-true _ _ z)))))
      (λ z.
      subst (λ q. LoweredOne mode i next listing constants p listing' constants' q)
      (sym (f.stands ∙ ap (λ x. cond x (refusal 7 p) (finished t bytes next p)) z))
      (turn-done next (ltb-false _ _ z)
      (f.listed ∙ ap (λ x. cond x listing (sets listing p.written bytes)) z)
      (f.added ∙ ap (λ x. cond x constants (sets constants p.count words)) z)))

  pub turn-finished : (next : ℕ) {listing' constants' : List ℕ} {q : Next}
      → Finished t (take t.at stage') next listing constants p listing' constants' q
      → LoweredOne mode i next listing constants p listing' constants' q
  turn-finished next {listing'} {constants'} {q} f =
      by-room next (subst (λ l. Finished t l next listing constants p listing' constants' q) listed-bytes f)

-- ---- one turn

-- the work from here on, where b stand before, is the work from there on, where `before` do
pub record Goes (mode : Mode) (own : ℕ) (sheet : List ℕ) (b : Standing) (listing constants : List ℕ) (p : Cursor) (listing' constants' marks' rows' : List ℕ) (r : Next) : Type 0 where
  pub before : Standing
  pub same : left mode (length listing) own sheet b listing constants p
      ≡ cond r.done (ended_at r.number listing' constants' r.stand) (left mode (length listing) own sheet before listing' constants' r.stand)
  pub noted : r.done ≡ false → Noted before (drop r.stand.at sheet) marks' rows'

-- one turn of the loop: the labels tested, the instruction taken
pub record Turn (mode : Mode) (own : ℕ) (sheet listing constants marks rows : List ℕ) (p : Cursor) (listing' constants' marks' rows' : List ℕ) (r : Next) : Type 0 where
  pub goes : (b : Standing) → Noted b (drop p.at sheet) marks rows → Goes mode own sheet b listing constants p listing' constants' marks' rows' r
  pub on : r.done ≡ false → p.at < r.stand.at
  pub index : r.done ≡ false → r.stand.index ≡ suc p.index
  pub stays : r.done ≡ true → r.stand ≡ p
  pub origins : r.done ≡ false → (n : ℕ)
      → comes mode own sheet constants p (suc n) ≡ replicate (r.stand.count - p.count) p.index ++ comes mode own sheet constants' r.stand n
  pub turned : Extended listing constants p listing' constants' r

pub on_false : {A : Type 0} (b : Bool) (x y : A) → b ≡ false → cond b x y ≡ y
on_false b x y e = simp e

pub on_true : {A : Type 0} (b : Bool) (x y : A) → b ≡ true → cond b x y ≡ x
on_true b x y e = simp e

pub cond_right : {A : Type 0} (b : Bool) (x y z : A) → (b ≡ false → y ≡ z) → cond b x y ≡ cond b x z
cond_right true x y z f = refl
cond_right false x y z f = f refl

-- the instructions from a position on, of which the first has an index
abbrev pub decoded_at : ℕ → List ℕ → ℕ → ℕ → Decoded Instruction
decoded_at own sheet index at = instructions_on index own (drop at sheet)

-- where none stands, or one that is refused, nothing is left
stopped : (mode : Mode) (room own : ℕ) (sheet : List ℕ) (b : Standing) (listing constants : List ℕ) (p : Cursor) (k : ℕ)
    → decoded_at own sheet p.index p.at ≡ nothing k
    → left mode room own sheet b listing constants p ≡ ended_at k listing constants p
stopped mode room own sheet b listing constants p k h =
    ap (λ d. goes_on mode room d.items d.fault (drop p.at sheet) b listing constants p) h ∙ lower_end mode room k _ _ _ _ _

-- what looking ahead sees first
pub seen : (own : ℕ) (rest : List ℕ) (i : Instruction) → instruction_from own rest ≡ got i → SeenFirst (role i) rest
seen own rest i e l = seen_first own l rest i e ∙ ap (λ (q : Bool). q || later l (past rest)) (by (role i))
  where
    by : (r : Role) → sees l (label_in r) ≡ stands_at l r
    by Labels.works = refl
    by (Labels.labels m) = refl
    by (Labels.branches m) = refl

-- an instruction that stands at a position
stands_here : (mode : Mode) (own : ℕ) (sheet : List ℕ) (b : Standing) (listing constants : List ℕ) (p : Cursor) {i : Instruction} {next : ℕ} → p.index < 612
    → Here (instruction_from own) sheet p.at i next
    → let d = decoded_at own sheet (suc p.index) next in
    left mode (length listing) own sheet b listing constants p
    ≡ goes_on mode (length listing) (i ∷ d.items) d.fault (drop p.at sheet) b listing constants p
stands_here mode own sheet b listing constants p {i} {next} l h =
    ap (λ d. goes_on mode (length listing) d.items d.fault (drop p.at sheet) b listing constants p) (on-here own sheet p.at l h)

-- the origins of what an instruction appends, and of what the next n do
first_origins : {mode : Mode} (own : ℕ) (sheet : List ℕ) {listing constants : List ℕ} {p : Cursor} {i : Instruction} {next : ℕ} {listing' constants' : List ℕ} {r : Next}
    → p.index < 612 → Here (instruction_from own) sheet p.at i next → LoweredOne mode i next listing constants p listing' constants' r
    → r.done ≡ false → (n : ℕ)
    → comes mode own sheet constants p (suc n) ≡ replicate (r.stand.count - p.count) p.index ++ comes mode own sheet constants' r.stand n
unfolding origins_from
first_origins {mode} own sheet {listing} {constants} {p} {i} {next} {listing'} {constants'} {r} few h l z n =
    let w = l.turned.words in
    let before : State = state p.low (take p.count constants) in
    let x : length (take p.count constants) ≡ p.count = simp length-take (omega (arith, w.more, w.fits)) in
    let y : length (take r.stand.count constants') ≡ r.stand.count = simp length-take (omega (arith, w.fits, w.long)) in
    let more : length (rerun mode i before).after.consts - length (take p.count constants) ≡ r.stand.count - p.count
    = ap (λ s. length s.consts - length (take p.count constants)) (sym (l.after z)) ∙ (λ j. y j - x j) in
    let on : ℕ → ℕ → State → List ℕ = λ index at s. origins_from mode index (take n (decoded_at own sheet index at).items) s in
    ap (λ d. origins_from mode p.index (take (suc n) d.items) before) (on-here own sheet p.at few h)
    ∙ ap (λ k. replicate k p.index ++ on (suc p.index) next (rerun mode i before).after) more
    ∙ (λ j. replicate (r.stand.count - p.count) p.index ++ on (sym (l.index z) j) (sym (l.at z) j) (sym (l.after z) j))

module _ {mode : Mode} {own : ℕ} {sheet listing constants marks rows : List ℕ} {p : Cursor} (few : p.index < 612) where
  module _ {i : Instruction} {next : ℕ} {marks' rows' : List ℕ} {n : ℕ} (h : Here (instruction_from own) sheet p.at i next)
      (e : instruction_from own (drop p.at sheet) ≡ got i) (w : Follows (role i) p.low.real marks rows marks' rows' n) where
    turn-got : {listing' constants' : List ℕ} {r : Next} → past (drop p.at sheet) ≡ drop next sheet → n ≡ 0
        → LoweredOne mode i next listing constants p listing' constants' r
        → Turn mode own sheet listing constants marks rows p listing' constants' marks' rows' r
    turn-got {listing'} {constants'} {r} g z l =
        record {
          goes = λ b t.
              let rest = drop p.at sheet in
              let f = seen own rest i e in
              let o = neither (role i) b (past rest) p.low.real (sym (w.told b rest f t) ∙ z) in
              let after = passed (role i) p.low.real b in
              let index = suc p.index in
              let d = decoded_at own sheet index next in
              record {
                before = after;
                same =
                    stands_here mode own sheet b listing constants p few h
                    ∙ l.same d.items d.fault rest b o.0 o.1
                    ∙ cond_right r.done _ _ _
                    (λ z.
                    ap (λ rest. goes_on mode (length listing) d.items d.fault rest after listing' constants' r.stand) g
                    ∙ ap (λ at. goes_on mode (length listing) (decoded_at own sheet index at).items (decoded_at own sheet index at).fault (drop at sheet) after listing' constants' r.stand) (sym (l.at z))
                    ∙ ap (λ index. goes_on mode (length listing) (decoded_at own sheet index r.stand.at).items (decoded_at own sheet index r.stand.at).fault (drop r.stand.at sheet) after listing' constants' r.stand) (sym (l.index z)));
                noted = λ y.
                    subst (λ rest. Noted after rest marks' rows') (g ∙ ap (λ at. drop at sheet) (sym (l.at y))) (w.noted b rest f t z);
              };
          on = λ z. let a = l.at z in let o = h.on in omega (arith, a, o);
          index = l.index;
          stays = l.stays;
          origins = first_origins own sheet few h l;
          turned = l.turned;
        }

    -- 10 or 11 refuses it
    turn-refused : {stage : List ℕ} → Ready stage listing constants p → (n ≡ 0 → ⊥)
        → Turn mode own sheet listing constants marks rows p listing constants marks' rows' (refusal n p)
    unfolding lower_from
    turn-refused r z =
        record {
          goes = λ b t.
              let rest = drop p.at sheet in
              record {
                before = b;
                same =
                    stands_here mode own sheet b listing constants p few h
                    ∙ refused-label mode (length listing) i b (past rest) _ _ (λ n. ended_at n listing constants p) _ n (w.told b rest (seen own rest i e) t) z;
                noted = no;
              };
          on = no;
          index = no;
          stays = λ z. refl;
          origins = no;
          turned = unchanged n r;
        }

-- nothing is left but a number that refuses, a torn record's or 14
turn_stopped : {mode : Mode} {own : ℕ} {sheet listing constants marks rows : List ℕ} {p : Cursor} {stage marks' rows' : List ℕ} {k : ℕ}
    → Ready stage listing constants p → decoded_at own sheet p.index p.at ≡ nothing k
    → Turn mode own sheet listing constants marks rows p listing constants marks' rows' (refusal k p)
turn_stopped {mode} {own} {sheet} {listing} {constants} {p = p} {k = k} r h =
    record {
      goes = λ b t. record { before = b; same = stopped mode (length listing) own sheet b listing constants p k h; noted = no };
      on = no;
      index = no;
      stays = λ z. refl;
      origins = no;
      turned = unchanged k r;
    }

-- one instruction too many: its labels are not looked at
pub turn_beyond : {mode : Mode} {own : ℕ} {sheet stage listing constants marks rows : List ℕ} {p : Cursor} → Ready stage listing constants p
    → p.index ≡ 612 → p.at < length sheet
    → Turn mode own sheet listing constants marks rows p listing constants marks rows (refusal 14 p)
turn_beyond {own = own} {sheet} {p = p} r e h = turn_stopped r (on-full own sheet p.at e h)

-- the code's answer
module _ (own : ℕ) (sheet : List ℕ) (at : ℕ) (mode : Mode) (listing constants : List ℕ) {p : Cursor} {r : Next} {a : Result (Instruction × ℕ) Refusal} where
  pub one-got : {i : Instruction} {next : ℕ} {listing' constants' : List ℕ} → as_next a ≡ instruction_at own sheet at → a ≡ Ok (i, next)
      → LoweredOne mode i next listing constants p listing' constants' r
      → Taken mode listing constants p listing' constants' r (instruction_at own sheet at)
  one-got {listing' = listing'} {constants' = constants'} e f l =
      subst (λ x. Taken mode listing constants p listing' constants' r x) (sym (ap as_next f) ∙ e) l

  pub one-refused : {e : Refusal} {n : ℕ} → as_next a ≡ instruction_at own sheet at → a ≡ Err e → n ≡ number e → r ≡ refusal n p
      → Taken mode listing constants p listing constants r (instruction_at own sheet at)
  one-refused e f n h = subst (λ x. Taken mode listing constants p listing constants r x) (sym (ap as_next f) ∙ e) (h ∙ ap (λ n. refusal n p) n, refl, refl)

-- by what is read at the position
abbrev pub behind : List ℕ → ℕ → ℕ
behind sheet at = at + u16_at (drop at sheet) 0

module _ (own : ℕ) (sheet : List ℕ) (at : ℕ) where
  pub at-got : (i : Instruction) → instruction_from own (drop at sheet) ≡ got i
      → instruction_at own sheet at ≡ got (record { item = i; next = behind sheet at })
  unfolding read_at
  at-got i e = ap (λ x. and_then x (λ i. got (record { item = i; next = behind sheet at }))) e

  pub at-refused : (k : ℕ) → instruction_from own (drop at sheet) ≡ refused k → instruction_at own sheet at ≡ refused k
  unfolding read_at
  at-refused k e = ap (λ x. and_then x (λ i. got (record { item = i; next = behind sheet at }))) e

  pub here-got : (i : Instruction) → instruction_from own (drop at sheet) ≡ got i → Here (instruction_from own) sheet at i (behind sheet at)
  here-got i e = here-instruction own sheet at {r = Ok (i, behind sheet at)} (sym (at-got i e)) refl

  pub past-got : (i : Instruction) → instruction_from own (drop at sheet) ≡ got i → past (drop at sheet) ≡ drop (behind sheet at) sheet
  past-got i e = past-instruction own sheet at {r = Ok (i, behind sheet at)} (sym (at-got i e)) refl

  pub done_refused : (k : ℕ) → instruction_from own (drop at sheet) ≡ refused k → at < length sheet → Done (instruction_from own) sheet at k
  done_refused k e h = torn (instruction_from own) sheet at k (at-refused k e) h

  -- what the tables tell of it
  module _ {ρ : Realness} {marks rows marks' rows' : List ℕ} {n : ℕ} (t : PassedFirst (drop at sheet) ρ marks rows marks' rows' n) where
    pub told : (i : Instruction) → instruction_from own (drop at sheet) ≡ got i → Follows (role i) ρ marks rows marks' rows' n
    told i e = follows (passed_as (sym (ap role_read e)) (t own))

    pub untold : (k : ℕ) → instruction_from own (drop at sheet) ≡ refused k → n ≡ 0
    untold k e = (t own).told ∙ ap (λ (i : Role). tell i ρ marks rows) (ap role_read e)

-- the labels tested: a number refuses, or the instruction is taken
module _ {mode : Mode} {own : ℕ} {sheet stage listing constants marks rows marks' rows' : List ℕ} {p : Cursor} {n : ℕ}
    (ready : Ready stage listing constants p) (few : p.index < 612) (t : PassedFirst (drop p.at sheet) p.low.real marks rows marks' rows' n) where
  pub turn-halted : (n ≡ 0 → ⊥) → Turn mode own sheet listing constants marks rows p listing constants marks' rows' (refusal n p)
  turn-halted z = go (instruction_from own (drop p.at sheet)) refl
    where
      go : (x : Read Instruction) → instruction_from own (drop p.at sheet) ≡ x
          → Turn mode own sheet listing constants marks rows p listing constants marks' rows' (refusal n p)
      go (got i) e = turn-refused few (here-got own sheet p.at i e) e (told own sheet p.at t i e) ready z
      go (refused k) e = absurd (z (untold own sheet p.at t k e))

  pub turn-taken : {listing' constants' : List ℕ} {r : Next} → p.at < length sheet → n ≡ 0
      → Taken mode listing constants p listing' constants' r (instruction_at own sheet p.at)
      → Turn mode own sheet listing constants marks rows p listing' constants' marks' rows' r
  turn-taken {listing'} {constants'} {r} inside z l = go (instruction_from own (drop p.at sheet)) refl
    where
      go : (x : Read Instruction) → instruction_from own (drop p.at sheet) ≡ x
          → Turn mode own sheet listing constants marks rows p listing' constants' marks' rows' r
      go (got i) e =
          turn-got few (here-got own sheet p.at i e) e (told own sheet p.at t i e) (past-got own sheet p.at i e) z
          (subst (λ x. Taken mode listing constants p listing' constants' r x) (at-got own sheet p.at i e) l)
      go (refused k) e =
          let q : (r ≡ refusal k p) × (listing' ≡ listing) × (constants' ≡ constants)
          = subst (λ x. Taken mode listing constants p listing' constants' r x) (at-refused own sheet p.at k e) l in
          subst (λ r. Turn mode own sheet listing constants marks rows p listing' constants' marks' rows' r) (sym q.0)
          (subst (λ k'. Turn mode own sheet listing constants marks rows p listing' k' marks' rows' (refusal k p)) (sym q.2)
          (subst (λ l'. Turn mode own sheet listing constants marks rows p l' constants marks' rows' (refusal k p)) (sym q.1)
          (turn_stopped ready (on-done own sheet p.at few (done_refused own sheet p.at k e inside)))))

-- where the work ends
ran : {whole : Ended} {listing constants : List ℕ} {start : Cursor} {listing' constants' : List ℕ} (number : ℕ) (p : Cursor) {a : Stop}
    → whole ≡ ended_at number listing' constants' p → Appended listing start.written listing' p.written
    → Appended constants start.count constants' p.count
    → a ≡ stopped_at number p
    → Ran whole listing constants start listing' constants' a
ran {whole} {listing} {constants} {start} {listing'} {constants'} number p {a} e b w h =
    let x : p.written ≡ length (take p.written listing') = sym (simp length-take (omega (arith, b.fits, b.long))) in
    let y : p.count ≡ length (take p.count constants') = sym (simp length-take (omega (arith, w.fits, w.long))) in
    record {
      stopped = h ∙ (λ j. record { number = number; index = p.index; written = x j; count = y j; real = p.low.real }) ∙ ap stop_of (sym e);
      bytes = ap (λ w. w.bytes) e ∙ ap (λ a. take a.written listing') (sym h);
      consts = ap (λ w. w.state.consts) e ∙ ap (λ a. take a.count constants') (sym h);
      listing = subst (λ a. Appended listing start.written listing' a.written) (sym h) b;
      constants = subst (λ a. Appended constants start.count constants' a.count) (sym h) w;
    }

-- ---- the loop

-- what holds before each turn: what is left to do is the whole answer
pub record Underway (mode : Mode) (own : ℕ) (sheet listing₀ constants₀ : List ℕ) (start : Cursor) (stage listing constants marks rows : List ℕ) (p : Cursor) : Type 0 where
  pub ready : Ready stage listing constants p
  pub index : p.index ≤ 612
  pub bytes : Appended listing₀ start.written listing p.written
  pub words : Appended constants₀ start.count constants p.count
  pub before : Standing
  pub noted : Noted before (drop p.at sheet) marks rows
  pub same : left mode (length listing₀) own sheet before listing constants p ≡ left mode (length listing₀) own sheet none_standing listing₀ constants₀ start

module _ {mode : Mode} {own : ℕ} {sheet listing₀ constants₀ : List ℕ} {start : Cursor} where
  pub underway-first : {stage marks rows : List ℕ} → Ready stage listing₀ constants₀ start → start.index ≤ 612
      → Noted none_standing (drop start.at sheet) marks rows
      → Underway mode own sheet listing₀ constants₀ start stage listing₀ constants₀ marks rows start
  underway-first r h t =
      record {
        ready = r;
        index = h;
        bytes = kept_none listing₀ start.written r.written;
        words = kept_none constants₀ start.count (omega (arith, r.words, r.count));
        before = none_standing;
        noted = t;
        same = refl;
      }

  module _ {stage listing constants marks rows : List ℕ} {p : Cursor} (s : Underway mode own sheet listing₀ constants₀ start stage listing constants marks rows p) where
    module _ {listing' constants' marks' rows' : List ℕ} {r : Next} (t : Turn mode own sheet listing constants marks rows p listing' constants' marks' rows' r) where
      gone : Goes mode own sheet s.before listing constants p listing' constants' marks' rows' r
      gone = t.goes s.before s.noted

      turned_same : left mode (length listing₀) own sheet s.before listing constants p
          ≡ cond r.done (ended_at r.number listing' constants' r.stand)
          (left mode (length listing₀) own sheet gone.before listing' constants' r.stand)
      turned_same =
          subst
          (λ n. left mode n own sheet s.before listing constants p
          ≡ cond r.done (ended_at r.number listing' constants' r.stand) (left mode n own sheet gone.before listing' constants' r.stand))
          s.bytes.long gone.same

      pub underway-next : {stage' : List ℕ} → length stage' ≡ length stage → p.index < 612 → r.done ≡ false
          → Underway mode own sheet listing₀ constants₀ start stage' listing' constants' marks' rows' r.stand
      underway-next g f e =
          let a = t.turned.bytes in
          let b = t.turned.words in
          let q = s.ready in
          let i = t.index e in
          record {
            ready = record {
              stage = g ∙ q.stage;
              room = omega (arith, a.long, q.room);
              written = omega (arith, a.long, a.fits);
              words = b.long ∙ q.words;
              count = omega (arith, b.fits, q.words);
              space = t.turned.space;
            };
            index = omega (arith, i, f);
            bytes = kept_then s.bytes a;
            words = kept_then s.words b;
            before = gone.before;
            noted = gone.noted e;
            same = sym (turned_same ∙ on_false _ _ _ e) ∙ s.same;
          }

      pub ended-there : r.done ≡ true
          → left mode (length listing₀) own sheet none_standing listing₀ constants₀ start ≡ ended_at r.number listing' constants' r.stand
      ended-there e = sym s.same ∙ turned_same ∙ on_true _ _ _ e

      pub ran-refused : {a : Stop} → r.done ≡ true
          → a ≡ stopped_at r.number r.stand
          → Ran (left mode (length listing₀) own sheet none_standing listing₀ constants₀ start) listing₀ constants₀ start listing' constants' a
      ran-refused e h = ran r.number r.stand (ended-there e) (kept_then s.bytes t.turned.bytes) (kept_then s.words t.turned.words) h

    pub ended_here : Done (instruction_from own) sheet p.at 0
        → left mode (length listing₀) own sheet none_standing listing₀ constants₀ start ≡ ended_at 0 listing constants p
    ended_here d = sym s.same ∙ stopped mode (length listing₀) own sheet s.before listing constants p 0 (on-end own sheet p.at p.index d)

    pub ran-ended : {a : Stop} → Done (instruction_from own) sheet p.at 0
        → a ≡ stopped_at 0 p
        → Ran (left mode (length listing₀) own sheet none_standing listing₀ constants₀ start) listing₀ constants₀ start listing constants a
    ran-ended d h = ran 0 p (ended_here d) s.bytes s.words h
