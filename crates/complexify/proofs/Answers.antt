-- The entry's answer: a wrong setup, and the whole loop from the sheet's own constants on.
use Prim.Native.Nat.{ℕ, ◌-◌, ◌≤◌, ◌<◌}
use mathlib.Core.Path.{◌≡◌, sym, ap, ◌∙◌, subst}
use mathlib.Core.Bool.{true, false}
use mathlib.Core.List.{List, [], ◌++◌}
use native.Mathlib.Omega.{arith}
use borrow.Author.Tests.{eq-eqb, ne_eqb, lt-ltb, le-ltb}
use lib.ListN.{length, take, drop, replicate, length-replicate}
use lib.Seq.{sets, length-sets}
use Rattle.mir.specs.declared.records.Record.{Record}
use Rattle.mir.specs.Encode.{encode_all}
use Rattle.sheet.specs.Setup.{Setup, setup, constants_of}
use Rattle.sheet.specs.Instruction.{instructions}
use Rattle.sheet.proofs.Setting.{Right, right, length_constants}
use Rattle.lowering.specs.Realness.{fresh}
use Rattle.lowering.specs.Labels.{none_standing}
use Rattle.lowering.specs.Lower.{Ended, lower_from, start_state, lower_sheet, listed}
use Rattle.lowering.specs.Origins.{from_sheet, origins_from, origins_of}
use Rattle.complexifier.specs.declared.state.Complexifier.{Complexifier}
use Rattle.complexify.specs.declared.entry.LowerAnswer.{LowerAnswer}
use Rattle.complexify.specs.declared.turn.Cursor.{Cursor}
use Rattle.complexify.specs.declared.turn.Stop.{Stop}
use Rattle.complexify.specs.Entry.{wrong_setup, refused_setup, answer_of, answer, listing_after, constants_after, origins_after}
use Rattle.complexify.specs.Taken.{Ready, Appended, left, comes, with_marks, Ran, Dated}
use Rattle.complexify.proofs.Copies.{kept_first, taken_first, kept_then, kept_sets}
use Rattle.complexify.proofs.Grown.{space_start}
use Rattle.complexify.proofs.Finished.{listed-bytes}

-- what the entry promises of its answer and of the three slices
pub record Answered (sheet listing constants origins : List ℕ) (a : LowerAnswer) (listing' constants' origins' : List ℕ) : Type 0 where
  pub answered : a ≡ answer sheet listing constants origins
  pub bytes : listing' ≡ listing_after sheet listing constants origins
  pub words : constants' ≡ constants_after sheet listing constants origins
  pub names : origins' ≡ origins_after sheet listing constants origins

module _ (sheet listing constants origins : List ℕ) (x : Setup) (e : x ≡ setup sheet) where
  abbrev Refused : LowerAnswer → Type 0
  Refused a = Answered sheet listing constants origins a listing constants origins

  refusing : {a : LowerAnswer} → wrong_setup sheet listing constants origins ≡ true → a ≡ refused_setup → Refused a
  refusing w h = record { answered = h ∙ simp w; bytes = simp w; words = simp w; names = simp w }

  pub wrong-sheet : {a : LowerAnswer} → (x.number ≡ 0 → ⊥) → a ≡ refused_setup → Refused a
  wrong-sheet n h = refusing (simp (← e, ne_eqb _ _ n)) h

  pub wrong-listing : {a : LowerAnswer} → x.number ≡ 0 → 65536 < length listing → a ≡ refused_setup → Refused a
  wrong-listing n l h = refusing (simp (← e, eq-eqb _ _ n, lt-ltb _ _ l)) h

  pub wrong-constants : {a : LowerAnswer} → x.number ≡ 0 → length listing ≤ 65536 → (length constants ≡ 256 → ⊥) → a ≡ refused_setup → Refused a
  wrong-constants n l c h = refusing (simp (← e, eq-eqb _ _ n, le-ltb _ _ l, ne_eqb _ _ c)) h

  pub wrong-origins : {a : LowerAnswer} → x.number ≡ 0 → length listing ≤ 65536 → length constants ≡ 256 → (length origins ≡ 256 → ⊥) → a ≡ refused_setup
      → Refused a
  wrong-origins n l c o h = refusing (simp (← e, eq-eqb _ _ n, le-ltb _ _ l, eq-eqb _ _ c, ne_eqb _ _ o)) h

  module _ (n : x.number ≡ 0) (l : length listing ≤ 65536) (c : length constants ≡ 256) (o : length origins ≡ 256) where
    known : Right sheet (setup sheet)
    known = right sheet (ap (λ x. x.number) (sym e) ∙ n)

    pub own-few : x.count ≤ 251
    own-few = let k = known.few in let f = ap (λ x. x.count) e in omega (arith, k, f)

    rightly : wrong_setup sheet listing constants origins ≡ false
    rightly = simp (← e, eq-eqb _ _ n, le-ltb _ _ l, eq-eqb _ _ c, eq-eqb _ _ o)

    abbrev pub beginning : Complexifier → Cursor
    beginning low = record { at = x.start; index = 0; written = 0; count = x.count; low = low }

    own-length : length (constants_of sheet x.count) ≡ x.count
    own-length = length_constants sheet x.count 0

    first : {constants₁ : List ℕ} → constants₁ ≡ sets constants 0 (constants_of sheet x.count)
        → take x.count constants₁ ≡ constants_of sheet x.count
    first k =
        ap (take x.count) k
        ∙ taken_first constants (constants_of sheet x.count) x.count own-length (omega (arith, own-few, c))

    -- the sheet's own origins stand first, each of them 65,535
    abbrev own-origins : List ℕ
    own-origins = replicate x.count from_sheet

    put_first : {origins₁ : List ℕ} → origins₁ ≡ sets origins 0 (replicate (x.count - 0) from_sheet) → origins₁ ≡ sets origins 0 own-origins
    put_first k = let z : x.count - 0 ≡ x.count = omega arith in k ∙ ap (λ n. sets origins 0 (replicate n from_sheet)) z

    pub begin-origins : {origins₁ : List ℕ} → origins₁ ≡ sets origins 0 (replicate (x.count - 0) from_sheet) → length origins₁ ≡ 256
    begin-origins k = ap length k ∙ length-sets origins 0 (replicate (x.count - 0) from_sheet) ∙ o

    pub begin-ready : {stage constants₁ : List ℕ} {low : Complexifier} → length stage ≡ 704 → constants₁ ≡ sets constants 0 (constants_of sheet x.count)
        → Ready stage listing constants₁ (beginning low)
    begin-ready {stage} {constants₁} g k =
        record {
          stage = g;
          room = l;
          written = omega arith;
          words = ap length k ∙ length-sets constants 0 (constants_of sheet x.count) ∙ c;
          count = omega (arith, own-few);
          space = space_start (take x.count constants₁) (let z = ap length (first k) ∙ own-length in omega (arith, own-few, z));
        }

    abbrev ran : List ℕ → Complexifier → Ended
    ran constants₁ low = left x.mode (length listing) x.count sheet none_standing listing constants₁ (beginning low)

    -- the loop from the sheet's own constants on
    module _ {constants₁ : List ℕ} {low : Complexifier} (k : constants₁ ≡ sets constants 0 (constants_of sheet x.count))
        (h : low ≡ record { real = fresh x.places; root_defined = false }) where
      whole : ran constants₁ low ≡ lower_sheet sheet (length listing)
      unfolding lower_sheet
      whole =
          ap (ran constants₁) h
          ∙ ap
          (λ k.
          let rest = drop x.start sheet in
          let d = instructions x.count rest in
          lower_from x.mode (length listing) d.items d.fault rest none_standing 0 [] (start_state x.places k))
          (first k)
          ∙ ap
          (λ y.
          let rest = drop y.start sheet in
          let d = instructions y.count rest in
          lower_from y.mode (length listing) d.items d.fault rest none_standing 0 [] (start_state y.places (constants_of sheet y.count)))
          e

      -- the constants and the origins after it
      stored-words : {constants' : List ℕ} {n : ℕ} → Appended constants₁ x.count constants' n → Appended constants 0 constants' n
      stored-words r =
          kept_then
          (subst (λ l. Appended constants 0 l x.count) (sym k)
          (kept_first constants (constants_of sheet x.count) x.count own-length (omega (arith, own-few, c))))
          r

      module _ {origins₁ origins' : List ℕ} {stop : Stop} (q : origins₁ ≡ sets origins 0 (replicate (x.count - 0) from_sheet))
          (d : Dated (ran constants₁ low) x.mode x.count sheet constants₁ (beginning low) origins₁ origins' stop) where
        own-named : length own-origins ≡ x.count
        own-named = length-replicate x.count from_sheet

        names-kept : Appended origins 0 origins' stop.count
        names-kept =
            kept_then
            (subst (λ l. Appended origins 0 l x.count) (sym (put_first q))
            (kept_first origins own-origins x.count own-named (omega (arith, own-few, o))))
            d.origins

        all_named : take stop.count origins' ≡ origins_of sheet (lower_sheet sheet (length listing)).index
        unfolding origins_of
        all_named =
            let n : (ran constants₁ low).index - 0 ≡ (lower_sheet sheet (length listing)).index = let w = ap (λ w. w.index) whole in omega (arith, w) in
            let end = (lower_sheet sheet (length listing)).index in
            d.named
            ∙ ap (λ l. l ++ comes x.mode x.count sheet constants₁ (beginning low) ((ran constants₁ low).index - 0))
            (ap (take x.count) (put_first q) ∙ taken_first origins own-origins x.count own-named (omega (arith, own-few, o)))
            ∙ ap (λ n. own-origins ++ comes x.mode x.count sheet constants₁ (beginning low) n) n
            ∙ ap (λ low. own-origins ++ comes x.mode x.count sheet constants₁ (beginning low) end) h
            ∙ ap
            (λ k.
            own-origins
            ++ origins_from x.mode 0 (take end (instructions x.count (drop x.start sheet)).items) (start_state x.places k))
            (first k)
            ∙ ap
            (λ y.
            replicate y.count from_sheet
            ++ origins_from y.mode 0 (take end (instructions y.count (drop y.start sheet)).items) (start_state y.places (constants_of sheet y.count)))
            e

        pub answering : {listing' constants' : List ℕ} {a : LowerAnswer}
            → Ran (ran constants₁ low) listing constants₁ (beginning low) listing' constants' stop
            → ((rs : List Record) → take stop.written listing' ≡ encode_all rs → a ≡ with_marks rs stop)
            → Answered sheet listing constants origins a listing' constants' origins'
        answering {listing'} {constants'} r m =
            let end = lower_sheet sheet (length listing) in
            let rs = listed sheet end.index in
            record {
              answered =
                  m rs (sym r.bytes ∙ ap (λ w. w.bytes) whole ∙ listed-bytes sheet (length listing))
                  ∙ ap (with_marks rs) r.stopped
                  ∙ ap (answer_of rs) whole
                  ∙ sym (simp rightly);
              bytes = kept_sets listing listing' 0 stop.written r.listing ∙ ap (sets listing 0) (sym r.bytes ∙ ap (λ w. w.bytes) whole) ∙ sym (simp rightly);
              words =
                  kept_sets constants constants' 0 stop.count (stored-words r.constants)
                  ∙ ap (sets constants 0) (sym r.consts ∙ ap (λ w. w.state.consts) whole)
                  ∙ sym (simp rightly);
              names = kept_sets origins origins' 0 stop.count names-kept ∙ ap (sets origins 0) all_named ∙ sym (simp rightly);
            }
