-- Assembling the text of a readable sheet gives its bytes again.
use Prim.Native.Nat.{ℕ, suc, ◌+◌, ◌*◌, ◌≤◌, ◌<◌}
use mathlib.Core.Path.{◌≡◌, refl, sym, ap, ◌∙◌, subst}
use mathlib.Core.Bool.{Bool, true, false, not, cond}
use mathlib.Core.List.{List, [], ◌∷◌, ◌++◌, append-nil}
use native.Mathlib.Omega.{arith}
use borrow.Author.Tests.{ltb-false, eqb-true, ne_eqb, not-false}
use lib.Dec.{ltb, eqb}
use lib.ListN.{length, get_or, take, drop, replicate, length-drop}
use lib.Seq.{length-take-le, get_or-take}
use Rattle.mir.specs.Read.{Read, got, refused, and_then}
use Rattle.mir.specs.Field.{byte_at, u16_at}
use Rattle.mir.specs.Decode.{decoded}
use Rattle.mir.proofs.Passing.{either, passed, clash, got_same}
use Rattle.mir.proofs.Decoding.{Bytes}
use Rattle.sheet.specs.declared.setup.Mode.{Mode}
use Rattle.sheet.specs.Setup.{mode_from, header_from, constants_from, constants_of, setup_with, setup_from, setup}
use Rattle.sheet.specs.Instruction.{instruction_from, cut}
use Rattle.sheet.proofs.Limit.{cut-whole, length_cut}
use Rattle.sheet.proofs.Setting.{right}
use Rattle.text.specs.Text.{ascii}
use Rattle.assembly.specs.Lines.{mode_line}
use Rattle.assembly.specs.SheetText.{real_lines, constant_lines, instruction_lines, of_setup, lines_of, sheet_text}
use Rattle.assembly.specs.Assembled.{a_mode, mode, heads, word_bytes, no_sheet, accepted, refused_at, assembled_from, assembled, pieces, unmarked}
use Rattle.assembly.specs.RoundTrip.{RoundTrip}
use Rattle.assembly.proofs.Pieces.{tails}
use Rattle.assembly.proofs.Words.{mode_byte, mode_name, mode_word}
use Rattle.assembly.proofs.Saying.{none, and, Says, says, Onward, ◌▹◌, onward_as, by_first}
use Rattle.assembly.proofs.Rows.{Row, row}
use Rattle.assembly.proofs.Outcomes.{by_front}
use Rattle.assembly.proofs.Spelling.{start}
use Rattle.assembly.proofs.Reals as Reals
use Rattle.assembly.proofs.Constants as Constants
use Rattle.assembly.proofs.Instructing as Instructing

mode_row : Row 0 (record { word = ascii "mode"; part = mode; start = 69 ∷ 0 ∷ 32 ∷ 0 ∷ []; sorts = a_mode ∷ [] })
unfolding heads ascii
mode_row = row 0 _ tt refl

by_word : (m : Mode) → Says ((ascii "mode" ++ tails (mode_name m ∷ [])) ++ 10 ∷ []) mode (69 ∷ 0 ∷ 32 ∷ 0 ∷ mode_byte m ∷ [])
unfolding word_bytes
by_word m =
    says 0 _ mode_row.low mode_row.same
    (and {k = a_mode} (ap (λ x. and_then x (λ n. got (n ∷ []))) (mode_word m).number) (mode_word m).word none)

-- a mode's line says its byte
mode_said : (m : Mode) → Says (mode_line m) mode (69 ∷ 0 ∷ 32 ∷ 0 ∷ mode_byte m ∷ [])
unfolding mode_line word_bytes ascii
mode_said Mode.Plain = by_word Mode.Plain
mode_said Mode.Stable = by_word Mode.Stable
mode_said Mode.Minding = by_word Mode.Minding

mode-byte : (b : ℕ) (m : Mode) → mode_from b ≡ got m → b ≡ mode_byte m
mode-byte b m e = by_tests (eqb b 0) (eqb b 1) (eqb b 2) refl refl refl e
  where
    by_tests : (x y z : Bool) → eqb b 0 ≡ x → eqb b 1 ≡ y → eqb b 2 ≡ z
        → cond x (got Mode.Plain) (cond y (got Mode.Stable) (cond z (got Mode.Minding) (refused 8))) ≡ got m → b ≡ mode_byte m
    by_tests true y z p q r e = eqb-true b 0 p ∙ ap mode_byte (got_same _ m e)
    by_tests false true z p q r e = eqb-true b 1 q ∙ ap mode_byte (got_same _ m e)
    by_tests false false true p q r e = eqb-true b 2 r ∙ ap mode_byte (got_same _ m e)
    by_tests false false false p q r e = absurd (clash 8 m e)

-- the bytes of a header
record Headed (s : List ℕ) (m : Mode) : Type 0 where
  size : u16_at s 0 ≡ 69
  kind : u16_at s 2 ≡ 32
  mode : byte_at s 4 ≡ mode_byte m

headed : (s : List ℕ) (m : Mode) → header_from s ≡ got m → Headed s m
unfolding header_from
headed s m e =
    let b = passed (ltb (length s) 69) 8 _ m e in
    let c = passed (not (eqb (u16_at s 0) 69)) 8 _ m b.rest in
    let d = passed (not (eqb (u16_at s 2) 32)) 8 _ m c.rest in
    record {
      size = eqb-true (u16_at s 0) 69 (not-false (eqb (u16_at s 0) 69) c.test);
      kind = eqb-true (u16_at s 2) 32 (not-false (eqb (u16_at s 2) 32) d.test);
      mode = mode-byte (byte_at s 4) m d.rest;
    }

-- what a setup that is right was read from
record Known (s : List ℕ) : Type 0 where
  mode : Mode
  count : ℕ
  header : header_from s ≡ got mode
  constants : constants_from 251 (drop 69 s) ≡ got count
  whole : setup s ≡ record { number = 0; mode = mode; places = take 64 (drop 5 s); count = count; start = 69 + 12 * count }

known : (s : List ℕ) → (setup s).number ≡ 0 → Known s
unfolding setup
known s z = by-header (header_from s) refl (constants_from 251 (drop 69 s)) refl z
  where
    by-header : (x : Read Mode) → header_from s ≡ x → (y : Read ℕ) → constants_from 251 (drop 69 s) ≡ y → (setup_from s (header_from s)).number ≡ 0 → Known s
    by-header (got m) e (got n) f z =
        record { mode = m; count = n; header = e; constants = f; whole = ap (setup_from s) e ∙ ap (setup_with s m) f }
    by-header (got m) e (refused n) f z =
        let w = sym (ap (λ u. u.number) (ap (setup_from s) e ∙ ap (setup_with s m) f)) ∙ z in absurd (omega (arith, w))
    by-header (refused n) e y f z = let w = sym (ap (λ u. u.number) (ap (setup_from s) e)) ∙ z in absurd (omega (arith, w))

-- mode and real places
abbrev Opening : Mode → List ℕ → Type 0
Opening m s =
    Bytes s → Headed s m → 64 ≤ length (drop 5 s)
    → Onward no_sheet (mode_line m ++ real_lines (take 64 (drop 5 s)) 512 0) (record { bytes = take 69 s; count = 0; instructions = 0; stage = 1 })

opening : (m : Mode) (s : List ℕ) → 5 ≤ length s → Opening m s
unfolding u16_at
opening m =
    by_front 5 (Opening m)
    (λ a b c d e ps bytes h l.
    let low : Bytes (take 64 ps) = λ i. below ps i (λ j. bytes (suc (suc (suc (suc (suc j)))))) in
    let f = start 69 32 (mode_byte m ∷ take 64 ps) (bytes 0) (bytes 2) (omega arith) (omega arith) h.size h.kind
    ∙ ap (λ x. a ∷ b ∷ c ∷ d ∷ x ∷ take 64 ps) (sym h.mode) in
    by_first (mode_said m) refl refl
    ▹ onward_as refl (ap (λ l. record { bytes = l; count = 0; instructions = 0; stage = 1 }) f) (Reals.all 69 0 32 0 (mode_byte m) (take 64 ps) low (length-take-le 64 ps l)))
  where
    below : (ps : List ℕ) (i : ℕ) → Bytes ps → get_or (take 64 ps) i 0 < 256
    below ps i h =
        either (ltb i 64)
        (λ t. subst (λ x. x < 256) (sym (get_or-take 64 ps i 0 (borrow.Author.Tests.ltb-true i 64 t))) (h i))
        (λ t. let k = ltb-false i 64 t in let n = lib.ListN.length-take 64 ps in
        subst (λ x. x < 256) (sym (lib.ListN.get_or-eq_default (take 64 ps) 0 {n = i} (omega (arith, n, k)))) (omega arith))

-- a sheet's text begins with no byte order mark
no-mark : (m : Mode) (a b c : List ℕ) → unmarked (mode_line m ++ a ++ b ++ c) ≡ mode_line m ++ a ++ b ++ c
unfolding unmarked mode_line ascii
no-mark Mode.Plain a b c = refl
no-mark Mode.Stable a b c = refl
no-mark Mode.Minding a b c = refl

pub round_trip : RoundTrip sheet_text
unfolding sheet_text assembled assembled_from pieces
round_trip s bytes r =
    either (eqb (setup s).number 0)
    (λ t. whole (eqb-true (setup s).number 0 t) (sym (ap (λ t. cond t (of_setup s (setup s)).fault 8) t) ∙ r))
    (λ t. let w : 8 ≡ 0 = sym (ap (λ t. cond t (of_setup s (setup s)).fault 8) t) ∙ r in absurd (omega (arith, w)))
  where
    whole : (setup s).number ≡ 0 → (of_setup s (setup s)).fault ≡ 0 → assembled (sheet_text s) ≡ accepted s
    whole z f =
        let k = known s z in
        let n = k.count in
        let q = right s z in
        let few : n ≤ 251 = subst (λ u. u.count ≤ 251) k.whole q.few in
        let in' : 69 + 12 * n ≤ length s = subst (λ u. u.start ≤ length s) k.whole q.inside in
        let d = length-drop 5 s in
        let g : (of_setup s (record { number = 0; mode = k.mode; places = take 64 (drop 5 s); count = n; start = 69 + 12 * n })).fault ≡ 0 =
        subst (λ u. (of_setup s u).fault ≡ 0) k.whole f in
        let a = opening k.mode s (omega (arith, in')) bytes (headed s k.mode k.header) (omega (arith, in', d)) in
        let b = Constants.all s (omega (arith, in')) bytes 251 0 1 n refl (omega arith) (omega arith) k.constants in
        let held = decoded (instruction_from n) (drop (69 + 12 * n) s) in
        let all : cut 612 held ≡ held = cut-whole 612 held g in
        let bound : length held.items ≤ 612 = subst (λ d. length d.items ≤ 612) all (length_cut 612 held) in
        let c = Instructing.all s n few bytes (length s) (69 + 12 * n) 0 b.far (omega arith) in' b.some (sym (ap (λ d. d.fault) all) ∙ g) (omega (arith, bound)) in
        let o : 0 + n ≡ n = omega arith in
        let way : Onward no_sheet (lines_of s (record { number = 0; mode = k.mode; places = take 64 (drop 5 s); count = n; start = 69 + 12 * n }))
        (record { bytes = s; count = n; instructions = c.instructions; stage = c.far }) =
        a ▹ onward_as refl (ap (λ m. record { bytes = take (69 + 12 * m) s; count = m; instructions = 0; stage = b.far }) o) b.way
        ▹ onward_as (ap (λ d. instruction_lines d.items) (sym all)) refl c.way in
        let e : eqb c.far 0 ≡ false = ne_eqb c.far 0 (λ x. omega (arith, x, c.some)) in
        ap (λ u. assembled_from 1 no_sheet (pieces 10 (unmarked (lines_of s u)))) k.whole
        ∙ ap (λ l. assembled_from 1 no_sheet (pieces 10 l)) (no-mark k.mode (real_lines (take 64 (drop 5 s)) 512 0) (constant_lines (constants_of s n)) (instruction_lines (of_setup s (record { number = 0; mode = k.mode; places = take 64 (drop 5 s); count = n; start = 69 + 12 * n })).items))
        ∙ ap (λ l. assembled_from 1 no_sheet (pieces 10 l)) (sym (append-nil (lines_of s (record { number = 0; mode = k.mode; places = take 64 (drop 5 s); count = n; start = 69 + 12 * n }))))
        ∙ way.goes 1 []
        ∙ ap (λ t. cond t (refused_at (way.lines + 1) 1) (accepted s)) e
