-- The constants of a sheet, printed and assembled one after the other.
use Prim.Native.Nat.{ℕ, zero, suc, ◌+◌, ◌*◌, ◌≤◌, ◌<◌}
use mathlib.Core.Path.{◌≡◌, refl, sym, ap, ◌∙◌, subst}
use mathlib.Core.Bool.{true, false, not}
use mathlib.Core.List.{List, [], ◌∷◌, ◌++◌}
use native.Mathlib.Omega.{arith}
use borrow.Author.Tests.{ltb-false, le-ltb, lt-leb, eqb-true, not-false}
use lib.Dec.{ltb, leb, eqb}
use lib.ListN.{length, take, drop, length-drop}
use lib.Seq.{length-take-le, get_or-drop, take-add, drop-drop}
use Rattle.words.specs.Bytes.{number}
use Rattle.words.specs.Bytes as Words
use Rattle.mir.specs.Read.{Read, got, refused, refuse}
use Rattle.mir.specs.Field.{u16_at}
use Rattle.mir.proofs.Passing.{either, or_left, or_right, clash, got_same}
use Rattle.mir.proofs.Decoding.{Bytes}
use Rattle.mir.proofs.Tables.{and_right}
use Rattle.sheet.specs.Setup.{is_constant, is_broken, one_more, constants_from, constant_at, constants_from_on}
use Rattle.sheet.proofs.Counting as Counting
use Rattle.assembly.specs.Lines.{constant_line}
use Rattle.assembly.specs.SheetText.{constant_lines}
use Rattle.assembly.specs.Assembled.{Draft, grown, with_line}
use Rattle.assembly.specs.Assembled as Spec
use Rattle.assembly.proofs.Pieces.{t_true, true_t}
use Rattle.assembly.proofs.Saying.{Says, retold, Onward, stay, ◌▹◌, onward_as, by_line}
use Rattle.assembly.proofs.Outcomes.{by_front}
use Rattle.assembly.proofs.Spelling.{start}
use Rattle.assembly.proofs.Hexing.{constant-said}

-- a constant's bytes and its line
abbrev Said : List ℕ → Type 0
Said u = Bytes u → u16_at u 0 ≡ 12 → u16_at u 2 ≡ 33 → Says (constant_line (number (take 8 (drop 4 u)))) Spec.constant_line (take 12 u)

said : (u : List ℕ) → 12 ≤ length u → Said u
unfolding u16_at
said =
    by_front 12 Said
    (λ a b c d e f g h i j k l rest bytes w v.
    retold refl (start 12 33 (e ∷ f ∷ g ∷ h ∷ i ∷ j ∷ k ∷ l ∷ []) (bytes 0) (bytes 2) (omega arith) (omega arith) w v)
    (constant-said e f g h i j k l
    (bytes 4, (bytes 5, (bytes 6, (bytes 7, (bytes 8, (bytes 9, (bytes 10, (bytes 11, tt))))))))))

-- where the lines of n constants from one on lead
pub record Reached (s : List ℕ) (i n stage : ℕ) : Type 0 where
  pub far : ℕ
  pub some : 1 ≤ far
  pub early : far ≤ 2
  pub way : Onward (record { bytes = take (69 + 12 * i) s; count = i; instructions = 0; stage = stage }) (constant_lines (constants_from_on s n i))
      (record { bytes = take (69 + 12 * (i + n)) s; count = i + n; instructions = 0; stage = far })

module _ (s : List ℕ) (least : 69 ≤ length s) (bytes : Bytes s) where
  none : (i stage n : ℕ) → 1 ≤ stage → stage ≤ 2 → 0 ≡ n → Reached s i n stage
  unfolding constant_lines
  none i stage n h k e =
      let z : i ≡ i + 0 = omega arith in
      subst (λ n. Reached s i n stage) e
      (record {
        far = stage;
        some = h;
        early = k;
        way = onward_as refl (ap (λ m. record { bytes = take (69 + 12 * m) s; count = m; instructions = 0; stage = stage }) z) stay;
      })

  one : (i stage : ℕ) → i < 251 → 1 ≤ stage → stage ≤ 2 → is_constant (drop (69 + 12 * i) s) ≡ true → is_broken (drop (69 + 12 * i) s) ≡ false
      → Onward (record { bytes = take (69 + 12 * i) s; count = i; instructions = 0; stage = stage }) (constant_line (constant_at s i))
      (record { bytes = take (69 + 12 * suc i) s; count = suc i; instructions = 0; stage = 2 })
  unfolding with_line constant_at Words.word_at
  one i stage h k l e f =
      let at = 69 + 12 * i in
      let u = drop at s in
      let d = length-drop at s in
      let full : 12 ≤ length u = ltb-false (length u) 12 (or_right (not (eqb (u16_at u 0) 12)) (ltb (length u) 12) f) in
      let w : u16_at u 0 ≡ 12 = eqb-true (u16_at u 0) 12 (not-false (eqb (u16_at u 0) 12) (or_left (not (eqb (u16_at u 0) 12)) (ltb (length u) 12) f)) in
      let v : u16_at u 2 ≡ 33 = eqb-true (u16_at u 2) 33 (t_true (eqb (u16_at u 2) 33) (and_right (leb 4 (length u)) (eqb (u16_at u 2) 33) (true_t (is_constant u) e))) in
      let p = length-take-le at s (omega (arith, d, full, least)) in
      let q = length-take-le 12 u full in
      let a : 73 + 12 * i ≡ at + 4 = omega arith in
      let b : at + 12 ≡ 69 + 12 * suc i = omega arith in
      let c = retold (ap (λ x. constant_line (number (take 8 x))) (drop-drop 4 at s ∙ ap (λ n. drop n s) (sym a))) refl
      (said u full (λ j. subst (λ x. x < 256) (sym (get_or-drop at s j 0)) (bytes (at + j))) w v) in
      by_line c k
      (ap (λ t. refuse t 3 (refuse (leb 251 i) 2 (got (record { bytes = take at s ++ take 12 u; count = suc i; instructions = 0; stage = 2 })))) (le-ltb 2 stage l)
      ∙ ap (λ t. refuse t 2 (got (record { bytes = take at s ++ take 12 u; count = suc i; instructions = 0; stage = 2 }))) (lt-leb 251 i h)
      ∙ ap (λ b. got (record { bytes = b; count = suc i; instructions = 0; stage = 2 })) (sym (take-add at 12 s) ∙ ap (λ n. take n s) b))

  -- one more, where some follow
  more : (i stage n : ℕ) (x : Read ℕ) → i < 251 → 1 ≤ stage → stage ≤ 2 → is_constant (drop (69 + 12 * i) s) ≡ true → is_broken (drop (69 + 12 * i) s) ≡ false
      → one_more x ≡ got n
      → ((m : ℕ) → x ≡ got m → Reached s (suc i) m 2)
      → Reached s i n stage
  unfolding constant_lines
  more i stage n (got m) h k l e f g rest =
      let r = rest m refl in
      let z : suc i + m ≡ i + suc m = omega arith in
      subst (λ n. Reached s i n stage) (got_same (suc m) n g)
      (record {
        far = r.far;
        some = r.some;
        early = r.early;
        way = onward_as refl (ap (λ m. record { bytes = take (69 + 12 * m) s; count = m; instructions = 0; stage = r.far }) z) (one i stage h k l e f ▹ r.way);
      })
  more i stage n (refused m) h k l e f g rest = absurd (clash m n g)

  pub all : (fuel i stage n : ℕ) → i + fuel ≡ 251 → 1 ≤ stage → stage ≤ 2 → constants_from fuel (drop (69 + 12 * i) s) ≡ got n → Reached s i n stage
  all zero i stage n h k l e =
      let u = drop (69 + 12 * i) s in
      either (is_constant u)
      (λ t. absurd (clash 8 n (sym (Counting.full u t) ∙ e)))
      (λ t. none i stage n k l (got_same 0 n (sym (Counting.ended 0 u t) ∙ e)))
  all (suc fuel) i stage n h k l e =
      let u = drop (69 + 12 * i) s in
      let z : 69 + 12 * i + 12 ≡ 69 + 12 * suc i = omega arith in
      either (is_constant u)
      (λ t.
      either (is_broken u)
      (λ b. absurd (clash 8 n (sym (Counting.broken fuel u t b) ∙ e)))
      (λ b.
      more i stage n (constants_from fuel (drop 12 u)) (omega arith) k l t b (sym (Counting.more fuel u t b) ∙ e)
      (λ m f. all fuel (suc i) 2 m (omega arith) (omega arith) (omega arith)
      (ap (constants_from fuel) (sym (drop-drop 12 (69 + 12 * i) s ∙ ap (λ n. drop n s) z)) ∙ f))))
      (λ t. none i stage n k l (got_same 0 n (sym (Counting.ended (suc fuel) u t) ∙ e)))
