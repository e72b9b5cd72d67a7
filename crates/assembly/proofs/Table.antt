-- The tables of first words are those of the definition.
use Prim.Native.Nat.{ℕ, ◌+◌, ◌-◌, ◌*◌, ◌≤◌, ◌<◌}
use mathlib.Core.Path.{◌≡◌, refl, sym, ap, ◌∙◌}
use mathlib.Core.List.{List, [], ◌∷◌, ◌++◌, map}
use native.Mathlib.Omega.{arith}
use lib.ListN.{length, take, drop, get_or, replicate, get_or-map, get_or-eq_default}
use lib.Dec.{leb}
use borrow.Author.Tests.{leb-true}
use Rattle.text.specs.declared.line.Line.{Line}
use Rattle.text.specs.Line.{empty_line, add_all}
use Rattle.mir.specs.Encode.{record_of}
use Rattle.mir.specs.Length.{length_of}
use Rattle.text.specs.Text.{ascii}
use Rattle.assembly.specs.Assembled.{Sort, a_register, a_class, an_index, a_byte, a_mode, bits, counting, heads, nothing}
use Rattle.assembly.specs.Reading.{sort_of, words_put}
use Rattle.assembly.proofs.Words.{counted}
use Rattle.assembly.proofs.Pieces.{t_true, passes}

-- a sort's letter
abbrev letter : Sort → ℕ
letter a_register = 114
letter a_class = 99
letter an_index = 105
letter a_byte = 110
letter a_mode = 109
letter bits = 98

-- five places for each row
abbrev in_five : ℕ → List (List ℕ) → List ℕ
in_five blank [] = []
in_five blank (r ∷ rs) = take 5 (r ++ replicate 5 blank) ++ in_five blank rs

unfoldable pub start_lengths : List ℕ
unfolding heads ascii record_of length_of
start_lengths = map (λ h. length h.start) heads

unfoldable pub starts : List ℕ
unfolding heads ascii record_of length_of
starts = in_five 0 (map (λ h. h.start) heads)

unfoldable pub sort_counts : List ℕ
unfolding heads ascii record_of length_of
sort_counts = map (λ h. length h.sorts) heads

unfoldable pub sorts_of : List ℕ
unfolding heads ascii record_of length_of
sorts_of = in_five 46 (map (λ h. map letter h.sorts) heads)

starts_same : map (λ n. take (get_or start_lengths n 0) (drop (5 * n) starts)) (counting 59 0) ≡ map (λ h. h.start) heads
unfolding start_lengths starts
starts_same = refl

sorts_same : map (λ n. map sort_of (take (get_or sort_counts n 0) (drop (5 * n) sorts_of))) (counting 59 0) ≡ map (λ h. h.sorts) heads
unfolding sort_counts sorts_of
sorts_same = refl

pub start-row : (n : ℕ) → n < 59 → take (get_or start_lengths n 0) (drop (5 * n) starts) ≡ (get_or heads n nothing).start
start-row n h =
    let z : 0 + n ≡ n = omega arith in
    sym (counted (λ n. take (get_or start_lengths n 0) (drop (5 * n) starts)) 59 0 n [] h ∙ ap (λ n. take (get_or start_lengths n 0) (drop (5 * n) starts)) z)
    ∙ ap (λ l. get_or l n []) starts_same
    ∙ get_or-map (λ h. h.start) heads n nothing

pub sorts_row : (n : ℕ) → n < 59 → map sort_of (take (get_or sort_counts n 0) (drop (5 * n) sorts_of)) ≡ (get_or heads n nothing).sorts
sorts_row n h =
    let z : 0 + n ≡ n = omega arith in
    sym (counted (λ n. map sort_of (take (get_or sort_counts n 0) (drop (5 * n) sorts_of))) 59 0 n [] h ∙ ap (λ n. map sort_of (take (get_or sort_counts n 0) (drop (5 * n) sorts_of))) z)
    ∙ ap (λ l. get_or l n []) sorts_same
    ∙ get_or-map (λ h. h.sorts) heads n nothing

pub start_short : (n : ℕ) → n < 59 → get_or start_lengths n 0 ≤ 5
unfolding start_lengths
start_short n h = leb-true _ 5 (t_true _ (passes (λ n. leb (get_or start_lengths n 0) 5) 59 n tt h))

pub sorts_few : (n : ℕ) → n < 59 → get_or sort_counts n 0 ≤ 5
unfolding sort_counts
sorts_few n h = leb-true _ 5 (t_true _ (passes (λ n. leb (get_or sort_counts n 0) 5) 59 n tt h))

pub row : (n long some : ℕ) (ws : List (List ℕ)) {e start : Line} → n < 59 → long ≡ get_or start_lengths n 0 → some ≡ get_or sort_counts n 0 → e ≡ empty_line
    → start ≡ add_all e (take (5 * n + long - 5 * n) (drop (5 * n) starts))
    → words_put (map sort_of (take (5 * n + some - 5 * n) (drop (5 * n) sorts_of))) start ws
    ≡ words_put (get_or heads n nothing).sorts (add_all empty_line (get_or heads n nothing).start) ws
row n long some ws {e} {start} h f g empty same =
    let x : 5 * n + long - 5 * n ≡ long = omega arith in
    let y : 5 * n + some - 5 * n ≡ some = omega arith in
    let s : start ≡ add_all empty_line (get_or heads n nothing).start =
    same ∙ ap (λ e. add_all e (take (5 * n + long - 5 * n) (drop (5 * n) starts))) empty
    ∙ ap (λ k. add_all empty_line (take k (drop (5 * n) starts))) (x ∙ f) ∙ ap (add_all empty_line) (start-row n h)
    in
    ap (λ k. words_put (map sort_of (take k (drop (5 * n) sorts_of))) start ws) (y ∙ g)
    ∙ ap (λ ks. words_put ks start ws) (sorts_row n h)
    ∙ ap (λ l. words_put (get_or heads n nothing).sorts l ws) s

count : length heads ≡ 59
unfolding heads
count = refl

pub no_row : (n : ℕ) (ws : List (List ℕ)) {e : Line} → 59 ≤ n → e ≡ empty_line
    → words_put [] e ws ≡ words_put (get_or heads n nothing).sorts (add_all empty_line (get_or heads n nothing).start) ws
no_row n ws {e} h empty =
    let l : length heads ≤ n = omega (arith, count, h) in
    ap (λ e. words_put [] e ws) empty ∙ ap (λ x. words_put x.sorts (add_all empty_line x.start) ws) (sym (get_or-eq_default heads nothing l))
