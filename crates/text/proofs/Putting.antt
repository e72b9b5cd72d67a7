-- Text put behind text.
use Prim.Native.Nat.{ℕ, ◌+◌, ◌-◌, ◌≤◌, ◌<◌}
use mathlib.Core.Path.{◌≡◌, refl, sym, ap, ◌∙◌, subst}
use mathlib.Core.List.{List, [], ◌∷◌, ◌++◌}
use native.Mathlib.Nat.{sub-zero}
use native.Mathlib.Omega.{arith}
use lib.ListN.{length, take, length-append}
use lib.Seq.{sets, length-sets, take_all}
use Rattle.words.specs.Bytes.{stored}
use Rattle.words.proofs.Lengths.{sets-append}
use Rattle.words.proofs.Stored.{stored_fits}
use Rattle.mir.specs.Encode.{buf, placed}
use Rattle.mir.proofs.Placing.{placed_fits, placed_full}
use Rattle.text.specs.declared.line.Line.{Line}
use Rattle.text.specs.Line.{Prints}
use Rattle.text.specs.Puts.{Puts, line_text}

-- what the code puts is what is placed
module _ (o : List ℕ) (at : ℕ) (s : List ℕ) where
  pub stays : length o < at + length s → buf o at ≡ placed (buf o at) s
  stays h = sym (placed_full o at s h)

  pub goes : {o' : List ℕ} → o' ≡ stored o at s → at + length s ≤ length o → buf o' (at + length s) ≡ placed (buf o at) s
  goes e h = ap (λ x. buf x (at + length s)) (e ∙ stored_fits o at s h) ∙ sym (placed_fits o at s h)

pub all_of : (o : List ℕ) (at n : ℕ) (s : List ℕ) {o' : List ℕ} {r : ℕ} → length s ≤ n → buf o' r ≡ placed (buf o at) s
    → buf o' r ≡ placed (buf o at) (take n s)
all_of o at n s h e = e ∙ ap (placed (buf o at)) (sym (take_all n s h))

pub some_of : (o : List ℕ) (at n : ℕ) (s : List ℕ) {o' : List ℕ} {r : ℕ} → buf o' r ≡ placed (buf o at) (take (n - 0) s)
    → buf o' r ≡ placed (buf o at) (take n s)
some_of o at n s e = e ∙ ap (λ k. placed (buf o at) (take k s)) (sub-zero n)

-- placed with room for all of it
pub putting : {o o' text : List ℕ} {at r : ℕ} → at + length text ≤ length o → buf o' r ≡ placed (buf o at) text → Puts o at text o' r
putting {o} {o'} {text} {at} {r} h e =
    let f = e ∙ placed_fits o at text h in
    let same : o' ≡ sets o at text = cc in
    let ends : r ≡ at + length text = cc in
    let n = ap length same ∙ length-sets o at text in
    record { same = same; ends = ends; fits = omega (arith, ends, n, h) }

-- the length stays
pub long : {o o' text : List ℕ} {at r : ℕ} → Puts o at text o' r → length o' ≡ length o
long {o} {o'} {text} {at} p = ap length p.same ∙ length-sets o at text

-- text behind text
behind : (o a b : List ℕ) {o' : List ℕ} (at : ℕ) {m : ℕ} → o' ≡ sets o at a → m ≡ at + length a → sets o' m b ≡ sets o at (a ++ b)
behind o a b {o'} at e h = (λ i. sets (e i) (h i) b) ∙ sym (sets-append o a b at)

-- then more
infixl 30 ◌▹◌
pub ◌▹◌ : {o o' o'' a b : List ℕ} {at m n : ℕ} → Puts o at a o' m → Puts o' m b o'' n → Puts o at (a ++ b) o'' n
◌▹◌ {o} {o'} {o''} {a} {b} {at} p q =
    record {
      same = q.same ∙ behind o a b at p.same p.ends;
      ends = omega (arith, p.ends, q.ends, length-append a b);
      fits = q.fits;
    }

pub renamed : {o o' text text' : List ℕ} {at r : ℕ} → text ≡ text' → Puts o at text o' r → Puts o at text' o' r
renamed {o} {o'} {text} {text'} {at} {r} e p = subst (λ t. Puts o at t o' r) e p

nothing : (o : List ℕ) (at : ℕ) (a : List ℕ) → length a ≡ 0 → sets o at a ≡ o
nothing o at [] h = refl
nothing o at (b ∷ a) h = absurd (omega (arith, h))

-- text put where no text was put
pub over : {o o' o'' a b : List ℕ} {at m r : ℕ} → Puts o at a o' m → length a ≡ 0 → Puts o' at b o'' r → Puts o at b o'' r
over {o} {o'} {o''} {a} {b} {at} p h q =
    record { same = q.same ∙ ap (λ x. sets x at b) (p.same ∙ nothing o at a h); ends = q.ends; fits = q.fits }

-- a line that holds its text whole
module _ {text : List ℕ} {l : Line} (p : Prints text l) where
  pub whole-fits : l.len ≤ length l.bytes
  whole-fits = let n = p.whole.size in let f = p.whole.fits in omega (arith, n, f)

  own : line_text l ≡ text
  own = ap (λ n. take n l.bytes) p.whole.count ∙ p.whole.bytes

  pub printing : {o o' : List ℕ} {at r : ℕ} → Puts o at (line_text l) o' r → Puts o at text o' r
  printing q = renamed own q

  pub line-put : {o o' : List ℕ} {at r : ℕ} → at + l.len ≤ length o → buf o' r ≡ placed (buf o at) (line_text l) → Puts o at text o' r
  line-put h e = let n = ap length own in printing (putting (omega (arith, n, p.whole.count, h)) e)

-- what a loop keeps: with the rest put behind what stands, the whole text stands
pub record Owes (o : List ℕ) (start : ℕ) (text o' : List ℕ) (at : ℕ) (rest : List ℕ) : Type 0 where
  pub same : sets o' at rest ≡ sets o start text
  pub ends : at + length rest ≡ start + length text
  pub fits : at ≤ length o'
  pub long : length o' ≡ length o

module _ {o text : List ℕ} {start : ℕ} where
  pub all : start ≤ length o → Owes o start text o start text
  all h = record { same = refl; ends = refl; fits = h; long = refl }

  pub less : {o' o'' a rest whole : List ℕ} {at r : ℕ} → Owes o start text o' at whole → whole ≡ a ++ rest → Puts o' at a o'' r
      → Owes o start text o'' r rest
  less {o'} {o''} {a} {rest} {whole} {at} {r} w e p =
      let n = ap length e ∙ length-append a rest in
      record {
        same = behind o' a rest at p.same p.ends ∙ ap (sets o' at) (sym e) ∙ w.same;
        ends = omega (arith, n, p.ends, w.ends);
        fits = p.fits;
        long = long p ∙ w.long;
      }

  pub none : {o' rest : List ℕ} {at : ℕ} → Owes o start text o' at rest → rest ≡ [] → Puts o start text o' at
  none {o'} {rest} {at} w e =
      let n = ap length e in
      record { same = ap (sets o' at) (sym e) ∙ w.same; ends = omega (arith, n, w.ends); fits = w.fits }
