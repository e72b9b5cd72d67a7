-- What is written: the sheet, or the line of its refusal.
use Prim.Native.Nat.{ℕ, ◌≤◌, ◌<◌}
use mathlib.Core.Path.{◌≡◌, sym, ap, ◌∙◌}
use mathlib.Core.Bool.{Bool, cond}
use mathlib.Core.List.{List}
use native.Mathlib.Omega.{arith}
use borrow.Author.Tests.{eq-eqb, ne_eqb, lt-ltb, le-ltb}
use lib.ListN.{length, take}
use lib.Seq.{take-take, length-take-le}
use Rattle.words.specs.Bytes.{stored}
use Rattle.words.proofs.Stored.{stored_front}
use Rattle.text.specs.declared.line.Line.{Line}
use Rattle.text.specs.Line.{Prints}
use Rattle.assembly.specs.Lines.{refused_text, long_text}
use Rattle.assembly.specs.Assembled.{Assembled, accepted, refused_at, outcome, assembled, written}
use Rattle.assembly.specs.declared.making.MakeAnswer.{MakeAnswer}
use Rattle.assembly.specs.Making.{as_assembled}

-- a line stands at the front of its 80 bytes, and these at the front of what is written
pub line_first : (out : List ℕ) {text : List ℕ} {l : Line} {o : List ℕ} → Prints text l → 80 ≤ length out → o ≡ stored out 0 l.bytes
    → (take l.len o ≡ text) × (l.len ≡ length text)
line_first out {text} {l} {o} p h f =
    let n = p.whole.size in
    let k = p.whole.fits in
    let bytes : take l.len o ≡ text =
    sym (take-take l.len 80 o (omega (arith, k)))
    ∙ ap (λ x. take l.len (take 80 x)) f
    ∙ ap (take l.len) (stored_front out l.bytes 80 n h)
    ∙ ap (λ n. take n l.bytes) p.whole.count
    ∙ p.whole.bytes
    in
    (bytes, p.whole.count)

module _ (e : MakeAnswer) (out : List ℕ) {a : Assembled} (same : as_assembled e out ≡ a) where
  -- bytes at the front, and their count
  abbrev Written : ℕ → List ℕ → Type 0
  Written n o = (take n o ≡ outcome a) × (n ≡ length (outcome a))

  abbrev by-reason : Bool → List ℕ
  by-reason b = outcome (cond b (accepted (take e.len out)) (refused_at e.line e.why))

  pub sheet-written : e.why ≡ 0 → e.len ≤ length out → Written e.len out
  sheet-written z h =
      let p : take e.len out ≡ outcome a = sym (ap by-reason (eq-eqb e.why 0 z)) ∙ ap outcome same in
      (p, sym (length-take-le e.len out h) ∙ ap length p)

  pub line-written : {l : Line} {o : List ℕ} → (e.why ≡ 0 → ⊥) → Prints (refused_text e.line e.why) l → 80 ≤ length out
      → o ≡ stored out 0 l.bytes → Written l.len o
  line-written {l} {o} z p h f =
      let text = sym (ap by-reason (ne_eqb e.why 0 z)) ∙ ap outcome same in
      let first = line_first out p h f in
      (first.0 ∙ text, first.1 ∙ ap length text)

-- a text that is too long, and one that is not
module _ (text : List ℕ) where
  pub written-long : 500000 < length text → long_text ≡ written text
  unfolding written
  written-long h = sym (ap (λ b. cond b long_text (outcome (assembled text))) (lt-ltb 500000 (length text) h))

  pub written-short : length text ≤ 500000 → outcome (assembled text) ≡ written text
  unfolding written
  written-short h = sym (ap (λ b. cond b long_text (outcome (assembled text))) (le-ltb 500000 (length text) h))
