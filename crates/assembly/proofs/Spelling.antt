-- An instruction that is read from bytes is printed as a line that says these bytes.
use Prim.Native.Nat.{ℕ, zero, suc, ◌+◌, ◌*◌, ◌≤◌, ◌<◌}
use mathlib.Core.Path.{◌≡◌, refl, sym, ap, ◌∙◌, subst}
use mathlib.Core.Bool.{Bool, true, false}
use mathlib.Core.List.{List, [], ◌∷◌, ◌++◌, map, append_assoc, append-nil}
use native.Mathlib.Omega.{arith}
use borrow.Author.Tests.{leb-false, ltb-false}
use lib.Dec.{ltb, leb, eqb}
use lib.ListN.{length, take}
use Rattle.mir.specs.declared.records.Loc.{Loc}
use Rattle.mir.specs.declared.records.Instruction.{Instruction}
use Rattle.mir.specs.Place.{class, index}
use Rattle.mir.specs.Length.{lengths, length_of}
use Rattle.mir.specs.Operation.{uni_ops, bin_ops, arith_ops, fused_ops, uni_number, bin_number, arith_number, fused_number}
use Rattle.mir.specs.Takes.{takes_uni, takes_bin, takes_arith, takes_fused}
use Rattle.mir.specs.Encode.{record_of, flag_byte}
use Rattle.mir.specs.Read.{Read, got, and_then}
use Rattle.mir.specs.Field.{byte_at, u16_at, place_at, save_place, cond_place}
use Rattle.mir.specs.Kinds.{uni_from, bi_from, mov_from, load_from, save_from, load_const_from, fused_from, if_else_from}
use Rattle.mir.proofs.IfRead.{IfRead, read, tested, parted, if_read, limited}
use Rattle.mir.proofs.Decoding.{Bytes}
use Rattle.sheet.specs.Instruction.{load_math_from, load_const_math_from, own_label, label_from, branch_from, branch_if_from}
use Rattle.text.specs.Text.{ascii, decimal, space, place, registers, record_line, record_text, uni_name, bin_name, fused_name}
use Rattle.text.specs.Text as Text
use Rattle.assembly.specs.Lines.{named, math_name, instruction_line}
use Rattle.assembly.specs.Assembled.{counting, Sort, a_register, a_class, an_index, a_byte, instruction, word_bytes, heads}
use Rattle.assembly.proofs.Pieces.{tails}
use Rattle.assembly.proofs.Words.{register_word, index_word, class_word, class_name}
use Rattle.assembly.proofs.Saying.{Fields, none, and, Says, says, retold}
use Rattle.assembly.proofs.Rows.{Row, row, of_op, uni-row, bin-row, fused_row, load_row, const_row}
use Rattle.assembly.proofs.Outcomes.{numbered, PlaceIs, placed, saved, stacked, by_front}

-- words of each sort
module _ {ks : List Sort} {ws : List (List ℕ)} {bs : List ℕ} where
  reg : (r : ℕ) → r ≤ 31 → Fields ks ws bs → Fields (a_register ∷ ks) (Text.register (named r) ∷ ws) ((r ∷ []) ++ bs)
  unfolding word_bytes
  reg r h f = let w = register_word r (omega arith) in and (ap (λ x. and_then x (λ n. got (n ∷ []))) w.number) w.word f

  pub idx : (i : ℕ) → i < 256 → Fields ks ws bs → Fields (an_index ∷ ks) (decimal i ∷ ws) ((i ∷ 0 ∷ []) ++ bs)
  unfolding word_bytes
  idx i h f = let w = index_word i h in and (ap (λ x. and_then x (λ n. got (n ∷ 0 ∷ []))) w.number) w.word f

  num : (i : ℕ) → i < 256 → Fields ks ws bs → Fields (a_byte ∷ ks) (decimal i ∷ ws) ((i ∷ []) ++ bs)
  unfolding word_bytes
  num i h f = let w = index_word i h in and (ap (λ x. and_then x (λ n. got (n ∷ []))) w.number) w.word f

  pub cls : (p : Loc) → Fields ks ws bs → Fields (a_class ∷ ks) (class_name p ∷ ws) ((class p ∷ []) ++ bs)
  unfolding word_bytes
  cls p f = let w = class_word p in and (ap (λ x. and_then x (λ n. got (n ∷ []))) w.number) w.word f

-- the texts of fields, word by word
pub place_words : (p : Loc) → space (place p) ≡ tails (class_name p ∷ decimal (index p) ∷ [])
unfolding place
place_words (Loc.Stack i) = ap (λ d. space (ascii "Stack" ++ space d)) (sym (append-nil (decimal i)))
place_words (Loc.Mem i) = ap (λ d. space (ascii "Mem" ++ space d)) (sym (append-nil (decimal i)))
place_words (Loc.Param i) = ap (λ d. space (ascii "Param" ++ space d)) (sym (append-nil (decimal i)))

index-words : (i : ℕ) → space (decimal i) ≡ tails (decimal i ∷ [])
index-words i = ap space (sym (append-nil (decimal i)))

run : (rs : List ℕ) (ws : List (List ℕ)) → registers rs ++ tails ws ≡ tails (map Text.register rs ++ ws)
run [] ws = refl
run (r ∷ rs) ws = append_assoc (space (Text.register r)) (registers rs) (tails ws) ∙ ap (λ l. space (Text.register r) ++ l) (run rs ws)

ending : (name : List ℕ) (rs : List ℕ) (ws : List (List ℕ)) (text : List ℕ) → text ≡ tails ws
    → (name ++ tails (map Text.register rs ++ ws)) ++ 10 ∷ [] ≡ (name ++ registers rs ++ text) ++ 10 ∷ []
ending name rs ws text e =
    ap (λ l. l ++ 10 ∷ [])
    (ap (λ l. name ++ l) (sym (run rs ws)) ∙ sym (append_assoc name (registers rs) (tails ws)) ∙ ap (λ t. name ++ registers rs ++ t) (sym e))

-- a line of a register, and of words behind it
one_register : (name : List ℕ) (r : ℕ) (ws : List (List ℕ)) {text : List ℕ} → text ≡ tails ws
    → (name ++ tails (Text.register r ∷ ws)) ++ 10 ∷ [] ≡ (name ++ space (Text.register r ++ text)) ++ 10 ∷ []
one_register name r ws e = ap (λ t. (name ++ space (Text.register r ++ t)) ++ 10 ∷ []) (sym e)

-- a record's length and kind
module _ {b0 b1 b2 b3 : ℕ} (n kind : ℕ) (f : List ℕ) where
  pub start : b0 < 256 → b2 < 256 → n < 256 → kind < 256 → b0 + 256 * b1 ≡ n → b2 + 256 * b3 ≡ kind → n ∷ 0 ∷ kind ∷ 0 ∷ f ≡ b0 ∷ b1 ∷ b2 ∷ b3 ∷ f
  start h k m l w v =
      let p : n ≡ b0 = omega arith in
      let q : 0 ≡ b1 = omega arith in
      let r : kind ≡ b2 = omega arith in
      let s : 0 ≡ b3 = omega arith in
      λ i. p i ∷ q i ∷ r i ∷ s i ∷ f

abbrev pub SaysInstruction : ℕ → List ℕ → Instruction → Type 0
SaysInstruction n s i = Says (instruction_line i) instruction (take n s)

-- what a reader of a kind's bytes reads: it is spelled, and the record's own bytes are all that is read
pub record Reads (n : ℕ) (s : List ℕ) (x' x : Read Instruction) : Type 0 where
  pub outcome : IfRead (SaysInstruction n s) x
  pub local : x' ≡ x

abbrev Known : ℕ → ℕ → (List ℕ → Read Instruction) → List ℕ → Type 0
Known n kind x s = Bytes s → u16_at s 0 ≡ n → u16_at s 2 ≡ kind → Reads n s (x (take n s)) (x s)

abbrev pub Kind : ℕ → ℕ → (List ℕ → Read Instruction) → Type 0
Kind n kind x = (s : List ℕ) → n ≤ length s → Known n kind x s

uni_numbers : map uni_number uni_ops ≡ counting (length uni_ops) 0
unfolding uni_ops
uni_numbers = refl

bin-numbers : map bin_number bin_ops ≡ counting (length bin_ops) 0
unfolding bin_ops
bin-numbers = refl

arith_numbers : map arith_number arith_ops ≡ counting (length arith_ops) 0
unfolding arith_ops
arith_numbers = refl

fused_numbers : map fused_number fused_ops ≡ counting (length fused_ops) 0
unfolding fused_ops
fused_numbers = refl

at-start : (n : ℕ) → n ≡ 0 + n
at-start n = omega arith

nop_row : Row 3 (of_op (ascii "Nop") 0 [] [])
unfolding heads record_of ascii
nop_row = row 3 _ tt refl

pub nop : Kind 4 0 (λ s. got Instruction.Nop)
unfolding u16_at instruction_line record_of length_of lengths ascii
nop =
    by_front 4 (Known 4 0 (λ s. got Instruction.Nop))
    (λ b0 b1 b2 b3 rest bytes w v.
    record {
      outcome = read (retold refl (start 4 0 [] (bytes 0) (bytes 2) (omega arith) (omega arith) w v) (says 3 _ nop_row.low nop_row.same none));
      local = refl;
    })

pub uni : Kind 7 1 (uni_from false Instruction.Uni)
unfolding u16_at instruction_line record_line record_text record_of length_of lengths uni_from
uni =
    by_front 7 (Known 7 1 (uni_from false Instruction.Uni))
    (λ b0 b1 b2 b3 b4 b5 b6 rest bytes w v.
    record {
      outcome =
          parted (numbered (takes_uni false) uni_number uni_ops b4 0 b4 (at-start b4) uni_numbers)
          (λ op e. limited 31 (b5 ∷ b6 ∷ [])
          (λ l. let r = uni-row op in
          read (retold refl
          (start 7 1 _ (bytes 0) (bytes 2) (omega arith) (omega arith) w v ∙ ap (λ x. b0 ∷ b1 ∷ b2 ∷ b3 ∷ x ∷ b5 ∷ b6 ∷ []) (sym e))
          (says (4 + uni_number op) _ r.low r.same (reg b5 l.0 (reg b6 l.1.0 none))))));
      local = refl;
    })

pub bi : Kind 8 2 (bi_from false Instruction.Bi)
unfolding u16_at instruction_line record_line record_text record_of length_of lengths bi_from
bi =
    by_front 8 (Known 8 2 (bi_from false Instruction.Bi))
    (λ b0 b1 b2 b3 b4 b5 b6 b7 rest bytes w v.
    record {
      outcome =
          parted (numbered (takes_bin false) bin_number bin_ops b4 0 b4 (at-start b4) bin-numbers)
          (λ op e. limited 31 (b5 ∷ b6 ∷ b7 ∷ [])
          (λ l. let r = bin-row op in
          read (retold refl
          (start 8 2 _ (bytes 0) (bytes 2) (omega arith) (omega arith) w v ∙ ap (λ x. b0 ∷ b1 ∷ b2 ∷ b3 ∷ x ∷ b5 ∷ b6 ∷ b7 ∷ []) (sym e))
          (says (24 + bin_number op) _ r.low r.same (reg b5 l.0 (reg b6 l.1.0 (reg b7 l.1.1.0 none)))))));
      local = refl;
    })

mov_row : Row 39 (of_op (ascii "Mov") 3 [] (a_register ∷ a_register ∷ []))
unfolding heads record_of ascii
mov_row = row 39 _ tt refl

pub mov : Kind 6 3 (mov_from false Instruction.Mov)
unfolding u16_at instruction_line record_line record_text record_of length_of lengths mov_from
mov =
    by_front 6 (Known 6 3 (mov_from false Instruction.Mov))
    (λ b0 b1 b2 b3 b4 b5 rest bytes w v.
    record {
      outcome =
          limited 31 (b4 ∷ b5 ∷ [])
          (λ l. read (retold refl (start 6 3 _ (bytes 0) (bytes 2) (omega arith) (omega arith) w v) (says 39 _ mov_row.low mov_row.same (reg b4 l.0 (reg b5 l.1.0 none)))));
      local = refl;
    })

load_place_row : Row 40 (of_op (ascii "Load") 4 [] (a_register ∷ a_class ∷ an_index ∷ []))
unfolding heads record_of ascii
load_place_row = row 40 _ tt refl

save_place_row : Row 41 (of_op (ascii "Save") 5 [] (a_register ∷ a_class ∷ an_index ∷ []))
unfolding heads record_of ascii
save_place_row = row 41 _ tt refl

-- the bytes of a place that is read
low-index : {c lo hi : ℕ} {p : Loc} → lo < 256 → PlaceIs c lo hi p → index p < 256
low-index h q = let e = q.at in omega (arith, e, h)

place-bytes : {c lo hi : ℕ} {p : Loc} → PlaceIs c lo hi p → class p ∷ index p ∷ 0 ∷ [] ≡ c ∷ lo ∷ hi ∷ []
place-bytes q = let k = q.kind in let a = q.at in let z = sym q.high in λ i. k i ∷ a i ∷ z i ∷ []

-- a place that a Save or an IfElse takes
same_place : {c lo hi : ℕ} {p q : Loc} → PlaceIs c lo hi p → q ≡ p → PlaceIs c lo hi q
same_place {c} {lo} {hi} h e = subst (PlaceIs c lo hi) (sym e) h

pub load : Kind 8 4 (load_from false Instruction.Load)
unfolding u16_at instruction_line record_line record_text record_of length_of lengths load_from place_at
load =
    by_front 8 (Known 8 4 (load_from false Instruction.Load))
    (λ b0 b1 b2 b3 b4 b5 b6 b7 rest bytes w v.
    record {
      outcome =
          limited 31 (b4 ∷ [])
          (λ l. parted (placed b5 b6 b7 (bytes 6))
          (λ p q.
          read (retold (one_register (ascii "Load") (named b4) (class_name p ∷ decimal (index p) ∷ []) (place_words p))
          (ap (λ f. 8 ∷ 0 ∷ 4 ∷ 0 ∷ b4 ∷ f) (place-bytes q) ∙ start 8 4 _ (bytes 0) (bytes 2) (omega arith) (omega arith) w v)
          (says 40 _ load_place_row.low load_place_row.same (reg b4 l.0 (cls p (idx (index p) (low-index (bytes 6) q) none)))))));
      local = refl;
    })

pub save : Kind 8 5 (save_from false Instruction.Save)
unfolding u16_at instruction_line record_line record_text record_of length_of lengths save_from save_place place_at
save =
    by_front 8 (Known 8 5 (save_from false Instruction.Save))
    (λ b0 b1 b2 b3 b4 b5 b6 b7 rest bytes w v.
    record {
      outcome =
          limited 31 (b4 ∷ [])
          (λ l. parted (parted (placed b5 b6 b7 (bytes 6)) (λ p q. if_read (λ r e. same_place q e) (saved p)))
          (λ p q.
          read (retold (one_register (ascii "Save") (named b4) (class_name p ∷ decimal (index p) ∷ []) (place_words p))
          (ap (λ f. 8 ∷ 0 ∷ 5 ∷ 0 ∷ b4 ∷ f) (place-bytes q) ∙ start 8 5 _ (bytes 0) (bytes 2) (omega arith) (omega arith) w v)
          (says 41 _ save_place_row.low save_place_row.same (reg b4 l.0 (cls p (idx (index p) (low-index (bytes 6) q) none)))))));
      local = refl;
    })

load_const_row : Row 42 (of_op (ascii "LoadConst") 6 [] (a_register ∷ an_index ∷ []))
unfolding heads record_of ascii
load_const_row = row 42 _ tt refl

if_else_row : Row 47 (of_op (ascii "IfElse") 8 [] (a_register ∷ a_register ∷ a_register ∷ a_class ∷ an_index ∷ []))
unfolding heads record_of ascii
if_else_row = row 47 _ tt refl

-- a constant's index is below 252: its higher byte is 0
record IndexIs (lo hi : ℕ) : Type 0 where
  low : lo + 256 * hi < 256
  bytes : (lo + 256 * hi) ∷ 0 ∷ [] ≡ lo ∷ hi ∷ []

index_is : (count lo hi : ℕ) → count ≤ 251 → leb count (lo + 256 * hi) ≡ false → IndexIs lo hi
index_is count lo hi h e =
    let k = leb-false count (lo + 256 * hi) e in
    let z : 0 ≡ hi = omega (arith, k, h) in
    let w : lo + 256 * hi ≡ lo = omega (arith, z) in
    record { low = omega (arith, k, h); bytes = λ i. w i ∷ z i ∷ [] }

pub load-const : (count : ℕ) → count ≤ 251 → Kind 7 6 (load_const_from false Instruction.LoadConst count)
unfolding u16_at instruction_line record_line record_text record_of length_of lengths load_const_from
load-const count most =
    by_front 7 (Known 7 6 (load_const_from false Instruction.LoadConst count))
    (λ b0 b1 b2 b3 b4 b5 b6 rest bytes w v.
    record {
      outcome =
          limited 31 (b4 ∷ [])
          (λ l. tested (leb count (b5 + 256 * b6)) 4
          (λ t. let q = index_is count b5 b6 most t in
          read (retold (one_register (ascii "LoadConst") (named b4) (decimal (b5 + 256 * b6) ∷ []) (index-words (b5 + 256 * b6)))
          (ap (λ f. 7 ∷ 0 ∷ 6 ∷ 0 ∷ b4 ∷ f) q.bytes ∙ start 7 6 _ (bytes 0) (bytes 2) (omega arith) (omega arith) w v)
          (says 42 _ load_const_row.low load_const_row.same (reg b4 l.0 (idx (b5 + 256 * b6) q.low none))))));
      local = refl;
    })

pub fused : Kind 9 7 (fused_from false Instruction.Fused)
unfolding u16_at instruction_line record_line record_text record_of length_of lengths fused_from
fused =
    by_front 9 (Known 9 7 (fused_from false Instruction.Fused))
    (λ b0 b1 b2 b3 b4 b5 b6 b7 b8 rest bytes w v.
    record {
      outcome =
          parted (numbered (takes_fused false) fused_number fused_ops b4 0 b4 (at-start b4) fused_numbers)
          (λ op e. limited 31 (b5 ∷ b6 ∷ b7 ∷ b8 ∷ [])
          (λ l. let r = fused_row op in
          read (retold refl
          (start 9 7 _ (bytes 0) (bytes 2) (omega arith) (omega arith) w v ∙ ap (λ x. b0 ∷ b1 ∷ b2 ∷ b3 ∷ x ∷ b5 ∷ b6 ∷ b7 ∷ b8 ∷ []) (sym e))
          (says (43 + fused_number op) _ r.low r.same (reg b5 l.0 (reg b6 l.1.0 (reg b7 l.1.1.0 (reg b8 l.1.1.1.0 none))))))));
      local = refl;
    })

pub if-else : Kind 10 8 (if_else_from false Instruction.IfElse)
unfolding u16_at instruction_line record_line record_text record_of length_of lengths if_else_from cond_place place_at
if-else =
    by_front 10 (Known 10 8 (if_else_from false Instruction.IfElse))
    (λ b0 b1 b2 b3 b4 b5 b6 b7 b8 b9 rest bytes w v.
    record {
      outcome =
          limited 31 (b4 ∷ b5 ∷ b6 ∷ [])
          (λ l. parted (parted (placed b7 b8 b9 (bytes 8)) (λ p q. if_read (λ r e. same_place q e) (stacked p)))
          (λ p q.
          read (retold (ending (ascii "IfElse") (named b4 ∷ named b5 ∷ named b6 ∷ []) (class_name p ∷ decimal (index p) ∷ []) (space (place p)) (place_words p))
          (ap (λ f. 10 ∷ 0 ∷ 8 ∷ 0 ∷ b4 ∷ b5 ∷ b6 ∷ f) (place-bytes q) ∙ start 10 8 _ (bytes 0) (bytes 2) (omega arith) (omega arith) w v)
          (says 47 _ if_else_row.low if_else_row.same
          (reg b4 l.0 (reg b5 l.1.0 (reg b6 l.1.1.0 (cls p (idx (index p) (low-index (bytes 8) q) none)))))))));
      local = refl;
    })

pub load-math : Kind 10 9 load_math_from
unfolding u16_at instruction_line record_line record_text record_of length_of lengths load_math_from place_at
load-math =
    by_front 10 (Known 10 9 load_math_from)
    (λ b0 b1 b2 b3 b4 b5 b6 b7 b8 b9 rest bytes w v.
    record {
      outcome =
          parted (numbered takes_arith arith_number arith_ops b4 0 b4 (at-start b4) arith_numbers)
          (λ op e. limited 31 (b5 ∷ b6 ∷ [])
          (λ l. parted (placed b7 b8 b9 (bytes 8))
          (λ p q. let r = load_row op in
          read (retold (ending (math_name op ++ ascii "Load") (named b5 ∷ named b6 ∷ []) (class_name p ∷ decimal (index p) ∷ []) (space (place p)) (place_words p))
          (ap (λ f. 10 ∷ 0 ∷ 9 ∷ 0 ∷ arith_number op ∷ b5 ∷ b6 ∷ f) (place-bytes q)
          ∙ start 10 9 _ (bytes 0) (bytes 2) (omega arith) (omega arith) w v ∙ ap (λ x. b0 ∷ b1 ∷ b2 ∷ b3 ∷ x ∷ b5 ∷ b6 ∷ b7 ∷ b8 ∷ b9 ∷ []) (sym e))
          (says (48 + arith_number op) _ r.low r.same (reg b5 l.0 (reg b6 l.1.0 (cls p (idx (index p) (low-index (bytes 8) q) none)))))))));
      local = refl;
    })

pub load_const_math : (count : ℕ) → count ≤ 251 → Kind 9 10 (load_const_math_from count)
unfolding u16_at instruction_line record_line record_text record_of length_of lengths load_const_math_from
load_const_math count most =
    by_front 9 (Known 9 10 (load_const_math_from count))
    (λ b0 b1 b2 b3 b4 b5 b6 b7 b8 rest bytes w v.
    record {
      outcome =
          parted (numbered takes_arith arith_number arith_ops b4 0 b4 (at-start b4) arith_numbers)
          (λ op e. limited 31 (b5 ∷ b6 ∷ [])
          (λ l. tested (leb count (b7 + 256 * b8)) 4
          (λ t. let q = index_is count b7 b8 most t in let r = const_row op in
          read (retold (ending (math_name op ++ ascii "Const") (named b5 ∷ named b6 ∷ []) (decimal (b7 + 256 * b8) ∷ []) (space (decimal (b7 + 256 * b8))) (index-words (b7 + 256 * b8)))
          (ap (λ f. 9 ∷ 0 ∷ 10 ∷ 0 ∷ arith_number op ∷ b5 ∷ b6 ∷ f) q.bytes
          ∙ start 9 10 _ (bytes 0) (bytes 2) (omega arith) (omega arith) w v ∙ ap (λ x. b0 ∷ b1 ∷ b2 ∷ b3 ∷ x ∷ b5 ∷ b6 ∷ b7 ∷ b8 ∷ []) (sym e))
          (says (52 + arith_number op) _ r.low r.same (reg b5 l.0 (reg b6 l.1.0 (idx (b7 + 256 * b8) q.low none))))))));
      local = refl;
    })

label_row : Row 56 (of_op (ascii "Label") 14 [] (a_byte ∷ []))
unfolding heads record_of ascii
label_row = row 56 _ tt refl

branch_row : Row 57 (of_op (ascii "Branch") 15 [] (a_byte ∷ []))
unfolding heads record_of ascii
branch_row = row 57 _ tt refl

branch_if_row : Row 58 (of_op (ascii "BranchIf") 17 [] (a_register ∷ a_byte ∷ a_byte ∷ []))
unfolding heads record_of ascii
branch_if_row = row 58 _ tt refl

-- a label alone
labelled : (n kind : ℕ) (name : List ℕ) (make : ℕ → Instruction) → Row n (of_op name kind [] (a_byte ∷ [])) → kind < 256
    → record_of kind [] ≡ 5 ∷ 0 ∷ kind ∷ 0 ∷ []
    → ((l : ℕ) → (name ++ space (decimal l)) ++ 10 ∷ [] ≡ instruction_line (make l))
    → Kind 5 kind (λ s. own_label (byte_at s 4) (got (make (byte_at s 4))))
unfolding u16_at
labelled n kind name make r h e f =
    by_front 5 (Known 5 kind (λ s. own_label (byte_at s 4) (got (make (byte_at s 4)))))
    (λ b0 b1 b2 b3 b4 rest bytes w v.
    record {
      outcome =
          tested (ltb b4 3) 9
          (λ t. read (retold (ap (λ t. (name ++ t) ++ 10 ∷ []) (sym (index-words b4)) ∙ f b4)
          (ap (λ s. s ++ b4 ∷ []) e ∙ start 5 kind _ (bytes 0) (bytes 2) (omega arith) h w v)
          (says n _ r.low r.same (num b4 (bytes 4) none))));
      local = refl;
    })

pub label : Kind 5 14 label_from
unfolding label_from instruction_line record_line record_text record_of length_of lengths
label = labelled 56 14 (ascii "Label") Instruction.Label label_row (omega arith) refl (λ l. refl)

pub branch : Kind 5 15 branch_from
unfolding branch_from instruction_line record_line record_text record_of length_of lengths
branch = labelled 57 15 (ascii "Branch") Instruction.Branch branch_row (omega arith) refl (λ l. refl)

-- a byte that is 0 or 1
flag-byte : (b : ℕ) → ltb 1 b ≡ false → flag_byte (eqb b 1) ≡ b
flag-byte zero e = refl
flag-byte (suc zero) e = refl
flag-byte (suc (suc b)) e = let k = ltb-false 1 (suc (suc b)) e in absurd (omega (arith, k))

flag_low : (e : Bool) → flag_byte e < 256
flag_low true = omega arith
flag_low false = omega arith

-- a line of a register and two numbers
two_numbers : (name : List ℕ) (r l e : ℕ)
    → (name ++ tails (Text.register r ∷ decimal l ∷ decimal e ∷ [])) ++ 10 ∷ []
    ≡ (name ++ space (Text.register r ++ space (decimal l) ++ space (decimal e))) ++ 10 ∷ []
two_numbers name r l e =
    one_register name r (decimal l ∷ decimal e ∷ []) (ap (λ t. space (decimal l) ++ t) (index-words e))
    ∙ ap (λ t. (name ++ space t) ++ 10 ∷ []) (sym (append_assoc (Text.register r) (space (decimal l)) (space (decimal e))))

pub branch_if : Kind 7 17 branch_if_from
unfolding u16_at instruction_line record_line record_text record_of length_of lengths branch_if_from
branch_if =
    by_front 7 (Known 7 17 branch_if_from)
    (λ b0 b1 b2 b3 b4 b5 b6 rest bytes w v.
    record {
      outcome =
          limited 31 (b4 ∷ [])
          (λ l. tested (ltb b5 3) 9
          (λ t. tested (ltb 1 b6) 9
          (λ u.
          read (retold (two_numbers (ascii "BranchIf") (named b4) b5 (flag_byte (eqb b6 1)))
          (start 7 17 _ (bytes 0) (bytes 2) (omega arith) (omega arith) w v
          ∙ ap (λ x. b0 ∷ b1 ∷ b2 ∷ b3 ∷ b4 ∷ b5 ∷ x ∷ []) (flag-byte b6 u))
          (says 58 _ branch_if_row.low branch_if_row.same
          (reg b4 l.0 (num b5 (bytes 5) (num (flag_byte (eqb b6 1)) (flag_low (eqb b6 1)) none))))))));
      local = refl;
    })
