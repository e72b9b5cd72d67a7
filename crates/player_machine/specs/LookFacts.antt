-- Short listings looked at, computed: what `look` gives, and what document 02, f) says that it gives.
use Rattle.std.specs.Prelude.{ℕ, ◌≡◌, refl, true, false, List, [], ◌∷◌, replicate}
use Rattle.std.specs.Float.Ieee.{of_bits, to_bits, add, sub, mul}
use Rattle.mir.specs.declared.ops.ArithOp.{ArithOp}
use Rattle.mir.specs.declared.records.Loc.{Loc}
use Rattle.mir.specs.declared.records.Work.{Work}
use Rattle.mir.specs.declared.records.Record.{Record}
use Rattle.mir.specs.Length.{lengths, length_of}
use Rattle.mir.specs.Operation.{uni_ops, bin_ops, arith_ops, fused_ops}
use Rattle.mir.specs.Field.{u16_at, among, takes_kind, head_from, place_at, save_place, cond_place}
use Rattle.mir.specs.Encode.{record_of, encode_all}
use Rattle.mir.specs.Decode.{decoded_from, decoded}
use Rattle.mir.specs.Kinds.{uni_from, bi_from, mov_from, load_from, save_from, load_const_from, fused_from, if_else_from}
use Rattle.records.specs.Record.{load_complex_from, save_complex_from, complex_bi_from, label_from, branch_from, call_from, branch_if_from, fields_from, record_from}
use Rattle.player_machine.specs.Machine.{Write, ◌≔◌, uni_word, complex_words, writes, put, is_label}
use Rattle.player_machine.specs.Jumps.{breach}
use Rattle.player_machine.specs.Refusal.{refusal}
use Rattle.player_machine.specs.Step.{follows, written, step}
use Rattle.player_machine.specs.Look.{is_written, shown, Look, look}
use Rattle.player_machine.specs.Facts.{blank, const, neg, one, two, three, minus_zero, called, swept, given, wanted}

-- the three numbers, then index and bits of each word
abbrev words : List Write → List ℕ
words [] = []
words (i ≔ v ∷ ws) = i ∷ v ∷ words ws

abbrev told : Look → List ℕ
told l = l.number ∷ l.index ∷ l.follows ∷ words l.words

-- at record i, on zeros and some words
abbrev looked_at : List Record → List ℕ → ℕ → List Write → List ℕ
looked_at rs constants i ws = told (look (encode_all rs) constants (put ws blank) i)

-- 1 in G4 and 2 in G5
abbrev one_two : List Write
one_two = 4 ≔ one ∷ 5 ≔ two ∷ []

abbrev pub table : List (List ℕ × List ℕ)
table =
    -- SaveComplex: the real word of Mem 0, index 66 + 512, then the imaginary one
    (looked_at (Record.Work (Work.SaveComplex 4 5 (Loc.Mem 0)) ∷ []) [] 0 one_two, 0 ∷ 1 ∷ 1 ∷ 578 ∷ one ∷ 579 ∷ two ∷ [])
    -- LoadComplex and ComplexBi into one register: one word, with the bits that are written last; (1 + 2i) squared is -3 + 4i
    ∷ (
      looked_at (Record.Work (Work.LoadComplex 6 6 (Loc.Mem 0)) ∷ []) [] 0 (578 ≔ one ∷ 579 ≔ two ∷ []),
      0 ∷ 1 ∷ 1 ∷ 6 ∷ two ∷ [],
    )
    ∷ (
      looked_at (Record.Work (Work.ComplexBi ArithOp.Times 4 4 4 5 4 5) ∷ []) [] 0 one_two,
      0 ∷ 1 ∷ 1 ∷ 4 ∷ 0x4010_0000_0000_0000 ∷ [],
    )
    -- a word whose bits stay is shown
    ∷ (looked_at (Record.Work (Work.Mov 4 4) ∷ []) [] 0 one_two, 0 ∷ 1 ∷ 1 ∷ 4 ∷ one ∷ [])
    -- Branch 2 names its Label's record, a Call that of Label 1; Branch 0 in the block names the end
    ∷ (looked_at called (one ∷ []) 0 [], 0 ∷ 9 ∷ 4 ∷ [])
    ∷ (looked_at called (one ∷ []) 6 [], 0 ∷ 9 ∷ 1 ∷ [])
    ∷ (looked_at called (one ∷ []) 3 [], 0 ∷ 9 ∷ 9 ∷ [])
    -- LoadConst, and a Neg in the block, outside a call
    ∷ (looked_at called (one ∷ []) 5 [], 0 ∷ 9 ∷ 6 ∷ 4 ∷ one ∷ [])
    ∷ (looked_at called (one ∷ []) 2 [], 0 ∷ 9 ∷ 3 ∷ 4 ∷ minus_zero ∷ [])
    -- BranchIf by the store lent, both ways, -0 among the words that are not all zero
    ∷ (looked_at (swept false) (0 ∷ 0 ∷ 0 ∷ []) 1 [], 0 ∷ 7 ∷ 2 ∷ [])
    ∷ (looked_at (swept false) (0 ∷ 0 ∷ 0 ∷ []) 1 (4 ≔ three ∷ []), 0 ∷ 7 ∷ 4 ∷ [])
    ∷ (looked_at (swept false) (0 ∷ 0 ∷ 0 ∷ []) 1 (4 ≔ minus_zero ∷ []), 0 ∷ 7 ∷ 4 ∷ [])
    ∷ (looked_at (swept true) (0 ∷ 0 ∷ 0 ∷ []) 1 [], 0 ∷ 7 ∷ 4 ∷ [])
    ∷ (looked_at (swept true) (0 ∷ 0 ∷ 0 ∷ []) 1 (4 ≔ three ∷ []), 0 ∷ 7 ∷ 2 ∷ [])
    -- a Branch from 3 up; the last record names the count, and so does a start equal to it
    ∷ (looked_at (swept true) (0 ∷ 0 ∷ 0 ∷ []) 3 [], 0 ∷ 7 ∷ 6 ∷ [])
    ∷ (looked_at (swept true) (0 ∷ 0 ∷ 0 ∷ []) 6 [], 0 ∷ 7 ∷ 7 ∷ [])
    ∷ (looked_at (swept true) (0 ∷ 0 ∷ 0 ∷ []) 7 [], 0 ∷ 7 ∷ 7 ∷ [])
    -- refused: a start above the count, a Call with no Label 1 elsewhere, a missing constant, a store of 1,601 words
    ∷ (looked_at (swept true) (0 ∷ 0 ∷ 0 ∷ []) 8 [], 9 ∷ 8 ∷ 0 ∷ [])
    ∷ (looked_at (neg 4 4 ∷ Record.Call 1 ∷ []) [] 0 [], 9 ∷ 1 ∷ 0 ∷ [])
    ∷ (looked_at (neg 4 4 ∷ const 4 0 ∷ []) [] 0 [], 5 ∷ 1 ∷ 0 ∷ [])
    ∷ (told (look [] [] (replicate 1601 0) 0), 8 ∷ 0 ∷ 0 ∷ [])
    ∷ []

pub holds : given table ≡ wanted table
unfolding of_bits to_bits add sub mul lengths length_of uni_ops bin_ops arith_ops fused_ops u16_at among takes_kind head_from place_at save_place cond_place record_of decoded_from decoded uni_from bi_from mov_from load_from save_from load_const_from fused_from if_else_from load_complex_from save_complex_from complex_bi_from label_from branch_from call_from branch_if_from fields_from record_from uni_word complex_words writes put is_label breach refusal follows written step is_written shown look
holds = refl
