-- A listing's records one after the other: each has its length, and what `read_record` answers says what stands at a position.
use Prim.Native.Nat.{ℕ, ◌+◌, ◌<◌}
use mathlib.Core.Path.{◌≡◌, sym, ap, ◌∙◌}
use mathlib.Core.Bool.{true}
use mathlib.Core.List.{List}
use lib.ListN.{length, drop}
use Rattle.mir.specs.declared.records.Record.{Record}
use Rattle.mir.specs.Read.{Read, got, refused, and_then}
use Rattle.mir.specs.Field.{u16_at, takes_kind, head_from}
use Rattle.mir.specs.declared.refusal.Refusal.{Refusal}
use Rattle.mir.specs.Refusal.{number}
use Rattle.mir.specs.Decode.{Item, read_at, as_next}
use Rattle.std.specs.Prelude.{Ok, Err, Result}
use Rattle.mir.proofs.Passing.{then}
use Rattle.mir.proofs.Heads.{headed}
use Rattle.mir.proofs.Decoding.{Whole, Here, Done, here, torn}
use Rattle.records.specs.Record.{fields_from, record_from, record_at}

pub whole : (count : ℕ) → Whole (record_from count)
unfolding record_from
whole count = record {
  sized = λ s x e.
      let t = then (head_from (takes_kind true) s) (λ kind. fields_from count kind s) x e in
      (headed (takes_kind true) s t.first t.found).sized;
}

module _ (count : ℕ) (s : List ℕ) (at : ℕ) {r : Result (Record × ℕ) Refusal} where
  pub here-record : {x : Record} {next : ℕ} → as_next r ≡ record_at count s at → r ≡ Ok (x, next)
      → Here (record_from count) s at x next
  here-record {x} {next} e f = here (record_from count) s at (whole count) x next (sym e ∙ ap as_next f)

  pub torn-record : {k : Refusal} → as_next r ≡ record_at count s at → r ≡ Err k → at < length s
      → Done (record_from count) s at (number k)
  torn-record {k} e f h = torn (record_from count) s at (number k) (sym e ∙ ap as_next f) h

-- the same of the record that the bytes from a position begin with
module _ (count : ℕ) (s : List ℕ) (at : ℕ) where
  -- what is read, and the position after it
  abbrev after : Read Record → Read (Item Record)
  after r = and_then r (λ x. got (record { item = x; next = at + u16_at (drop at s) 0 }))

  pub here-read : (rec : Record) → record_from count (drop at s) ≡ got rec
      → Here (record_from count) s at rec (at + u16_at (drop at s) 0)
  unfolding read_at
  here-read rec e = here (record_from count) s at (whole count) rec (at + u16_at (drop at s) 0) (ap after e)

  pub torn-read : (n : ℕ) → record_from count (drop at s) ≡ refused n → at < length s → Done (record_from count) s at n
  unfolding read_at
  torn-read n e h = torn (record_from count) s at n (ap after e) h
