-- Document 01's number and its place (or, of a success, 0 and a length) in one number: the number times 2³² and the value below that.
use Rattle.std.specs.Prelude.{ℕ, ◌+◌, ◌*◌, ◌/◌, ◌%◌, ◌<◌, ◌≡◌, List, Result, Ok, Err, length}
use Rattle.text.specs.declared.Refusal.{Refusal}
use Rattle.text.specs.Writing.Lend.{Spelling, written_of, bytes_after}

abbrev pub packed : ℕ → ℕ → ℕ
packed number value = number * 4294967296 + value

-- what there is to pack, a place or a length, is below 2³²
abbrev pub Packs : ℕ → Type 0
Packs value = value < 4294967296

abbrev pub PacksAnswer : {A : Type 0} → Result A Refusal → Type 0
PacksAnswer (Ok _) = Unit {0}
PacksAnswer (Err r) = Packs r.place

abbrev pub PacksWritten : Result ℕ Refusal → Type 0
PacksWritten (Ok n) = Packs n
PacksWritten (Err r) = Packs r.place

-- the two parts of an answer
abbrev pub number_in : ℕ → ℕ
number_in r = r / 4294967296

abbrev pub value_in : ℕ → ℕ
value_in r = r % 4294967296

-- of an answer: 0 where what was asked is accepted, or where the timetable passes
abbrev pub packed_answer : {A : Type 0} → Result A Refusal → ℕ
packed_answer (Ok _) = 0
packed_answer (Err r) = packed r.number r.place

-- of a writing: 0 and the length of the text, or the refusal
abbrev pub packed_written : Result ℕ Refusal → ℕ
packed_written (Ok n) = packed 0 n
packed_written (Err r) = packed r.number r.place

-- an answer packed, and the lent bytes, where this is what there is to write
pub record LentPacked (what : Spelling) (entry exit : List ℕ) (r : ℕ) : Type 0 where
  pub answer : r ≡ packed_written (written_of what (length entry))
  pub bytes : exit ≡ bytes_after (written_of what (length entry)) what entry
