-- Writing a timetable: "Writing a record gives 3 or 4 with the line its field would have"; a time over 2,879 gives 9 with its line; else the text,
-- the whole or the train lines alone.
use Rattle.std.specs.Prelude.{ℕ, ◌+◌, Bool, not, ◌&&◌, List, [], leb, Ok}
use Rattle.std.specs.Result.{result_and}
use Rattle.std.proofs.Math.Option.{Option, some, none}
use Rattle.finite.specs.Below.{first, all}
use Rattle.text.specs.Reading.Told.{refusal}
use Rattle.text.specs.Writing.Lend.{Spelling}
use Rattle.line.specs.declared.Train.{Train}
use Rattle.line.specs.declared.Line.{Line}
use Rattle.line.specs.Record.{legs_of}
use Rattle.line.specs.Writing.{Checked, on_fault, fault_of}
use Rattle.rules.specs.Statement.Paths.{train}
use Rattle.rules.specs.Check.Tests.{departure_of, arrival_of}
use Rattle.timetable.specs.Spell.{minutes_text, timetable_text}

-- each time of the train, which is train i, is at most 2,879
unfoldable pub times_right : Train → List ℕ → ℕ → Bool
times_right t m i = all (λ k. leb (departure_of t m i k) 2879 && leb (arrival_of t m i k) 2879) (legs_of t)

-- train i stands on line i + 2
abbrev pub on_line : Option ℕ → Checked
on_line none = Ok tt
on_line (some i) = refusal 9 (i + 2)

-- the first train with a time over 2,879
unfoldable pub minutes_fault : Line → List ℕ → Checked
minutes_fault l m = on_line (first (λ i. not (times_right (train l i) m i)) l.traffic.train_count)

-- the first bad field: of the line, or else of its minutes
unfoldable pub first_fault : Line → List ℕ → Checked
first_fault l m = result_and (fault_of l) (minutes_fault l m)

-- what there is to write for a line and its minutes, where t is the text of them: the refusal of the first bad field, or the text
unfoldable pub spelling_of : Line → List ℕ → List ℕ → Spelling
spelling_of l m t = on_fault (first_fault l m) (Spelling.text t) Spelling.refused

-- the whole timetable
unfoldable pub spelling : Line → List ℕ → Spelling
spelling l m = spelling_of l m (timetable_text l m)

-- document 02, K8: "the train count and train lines alone", in which K4 hands back the minutes
unfoldable pub lines_spelling : Line → List ℕ → Spelling
lines_spelling l m = spelling_of l m (minutes_text l m [])
