-- What export and import answer: a fault of the line file comes first, then one of the text that is read for its line.
use Rattle.std.specs.Prelude.{ℕ, List, []}
use Rattle.text.specs.Reading.Parsed.{Parsed, then_read, map_parsed}
use Rattle.text.specs.Writing.Lend.{Spelling}
use Rattle.line.specs.declared.Line.{Line}
use Rattle.line.specs.File.{line_file}
use Rattle.timetable.specs.Reading.{Timetable, timetable_file}
use Rattle.timetable.specs.Spell.{minutes_text}
use Rattle.gtfs.specs.Spell.{stop_times_text}
use Rattle.gtfs.specs.Reading.{stop_times_file}

-- what there is to write for what was read: its text, or the refusal
abbrev pub spelt : Parsed (List ℕ) → Spelling
spelt (Parsed.got text c) = Spelling.text text
spelt (Parsed.bad n p) = Spelling.refused n p

-- the text of a timetable that was read for a line
abbrev pub stop_times_of : Line → Parsed Timetable → Parsed (List ℕ)
stop_times_of l r = map_parsed (λ t. stop_times_text l t.minutes) r

-- "Take a line file and a timetable text (a fault in reading either comes first; rules, lists and total are not tested)"
unfoldable pub exporting : List ℕ → List ℕ → Spelling
exporting file s = spelt (then_read (line_file file) (λ l _. stop_times_of l (timetable_file l s)))

-- "Read the same form back for a given line file": the minutes
unfoldable pub minutes_of : List ℕ → List ℕ → Parsed (List ℕ)
minutes_of file s = then_read (line_file file) (λ l _. stop_times_file l s)

-- as a text of a line: the train count and the train lines, which is what K8's first check reads
abbrev pub lines_of : Line → Parsed (List ℕ) → Parsed (List ℕ)
lines_of l r = map_parsed (λ m. minutes_text l m []) r

unfoldable pub importing : List ℕ → List ℕ → Spelling
importing file s = spelt (then_read (line_file file) (λ l _. lines_of l (stop_times_file l s)))
