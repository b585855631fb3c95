-- The check of a timetable's text against a line file: the numbers of document 01 in the order of its table.
use Rattle.std.specs.Prelude.{ℕ, ◌+◌, Bool, cond, not, ◌&&◌, List, [], Result, Ok, length, get_or, eqb}
use Rattle.std.proofs.Math.Option.{Option, some, none}
use Rattle.finite.specs.Below.{first, all}
use Rattle.text.specs.declared.Refusal.{Refusal}
use Rattle.text.specs.Reading.Parsed.{Parsed}
use Rattle.text.specs.Reading.Told.{refusal}
use Rattle.line.specs.declared.Line.{Line}
use Rattle.line.specs.File.{line_file}
use Rattle.rules.specs.Statement.Delay.{weighted_delay}
use Rattle.rules.specs.Lists.Orders.{order_lists}
use Rattle.rules.specs.Check.Breaches.{or_breach, breach_of}
use Rattle.timetable.specs.Reading.{Rest, Timetable, timetable_file}

-- ---- lists and total against the minutes

-- numbers read are those of the trains by index
unfoldable pub same_list : List ℕ → List ℕ → Bool
same_list numbers trains =
    eqb (length numbers) (length trains) && all (λ j. eqb (get_or numbers j 0) (get_or trains j 0 + 1)) (length trains)

-- list k has the number k + 1
abbrev pub at_list : Option ℕ → Result (Unit {0}) Refusal
at_list none = Ok tt
at_list (some k) = refusal 16 (k + 1)

-- 16: "not the trains of that segment and lane by departure", "lowest list, from 1"
unfoldable pub lists_breach : List (List ℕ) → List (List ℕ) → Result (Unit {0}) Refusal
lists_breach read own = at_list (first (λ k. not (same_list (get_or read k []) (get_or own k []))) (length own))

-- 17: "not the weighted delay"
abbrev pub total_breach : ℕ → ℕ → Result (Unit {0}) Refusal
total_breach total delay = cond (eqb total delay) (Ok tt) (refusal 17 0)

unfoldable pub rest_breach : Line → List ℕ → Rest → Result (Unit {0}) Refusal
rest_breach l m r = or_breach (lists_breach r.lists (order_lists l m)) (total_breach r.total (weighted_delay l m))

-- ---- the whole

-- the rules, 10 to 15 and 18, of the minutes; then the lists and the total
unfoldable pub timetable_breach : Line → Timetable → Result (Unit {0}) Refusal
timetable_breach l t = or_breach (breach_of l t.minutes) (rest_breach l t.minutes t.rest)

-- a text that was read for the line (7, 8, 9 refuse it) against the rules
abbrev pub judged : Line → Parsed Timetable → Result (Unit {0}) Refusal
judged l (Parsed.got t c) = timetable_breach l t
judged l (Parsed.bad n p) = refusal n p

-- the file's numbers first
abbrev pub checked : Parsed Line → List ℕ → Result (Unit {0}) Refusal
checked (Parsed.got l c) s = judged l (timetable_file l s)
checked (Parsed.bad n p) s = refusal n p

unfoldable pub check_of : List ℕ → List ℕ → Result (Unit {0}) Refusal
check_of file timetable = checked (line_file file) timetable
