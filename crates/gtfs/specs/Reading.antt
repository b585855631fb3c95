-- Reading stop_times.txt for a line, line by line: document 02, K4. "The first bad line counts, and on one line 20 comes before 21."
use Rattle.std.specs.Prelude.{ℕ, zero, suc, ◌+◌, ◌*◌, Bool, not, ◌&&◌, ◌||◌, List, [], ◌∷◌, length, replicate, ltb, eqb}
use Rattle.text.specs.declared.Cursor.{Cursor}
use Rattle.text.specs.Reading.Choice.{pick}
use Rattle.text.specs.Reading.Parsed.{Parsed, then_read, ranged_at}
use Rattle.text.specs.Reading.Fixed.{text_at, paired_at}
use Rattle.line.specs.declared.Train.{Train}
use Rattle.line.specs.declared.Line.{Line}
use Rattle.rules.specs.Statement.Paths.{train, legs}
use Rattle.timetable.specs.Reading.{with_leg}
use Rattle.gtfs.specs.declared.stops.Stop.{Stop}
use Rattle.gtfs.specs.declared.stops.StopTime.{StopTime}
use Rattle.gtfs.specs.Stops.{stop_on}
use Rattle.gtfs.specs.Spell.{header, seconds}

-- ---- "A line that is not of this form, a minute past 47:59:00 .. is 20 with its line"

-- "numbers formed as in the line file", the byte b after it
abbrev pub numeral_at : ℕ → List ℕ → Cursor → Parsed ℕ
numeral_at b s c = ranged_at 20 20 0 9999 b s c

-- "HH:MM:SS, seconds always 00", and a comma: the minute
unfoldable pub clock_at : List ℕ → Cursor → Parsed ℕ
clock_at s c =
    then_read (paired_at 20 20 0 47 58 s c) (λ h c₁.
    then_read (paired_at 20 20 0 59 58 s c₁) (λ m c₂.
    then_read (text_at 20 seconds s c₂) (λ _ c₃.
    Parsed.got (h * 60 + m) c₃)))

-- "T" and the trip's number, arrival, departure, stop, sequence, and a line feed
unfoldable pub stop_time_at : List ℕ → Cursor → Parsed StopTime
stop_time_at s c =
    then_read (text_at 20 (84 ∷ []) s c) (λ _ c₁.
    then_read (numeral_at 44 s c₁) (λ trip c₂.
    then_read (clock_at s c₂) (λ a c₃.
    then_read (clock_at s c₃) (λ d c₄.
    then_read (numeral_at 44 s c₄) (λ station c₅.
    then_read (numeral_at 10 s c₅) (λ sequence c₆.
    Parsed.got (record { trip = trip; arrival = a; departure = d; station = station; sequence = sequence }) c₆))))))

-- ---- the line of the stop that is next on the line's paths

-- "a minute not repeated where the path's next stop is an end" is 20: by the stop that is due, not by the one written
unfoldable pub repeats : Stop → StopTime → Bool
repeats due x = not due.end || eqb x.arrival x.departure

-- "a trip, stop or sequence not next on the line's paths" is 21
unfoldable pub is_next : Stop → StopTime → Bool
is_next due x = eqb x.trip due.trip && (eqb x.station due.station && eqb x.sequence due.sequence)

unfoldable pub due_at : Stop → List ℕ → Cursor → Parsed StopTime
due_at due s c =
    then_read (stop_time_at s c) (λ x next.
    pick (repeats due x) (pick (is_next due x) (Parsed.got x next) (Parsed.bad 21 c.line)) (Parsed.bad 20 c.line))

-- ---- the trips

-- the stops to which k more legs lead, the next of them leg j, of a train, which is train i and left the stop before at minute d
unfoldable pub stops_at : ℕ → Train → ℕ → ℕ → ℕ → List ℕ → List ℕ → Cursor → Parsed (List ℕ)
stops_at zero t i j d m s c = Parsed.got m c
stops_at (suc k) t i j d m s c =
    then_read (due_at (stop_on t i (j + 1)) s c) (λ x next. stops_at k t i (j + 1) x.departure (with_leg t i j d x.arrival m) s next)

-- a trip: the origin of train i, and then the stop to which each of its n legs leads
unfoldable pub trip_at : ℕ → Train → ℕ → List ℕ → List ℕ → Cursor → Parsed (List ℕ)
trip_at n t i m s c = then_read (due_at (stop_on t i 0) s c) (λ x next. stops_at n t i 0 x.departure m s next)

-- k more trips, the next of them train i's
unfoldable pub trips_at : ℕ → Line → ℕ → List ℕ → List ℕ → Cursor → Parsed (List ℕ)
trips_at zero l i m s c = Parsed.got m c
trips_at (suc k) l i m s c = then_read (trip_at (legs l i) (train l i) i m s c) (λ m' next. trips_at k l (i + 1) m' s next)

-- the whole text: the header, the trips, and nothing after them; "an early end or bytes after the end is 20 with its line". The minutes of no leg are 0.
unfoldable pub stop_times_file : Line → List ℕ → Parsed (List ℕ)
stop_times_file l s =
    then_read (text_at 20 header s (record { at = 0; line = 1 })) (λ _ c.
    then_read (trips_at l.traffic.train_count l 0 (replicate 352 0) s c) (λ m end.
    pick (ltb end.at (length s)) (Parsed.bad 20 end.line) (Parsed.got m end)))
