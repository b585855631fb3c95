-- The text of a line: the bytes of its line file, section by section. Each part is written with what follows it.
use Rattle.std.specs.Prelude.{ℕ, ◌-◌, List, [], ◌∷◌, ◌++◌, Bool, eqb, length, get_or, take, drop}
use Rattle.text.specs.Writing.Digits.{digits}
use Rattle.text.specs.Elements.EachThen.{each_then}
use Rattle.text.specs.Sections.Chained.{optional_text}
use Rattle.line.specs.declared.Kind.{Kind}
use Rattle.line.specs.declared.Segment.{Segment}
use Rattle.line.specs.declared.Train.{Train}
use Rattle.line.specs.declared.Booking.{Booking}
use Rattle.line.specs.declared.Booked.{Booked}
use Rattle.line.specs.declared.Listed.{Listed}
use Rattle.line.specs.declared.TrainList.{TrainList}
use Rattle.line.specs.declared.Line.{Line}
use Rattle.line.specs.File.{null}
use Rattle.line.specs.Record.{Further, tracks_of, segments_of, trains_of, runs_of, stops_of}

-- a number and the byte b after it
abbrev pub field : ℕ → ℕ → List ℕ → List ℕ
field n b rest = digits n ++ (b ∷ rest)

abbrev pub station_text : ℕ → List ℕ → List ℕ
station_text t rest = field t 10 rest

abbrev pub letter_byte : Kind → ℕ
letter_byte Kind.S = 83
letter_byte Kind.F = 70
letter_byte Kind.D = 68

abbrev pub segment_text : Segment → List ℕ → List ℕ
segment_text g rest = letter_byte g.kind ∷ (32 ∷ field g.following 32 (field g.opposing 10 rest))

-- run, stop, run, stop, .., run: a run before each stop, and the last run
abbrev pub journey_text : List ℕ → List ℕ → List ℕ → List ℕ
journey_text [] rs rest = field (get_or rs 0 0) 10 rest
journey_text (t ∷ ts) rs rest = field (get_or rs 0 0) 32 (field t 32 (journey_text ts (drop 1 rs) rest))

abbrev pub head_text : Train → List ℕ → List ℕ
head_text t rest = field t.origin 32 (field t.destination 32 (field t.earliest 32 (field t.latest 32 (field t.weight 32 rest))))

abbrev pub train_text : Train → List ℕ → List ℕ
train_text t rest = head_text t (journey_text (stops_of t) (runs_of t) rest)

abbrev pub booking_text : Booking → List ℕ → List ℕ
booking_text b rest = field b.train 32 (field b.station 32 (field b.minute 10 rest))

abbrev pub listed_text : Listed → List ℕ → List ℕ
listed_text x rest = field x.train 32 (field x.minutes 10 rest)

-- ---- the sections past the third: "may be left off from the end, and the last one written is never empty"

-- a section of these elements: their count, and a line each
abbrev pub counted_text : {A : Type 0} → (A → List ℕ → List ℕ) → List A → List ℕ → List ℕ
counted_text text xs rest = field (length xs) 10 (each_then text xs rest)

abbrev pub further_text : Further → List ℕ
further_text x = optional_text null (counted_text booking_text) x.bookings (optional_text null (counted_text listed_text) x.dues [])

-- of the first n of an array
abbrev pub array_text : {A : Type 0} → (A → List ℕ → List ℕ) → ℕ → List A → List ℕ → List ℕ
array_text text n xs rest = field n 10 (each_then text (take n xs) rest)

-- the section of a record's bookings, and whether it is empty
abbrev pub booked_text : Booked → List ℕ → List ℕ
booked_text b rest = array_text booking_text b.booking_count b.bookings rest

abbrev pub unbooked : Booked → Bool
unbooked b = eqb b.booking_count 0

-- and of a list of trains
abbrev pub train_list_text : TrainList → List ℕ → List ℕ
train_list_text x rest = array_text listed_text x.count x.listed rest

abbrev pub unlisted : TrainList → Bool
unlisted x = eqb x.count 0

abbrev pub dues_text : Line → List ℕ
dues_text l = optional_text unlisted train_list_text l.dues []

-- ---- the whole text

unfoldable pub text_of : Line → List ℕ
text_of l =
    field l.track.station_count 10 (each_then station_text (tracks_of l)
    (field (l.track.station_count - 1) 10 (each_then segment_text (segments_of l)
    (field l.traffic.train_count 10 (each_then train_text (trains_of l)
    (optional_text unbooked booked_text l.booked (dues_text l)))))))
