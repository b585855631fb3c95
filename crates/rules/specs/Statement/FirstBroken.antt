-- The first rule that minutes break, and where: "Rules are checked in number order over all trains". Each rule has its places, in their order: the trains, or
-- the segments (14), or the stations (15).
use Rattle.std.specs.Prelude.{◌≡◌, ℕ, ◌+◌, ◌<◌, ◌⊎◌, List, [], ◌∷◌}
use Rattle.finite.specs.Below.{EachBelow}
use Rattle.line.specs.declared.Line.{Line}
use Rattle.rules.specs.Statement.Paths.{segment_count}
use Rattle.rules.specs.Statement.Rules.{NotEarly, Runs, Stops, KeepsBookings, NotLate, Apart, Room}

pub data CheckedRule : Type 0 where
  early : CheckedRule
  run : CheckedRule
  stop : CheckedRule
  booked : CheckedRule
  late : CheckedRule
  gap : CheckedRule
  tracks : CheckedRule

-- the rules in the order in which they are checked: "A departure before its booking is 18, .. checked after 12"
abbrev pub checked_order : List CheckedRule
checked_order = early ∷ run ∷ stop ∷ booked ∷ late ∷ gap ∷ tracks ∷ []

abbrev pub number_of : CheckedRule → ℕ
number_of early = 10
number_of run = 11
number_of stop = 12
number_of booked = 18
number_of late = 13
number_of gap = 14
number_of tracks = 15

-- how many places a rule has, and that it holds at one of them
abbrev pub places_of : Line → CheckedRule → ℕ
places_of l early = l.traffic.train_count
places_of l run = l.traffic.train_count
places_of l stop = l.traffic.train_count
places_of l booked = l.traffic.train_count
places_of l late = l.traffic.train_count
places_of l gap = segment_count l
places_of l tracks = l.track.station_count

abbrev pub HoldsAt : Line → List ℕ → CheckedRule → ℕ → Type 0
HoldsAt l m early i = NotEarly l m i
HoldsAt l m run i = Runs l m i
HoldsAt l m stop i = Stops l m i
HoldsAt l m booked i = KeepsBookings l m i
HoldsAt l m late i = NotLate l m i
HoldsAt l m gap p = Apart l m p
HoldsAt l m tracks s = Room l m s

abbrev pub HoldsEverywhere : Line → List ℕ → CheckedRule → Type 0
HoldsEverywhere l m r = EachBelow (places_of l r) (HoldsAt l m r)

-- rule r is broken, n is its number, and p, counted from 1, is the lowest place at which it is
pub record BrokenAt (l : Line) (m : List ℕ) (r : CheckedRule) (n p : ℕ) : Type 0 where
  pub index : ℕ
  pub number : n ≡ number_of r
  pub place : p ≡ index + 1
  pub real : index < places_of l r
  pub lower : EachBelow index (HoldsAt l m r)
  pub broken : HoldsAt l m r index → ⊥

-- of these rules in their order, the first that is broken has number n and place p; those before it hold everywhere
abbrev pub FirstBroken : Line → List ℕ → List CheckedRule → ℕ → ℕ → Type 0
FirstBroken l m [] n p = ⊥
FirstBroken l m (r ∷ rs) n p = BrokenAt l m r n p ⊎ (HoldsEverywhere l m r × FirstBroken l m rs n p)
