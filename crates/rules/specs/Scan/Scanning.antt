-- How the scan for the lowest conflict tells which of two trains goes first, and what it collects of a station: the contracts of its parts.
use Rattle.std.specs.Prelude.{◌≡◌, ℕ, ◌+◌, ◌<◌, ◌≤◌, Bool, true, false, not, ◌&&◌, ◌||◌, List, length, nat_le, nat_lt, slice_index}
use Rattle.rules.specs.declared.conflicts.Layout.{Layout}
use Rattle.rules.specs.declared.passages.Passage.{Passage}
use Rattle.rules.specs.declared.stations.Stays.{Stays}
use Rattle.rules.specs.Conflict.Conflicts.{passes, stands_at, came_to}

-- ---- two trains on a segment

-- how much later y is than gap after x, or, where it is earlier, the difference wrapped at 4,294,967,296
pub record RoomFor (x gap y r : ℕ) : Type 0 where
  pub later : x + gap ≤ y → r + (x + gap) ≡ y
  pub earlier : y < x + gap → r + (x + gap) ≡ y + 4294967296

-- a number of 32 bits that has the highest bit where b does not hold
pub record Denies (b : Bool) (r : ℕ) : Type 0 where
  pub within : r < 4294967296
  pub low : b ≡ true → r < 2147483648
  pub high : b ≡ false → 2147483648 ≤ r

-- what two of them have in common has it where neither holds
abbrev pub BothDeny : ℕ → ℕ → Bool → Type 0
BothDeny one other r = (a b : Bool) → Denies a one → Denies b other → r ≡ not (a || b)

-- neither leaves the segment so long before the other enters it
unfoldable pub neither_alone : ℕ → Passage → Passage → Bool
neither_alone gap x y = not (nat_le (x.arrives + gap) y.departs || nat_le (y.arrives + gap) x.departs)

-- y departs and arrives so long after x; neither does
unfoldable pub keeps_behind : ℕ → Passage → Passage → Bool
keeps_behind gap x y = nat_le (x.departs + gap) y.departs && nat_le (x.arrives + gap) y.arrives

unfoldable pub neither_behind : ℕ → Passage → Passage → Bool
neither_behind gap x y = not (keeps_behind gap x y || keeps_behind gap y x)

-- ---- what the scan starts from

abbrev pub LaidOut : Layout → Type 0
LaidOut y = (2 ≤ y.stations) × (y.stations ≤ 12) × (y.trains ≤ 12)

pub record Scans (y : Layout) (ds m : List ℕ) : Type 0 where
  pub laid_out : LaidOut y
  pub directions : length ds ≡ 176
  pub size : length m ≡ 352

-- ---- stations

-- train i, by its entries, stands there at minute t
unfoldable pub stands_by : List ℕ → List ℕ → ℕ → ℕ → Bool
stands_by came leaves t i = nat_le (slice_index came i) t && nat_le t (slice_index leaves i)

-- the entries of n trains at station s: each says when its train stands there, and that of a train that stops there when it comes
pub record StaysOf (ds m : List ℕ) (n s : ℕ) (x : Stays) : Type 0 where
  pub came_size : length x.came ≡ 16
  pub leaves_size : length x.leaves ≡ 16
  pub stands : (t i : ℕ) → i < 16 → stands_by x.came x.leaves t i ≡ nat_lt i n && stands_at ds m s t i
  pub comes : (i : ℕ) → i < n → passes ds s i ≡ true → slice_index x.came i ≡ came_to ds m s i
