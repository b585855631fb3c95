-- What is known of a line while its entries are found, and from one minute of the list to the next.
use Rattle.std.specs.Prelude.{ℕ, ◌+◌, ◌-◌, ◌≤◌, ◌<◌, ◌≡◌, List, Option, Some, None, Ok, length, get_or}
use Rattle.finite.specs.Below.{EachBelow}
use Rattle.line.specs.declared.Line.{Line}
use Rattle.line.specs.Within.{Within, Arrays}
use Rattle.line.specs.RoundTripLaws.{Accepts}
use Rattle.line.specs.Starting.{starting}
use Rattle.rules.specs.Statement.Paths.{train}
use Rattle.rules.specs.Statement.Rules.{Lawful}
use Rattle.rules.specs.Statement.Delay.{weighted_delay, LeastDelay}
use Rattle.rules.specs.Check.Breaches.{breach_of}
use Rattle.plans.specs.declared.found.Best.{Best}
use Rattle.starts.specs.Operation.{no_timetable, altered_file, Tells}

-- a line that was read from a file
pub record FromFile (l : Line) : Type 0 where
  pub file : List ℕ
  pub accepted : Accepts file l

-- a timetable of least delay with its delay, or that none keeps every rule
pub record Knows (l : Line) (r : Option Best) : Type 0 where
  pub least : (x : Best) → r ≡ Some x → LeastDelay l x.minutes
  pub delay_is : (x : Best) → r ≡ Some x → x.delay ≡ weighted_delay l x.minutes
  pub none : r ≡ None → (m : List ℕ) → Lawful l m → ⊥

-- the entry that this gives
abbrev pub entry_of : Option Best → ℕ
entry_of (Some x) = x.delay
entry_of None = no_timetable

-- a line, and the same with train i starting at or after the minute at which it did
pub record Follows (before next : Line) (i : ℕ) : Type 0 where
  pub limits : Within before
  pub arrays : Arrays before
  pub here : i < before.traffic.train_count
  pub minute : ℕ
  pub day : minute ≤ 2879
  pub rises : (train before i).earliest ≤ minute
  pub is : next ≡ starting i minute before

-- minutes of this delay on a line that are lawful on the next
pub record Carries (before next : Line) (total : ℕ) (m : List ℕ) : Type 0 where
  pub clear : breach_of next m ≡ Ok tt
  pub delay_is : weighted_delay before m ≡ total

-- the entries of the first k minutes are filled in, and the others as they were; what is known is of the last of these minutes
pub record Filling (l : Line) (i : ℕ) (minutes entry now : List ℕ) (k : ℕ) (before : Line) (known : Option Best) : Type 0 where
  pub some : (1 ≤ k) × (k ≤ length minutes)
  pub size : length now ≡ length entry
  pub told : EachBelow k (λ j. Tells (altered_file l (i + 1) (get_or minutes j 0)) (get_or now j 0))
  pub kept : (j : ℕ) → k ≤ j → get_or now j 0 ≡ get_or entry j 0
  pub line : before ≡ starting i (get_or minutes (k - 1) 0) l
  pub knows : Knows before known
