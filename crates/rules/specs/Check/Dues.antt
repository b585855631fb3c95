-- The due minutes of a line's trains in a list, that of train i at entry i: what the code looks them up in.
use Rattle.std.specs.Prelude.{◌≡◌, ℕ, ◌-◌, ◌*◌, List, Option, get_or, unwrap_or, slice_index, slice_index_or}
use Rattle.finite.specs.FillLaws.{Begun}
use Rattle.line.specs.declared.Train.{Train}
use Rattle.line.specs.declared.Line.{Line}
use Rattle.line.specs.declared.Listed.{Listed}
use Rattle.line.specs.Record.{legs_of}
use Rattle.rules.specs.Statement.Paths.{past_train}
use Rattle.rules.specs.Statement.Delay.{listed_for, due}
use Rattle.rules.specs.Check.Floors.{arrived_by}
use Rattle.rules.specs.Check.Tests.{arrival_of}

-- r is what a list of trains has for train i: its minutes, or nothing
abbrev pub MinuteListed : List Listed → ℕ → Option ℕ → Type 0
MinuteListed xs i r = (given : ℕ) → unwrap_or r given ≡ listed_for xs i given

-- the due minute of train i, by trains, a list of dues, and floors in lists: as the code works it out
abbrev pub due_from : List Train → List Listed → List ℕ → ℕ → ℕ
due_from trains listed floors i =
    listed_for listed i (arrived_by (slice_index_or trains i past_train) floors i (legs_of (slice_index_or trains i past_train) - 1))

-- those of the first n trains
abbrev pub DuesBelow : Line → ℕ → List ℕ → Type 0
DuesBelow l n t = Begun (due l) 12 n t

abbrev pub Dues : Line → List ℕ → Type 0
Dues l t = DuesBelow l l.traffic.train_count t

-- weight times delay of train i, by trains and due minutes in lists: as the code works it out
abbrev pub cost_by : List Train → List ℕ → List ℕ → ℕ → ℕ
cost_by trains dues m i =
    (get_or trains i past_train).weight * (arrival_of (slice_index_or trains i past_train) m i (legs_of (slice_index_or trains i past_train) - 1) - slice_index dues i)
