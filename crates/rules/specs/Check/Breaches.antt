-- The first rule that some minutes break: "Rules are checked in number order over all trains", each with its lowest train, segment or station.
use Rattle.std.specs.Prelude.{◌≡◌, ℕ, ◌+◌, ◌<◌, Bool, not, List, length, Option, Some, None, Result, Ok, Err, ⊤, slice_index_or}
use Rattle.std.proofs.Math.Option.{Option as Maybe, some, none}
use Rattle.finite.specs.Below.{first}
use Rattle.text.specs.declared.Refusal.{Refusal}
use Rattle.text.specs.Reading.Told.{refusal}
use Rattle.line.specs.declared.Train.{Train}
use Rattle.line.specs.declared.Line.{Line}
use Rattle.rules.specs.declared.conflicts.Conflict.{Conflict}
use Rattle.rules.specs.Statement.Paths.{past_train}
use Rattle.rules.specs.Check.Tests.{keeps_rule}
use Rattle.rules.specs.Conflict.Conflicts.{conflict_of}

-- a breach is a refusal by the number of the rule; the first of two
abbrev pub or_breach : Result ⊤ Refusal → Result ⊤ Refusal → Result ⊤ Refusal
or_breach (Ok x) b = b
or_breach (Err r) b = Err r

-- rule n of the lowest train that fails its test; the place is the train's number
abbrev pub at_train : ℕ → Maybe ℕ → Result ⊤ Refusal
at_train n none = Ok tt
at_train n (some i) = refusal n (i + 1)

-- of the trains below a count, by a test of each
abbrev pub lowest_breach : ℕ → (ℕ → Bool) → ℕ → Result ⊤ Refusal
lowest_breach n keeps count = at_train n (first (λ i. not (keeps i)) count)

-- whatever a test may answer of each of these trains is what the second says
abbrev pub TestedBy : (Train → ℕ → Bool → Type 0) → List Train → (ℕ → Bool) → Type 0
TestedBy answers trains keeps = (i : ℕ) → i < length trains → (b : Bool) → answers (slice_index_or trains i past_train) i b → b ≡ keeps i

unfoldable pub train_breach : ℕ → Line → List ℕ → Result ⊤ Refusal
train_breach n l m = lowest_breach n (keeps_rule n l m) l.traffic.train_count

-- the segment or station of a conflict
abbrev pub place_of : Option Conflict → ℕ
place_of None = 0
place_of (Some (Conflict.OnSegment x)) = x.segment
place_of (Some (Conflict.AtStation x)) = x.station

-- 14 with the lowest segment, 15 with the lowest station
abbrev pub conflict_breach : Option Conflict → Result ⊤ Refusal
conflict_breach None = Ok tt
conflict_breach (Some (Conflict.OnSegment x)) = refusal 14 (x.segment + 1)
conflict_breach (Some (Conflict.AtStation x)) = refusal 15 (x.station + 1)

unfoldable pub breach_of : Line → List ℕ → Result ⊤ Refusal
breach_of l m =
    or_breach (train_breach 10 l m)
    (or_breach (train_breach 11 l m)
    (or_breach (train_breach 12 l m)
    (or_breach (train_breach 18 l m)
    (or_breach (train_breach 13 l m)
    (conflict_breach (conflict_of l m))))))
