-- The path of a train on a line of at most 12 stations: where its ends are stations, and apart, it has 1 to 11 segments.
use Rattle.std.specs.Prelude.{ℕ, ◌≤◌, ◌≡◌}
use Rattle.std.proofs.Common.{arith}
use Rattle.line.specs.declared.Train.{Train}
use Rattle.line.specs.Ranges.{In, station}
use Rattle.line.specs.Record.{legs_between, HasPath}
use Rattle.line.specs.Within.{TrainWithin}

pub path_legs : (n o d : ℕ) → n ≤ 12 → In (station n) o → In (station n) d → (d ≡ o → ⊥) → (1 ≤ legs_between o d) × (legs_between o d ≤ 11)
path_legs n o d few origin destination apart = (omega (arith, origin, destination), omega (arith, origin, destination))

-- a train within the limits of a line of n stations has a path
pub train_path : (n : ℕ) → n ≤ 12 → (t : Train) → TrainWithin n t → HasPath t
train_path n few t w = path_legs n t.origin t.destination few w.origin w.destination w.apart
