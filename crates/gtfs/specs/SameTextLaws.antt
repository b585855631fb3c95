-- Minutes that are the same have the same text: only the minutes of legs are written.
use Prim.Native.Nat.{ℕ, zero, suc, ◌+◌}
use Rattle.std.specs.Prelude.{◌≡◌, List}
use Rattle.std.proofs.Math.Path.{refl}
use Rattle.line.specs.declared.Train.{Train}
use Rattle.timetable.specs.SameTextLaws.{SameLeg}
use Rattle.gtfs.specs.Stops.{leaves_after}
use Rattle.gtfs.specs.Spell.{stops_text, trip_text}

module _ (m m' : List ℕ) (t : Train) (i : ℕ) (same : (q : ℕ) → SameLeg m m' t i q) where
  leaves_same : (j : ℕ) → leaves_after t m i j ≡ leaves_after t m' i j
  unfolding leaves_after
  leaves_same j = rw ((same (j + 1)).0, (same j).1) refl

  stops_same : (k j : ℕ) (rest : List ℕ) → stops_text k t m i j rest ≡ stops_text k t m' i j rest
  unfolding stops_text
  stops_same zero j rest = refl
  stops_same (suc k) j rest = rw ((same j).1, leaves_same j, stops_same k (j + 1) rest) refl

  -- the same minutes of a train, which is train i, are the same lines
  pub trip_same : (n : ℕ) (rest : List ℕ) → trip_text n t m i rest ≡ trip_text n t m' i rest
  unfolding trip_text
  trip_same n rest = rw ((same 0).0, stops_same n 0 rest) refl
