-- `rules::conflicts::lowest_conflict` meets its contract: a segment's conflict is the lowest, and without one the station's. Assumes nothing.
use Rattle.std.proofs.Common.{◌≡◌, Option, Some, None, MatchOption, ap, ◌∙◌, rules}
use Rattle.rules.specs.declared.conflicts.Conflict.{Conflict}
use Rattle.rules.specs.Conflict.Conflicts.{or_conflict, station_conflict, conflict_in}
use Rattle.rules.proofs.conflicts.lowest_conflict.Goals as goal

-- P is what is known where there is no first one
first_of : {P : Type 0} (o r s : Option Conflict) → (P → r ≡ s) → MatchOption o P (λ x. r ≡ Some x) → r ≡ or_conflict o s
first_of None r s f h = f h
first_of (Some x) r s f h = h

pub returns : goal.returns
unfolding conflict_in
returns c =
    let y = c.args.layout in
    let s = station_conflict y.tracks c.args.ds.now c.args.m.now y.stations y.trains in
    first_of _ _ s (λ h. search rules) c.or_else.ensures ∙ ap (λ (x : Option Conflict). or_conflict x s) c.segment_conflict.ensures
