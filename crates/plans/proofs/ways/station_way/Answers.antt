-- `plans::ways::station_way` meets its contract: a pair of trains by the way's number, where there is such a pair; the numbers up to the next pair are
-- left out. Assumes nothing.
use mathlib.Core.Path.{refl, sym, ◌∙◌}
use Rattle.plans.proofs.Clauses.WaysToldLaws.{tells_pair, tells_none, steps_pair}
use Rattle.plans.proofs.ways.station_way.Goals as goal

pub returns-then-not-two_of : goal.returns-then-not-two_of
returns-then-not-two_of c = (tells_none _ _ _ (sym c.two_of.ensures ∙ c.if-not-two_of.true), steps_pair _ _ _ c.pair_step-step.ensures)

pub returns : goal.returns
returns c = (
  tells_pair _ _ _ _ (sym c.two_of.ensures ∙ c.if-not-two_of.false)
      (record { station = refl; row = refl; leg = c.leg_out.ensures; second = refl }),
  steps_pair _ _ _ c.pair_step-step.ensures,
)
