-- `solver::selecting::with_station` meets its contract: too many trains at a station of the layout are a conflict on every line of that layout. Assumes
-- nothing.
use mathlib.Core.Path.{refl, sym, ◌∙◌}
use native.Mathlib.Omega.{arith}
use Rattle.solver.specs.Selection.SelectingLaws.{select_scans, crowd-on_real, higher_real}
use Rattle.solver.proofs.selecting.with_station.Goals as goal

pub offset_bounds-day-s : goal.offset_bounds-day-s
offset_bounds-day-s c = let a = c.requires in omega (arith, (select_scans _ _ _ _ a.0).laid_out.1, a.2)

pub bounds-day-s : goal.bounds-day-s
bounds-day-s c = let a = c.requires in omega (arith, (select_scans _ _ _ _ a.0).laid_out.1, a.2)

pub crowd_on-requires : goal.crowd_on-requires
crowd_on-requires c =
    let a = c.requires in
    let s = select_scans _ _ _ _ a.0 in (a.1, omega (arith, s.laid_out.1, a.2), s.laid_out.2)

pub higher_scored-requires : goal.higher_scored-requires
higher_scored-requires c =
    let a = c.requires in
    let p = a.0 in
    record {
      line = p.line;
      tabled = p.tabled;
      planned = p.planned;
      real =
          crowd-on_real _ c.args.day.now _ _ a.1 a.2 refl _ (sym c.in-Some.is ∙ c.crowd_on.ensures) p.line p.tabled.within p.tabled.raisable.arrays
          p.layout_is p.tabled.raisable.directions;
    }

pub returns : goal.returns
returns c =
    let a = c.requires in
    record {
      marks_same = c.higher_scored.ensures.marks_same;
      real = λ l w b f d.
          higher_real l _ _ _ _ _ _ c.higher_scored.ensures (a.3 l w b f d)
          (crowd-on_real _ c.args.day.now _ _ a.1 a.2 refl _ (sym c.in-Some.is ∙ c.crowd_on.ensures) l w b f d);
    }
