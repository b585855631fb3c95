-- The answers; the idea of the proof is at the head of the invariants.
use Rattle.std.proofs.Common.{ℕ, List, ◌≡◌, ◌+◌, ◌<◌, ◌≤◌, max, get_or, sym, arith}
use Rattle.line.specs.declared.Train.{Train}
use Rattle.rules.specs.Check.Floors.{floor_in, arrived_by, RunsAlone}
use Rattle.rules.specs.Check.FloorsLaws.{arrived_start, arrived_next, alone_train, alone_leg, arrived_most}
use Rattle.rules.proofs.delay.arrived_after.Goals as goal

-- the next leg is one of the path, and the train has arrived at its end within the two days and some
next_few : (x : Train) (t : List ℕ) (i k : ℕ) → RunsAlone x t i k → (j : ℕ) → j < k → (j + 1 < 11) × (arrived_by x t i (j + 1) ≤ 12000)
next_few x t i k h j b = (omega (arith, b, alone_leg x t i k h), arrived_most x t i k h (j + 1) (omega (arith, b)))

-- the arrival of the next turn, from this one, its stop, floor and run
step : (x : Train) (t : List ℕ) (i j : ℕ) → arrived_by x t i (j + 1) ≡ max (arrived_by x t i j + get_or x.stops j 0) (floor_in t i (j + 1)) + get_or x.runs (j + 1) 0
step x t i j = arrived_next x.runs x.stops t (x.earliest + get_or x.runs 0 0) i j

pub overflow_add-arrival : goal.overflow_add-arrival
overflow_add-arrival c =
    let a = c.args in
    omega (
      arith,
      arrived_start a.train.runs a.train.stops a.floors.now (a.train.earliest + get_or a.train.runs 0 0) a.i,
      arrived_most a.train a.floors.now a.i a.k c.requires 0 (omega arith),
    )

pub loop-j-init : goal.loop-j-init
loop-j-init c = sym (arrived_start _ _ _ _ c.args.i)

pub overflow_add-ready : goal.overflow_add-ready
overflow_add-ready c =
    let a = c.args in
    omega (arith, c.loop-j.invariant, step a.train a.floors.now a.i c.loop-j.j, (next_few a.train a.floors.now a.i a.k c.requires c.loop-j.j c.loop-j-test.true).1)

pub floor_at-requires : goal.floor_at-requires
floor_at-requires c =
    let a = c.args in
    (alone_train a.train a.floors.now a.i a.k c.requires, (next_few a.train a.floors.now a.i a.k c.requires c.loop-j.j c.loop-j-test.true).0)

pub bounds-train-j-in-loop-j : goal.bounds-train-j-in-loop-j
bounds-train-j-in-loop-j c =
    let a = c.args in
    (next_few a.train a.floors.now a.i a.k c.requires c.loop-j.j c.loop-j-test.true).0

pub overflow_add-arrival-in-loop-j-2 : goal.overflow_add-arrival-in-loop-j-2
overflow_add-arrival-in-loop-j-2 c =
    let a = c.args in
    omega (arith, c.max-departure.ensures, c.floor_at.ensures, c.loop-j.invariant, step a.train a.floors.now a.i c.loop-j.j, (next_few a.train a.floors.now a.i a.k c.requires c.loop-j.j c.loop-j-test.true).1)

pub loop-j-preserved : goal.loop-j-preserved
loop-j-preserved c =
    let a = c.args in
    omega (arith, c.max-departure.ensures, c.floor_at.ensures, c.loop-j.invariant, step a.train a.floors.now a.i c.loop-j.j)
