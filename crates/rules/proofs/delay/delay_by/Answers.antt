-- The answers; the idea of the proof is at the head of the invariants.
use Rattle.std.proofs.Common.{ℕ, ◌-◌, ◌*◌, ◌<◌, ◌≤◌, ◌∙◌, mul-le-mul, arith}
use Rattle.rules.specs.StatementLaws.PathsLaws.{train_runnable, routed_runnable, legs_few}
use Rattle.rules.specs.Check.Dues.{cost_by}
use Rattle.rules.specs.Check.RulesLaws.{sum-next}
use Rattle.rules.proofs.Check.DuesLaws.{cost-start, cost_late, cost_none, cost-end}
use Rattle.rules.proofs.delay.delay_by.Goals as goal
use Rattle.rules.proofs.delay.delay_by.Goals.{then-due-arrival, else-due-arrival}

-- what one train costs: a weight of at most 99, and minutes that fit 16 bits
most_cost : (w a d : ℕ) → w ≤ 99 → a ≤ 65535 → w * (a - d) ≤ 99 * 65535
most_cost w a d x y = mul-le-mul {n₂ = 99} {m₂ = 65535} x (omega (arith, y))

pub loop-i-init : goal.loop-i-init
loop-i-init c = (cost-start c.args.line.traffic.trains c.args.dues.now c.args.m.now, omega arith)

pub overflow_sub-last : goal.overflow_sub-last
overflow_sub-last c =
    let runs = train_runnable c.args.line c.loop-i.i c.requires.0 (omega arith) (omega (arith, c.from-i-end.ensures)) in
    omega (arith, c.legs_between-last.ensures, legs_few _ (routed_runnable _ _ runs c.requires.0.stations.1))

pub arrival_of-requires : goal.arrival_of-requires
arrival_of-requires c =
    let runs = train_runnable c.args.line c.loop-i.i c.requires.0 (omega arith) (omega (arith, c.from-i-end.ensures)) in
    let path = routed_runnable _ _ runs c.requires.0.stations.1 in
    (path, omega (arith, c.from-i-end.ensures, c.requires.0.trains), omega (arith, c.legs_between-last.ensures, legs_few _ path))

pub overflow_mul-total : goal.overflow_mul-total
overflow_mul-total c =
    let runs = train_runnable c.args.line c.loop-i.i c.requires.0 (omega arith) (omega (arith, c.from-i-end.ensures)) in
    let most = most_cost c.from.result c.from-arrival.result c.from-due.result (omega (arith, c.from.ensures, runs.weight)) (omega (arith, c.from-arrival.ensures)) in
    omega (arith, most)

pub overflow_add-total : goal.overflow_add-total
overflow_add-total c =
    let runs = train_runnable c.args.line c.loop-i.i c.requires.0 (omega arith) (omega (arith, c.from-i-end.ensures)) in
    let most = most_cost c.from.result c.from-arrival.result c.from-due.result (omega (arith, c.from.ensures, runs.weight)) (omega (arith, c.from-arrival.ensures)) in
    omega (arith, most, c.loop-i.invariant.1, c.from-i-end.ensures, c.requires.0.trains)

pub loop-i-preserved : goal.loop-i-preserved
loop-i-preserved c =
    let i = c.loop-i in
    let here : i.i < c.args.line.traffic.train_count = omega (arith, c.from-i-end.ensures) in
    let last = c.from-arrival.ensures ∙ c.arrival_of.ensures in
    let legs = c.legs_between-last.ensures in
    let due = c.from-due.ensures in
    let trains = c.args.line.traffic.trains in
    let cost = cost_by trains c.args.dues.now c.args.m.now in
    elim c.if-due-arrival.branch [
      | then-due-arrival w ↦
          (let late = cost_late trains c.args.dues.now c.args.m.now i.i legs last due w.from.ensures in
          let runs = train_runnable c.args.line i.i c.requires.0 (omega arith) here in
          let most = most_cost w.from.result c.from-arrival.result c.from-due.result (omega (arith, w.from.ensures, runs.weight)) (omega (arith, c.from-arrival.ensures)) in
          (w.total-is ∙ sum-next cost i.i i.invariant.0 late, omega (arith, w.total-is, i.invariant.1, most)))
      | else-due-arrival w ↦
          (let none = cost_none trains c.args.dues.now c.args.m.now i.i legs last due w.if-due-arrival.false in
          (omega (arith, w.total-is, sum-next cost i.i i.invariant.0 none), omega (arith, w.total-is, i.invariant.1)))
    ]

pub returns : goal.returns
returns c = cost-end c.args.line c.args.dues.now c.args.m.now c.requires.1 c.loop-i.invariant.0 (omega (arith, c.from-i-end.ensures))
