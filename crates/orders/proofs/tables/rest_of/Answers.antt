-- The answers; the idea of the proof is at the head of the invariants.
use Rattle.std.specs.Prelude.{ℕ, ◌+◌, ◌-◌, ◌≤◌, ◌<◌, ◌≡◌, get_or}
use mathlib.Core.Path.{refl}
use native.Mathlib.Omega.{arith}
use Rattle.line.specs.declared.Line.{Line}
use Rattle.line.specs.Runnable.{Runnable}
use Rattle.rules.specs.Statement.Paths.{train, legs}
use Rattle.rules.specs.StatementLaws.PathsLaws.{legs-most}
use Rattle.orders.specs.LineTables.Tables.{rest_of}
use Rattle.orders.specs.LineTables.TablesLaws.{rest_most, rest_start, rest_step}
use Rattle.orders.proofs.tables.rest_of.Goals as goal

-- the sum so far and one leg more
sum_fits : {line : Line} {i j k n rest : ℕ} → Runnable line → i < line.traffic.train_count → j < legs line i → k < j → n ≡ legs line i → rest ≡ rest_of line i k →
    rest + get_or (train line i).stops (n - 2 - k) 0 + get_or (train line i).runs (n - 1 - k) 0 ≤ 7200
sum_fits {line} {i} {j} {k} w h b a q so_far =
    omega (arith, rest_step line i k q refl refl so_far, rest_most line i w h (k + 1) (omega arith), legs-most line i w h)

pub loop-k-init : goal.loop-k-init
loop-k-init c = rest_start c.args.line.now c.args.i

pub overflow_add-rest : goal.overflow_add-rest
overflow_add-rest c =
    omega (arith, sum_fits c.requires.0 c.requires.1 c.requires.2 c.loop-k-test.true c.legs_between-legs.ensures c.loop-k.invariant)

pub overflow_add-rest-in-loop-k : goal.overflow_add-rest-in-loop-k
overflow_add-rest-in-loop-k c =
    omega (arith, sum_fits c.requires.0 c.requires.1 c.requires.2 c.loop-k-test.true c.legs_between-legs.ensures c.loop-k.invariant)

pub loop-k-preserved : goal.loop-k-preserved
loop-k-preserved c =
    omega (arith, rest_step c.args.line.now c.args.i c.loop-k.k c.legs_between-legs.ensures refl refl c.loop-k.invariant)
