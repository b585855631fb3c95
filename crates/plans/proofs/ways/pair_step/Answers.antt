-- `plans::ways::pair_step` meets its contract: the same train leaves and the next one comes; or else the next train leaves and the lowest one comes; or
-- else there is no pair any more. Assumes nothing.
use native.Mathlib.Omega.{arith}
use Rattle.plans.proofs.Clauses.WaysToldLaws.{lowest_most, pair_same, pair-next-row, pair_last}
use Rattle.plans.proofs.ways.pair_step.Goals as goal

pub returns-then-next-lt12 : goal.returns-then-next-lt12
returns-then-next-lt12 c = pair_same _ _ _ _ c.next_bit-next.ensures c.requires.0 c.if-next-lt12.true

pub overflow_add-result : goal.overflow_add-result
overflow_add-result c =
    let row = c.next_bit-row.ensures in
    let most = lowest_most _ _ _ c.next_bit.ensures (row.member (omega arith)) in
    omega arith

pub returns-then-row-lt12 : goal.returns-then-row-lt12
returns-then-row-lt12 c =
    pair-next-row _ _ _ _ c.next_bit-next.ensures _ c.next_bit-row.ensures (omega arith) _
    c.next_bit.ensures c.requires.1 c.if-row-lt12.true

pub returns : goal.returns
returns c =
    pair_last _ _ _ _ c.next_bit-next.ensures _ c.next_bit-row.ensures (omega arith) c.requires.0 c.requires.1 (omega arith)
