-- The answers; the idea of the proof is at the head of the invariants.
use Rattle.solver.specs.Search.FindingLaws.{improves-same, improves_then, find_after}
use Rattle.solver.proofs.finding.search_near.Goals as goal

pub returns-then-is_none : goal.returns-then-is_none
returns-then-is_none c = improves-same c.args.first.now _ _ _

pub loop-k-init : goal.loop-k-init
loop-k-init c = improves-same c.args.first.now _ _ _

pub search_around-b-requires : goal.search_around-b-requires
search_around-b-requires c =
    find_after c.args.first.now _ _ _ _ _ c.loop-k.invariant c.requires

pub loop-k-preserved : goal.loop-k-preserved
loop-k-preserved c = improves_then c.args.first.now _ _ _ _ _ c.loop-k.invariant _ _ c.search_around-b.ensures

pub returns : goal.returns
returns c = c.loop-k.invariant
