-- The answers; the idea of the proof is at the head of the invariants.
use Rattle.solver.specs.Search.FindingLaws.{improves-same, searches_improves, improves_then, find_after}
use Rattle.solver.proofs.finding.search_anew.Goals as goal

pub loop-k-init : goal.loop-k-init
loop-k-init c = improves-same c.args.first.now _ _ _

pub returns-then-is_some : goal.returns-then-is_some
returns-then-is_some c = c.loop-k.invariant

pub search_within-b-requires : goal.search_within-b-requires
search_within-b-requires c =
    find_after c.args.first.now _ _ _ _ _ c.loop-k.invariant c.requires

pub loop-k-preserved : goal.loop-k-preserved
loop-k-preserved c =
    improves_then c.args.first.now _ _ _ _ _ c.loop-k.invariant _ _ (searches_improves c.args.first.now _ _ _ _ _ _ c.search_within-b.ensures)

pub returns : goal.returns
returns c = c.loop-k.invariant
