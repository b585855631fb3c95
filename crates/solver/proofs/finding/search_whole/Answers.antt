-- `solver::finding::search_whole` meets its contract: each part improves what the one before left, and the last, or one that ended below its limit, went to
-- its end. Assumes nothing.
use Rattle.solver.specs.Search.FindingLaws.{searches_improves, searches_below, find_after, improves_then, searches_then}
use Rattle.solver.proofs.finding.search_whole.Goals as goal

pub returns-then-once-lt-FIRST_LIMIT : goal.returns-then-once-lt-FIRST_LIMIT
returns-then-once-lt-FIRST_LIMIT c = searches_below c.args.first.now _ _ _ _ _ _ c.if-once-lt-FIRST_LIMIT.true c.search_within-once.ensures

pub search_within-again-requires : goal.search_within-again-requires
search_within-again-requires c =
    let once-held = searches_improves c.args.first.now _ _ _ _ _ _ c.search_within-once.ensures in
    find_after c.args.first.now _ _ _ _ _ once-held c.requires

pub returns-then-again-limit : goal.returns-then-again-limit
returns-then-again-limit c =
    let once-held = searches_improves c.args.first.now _ _ _ _ _ _ c.search_within-once.ensures in
    searches_below c.args.first.now _ _ _ _ _ _ c.if-again-limit.true (searches_then c.args.first.now _ _ _ _ _ once-held _ _ _ c.search_within-again.ensures)

pub search_anew-some-requires : goal.search_anew-some-requires
search_anew-some-requires c =
    let once-held = searches_improves c.args.first.now _ _ _ _ _ _ c.search_within-once.ensures in
    let again-held = improves_then c.args.first.now _ _ _ _ _ once-held _ _ (searches_improves c.args.first.now _ _ _ _ _ _ c.search_within-again.ensures) in
    find_after c.args.first.now _ _ _ _ _ again-held c.requires

pub search_near-near-requires : goal.search_near-near-requires
search_near-near-requires c =
    let once-held = searches_improves c.args.first.now _ _ _ _ _ _ c.search_within-once.ensures in
    let again-held = improves_then c.args.first.now _ _ _ _ _ once-held _ _ (searches_improves c.args.first.now _ _ _ _ _ _ c.search_within-again.ensures) in
    let anew-held = improves_then c.args.first.now _ _ _ _ _ again-held _ _ c.search_anew-some.ensures in
    find_after c.args.first.now _ _ _ _ _ anew-held c.requires

pub search_within-second-requires : goal.search_within-second-requires
search_within-second-requires c =
    let once-held = searches_improves c.args.first.now _ _ _ _ _ _ c.search_within-once.ensures in
    let again-held = improves_then c.args.first.now _ _ _ _ _ once-held _ _ (searches_improves c.args.first.now _ _ _ _ _ _ c.search_within-again.ensures) in
    let anew-held = improves_then c.args.first.now _ _ _ _ _ again-held _ _ c.search_anew-some.ensures in
    let near-held = improves_then c.args.first.now _ _ _ _ _ anew-held _ _ c.search_near-near.ensures in
    find_after c.args.first.now _ _ _ _ _ near-held c.requires

pub returns-then-second-lt-SECOND_LIMIT : goal.returns-then-second-lt-SECOND_LIMIT
returns-then-second-lt-SECOND_LIMIT c =
    let once-held = searches_improves c.args.first.now _ _ _ _ _ _ c.search_within-once.ensures in
    let again-held = improves_then c.args.first.now _ _ _ _ _ once-held _ _ (searches_improves c.args.first.now _ _ _ _ _ _ c.search_within-again.ensures) in
    let anew-held = improves_then c.args.first.now _ _ _ _ _ again-held _ _ c.search_anew-some.ensures in
    let near-held = improves_then c.args.first.now _ _ _ _ _ anew-held _ _ c.search_near-near.ensures in
    searches_below c.args.first.now _ _ _ _ _ _ c.if-second-lt-SECOND_LIMIT.true (searches_then c.args.first.now _ _ _ _ _ near-held _ _ _ c.search_within-second.ensures)

pub search_near-nearer-requires : goal.search_near-nearer-requires
search_near-nearer-requires c =
    let once-held = searches_improves c.args.first.now _ _ _ _ _ _ c.search_within-once.ensures in
    let again-held = improves_then c.args.first.now _ _ _ _ _ once-held _ _ (searches_improves c.args.first.now _ _ _ _ _ _ c.search_within-again.ensures) in
    let anew-held = improves_then c.args.first.now _ _ _ _ _ again-held _ _ c.search_anew-some.ensures in
    let near-held = improves_then c.args.first.now _ _ _ _ _ anew-held _ _ c.search_near-near.ensures in
    let second-held = improves_then c.args.first.now _ _ _ _ _ near-held _ _ (searches_improves c.args.first.now _ _ _ _ _ _ c.search_within-second.ensures) in
    find_after c.args.first.now _ _ _ _ _ second-held c.requires

pub search_within-third-requires : goal.search_within-third-requires
search_within-third-requires c =
    let once-held = searches_improves c.args.first.now _ _ _ _ _ _ c.search_within-once.ensures in
    let again-held = improves_then c.args.first.now _ _ _ _ _ once-held _ _ (searches_improves c.args.first.now _ _ _ _ _ _ c.search_within-again.ensures) in
    let anew-held = improves_then c.args.first.now _ _ _ _ _ again-held _ _ c.search_anew-some.ensures in
    let near-held = improves_then c.args.first.now _ _ _ _ _ anew-held _ _ c.search_near-near.ensures in
    let second-held = improves_then c.args.first.now _ _ _ _ _ near-held _ _ (searches_improves c.args.first.now _ _ _ _ _ _ c.search_within-second.ensures) in
    let nearer-held = improves_then c.args.first.now _ _ _ _ _ second-held _ _ c.search_near-nearer.ensures in
    find_after c.args.first.now _ _ _ _ _ nearer-held c.requires

pub returns-then-third-lt-THIRD_LIMIT : goal.returns-then-third-lt-THIRD_LIMIT
returns-then-third-lt-THIRD_LIMIT c =
    let once-held = searches_improves c.args.first.now _ _ _ _ _ _ c.search_within-once.ensures in
    let again-held = improves_then c.args.first.now _ _ _ _ _ once-held _ _ (searches_improves c.args.first.now _ _ _ _ _ _ c.search_within-again.ensures) in
    let anew-held = improves_then c.args.first.now _ _ _ _ _ again-held _ _ c.search_anew-some.ensures in
    let near-held = improves_then c.args.first.now _ _ _ _ _ anew-held _ _ c.search_near-near.ensures in
    let second-held = improves_then c.args.first.now _ _ _ _ _ near-held _ _ (searches_improves c.args.first.now _ _ _ _ _ _ c.search_within-second.ensures) in
    let nearer-held = improves_then c.args.first.now _ _ _ _ _ second-held _ _ c.search_near-nearer.ensures in
    searches_below c.args.first.now _ _ _ _ _ _ c.if-third-lt-THIRD_LIMIT.true (searches_then c.args.first.now _ _ _ _ _ nearer-held _ _ _ c.search_within-third.ensures)

pub search_near-last-requires : goal.search_near-last-requires
search_near-last-requires c =
    let once-held = searches_improves c.args.first.now _ _ _ _ _ _ c.search_within-once.ensures in
    let again-held = improves_then c.args.first.now _ _ _ _ _ once-held _ _ (searches_improves c.args.first.now _ _ _ _ _ _ c.search_within-again.ensures) in
    let anew-held = improves_then c.args.first.now _ _ _ _ _ again-held _ _ c.search_anew-some.ensures in
    let near-held = improves_then c.args.first.now _ _ _ _ _ anew-held _ _ c.search_near-near.ensures in
    let second-held = improves_then c.args.first.now _ _ _ _ _ near-held _ _ (searches_improves c.args.first.now _ _ _ _ _ _ c.search_within-second.ensures) in
    let nearer-held = improves_then c.args.first.now _ _ _ _ _ second-held _ _ c.search_near-nearer.ensures in
    let third-held = improves_then c.args.first.now _ _ _ _ _ nearer-held _ _ (searches_improves c.args.first.now _ _ _ _ _ _ c.search_within-third.ensures) in
    find_after c.args.first.now _ _ _ _ _ third-held c.requires

pub search_within-requires : goal.search_within-requires
search_within-requires c =
    let once-held = searches_improves c.args.first.now _ _ _ _ _ _ c.search_within-once.ensures in
    let again-held = improves_then c.args.first.now _ _ _ _ _ once-held _ _ (searches_improves c.args.first.now _ _ _ _ _ _ c.search_within-again.ensures) in
    let anew-held = improves_then c.args.first.now _ _ _ _ _ again-held _ _ c.search_anew-some.ensures in
    let near-held = improves_then c.args.first.now _ _ _ _ _ anew-held _ _ c.search_near-near.ensures in
    let second-held = improves_then c.args.first.now _ _ _ _ _ near-held _ _ (searches_improves c.args.first.now _ _ _ _ _ _ c.search_within-second.ensures) in
    let nearer-held = improves_then c.args.first.now _ _ _ _ _ second-held _ _ c.search_near-nearer.ensures in
    let third-held = improves_then c.args.first.now _ _ _ _ _ nearer-held _ _ (searches_improves c.args.first.now _ _ _ _ _ _ c.search_within-third.ensures) in
    let last-held = improves_then c.args.first.now _ _ _ _ _ third-held _ _ c.search_near-last.ensures in
    find_after c.args.first.now _ _ _ _ _ last-held c.requires

pub returns : goal.returns
returns c =
    let once-held = searches_improves c.args.first.now _ _ _ _ _ _ c.search_within-once.ensures in
    let again-held = improves_then c.args.first.now _ _ _ _ _ once-held _ _ (searches_improves c.args.first.now _ _ _ _ _ _ c.search_within-again.ensures) in
    let anew-held = improves_then c.args.first.now _ _ _ _ _ again-held _ _ c.search_anew-some.ensures in
    let near-held = improves_then c.args.first.now _ _ _ _ _ anew-held _ _ c.search_near-near.ensures in
    let second-held = improves_then c.args.first.now _ _ _ _ _ near-held _ _ (searches_improves c.args.first.now _ _ _ _ _ _ c.search_within-second.ensures) in
    let nearer-held = improves_then c.args.first.now _ _ _ _ _ second-held _ _ c.search_near-nearer.ensures in
    let third-held = improves_then c.args.first.now _ _ _ _ _ nearer-held _ _ (searches_improves c.args.first.now _ _ _ _ _ _ c.search_within-third.ensures) in
    let last-held = improves_then c.args.first.now _ _ _ _ _ third-held _ _ c.search_near-last.ensures in
    searches_then c.args.first.now _ _ _ _ _ last-held _ _ _ c.search_within.ensures
