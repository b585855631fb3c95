-- The answers; the idea of the proof is at the head of the invariants.
use mathlib.Core.Path.{refl}
use native.Mathlib.Omega.{arith}
use Rattle.rules.specs.Conflict.ConflictsLaws.{segment-start, segment-on}
use Rattle.walk.specs.ScanningLaws.{clear_within, clear_at, clear_first}
use Rattle.walk.proofs.scanning.clear_again.Goals as goal

pub loop-p-init : goal.loop-p-init
loop-p-init c = segment-start _ _ _ _

pub offset_bounds-layout-p : goal.offset_bounds-layout-p
offset_bounds-layout-p c =
    omega (arith, c.loop-p-test.true, clear_within c.args.layout _ _ _ c.requires.known, c.requires.scans.laid_out.1)

pub bounds-layout-p : goal.bounds-layout-p
bounds-layout-p c =
    omega (arith, c.loop-p-test.true, clear_within c.args.layout _ _ _ c.requires.known, c.requires.scans.laid_out.1)

pub still_clear-requires : goal.still_clear-requires
still_clear-requires c = (
  omega (arith, c.loop-p-test.true, clear_within c.args.layout _ _ _ c.requires.known, c.requires.scans.laid_out.1),
  c.requires.scans.laid_out.2,
  clear_at c.args.layout _ _ _ c.requires.known _ c.loop-p-test.true,
)

pub returns-then-not-still_clear : goal.returns-then-not-still_clear
returns-then-not-still_clear c =
    clear_first c.args.layout _ _ _ _ _ _ c.requires.known refl (omega (arith, c.loop-p-test.true)) c.loop-p.invariant

pub loop-p-preserved : goal.loop-p-preserved
loop-p-preserved c =
    segment-on c.args.layout.segments _ _ _ _ c.loop-p.invariant (c.still_clear.ensures c.if-not-still_clear.false)

pub returns : goal.returns
returns c = clear_first c.args.layout _ _ _ _ _ _ c.requires.known (omega arith) (omega arith) c.loop-p.invariant
