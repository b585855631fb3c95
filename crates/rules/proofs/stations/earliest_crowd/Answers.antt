-- The answers; the idea of the proof is at the head of the invariants.
use Rattle.std.proofs.Common.{◌≡◌, ℕ, ◌∙◌, arith}
use Rattle.finite.specs.Below.{count as count_of}
use Rattle.rules.specs.Conflict.Conflicts.{standing_at}
use Rattle.rules.specs.Scan.Scanning.{stands_by}
use Rattle.rules.specs.Scan.StationLaws.{earliest_start, earliest_on, earliest_sooner, earliest_told}
use Rattle.rules.specs.Scan.ScanningLaws.{standing_of}
use Rattle.rules.proofs.stations.earliest_crowd.Goals as goal
use Rattle.rules.proofs.stations.earliest_crowd.Goals.{then-t-earliest+then-standing-tracks, else-t-earliest, else-t-earliest-via-then-t-earliest+else-standing-tracks, else-t-earliest-via-else-t-earliest}

pub loop-i-init : goal.loop-i-init
loop-i-init c = earliest_start _ _ _ _ _

pub loop-i-preserved : goal.loop-i-preserved
loop-i-preserved c =
    let w = c.loop-i in
    let a = c.args in
    let x = c.stays_at-stays in
    let comes = x.ensures.comes w.i c.loop-i-test.true in
    let total : (t k : ℕ) → k ≡ count_of (stands_by x.result.came x.result.leaves t) 16 → k ≡ standing_at a.ds.now a.m.now a.n a.s t =
    standing_of _ _ _ _ _ x.ensures (omega arith) in
    elim c.if-t-earliest.branch [
      | then-t-earliest+then-standing-tracks u ↦ rw u.earliest-is (earliest_sooner _ _ _ _ _ _ _ _ comes w.invariant u.if-t-earliest.true (omega (arith, total _ _ u.standing.ensures, u.if-standing-tracks.true)))
      | else-t-earliest u ↦ rw u.earliest-is (earliest_on _ _ _ _ _ _ _ _ comes w.invariant (λ d. elim u.else-t-earliest.branch [
        | else-t-earliest-via-then-t-earliest+else-standing-tracks v ↦ absurd (omega (arith, d, total _ _ v.standing.ensures, v.if-standing-tracks.false))
        | else-t-earliest-via-else-t-earliest v ↦ omega (arith, v.if-t-earliest.false)
      ]))
    ]

pub returns : goal.returns
returns c = c.then_some.ensures ∙ earliest_told _ _ _ _ _ _ _ (omega arith) c.loop-i.invariant
