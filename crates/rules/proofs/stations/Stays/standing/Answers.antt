-- The answers; the idea of the proof is at the head of the invariants.
use Rattle.std.proofs.Common.{arith}
use Rattle.finite.specs.LoopLaws.{count_none, count_in, count_out, count_most}
use Rattle.rules.specs.Scan.Scanning.{stands_by}
use Rattle.rules.specs.Scan.ScanningLaws.{stands_both, stands-not}
use Rattle.rules.proofs.stations.Stays.standing.Goals as goal
use Rattle.rules.proofs.stations.Stays.standing.Goals.{then-self-i+then-t-self, else-self-i, else-self-i-via-then-self-i+else-t-self, else-self-i-via-else-self-i}

pub loop-i-init : goal.loop-i-init
loop-i-init c = count_none _

pub overflow_add-count : goal.overflow_add-count
overflow_add-count c =
    let w = c.loop-i in
    let a = c.args in
    omega (arith, count_most (stands_by a.self.now.came a.self.now.leaves a.t) w.i)

pub loop-i-preserved : goal.loop-i-preserved
loop-i-preserved c =
    let w = c.loop-i in
    elim c.if-self-i.branch [
      | then-self-i+then-t-self u ↦ rw u.count-is (count_in _ _ _ (stands_both _ _ _ _ u.if-self-i.true u.if-t-self.true) w.invariant)
      | else-self-i u ↦ rw u.count-is (count_out _ _ _ (elim u.else-self-i.branch [
        | else-self-i-via-then-self-i+else-t-self v ↦ stands-not _ _ _ _ (λ h. omega (arith, h.1, v.if-t-self.false))
        | else-self-i-via-else-self-i v ↦ stands-not _ _ _ _ (λ h. omega (arith, h.0, v.if-self-i.false))
      ]) w.invariant)
    ]
