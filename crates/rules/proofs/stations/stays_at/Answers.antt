-- The answers; the idea of the proof is at the head of the invariants.
use Rattle.std.proofs.Common.{ℕ, sym, ◌∙◌, subst, arith}
use Rattle.rules.specs.Scan.Scanning.{StaysOf}
use Rattle.rules.specs.Scan.ScanningLaws.{stays_start, stays_in, stays_out}
use Rattle.rules.proofs.stations.stays_at.Goals as goal
use Rattle.rules.proofs.stations.stays_at.Goals.{in-Some, in_default}

pub loop-i-init : goal.loop-i-init
loop-i-init c = stays_start _ _ _

pub loop-i-preserved : goal.loop-i-preserved
loop-i-preserved c =
    let w = c.loop-i in
    let at = c.stay_at.ensures in
    elim c.match-stay_at.branch [
      | in-Some u ↦ rw (u.came-is, u.leaves-is) (stays_in _ _ _ _ _ w.invariant (omega arith) _ (sym u.in-Some.is ∙ at))
      | in_default u ↦ rw (u.came-is, u.leaves-is) (stays_out _ _ _ _ _ w.invariant (omega arith) (sym u.in_default.is ∙ at))
    ]

pub returns : goal.returns
returns c =
    let w = c.loop-i in
    let a = c.args in
    subst (λ (n : ℕ). StaysOf a.ds.now a.m.now n a.s (record { came = w.came; leaves = w.leaves })) (omega arith) w.invariant
