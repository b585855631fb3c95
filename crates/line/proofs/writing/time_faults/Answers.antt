-- The answers; the idea of the proof is at the head of the invariants.
use Rattle.std.proofs.Common.{◌≡◌, ◌∙◌, Err, rules}
use Rattle.line.specs.FaultLaws.{times_found, times_clean, times_end}
use Rattle.line.proofs.writing.time_faults.Goals as goal

pub returns-in_err-number_fault : goal.returns-in_err-number_fault
returns-in_err-number_fault c =
    let same : c.from_residual.result ≡ Err c.in_err-number_fault.field-0.0 = search rules in
    same ∙ times_found _ _ c.loop-n.n-index _ c.loop-n-test.true c.number_fault.ensures c.in_err-number_fault.was ∙ c.loop-n.invariant

pub loop-n-preserved : goal.loop-n-preserved
loop-n-preserved c = times_clean _ _ c.loop-n.n-index _ c.loop-n-test.true c.number_fault.ensures c.in_ok-number_fault.was ∙ c.loop-n.invariant

pub returns : goal.returns
returns c = times_end _ _ c.loop-n.n-index _ c.loop-n-test.false ∙ c.loop-n.invariant
