-- The answers; the idea of the proof is at the head of the invariants.
use Rattle.std.proofs.Common.{◌≡◌, ◌∙◌, Err, rules, arith}
use Rattle.line.specs.FaultLaws.{lines_found, lines_clean, lines_end}
use Rattle.line.proofs.writing.lines_fault.Goals as goal

pub returns-in_err-check : goal.returns-in_err-check
returns-in_err-check g c =
    λ f here.
    let same : c.from_residual.result ≡ Err c.in_err-check.field-0.0 = search rules in
    let w = c.loop-i in
    same ∙ lines_found f _ w.i _ _ (search rules) c.loop-i-test.true (here _ _ _ c.check.ensures) (c.in_err-check.was)
    ∙ w.invariant.1 f here

pub loop-i-preserved : goal.loop-i-preserved
loop-i-preserved g c = (
  c.loop-i.invariant.0,
  λ f here.
      lines_clean f c.args.entries.now c.loop-i.i _ c.index-entries-i.result _ (search rules) c.loop-i-test.true (here _ _ _ c.check.ensures) c.in_ok-check.was (omega arith)
      ∙ c.loop-i.invariant.1 f here,
)

pub returns : goal.returns
returns g c = λ f here. lines_end f _ c.loop-i.i _ c.loop-i-test.false ∙ c.loop-i.invariant.1 f here
