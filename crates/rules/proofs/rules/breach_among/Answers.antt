-- The answers; the idea of the proof is at the head of the invariants.
use Rattle.std.proofs.Common.{◌≡◌, true, sym, ◌∙◌, arith, below_none, below_more}
use Rattle.rules.specs.Check.BreachesLaws.{lowest_at, lowest_none}
use Rattle.rules.proofs.rules.breach_among.Goals as goal

pub loop-i-init : goal.loop-i-init
loop-i-init g c = λ keeps told. below_none (λ j. keeps j ≡ true)

pub returns-then-not-test : goal.returns-then-not-test
returns-then-not-test g c = λ keeps told.
    let w = c.loop-i in
    lowest_at c.args.rule keeps _ w.i c.loop-i-test.true (sym (told w.i c.loop-i-test.true _ c.test.ensures) ∙ c.if-not-test.true) (w.invariant keeps told)

pub loop-i-preserved : goal.loop-i-preserved
loop-i-preserved g c = λ keeps told.
    let w = c.loop-i in
    below_more (λ j. keeps j ≡ true) w.i (w.invariant keeps told) (sym (told w.i c.loop-i-test.true _ c.test.ensures) ∙ c.if-not-test.false)

pub returns : goal.returns
returns g c = λ keeps told. lowest_none c.args.rule keeps _ (λ j h. c.loop-i.invariant keeps told j (omega (arith, h)))
