-- `plans::ranking::key_entry` meets its contract: the entry of the leg's segment, where the train and the leg are there. Assumes nothing.
use Prim.Native.Nat.{ℕ, ◌+◌, ◌*◌}
use mathlib.Core.Path.{◌∙◌, ap}
use native.Mathlib.Omega.{arith}
use Rattle.line.specs.RunnableLaws.{within_runnable}
use Rattle.rules.specs.StatementLaws.PathsLaws.{routed_leg}
use Rattle.plans.proofs.Clauses.KeysLaws.{entry_none, entry-leg}
use Rattle.plans.proofs.ranking.key_entry.Goals as goal

pub returns-then-from-i : goal.returns-then-from-i
returns-then-from-i c = entry_none _ _ _ (λ h. omega (arith, h.0, c.if-from-i.true))

pub returns-then-legs-k : goal.returns-then-legs-k
returns-then-legs-k c = entry_none _ _ _ (λ h. omega (arith, h.1, c.legs_between-legs.ensures, c.if-legs-k.true))

pub segment_between-p-requires : goal.segment_between-p-requires
segment_between-p-requires c =
    let legs = c.legs_between-legs.ensures in
    let w = within_runnable c.args.line.now c.requires in
    let r = routed_leg c.args.line.now c.args.i w (omega (arith, c.if-from-i.false)) (omega (arith, legs, c.if-legs-k.false)) in
    (r.origin.0, r.origin.1, r.destination.0, r.destination.1, omega (arith, legs, c.if-legs-k.false))

pub returns : goal.returns
returns c =
    let legs = c.legs_between-legs.ensures in
    ap (λ (p : ℕ). 16 * p + c.args.i) c.segment_between-p.ensures.0 ∙
    entry-leg _ _ _ (omega (arith, c.if-from-i.false)) (omega (arith, legs, c.if-legs-k.false))
