-- The answers; the idea of the proof is at the head of the invariants.
use Prim.Native.Nat.{suc, ◌-◌, ◌+◌}
use mathlib.Core.Path.{◌≡◌, ◌∙◌, sym}
use native.Mathlib.Omega.{arith}
use Rattle.std.proofs.lemmas.Result.{err_from_is_err_and}
use Rattle.text.specs.Elements.Padded.{padded}
use Rattle.text.proofs.Elements.LayLaws.{chain_lay_done, chain_lay_step, chain_lay_stop}
use Rattle.line.proofs.reading.rising_lines.Goals as goal

pub loop-i-preserved : goal.loop-i-preserved
loop-i-preserved g c =
    let w = c.loop-i in
    let k : c.args.count - w.i ≡ suc (c.args.count - (w.i + 1)) = omega arith in
    let after = (c.requires.2 _ _ w.invariant.0).1 in (
      after _ _ c.in_ok-before.ensures,
      λ s part tells.
          sym (chain_lay_step (λ a b. b) part _ _ _ _ _ _ _ k _ _ (sym (tells _ _ _ c.in_ok-before.ensures))) ∙ w.invariant.1 s part tells,
    )

pub returns-in_err-before : goal.returns-in_err-before
unfolding padded
returns-in_err-before g c =
    λ s part tells.
    let w = c.loop-i in
    let p = err_from_is_err_and c.from_residual.result c.from_residual.ensures.1 in
    let k : c.args.count - w.i ≡ suc (c.args.count - (w.i + 1)) = omega arith in
    rw (p.1, p.2) (sym (chain_lay_stop (λ a b. b) part _ _ _ _ _ _ _ k _ _ (sym (tells _ _ _ c.in_err-before.ensures))) ∙ w.invariant.1 s part tells)

pub returns : goal.returns
unfolding padded
returns g c =
    λ s part tells.
    let w = c.loop-i in
    let k : c.args.count - w.i ≡ 0 = omega arith in
    sym (chain_lay_done (λ a b. b) part _ 0 _ _ _ _ _ k) ∙ w.invariant.1 s part tells
