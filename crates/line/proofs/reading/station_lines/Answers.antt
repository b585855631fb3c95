-- The answers; the idea of the proof is at the head of the invariants.
use Prim.Native.Nat.{suc, ◌-◌, ◌+◌}
use mathlib.Core.Path.{◌≡◌, ◌∙◌, sym}
use native.Mathlib.Omega.{arith}
use Rattle.std.proofs.lemmas.Result.{err_from_is_err_and}
use Rattle.text.specs.Elements.Padded.{padded}
use Rattle.text.proofs.Elements.LayLaws.{lay_stop}
use Rattle.line.specs.File.{station_line}
use Rattle.line.proofs.reading.station_lines.Goals as goal

pub returns-in_err-tracks : goal.returns-in_err-tracks
unfolding padded
returns-in_err-tracks c =
    let p = err_from_is_err_and c.from_residual.result c.from_residual.ensures.1 in
    let k : c.args.count - c.loop-i.i ≡ suc (c.args.count - (c.loop-i.i + 1)) = omega arith in
    rw (p.1, p.2) (sym (lay_stop (λ left. station_line) _ _ _ _ _ _ k _ _ (sym c.in_err-tracks.ensures)) ∙ c.loop-i.invariant.0)
