-- The answers; the idea of the proof is at the head of the invariants.
use Rattle.std.proofs.Common.{ℕ, refl, ap, ◌∙◌, arith}
use Rattle.finite.specs.LoopLaws.{count_none, count_in, count_out, count_most}
use Rattle.rules.specs.Conflict.Conflicts.{stands_at, crowd_mask}
use Rattle.rules.specs.Scan.StationLaws.{stands_here, mask_start, mask_in, mask_full, mask_out, bit-next, bit_small}
use Rattle.rules.proofs.stations.crowd_mask.Goals as goal
use Rattle.rules.proofs.stations.crowd_mask.Goals.{then-stands, then-count-tracks, else-count-tracks, else-stands}

pub loop-i-init : goal.loop-i-init
loop-i-init c = (mask_start _ _ _ _ _, refl, count_none _, omega arith)

pub overflow_add-count : goal.overflow_add-count
overflow_add-count c =
    let w = c.loop-i in
    let a = c.args in
    omega (arith, count_most (stands_at a.ds.now a.m.now a.s a.t) w.i)

pub overflow_mul-bit : goal.overflow_mul-bit
overflow_mul-bit c =
    let w = c.loop-i in
    omega (arith, bit_small _ _ w.invariant.1 (omega arith))

pub loop-i-preserved : goal.loop-i-preserved
loop-i-preserved c =
    let w = c.loop-i in
    let here = stands_here _ _ _ _ c.stay_at.ensures c.stands.ensures in
    let bit = bit-next _ _ w.invariant.1 in
    elim c.if-stands.branch [
      | then-stands u ↦
          (let at = here ∙ u.if-stands.true in
          let all = u.count-is ∙ count_in _ _ _ at w.invariant.2 in
          elim u.if-count-tracks.branch [
            | then-count-tracks v ↦ (u.mask-is ∙ v.mask-is ∙ mask_in _ _ _ _ _ _ _ w.invariant.0 _ _ at w.invariant.2 v.if-count-tracks.true w.invariant.1, bit, all, omega (arith, u.mask-is, v.mask-is))
            | else-count-tracks v ↦ (u.mask-is ∙ v.mask-is ∙ mask_full _ _ _ _ _ _ _ w.invariant.0 _ at w.invariant.2 (v.if-count-tracks.false), bit, all, omega (arith, u.mask-is, v.mask-is))
          ])
      | else-stands u ↦
          (let at = here ∙ u.if-stands.false in
          (u.mask-is ∙ mask_out _ _ _ _ _ _ _ w.invariant.0 at, bit, u.count-is ∙ count_out _ _ _ at w.invariant.2, omega (arith, u.mask-is)))
    ]

pub returns : goal.returns
returns c =
    let w = c.loop-i in
    let a = c.args in
    w.invariant.0 ∙ ap (λ (i : ℕ). crowd_mask a.ds.now a.m.now i a.tracks a.s a.t) (omega arith)
