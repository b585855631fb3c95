-- `rules::stations::crowd_mask` meets its contract. The invariant: the mask is that of the crowd among the trains below i, the bit is that of train i,
-- and the count is of those below i that stand there. Assumes nothing.
use Rattle.std.proofs.Common.{◌≡◌, ◌^◌, ◌<◌}
use Rattle.finite.specs.Below.{count as count_of}
use Rattle.rules.specs.Conflict.Conflicts.{stands_at, crowd_mask}
use Rattle.rules.proofs.stations.crowd_mask.Given as goal

abbrev pub invariant-loop-i : goal.invariant-loop-i
invariant-loop-i l = (l.mask ≡ crowd_mask l.ds l.m l.i l.tracks l.s l.t) × (l.bit ≡ 2 ^ l.i) × (l.count ≡ count_of (stands_at l.ds l.m l.s l.t) l.i) × (l.mask < l.bit)
