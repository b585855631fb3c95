-- `screen::gaugeviolet_walk_length` meets its contract: the length of the walk, packed, which its bounds allow. Assumes nothing.
use mathlib.Core.Path.{◌∙◌, ap}
use Rattle.service.specs.Packing.{packed_written}
use Rattle.screen.specs.Walking.{walk_length, walk_packs}
use Rattle.screen.proofs.gaugeviolet_walk_length.Goals as goal

pub pack_written-requires : goal.pack_written-requires
pack_written-requires c = rw c.walked.ensures (walk_packs _)

pub returns : goal.returns
unfolding walk_length
returns c = c.pack_written.ensures ∙ ap packed_written c.walked.ensures
