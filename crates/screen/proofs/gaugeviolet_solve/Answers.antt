-- `screen::gaugeviolet_solve` meets its contract: the answer of solving, packed, which its bounds allow. Assumes nothing.
use Rattle.screen.specs.SolvedLaws.{solving_packs}
use Rattle.screen.proofs.gaugeviolet_solve.Goals as goal

pub pack_written-requires : goal.pack_written-requires
pack_written-requires c = solving_packs _ _ _ _ c.solve.ensures
