-- `orders::bits::has_bit` meets its contract. Assumes nothing.
use Rattle.orders.specs.Plan.BitsLaws.{bit_of}
use Rattle.orders.proofs.bits.has_bit.Goals as goal

pub returns : goal.returns
returns c = bit_of _ _
