-- `orders::bits::next_bit` meets its contract: the zeros below the lowest bit of the shifted mask are those from this bit on up to the next.
use Prim.Native.Nat.{◌/◌, ◌^◌}
use native.Mathlib.Omega.{arith}
use lib.Count.{trailing_le}
use Rattle.orders.specs.Plan.BitsLaws.{next_none, next-some}
use Rattle.orders.proofs.bits.next_bit.Goals as goal

pub returns-then-rest-eq0 : goal.returns-then-rest-eq0
returns-then-rest-eq0 c = next_none _ _ c.requires c.if-rest-eq0.true

pub overflow_cast-result : goal.overflow_cast-result
overflow_cast-result c = omega (arith, trailing_le 16 (c.args.mask / 2 ^ c.args.from))

pub overflow_add-result : goal.overflow_add-result
overflow_add-result c = omega (arith, trailing_le 16 (c.args.mask / 2 ^ c.args.from), c.requires)

pub returns : goal.returns
returns c = next-some _ _
