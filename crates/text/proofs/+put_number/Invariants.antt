-- `text::put_number` meets its contract. A number below 10 is one digit. Any other is the digits of its tenth, which the call of itself writes, and then
-- one digit: two texts put one after the other are one text put. The room asked for is one byte more than the tenth needs. The measure is the number
-- itself. Assumes nothing.
use Rattle.text.proofs.+put_number.Given as goal

abbrev pub decreases-put_number : goal.decreases-put_number
decreases-put_number l = l.n
