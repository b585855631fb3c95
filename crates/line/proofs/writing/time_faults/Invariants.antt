-- `line::writing::time_faults` meets its contract. The invariant: the first refusal of the values yet to check is that of all of them. Assumes nothing.
use Rattle.std.proofs.Common.{◌≡◌, drop}
use Rattle.line.specs.Writing.{times_fault}
use Rattle.line.proofs.writing.time_faults.Given as goal

abbrev pub invariant-loop-n : goal.invariant-loop-n
invariant-loop-n l = times_fault (drop l.n-index l.times) l.limits l.line ≡ times_fault l.times l.limits l.line
