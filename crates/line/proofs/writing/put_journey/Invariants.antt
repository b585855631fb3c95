-- `line::writing::put_journey` meets its contract. The invariant: what is written, with the runs and stops from k on yet to write, is the whole.
-- Assumes nothing.
use Rattle.std.proofs.Common.{◌≡◌, ◌++◌, [], drop}
use Rattle.line.specs.Spell.{journey_text}
use Rattle.line.proofs.writing.put_journey.Given as goal

abbrev pub invariant-loop-k : goal.invariant-loop-k
invariant-loop-k l = l.out ++ journey_text (drop l.k l.stops) (drop l.k l.runs) [] ≡ l.initial.out ++ journey_text l.stops l.runs []
