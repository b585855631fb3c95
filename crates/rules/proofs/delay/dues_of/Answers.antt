-- The answers; the idea of the proof is at the head of the invariants.
use Rattle.std.proofs.Common.{ℕ, take, ap, ◌∙◌, arith}
use Rattle.rules.specs.Check.Dues.{due_from}
use Rattle.rules.proofs.Check.DuesLaws.{due-from}
use Rattle.rules.proofs.delay.dues_of.Goals as goal

pub returns : goal.returns
returns c =
    let l = c.args.line in
    let h = c.loop-i.invariant in
    record {
      size = h.size;
      entries = λ i b.
          h.entries i (omega (arith, b, c.from-i-end.ensures))
          ∙ ap (λ (n : ℕ). due_from l.traffic.trains (take n l.dues.listed) c.args.floors.now i) c.from.ensures
          ∙ due-from l c.requires.0 (omega arith) i b c.args.floors.now c.requires.1;
    }
