-- `solver::neighbourhood::keeps_order` meets its contract: where the answer is true both entries are some way, and they are the same or the kind is not D.
-- Assumes nothing.
use mathlib.Core.Bool.{false≢true}
use Rattle.solver.proofs.neighbourhood.keeps_order.Goals as goal
use Rattle.solver.proofs.neighbourhood.keeps_order.Goals.{in-D, in_default}
use mathlib.Core.Path.{sym, ap, ◌∙◌}
use mathlib.Core.Bool.{not}

pub returns-then-a-b : goal.returns-then-a-b
returns-then-a-b c e = record { one = c.if-a-eq0.false; other = c.if-b-eq0.false; asks = λ _. c.if-a-b.true }

pub returns-after-matches : goal.returns-after-matches
returns-after-matches c e =
    record {
      one = c.if-a-eq0.false;
      other = c.if-b-eq0.false;
      asks = λ d. elim c.match-matches.branch [ in-D w ↦ absurd (false≢true (sym (ap not w.matches-is) ∙ e)) | in_default w ↦ absurd (w.in_default.not-D d) ];
    }
