-- `starts::asking::may_ask` meets its contract: a test for each thing that is asked; the first that fails tells that it may not be asked. Assumes nothing.
use native.Mathlib.Omega.{arith}
use Rattle.starts.specs.AskingLaws.{decides_built}
use Rattle.starts.proofs.asking.may_ask.Goals as goal

pub returns : goal.returns
returns c =
    let there = decides_built 1 _ _ _ c.value.ensures _ c.is_some.ensures in
    record {
      yea = λ e. record {
        some = omega (arith, c.if-count-eq0.false);
        few = omega (arith, c.if-count-gt-MOST_MINUTES.false);
        rising = c.rises.ensures.yea c.if-not-rises.false;
        days = c.all_times.ensures.yea c.if-not-all_times.false;
        room = omega (arith, c.if-count-entries.false);
        there = there.yea e;
      };
      nay = λ e asked. there.nay e asked.there;
    }
