-- `starts::knowing::carries` meets its contract: no breach was found, and the delay was compared. Assumes nothing.
use mathlib.Core.Path.{◌∙◌, sym}
use borrow.Author.Tests.{eqb-true}
use Rattle.line.specs.RunnableLaws.{within_runnable}
use Rattle.starts.specs.KnowingLaws.{fine_of}
use Rattle.starts.proofs.knowing.carries.Goals as goal

pub weighted_delay-requires : goal.weighted_delay-requires
weighted_delay-requires c = within_runnable _ c.requires.0

pub returns : goal.returns
returns c e =
    record {
      clear = sym c.breach_of.ensures ∙ fine_of _ (sym c.is_err.ensures.value ∙ c.if-is_err.false);
      delay_is = sym c.weighted_delay.ensures ∙ eqb-true _ _ e;
    }
