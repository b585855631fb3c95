-- `starts::filling::starts` meets its contract: a file that is refused, or what may not be asked of its line, with no entry stored; all else is filled in.
-- Assumes nothing.
use Prim.Native.Nat.{ℕ, ◌+◌, ◌-◌}
use mathlib.Core.Path.{◌≡◌, subst}
use native.Mathlib.Omega.{arith}
use lib.ListN.{length}
use Rattle.starts.specs.Asking.{Asked}
use Rattle.starts.specs.OperationLaws.{line_refused, line_filled, file_accepted, file_line}
use Rattle.starts.proofs.filling.starts.Goals as goal

pub returns-then-not-may_ask : goal.returns-then-not-may_ask
returns-then-not-may_ask c = file_accepted _ _ _ c.in_ok-line.ensures (line_refused _ _ _ _ (c.may_ask.ensures.nay c.if-not-may_ask.true))

pub overflow_sub-train : goal.overflow_sub-train
overflow_sub-train c = (c.may_ask.ensures.yea c.if-not-may_ask.false).there.0

pub fill-requires : goal.fill-requires
fill-requires c =
    let asked = c.may_ask.ensures.yea c.if-not-may_ask.false in
    let number : c.args.train ≡ c.args.train - 1 + 1 = omega (arith, asked.there.0) in
    (file_line _ c.in_ok-line.ensures, subst (λ (t : ℕ). Asked c.in_ok-line.line.traffic.train_count t c.args.minutes.now (length c.args.totals.now)) number asked)

pub returns : goal.returns
returns c =
    file_accepted _ _ _ c.in_ok-line.ensures (line_filled _ c.args.train _ _ (c.may_ask.ensures.yea c.if-not-may_ask.false) c.fill.ensures)
