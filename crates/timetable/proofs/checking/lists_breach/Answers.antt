-- The answers; the idea of the proof is at the head of the invariants.
use Prim.Native.Nat.{◌<◌}
use mathlib.Core.Path.{◌≡◌, ◌∙◌, sym}
use native.Mathlib.Omega.{arith}
use borrow.Author.Count.{below_none, below_more}
use borrow.Author.Rules.{rules}
use lib.ListN.{length}
use Rattle.rules.specs.Lists.Orders.{lists_in}
use Rattle.timetable.specs.Told.{named_first}
use Rattle.timetable.specs.CheckLoopLaws.{same_at, lists_size, Right, wrong_at, wrong_none}
use Rattle.timetable.proofs.checking.lists_breach.Goals as goal

pub loop-k-init : goal.loop-k-init
loop-k-init c =
    let own = c.args.own in
    below_none (Right (named_first own.count c.args.lists.now) (lists_in own))

pub returns-then-not-same_list : goal.returns-then-not-same_list
returns-then-not-same_list c =
    let own = c.args.own in
    let here : c.loop-k.k < own.count = omega arith in
    let size : length own.at ≡ 22 = search rules in
    wrong_at _ _ c.loop-k.k (omega (arith, lists_size own.at own.count (omega (arith, size, c.requires)), here))
    (same_at c.args.lists.now own.at own.count c.loop-k.k here ∙ sym c.same_list.ensures ∙ c.if-not-same_list.true) c.loop-k.invariant

pub loop-k-preserved : goal.loop-k-preserved
loop-k-preserved c =
    let own = c.args.own in
    let here : c.loop-k.k < own.count = omega arith in
    let right = same_at c.args.lists.now own.at own.count c.loop-k.k here ∙ sym c.same_list.ensures ∙ c.if-not-same_list.false in
    below_more (Right (named_first own.count c.args.lists.now) (lists_in own)) c.loop-k.k c.loop-k.invariant right

pub returns : goal.returns
returns c =
    let own = c.args.own in
    let size : length own.at ≡ 22 = search rules in
    let all : own.count ≡ c.loop-k.k = omega arith in
    wrong_none _ _ (λ k l. c.loop-k.invariant k (omega (arith, l, all, lists_size own.at own.count (omega (arith, size, c.requires)))))
