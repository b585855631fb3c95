-- `rules::rules::breach_by` meets its contract: each `?` hands back the first breach of the checks made so far, each closure is the test of its rule, and the
-- place of a conflict is a segment or station of the line (`place_fits`). Assumes nothing.
use Rattle.std.proofs.Common.{◌<◌, ap, sym, ◌∙◌, Err, arith, rules}
use Rattle.std.proofs.lemmas.Result.{err_from_is_err_and}
use Rattle.rules.specs.Check.Tests.{keeps_by}
use Rattle.rules.specs.Check.Breaches.{conflict_breach, breach_of}
use Rattle.rules.specs.Conflict.ConflictsLaws.{conflict_told}
use Rattle.rules.specs.Check.BreachesLaws.{breach_first, breach_later, taken_routed, taken-few, breach_told, place_fits}
use Rattle.rules.proofs.rules.breach_by.Goals as goal

pub returns-in_err-breach_among : goal.returns-in_err-breach_among
unfolding breach_of keeps_by
returns-in_err-breach_among c =
    let l = c.args.line in
    let m = c.args.m.now in
    let fs = c.args.floors.now in
    let w = c.requires.0 in
    let h = c.requires.1 in
    let n = c.from.ensures in
    let e = err_from_is_err_and c.from_residual.result c.from_residual.ensures.1 in
    e.1 ∙ ap Err e.2 ∙ sym c.in_err-breach_among.was ∙ breach_first _ (breach_told l w (omega arith) n 10 m fs h (c.breach_among.ensures _ (λ i b r t. search rules))) c.in_err-breach_among.was

pub breach_among-requires-2 : goal.breach_among-requires-2
breach_among-requires-2 c = λ i b.
    let path = taken_routed c.args.line c.requires.0 (omega arith) c.from.ensures i b in
    let few : i < 12 = omega (arith, b, taken-few c.args.line c.requires.0 (omega arith) c.from.ensures) in
    search rules

pub returns-in_err-breach_among-2 : goal.returns-in_err-breach_among-2
unfolding breach_of keeps_by
returns-in_err-breach_among-2 c =
    let l = c.args.line in
    let m = c.args.m.now in
    let fs = c.args.floors.now in
    let w = c.requires.0 in
    let h = c.requires.1 in
    let n = c.from.ensures in
    let e = err_from_is_err_and c.from_residual-in_err-breach_among-2.result c.from_residual-in_err-breach_among-2.ensures.1 in
    breach_later (breach_told l w (omega arith) n 10 m fs h (c.breach_among.ensures _ (λ i b r t. search rules))) c.in_ok-breach_among.was (
    e.1 ∙ ap Err e.2 ∙ sym c.in_err-breach_among-2.was ∙ breach_first _ (breach_told l w (omega arith) n 11 m fs h (c.breach_among-2.ensures _ (λ i b r t. search rules))) c.in_err-breach_among-2.was)

pub breach_among-requires-3 : goal.breach_among-requires-3
breach_among-requires-3 c = λ i b.
    let path = taken_routed c.args.line c.requires.0 (omega arith) c.from.ensures i b in
    let few : i < 12 = omega (arith, b, taken-few c.args.line c.requires.0 (omega arith) c.from.ensures) in
    search rules

pub returns-in_err-breach_among-3 : goal.returns-in_err-breach_among-3
unfolding breach_of keeps_by
returns-in_err-breach_among-3 c =
    let l = c.args.line in
    let m = c.args.m.now in
    let fs = c.args.floors.now in
    let w = c.requires.0 in
    let h = c.requires.1 in
    let n = c.from.ensures in
    let e = err_from_is_err_and c.from_residual-in_err-breach_among-3.result c.from_residual-in_err-breach_among-3.ensures.1 in
    breach_later (breach_told l w (omega arith) n 10 m fs h (c.breach_among.ensures _ (λ i b r t. search rules))) c.in_ok-breach_among.was (
    breach_later (breach_told l w (omega arith) n 11 m fs h (c.breach_among-2.ensures _ (λ i b r t. search rules))) c.in_ok-breach_among-2.was (
    e.1 ∙ ap Err e.2 ∙ sym c.in_err-breach_among-3.was ∙ breach_first _ (breach_told l w (omega arith) n 12 m fs h (c.breach_among-3.ensures _ (λ i b r t. search rules))) c.in_err-breach_among-3.was))

pub breach_among-requires-4 : goal.breach_among-requires-4
breach_among-requires-4 c = λ i b.
    let path = taken_routed c.args.line c.requires.0 (omega arith) c.from.ensures i b in
    let few : i < 12 = omega (arith, b, taken-few c.args.line c.requires.0 (omega arith) c.from.ensures) in
    search rules

pub returns-in_err-breach_among-4 : goal.returns-in_err-breach_among-4
unfolding breach_of keeps_by
returns-in_err-breach_among-4 c =
    let l = c.args.line in
    let m = c.args.m.now in
    let fs = c.args.floors.now in
    let w = c.requires.0 in
    let h = c.requires.1 in
    let n = c.from.ensures in
    let e = err_from_is_err_and c.from_residual-in_err-breach_among-4.result c.from_residual-in_err-breach_among-4.ensures.1 in
    breach_later (breach_told l w (omega arith) n 10 m fs h (c.breach_among.ensures _ (λ i b r t. search rules))) c.in_ok-breach_among.was (
    breach_later (breach_told l w (omega arith) n 11 m fs h (c.breach_among-2.ensures _ (λ i b r t. search rules))) c.in_ok-breach_among-2.was (
    breach_later (breach_told l w (omega arith) n 12 m fs h (c.breach_among-3.ensures _ (λ i b r t. search rules))) c.in_ok-breach_among-3.was (
    e.1 ∙ ap Err e.2 ∙ sym c.in_err-breach_among-4.was ∙ breach_first _ (breach_told l w (omega arith) n 18 m fs h (c.breach_among-4.ensures _ (λ i b r t. search rules))) c.in_err-breach_among-4.was)))

pub breach_among-requires-5 : goal.breach_among-requires-5
breach_among-requires-5 c = λ i b.
    let path = taken_routed c.args.line c.requires.0 (omega arith) c.from.ensures i b in
    let few : i < 12 = omega (arith, b, taken-few c.args.line c.requires.0 (omega arith) c.from.ensures) in
    search rules

pub returns-in_err-breach_among-5 : goal.returns-in_err-breach_among-5
unfolding breach_of keeps_by
returns-in_err-breach_among-5 c =
    let l = c.args.line in
    let m = c.args.m.now in
    let fs = c.args.floors.now in
    let w = c.requires.0 in
    let h = c.requires.1 in
    let n = c.from.ensures in
    let e = err_from_is_err_and c.from_residual-in_err-breach_among-5.result c.from_residual-in_err-breach_among-5.ensures.1 in
    breach_later (breach_told l w (omega arith) n 10 m fs h (c.breach_among.ensures _ (λ i b r t. search rules))) c.in_ok-breach_among.was (
    breach_later (breach_told l w (omega arith) n 11 m fs h (c.breach_among-2.ensures _ (λ i b r t. search rules))) c.in_ok-breach_among-2.was (
    breach_later (breach_told l w (omega arith) n 12 m fs h (c.breach_among-3.ensures _ (λ i b r t. search rules))) c.in_ok-breach_among-3.was (
    breach_later (breach_told l w (omega arith) n 18 m fs h (c.breach_among-4.ensures _ (λ i b r t. search rules))) c.in_ok-breach_among-4.was (
    e.1 ∙ ap Err e.2 ∙ sym c.in_err-breach_among-5.was ∙ breach_first _ (breach_told l w (omega arith) n 13 m fs h (c.breach_among-5.ensures _ (λ i b r t. search rules))) c.in_err-breach_among-5.was))))

pub conflict_breach-requires : goal.conflict_breach-requires
conflict_breach-requires c =
    let x = conflict_told c.args.line c.args.m.now _ _ _ c.layout_of.ensures c.directions_of.ensures c.lowest_conflict.ensures in
    rw x (place_fits c.args.line c.args.m.now c.requires.0)

pub returns : goal.returns
unfolding breach_of keeps_by
returns c =
    let l = c.args.line in
    let m = c.args.m.now in
    let fs = c.args.floors.now in
    let w = c.requires.0 in
    let h = c.requires.1 in
    let n = c.from.ensures in
    breach_later (breach_told l w (omega arith) n 10 m fs h (c.breach_among.ensures _ (λ i b r t. search rules))) c.in_ok-breach_among.was (
    breach_later (breach_told l w (omega arith) n 11 m fs h (c.breach_among-2.ensures _ (λ i b r t. search rules))) c.in_ok-breach_among-2.was (
    breach_later (breach_told l w (omega arith) n 12 m fs h (c.breach_among-3.ensures _ (λ i b r t. search rules))) c.in_ok-breach_among-3.was (
    breach_later (breach_told l w (omega arith) n 18 m fs h (c.breach_among-4.ensures _ (λ i b r t. search rules))) c.in_ok-breach_among-4.was (
    breach_later (breach_told l w (omega arith) n 13 m fs h (c.breach_among-5.ensures _ (λ i b r t. search rules))) c.in_ok-breach_among-5.was (
    c.conflict_breach.ensures ∙ ap conflict_breach (conflict_told l m _ _ _ c.layout_of.ensures c.directions_of.ensures c.lowest_conflict.ensures))))))
