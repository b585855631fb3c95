-- `rules::delay::listed_of` meets its contract: it finds the first entry of the train (`listed_first`), or there is none. Assumes nothing.
use Rattle.std.proofs.Common.{◌+◌, ◌≡◌, ◌≢◌, None, rules, tests}
use Rattle.std.proofs.lemmas.Iterator.{first_from_find, YieldsList-from_slice}
use Rattle.line.specs.declared.Listed.{Listed}
use Rattle.rules.proofs.Check.DuesLaws.{listed_first, listed_nowhere}
use Rattle.rules.proofs.delay.listed_of.Goals as goal

pub returns-in_err-entry : goal.returns-in_err-entry
returns-in_err-entry c =
    let found = first_from_find _ _ _ (λ (x : Listed). x.train ≡ c.args.i + 1) (λ x. x.train ≢ c.args.i + 1) c.find.ensures.ran
    (YieldsList-from_slice c.args.listed.now c.iter.ensures.rest) (λ x q k. search (rules, tests)) (λ x q k. search (rules, tests)) in
    let none : c.find.result ≡ None = c.in_err-entry.was in
    λ given. rw c.from_residual.ensures (listed_nowhere c.args.i given c.args.listed.now (rw none at found))

pub returns : goal.returns
returns c =
    let found = first_from_find _ _ _ (λ (x : Listed). x.train ≡ c.args.i + 1) (λ x. x.train ≢ c.args.i + 1) c.find.ensures.ran
    (YieldsList-from_slice c.args.listed.now c.iter.ensures.rest) (λ x q k. search (rules, tests)) (λ x q k. search (rules, tests)) in
    let here = rw c.in_ok-entry.was at found in
    λ given. listed_first c.args.i given c.args.listed.now here.1 _ here.4 here.2 here.3 here.0
