-- `rules::stations::stands` meets its contract: the closure's test is that of a stay. Assumes nothing.
use Rattle.std.proofs.Common.{◌≡◌, ℕ, Bool, false, ◌&&◌, Option, Some, None, MatchOption, nat_le, rules}
use Rattle.rules.specs.declared.stations.Stay.{Stay}
use Rattle.rules.specs.Conflict.Conflicts.{stands_in}
use Rattle.rules.proofs.stations.stands.Goals as goal

-- P is what the closure tells of a stay
tested : {P : Stay → Type 0} (o : Option Stay) (t : ℕ) (r : Bool) → ((x : Stay) → P x → r ≡ (nat_le x.came t && nat_le t x.leaves)) →
    MatchOption o (r ≡ false) P → r ≡ stands_in o t
unfolding stands_in
tested None t r f h = h
tested (Some x) t r f h = f x h

pub returns : goal.returns
returns c = tested _ _ _ (λ x h. search rules) c.is_some_and.ensures
