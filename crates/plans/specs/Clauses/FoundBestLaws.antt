-- A search that ends with the best timetable and its delay, or with none where there is none, finds it.
use Rattle.std.specs.Prelude.{ℕ, ◌≡◌, List, Option, Some, None, refl}
use Rattle.std.proofs.Common.{ap, subst}
use Rattle.line.specs.declared.Line.{Line}
use Rattle.rules.specs.Statement.Rules.{Lawful}
use Rattle.rules.specs.Statement.Delay.{weighted_delay, Best}
use Rattle.plans.specs.declared.tally.Tally.{Tally}
use Rattle.plans.specs.declared.found.Best.{Best as FoundBest}
use Rattle.plans.specs.Clauses.FoundBest.{found_of, Finds}

module _ (l : Line) (best : List ℕ) (steps : ℕ) where
  pub finds_of : (delay : Option ℕ) → ((c : ℕ) → delay ≡ Some c → Best l best) → ((c : ℕ) → delay ≡ Some c → c ≡ weighted_delay l best) →
      (delay ≡ None → (m : List ℕ) → Lawful l m → ⊥) → Finds l (found_of (record { delay = delay; steps = steps }) best)
  finds_of None b d n = record { best = λ x e. absurd (cc); delay_is = λ x e. absurd (cc); none = λ _. n refl }
  finds_of (Some c) b d n =
      record {
        best = λ x e. subst (λ (m : List ℕ). Best l m) (let same : best ≡ x.minutes = cc in same) (b c refl);
        delay_is = λ x e. let same : record { minutes = best; delay = c } ≡ x = cc in
            subst (λ (x : FoundBest). x.delay ≡ weighted_delay l x.minutes) same (d c refl);
        none = λ e. absurd (cc);
      }

-- as the code makes it
pub found_some : (y : Tally) (best : List ℕ) (c : ℕ) → y.delay ≡ Some c → record { best = Some (record { minutes = best; delay = c }); steps = y.steps } ≡ found_of y best
found_some y best c e = rw e refl

pub found_none : (y : Tally) (best : List ℕ) → y.delay ≡ None → record { best = None; steps = y.steps } ≡ found_of y best
found_none y best e = rw e refl
