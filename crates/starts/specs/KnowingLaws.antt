-- What is known of a line is carried on to the next: where there was no timetable there is none, and minutes of the least delay that are lawful still have the
-- least delay still.
use Rattle.std.specs.Prelude.{ℕ, ◌<◌, ◌≡◌, refl, false, List, Option, Some, None, Result, Ok, Err, is_err, length}
use Rattle.std.proofs.Common.{subst, true≢false, arith}
use Rattle.std.proofs.Math.Path.{subst⁻¹}
use Rattle.text.specs.declared.Refusal.{Refusal}
use Rattle.line.specs.declared.Line.{Line}
use Rattle.line.specs.Within.{Within, Arrays}
use Rattle.line.specs.Starting.{starting}
use Rattle.line.specs.StartingLaws.{starting_within, starting_arrays}
use Rattle.rules.specs.Statement.Rules.{Lawful}
use Rattle.rules.specs.Statement.Delay.{weighted_delay, LeastDelay}
use Rattle.rules.specs.StatementLaws.BestLaws.{best_least}
use Rattle.rules.proofs.StatementLaws.StartingLaws.{lawful_former, none_later, least-later}
use Rattle.rules.proofs.Check.DaysLaws.{clear_lawful}
use Rattle.plans.specs.declared.found.Best.{Best}
use Rattle.solver.specs.Search.Finding.{FindsBest}
use Rattle.starts.specs.Knowing.{Knows, Follows, Carries}

-- an answer that is no refusal
pub fine_of : (r : Result (Unit {0}) Refusal) → is_err r ≡ false → r ≡ Ok tt
fine_of (Ok x) e = refl
fine_of (Err x) e = absurd (true≢false e)

-- what solving finds
pub found_knows : (l : Line) → Within l → Arrays l → (r : Option Best) → FindsBest l r → Knows l r
found_knows l w a r h = record { least = λ x e. best_least l w a x.minutes (h.best x e); delay_is = h.delay_is; none = h.none }

module _ (before next : Line) (i : ℕ) (f : Follows before next i) where
  abbrev altered : Line
  altered = starting i f.minute before

  pub next_within : Within next
  next_within = subst⁻¹ Within f.is (starting_within f.minute f.day before i f.limits)

  pub next_arrays : Arrays next
  next_arrays = subst⁻¹ Arrays f.is (starting_arrays f.minute f.day before i f.arrays)

  pub next_here : i < next.traffic.train_count
  next_here = subst⁻¹ (λ (l : Line). i < l.traffic.train_count) f.is f.here

  pub none_knows : Knows before None → Knows next None
  none_knows k =
      record {
        least = λ x e. absurd (cc);
        delay_is = λ x e. absurd (cc);
        none = λ e. subst⁻¹ (λ (l : Line). (m : List ℕ) → Lawful l m → ⊥) f.is
            (none_later before i f.minute f.limits f.arrays f.here f.rises f.day (k.none e));
      }

  module _ (known : Best) (k : Knows before (Some known)) (m : List ℕ) (c : Carries before next known.delay m) where
    next_lawful : Lawful altered m
    next_lawful = subst (λ (l : Line). Lawful l m) f.is (clear_lawful next next_within next_arrays m c.clear)

    inside : i < length before.traffic.trains
    inside = omega (arith, f.here, f.limits.trains.1, f.arrays.trains)

    before_least : LeastDelay before m
    before_least =
        record {
          lawful = lawful_former before i f.minute inside f.rises m next_lawful;
          least = λ m' h. omega (arith, (k.least known refl).least m' h, k.delay_is known refl, c.delay_is);
        }

    pub carried_knows : (delay : ℕ) → delay ≡ weighted_delay next m → Knows next (Some (record { minutes = m; delay = delay }))
    carried_knows delay is =
        record {
          least = λ x e.
              let same : record { minutes = m; delay = delay } ≡ x = cc in
              subst (λ (y : Best). LeastDelay next y.minutes) same
              (subst⁻¹ (λ (l : Line). LeastDelay l m) f.is
              (least-later before i f.minute f.limits f.arrays f.here f.rises f.day m before_least next_lawful));
          delay_is = λ x e.
              let same : record { minutes = m; delay = delay } ≡ x = cc in subst (λ (y : Best). y.delay ≡ weighted_delay next y.minutes) same is;
          none = λ e. absurd (cc);
        }
