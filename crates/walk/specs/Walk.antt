-- The walk: a plan is taken up, and then its ways in order, depth first; the best timetable found so far goes along and cuts plans off
-- (document 01, "The search": "Each way out of a conflict is again a plan").
use Rattle.std.specs.Prelude.{cond, ◌&&◌, List, [], ◌∷◌, ℕ, zero, suc, ◌+◌, ◌*◌}
use Rattle.orders.specs.LeastMinutes.Least.{Least, minutes, none}
use Rattle.plans.specs.Theory.Problem.{Problem}
use Rattle.plans.specs.Theory.BestSoFar.{BestSoFar, nothing, found, improves}

-- what a plan comes to when it is taken up: it ends, it is the best so far, or it splits at a conflict of its minutes
pub data Look (Choice : Type 0) : Type 0 where
  ends : Look Choice
  solved : List ℕ → Look Choice
  splits : List ℕ → List Choice → Look Choice

-- the best so far after a part of the walk, and how many plans were taken up
pub record Walked : Type 0 where
  pub best : BestSoFar
  pub steps : ℕ

-- do some parts of the walk in order, each from the best that the one before left
unfoldable pub in_order : {A : Type 0} → (A → BestSoFar → Walked) → List A → BestSoFar → Walked
in_order go [] b = record { best = b; steps = 0 }
in_order go (x ∷ xs) b =
    let r : Walked = go x b in
    let t : Walked = in_order go xs r.best in
    record { best = t.best; steps = r.steps + t.steps }

module _ (P : Problem) where
  open P use {Choice, Plan, start, least, allowed, ways}

  unfoldable pub look_ways : List ℕ → List Choice → Look Choice
  look_ways m [] = solved m
  look_ways m (c ∷ cs) = splits m (c ∷ cs)

  unfoldable pub look_least : Least → BestSoFar → Look Choice
  look_least none b = ends
  look_least (minutes m) b = cond (allowed m && improves P m b) (look_ways m (ways m)) ends

  -- `s` has the least minutes of the plan before, from which on those of this plan are sought; they are the least of all (`walk_afresh` in `AfreshLaws`)
  unfoldable pub look : Plan → List ℕ → BestSoFar → Look Choice
  look cs s b = look_least (least cs s) b

  -- a plan after its look; `go` takes up a plan
  unfoldable pub follow : (Plan → List ℕ → BestSoFar → Walked) → Plan → BestSoFar → Look Choice → Walked
  follow go cs b ends = record { best = b; steps = 1 }
  follow go cs b (solved m) = record { best = found m; steps = 1 }
  follow go cs b (splits m ws) =
      let t : Walked = in_order (λ c. go (P.also c cs) m) ws b in
      record { best = t.best; steps = suc t.steps }

  -- plans at most `fuel` deep
  unfoldable pub take_up : ℕ → Plan → List ℕ → BestSoFar → Walked
  take_up zero cs s b = record { best = b; steps = 0 }
  take_up (suc fuel) cs s b = follow (λ ds m. take_up fuel ds m) cs b (look cs s b)

  -- the same with each plan's least minutes sought from the start on, and not from those of the plan before
  unfoldable pub take_up_afresh : ℕ → Plan → BestSoFar → Walked
  take_up_afresh zero cs b = record { best = b; steps = 0 }
  take_up_afresh (suc fuel) cs b = follow (λ ds m. take_up_afresh fuel ds) cs b (look cs start b)

-- fuel for every plan, since no slack is more than 2880 for each event
unfoldable pub plenty : Problem → ℕ
plenty P = suc (suc (2880 * P.events))

-- the walk from the empty plan
unfoldable pub walk : Problem → Walked
walk P = take_up P (plenty P) P.free P.start nothing
