-- The least minutes of each plan that the walk takes up are the least outright: of all minutes, from the start on, that keep the plan, and not only of those at
-- or above the minutes of the plan before. So the walk is the one that seeks each plan's minutes from the start on.
use Prim.Native.Nat.{ℕ, zero, suc}
use Rattle.std.specs.Prelude.{◌≡◌, List, [], ◌∷◌}
use Rattle.std.proofs.Math.Path.{refl, ap}
use Rattle.std.proofs.Common.{◌∙◌}
use Rattle.orders.specs.LeastMinutes.Least.{Least, minutes}
use Rattle.plans.specs.Theory.Problem.{Problem, Laws}
use Rattle.plans.specs.Theory.BestSoFar.{BestSoFar, nothing}
use Rattle.walk.specs.Walk.{Look, Walked, in_order, look_least, look, follow, take_up, take_up_afresh, plenty, walk}
use Rattle.walk.specs.Look.{Seen, seen_none, seen_cut, seen_clear, seen_open, seen}
use Rattle.walk.specs.ProblemLaws.{least-same}

-- parts that are the same, done in order
in_order-same : {A : Type 0} (go go' : A → BestSoFar → Walked) → ((x : A) (b : BestSoFar) → go x b ≡ go' x b) → (xs : List A) (b : BestSoFar) →
    in_order go xs b ≡ in_order go' xs b
unfolding in_order
in_order-same go go' h [] b = refl
in_order-same go go' h (x ∷ xs) b = rw (h x b, in_order-same go go' h xs (go' x b).best) refl

module _ (P : Problem) (L : Laws P) where
  -- a plan after its look; `h` is what is known of its ways
  follow_afresh :
      (go : P.Plan → List ℕ → BestSoFar → Walked) (go' : P.Plan → BestSoFar → Walked) (cs : P.Plan) (b : BestSoFar) →
      ((m : List ℕ) → P.least cs P.start ≡ minutes m → (c : P.Choice) (b' : BestSoFar) → go (P.also c cs) m b' ≡ go' (P.also c cs) b') →
      (x : Look P.Choice) → Seen P cs P.start b x → follow P go cs b x ≡ follow P (λ ds _. go' ds) cs b x
  unfolding follow
  follow_afresh go go' cs b h _ (seen_none e) = refl
  follow_afresh go go' cs b h _ (seen_cut m e t) = refl
  follow_afresh go go' cs b h _ (seen_clear m e t q) = refl
  follow_afresh go go' cs b h _ (seen_open m w ws e q) =
      ap (λ (t : Walked). record { best = t.best; steps = suc t.steps })
      (in_order-same (λ c. go (P.also c cs) m) (λ c. go' (P.also c cs)) (λ c b'. h m e c b') (w ∷ ws) b)

  -- where the least minutes of the plan are those from the start on, so are those of all that come after it
  pub taken_afresh : (fuel : ℕ) (cs : P.Plan) (s : List ℕ) (b : BestSoFar) → P.least cs s ≡ P.least cs P.start →
      take_up P fuel cs s b ≡ take_up_afresh P fuel cs b
  unfolding take_up take_up_afresh
  taken_afresh zero cs s b e = refl
  taken_afresh (suc fuel) cs s b e =
      ap (follow P (λ ds m. take_up P fuel ds m) cs b) (same-look e)
      ∙ follow_afresh (λ ds m. take_up P fuel ds m) (λ ds. take_up_afresh P fuel ds) cs b
      (λ m q c b'. taken_afresh fuel (P.also c cs) m b' (least-same P L c cs m q))
      (look P cs P.start b) (seen P cs P.start b)
    where
      same-look : P.least cs s ≡ P.least cs P.start → look P cs s b ≡ look P cs P.start b
      same-look e = unfold look in ap (λ (x : Least). look_least P x b) e

  pub walk_afresh : walk P ≡ take_up_afresh P (plenty P) P.free nothing
  unfolding walk
  walk_afresh = taken_afresh (plenty P) P.free P.start nothing refl
