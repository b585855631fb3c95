-- What a look at a plan has found out.
use Rattle.std.specs.Prelude.{◌≡◌, Bool, true, false, cond, ◌&&◌, ℕ}
use Rattle.std.proofs.Math.Path.{refl}
use mathlib.Core.List.{List, [], ◌∷◌}
use Rattle.orders.specs.LeastMinutes.Least.{Least, minutes, none}
use Rattle.plans.specs.Theory.Problem.{Problem}
use Rattle.plans.specs.Theory.BestSoFar.{BestSoFar, improves}
use Rattle.walk.specs.Walk.{Look, ends, solved, splits, look, look_least, look_ways}

module _ (P : Problem) where
  open P use {Choice, Plan, least, allowed, ways}

  -- what a look at the plan `cs` found out, by its result
  pub data Seen (cs : Plan) (s : List ℕ) (b : BestSoFar) : Look Choice → Type 0 where
    seen_none : least cs s ≡ none → Seen cs s b ends
    seen_cut : (m : List ℕ) → least cs s ≡ minutes m → allowed m && improves P m b ≡ false → Seen cs s b ends
    seen_clear : (m : List ℕ) → least cs s ≡ minutes m → allowed m && improves P m b ≡ true → ways m ≡ [] → Seen cs s b (solved m)
    seen_open : (m : List ℕ) (w : Choice) (ws : List Choice) → least cs s ≡ minutes m → ways m ≡ w ∷ ws → Seen cs s b (splits m (w ∷ ws))

  module _ (cs : Plan) (s : List ℕ) (b : BestSoFar) where
    seen_ways : (m : List ℕ) → least cs s ≡ minutes m → allowed m && improves P m b ≡ true → (ws : List Choice) → ways m ≡ ws → Seen cs s b (look_ways P m ws)
    unfolding look_ways
    seen_ways m e t [] q = seen_clear m e t q
    seen_ways m e t (w ∷ ws) q = seen_open m w ws e q

    seen_test : (m : List ℕ) → least cs s ≡ minutes m → (c : Bool) → allowed m && improves P m b ≡ c → Seen cs s b (cond c (look_ways P m (ways m)) ends)
    seen_test m e true t = seen_ways m e t (ways m) refl
    seen_test m e false t = seen_cut m e t

    seen_least : (x : Least) → least cs s ≡ x → Seen cs s b (look_least P x b)
    unfolding look_least
    seen_least none e = seen_none e
    seen_least (minutes m) e = seen_test m e (allowed m && improves P m b) refl

    pub seen : Seen cs s b (look P cs s b)
    unfolding look
    seen = seen_least (least cs s) refl
