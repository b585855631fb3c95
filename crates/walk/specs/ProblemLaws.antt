-- Of a problem with its laws: what is least is what `least` gives, so that a function which ensures the one has the result of the other. And what `least` gives
-- of a plan with a choice more, at or above the least minutes of the plan, is the least of all from the start on.
use Rattle.std.specs.Prelude.{ℕ, ◌≡◌, refl, List}
use Rattle.std.proofs.Common.{sym, ap}
use Rattle.orders.specs.LeastMinutes.Least.{Least, minutes, none, Fit, IsLeast, NoneKeeps}
use Rattle.orders.specs.LeastMinutes.LeastLaws.{least_one, least_afresh, none_afresh}
use Rattle.plans.specs.Theory.Problem.{Problem, Laws}

module _ (P : Problem) (L : Laws P) (cs : P.Plan) (s : List ℕ) (z : Fit P.events s) where
  pub least_found : (m : List ℕ) → IsLeast P.events (P.Keeps cs) s m → P.least cs s ≡ minutes m
  least_found m h = go (P.least cs s) refl
    where
      go : (x : Least) → P.least cs s ≡ x → x ≡ minutes m
      go (minutes m') e = ap minutes (least_one P.events (P.Keeps cs) s m' m (L.least_is cs s m' z e) h)
      go none e = absurd (L.least_none cs s z e m h.fit h.keeps h.above)

  pub none_found : NoneKeeps P.events (P.Keeps cs) s → P.least cs s ≡ none
  none_found h = go (P.least cs s) refl
    where
      go : (x : Least) → P.least cs s ≡ x → x ≡ none
      go (minutes m) e = let i = L.least_is cs s m z e in absurd (h m i.fit i.keeps i.above)
      go none e = refl

-- the least minutes of a plan with a choice more, from those of the plan or from the start
pub least-same : (P : Problem) → Laws P → (c : P.Choice) (cs : P.Plan) (m : List ℕ) → P.least cs P.start ≡ minutes m →
    P.least (P.also c cs) m ≡ P.least (P.also c cs) P.start
least-same P L c cs m e = go (P.least (P.also c cs) m) refl
  where
    plan : IsLeast P.events (P.Keeps cs) P.start m
    plan = L.least_is cs P.start m L.start_fit e

    go : (x : Least) → P.least (P.also c cs) m ≡ x → x ≡ P.least (P.also c cs) P.start
    go (minutes n) q =
        sym (least_found P L (P.also c cs) P.start L.start_fit n (
        least_afresh P.events (P.Keeps cs) (P.Keeps (P.also c cs)) (L.keeps_rest c cs) P.start m plan n (L.least_is (P.also c cs) m n plan.fit q)))
    go none q =
        sym (none_found P L (P.also c cs) P.start L.start_fit (
        none_afresh P.events (P.Keeps cs) (P.Keeps (P.also c cs)) (L.keeps_rest c cs) P.start m plan (L.least_none (P.also c cs) m plan.fit q)))
