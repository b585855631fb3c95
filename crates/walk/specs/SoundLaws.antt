-- The walk is right: it is a search of its plan, by the lowest conflict and with the ways in order.
use Rattle.std.specs.Prelude.{◌≡◌, Bool, true, false, ◌&&◌}
use Rattle.std.proofs.Math.Path.{refl}
use Rattle.std.proofs.Common.{sym, ◌∙◌, ⊎_elim, arith}
use Rattle.std.proofs.Math.Bool.{and-eq-true_iff}
use mathlib.Core.List.Memᴰ
use mathlib.Core.List.{List, [], ◌∷◌, cons≢nil, Memᴰ}
use Prim.Native.Nat.{ℕ, zero, suc, ◌+◌, ◌<◌}
use Rattle.orders.specs.LeastMinutes.NoLater.{slack}
use Rattle.orders.specs.LeastMinutes.NoLaterLaws.{slack_falls}
use Rattle.orders.specs.LeastMinutes.Least.{Fit, IsLeast}
use Rattle.plans.specs.Theory.Problem.{Problem, Laws}
use Rattle.plans.specs.Theory.BestSoFar.{BestSoFar, improves, improves_true, improves_false}
use Rattle.walk.specs.Walk.{Look, Walked, look, in_order, follow, take_up}
use Rattle.walk.specs.Look.{Seen, seen_none, seen_cut, seen_clear, seen_open, seen}
use Rattle.plans.specs.Theory.Search.{Under, NoneBetter, Searched, Tried, tried_none, tried_searched}
use Rattle.plans.specs.Theory.SearchLaws.{under_least, under_also, none_worse, none_late, searched_dead, searched_clear, searched_tried}

-- the fuel suffices for a plan: each split uses one up and lowers the slack
pub record Enough (P : Problem) (fuel : ℕ) (cs : P.Plan) (s : List ℕ) : Type 0 where
  pub some : 0 < fuel
  pub deep : (m : List ℕ) → IsLeast P.events (P.Keeps cs) s m → slack m + 1 < fuel

module _ (P : Problem) (L : Laws P) where
  open P use {Choice, Plan, events, Keeps, Lawful, least, allowed, ways}

  -- a plan that is cut off holds nothing better
  cut_right : (cs : Plan) (m : List ℕ) (b : BestSoFar) → Under P cs m → (t i : Bool) → allowed m ≡ t → improves P m b ≡ i → t && i ≡ false → NoneBetter P cs b
  cut_right cs m b u true i e f n = none_worse P L cs m b u (improves_false P m b (f ∙ n))
  cut_right cs m b u false i e f n = none_late P L cs m b u e

  -- the ways in order
  in_order_tried :
      (cs : Plan) (go : Choice → BestSoFar → Walked) (ws : List Choice) (b : BestSoFar) →
      ((w : Choice) → Memᴰ w ws → (b' : BestSoFar) → Searched P (P.also w cs) b' (go w b').best) → Tried P cs ws b (in_order go ws b).best
  unfolding in_order
  in_order_tried cs go [] b h = tried_none b
  in_order_tried cs go (w ∷ ws) b h =
      tried_searched w ws b (go w b).best _ (h w (Memᴰ.head refl) b) (in_order_tried cs go ws (go w b).best (λ v k. h v (Memᴰ.tail k)))

  -- a plan after its look; `h` is what is known of its ways
  follow_sound :
      (go : Plan → List ℕ → BestSoFar → Walked) (cs : Plan) (s : List ℕ) (b : BestSoFar) → Fit events s → Under P cs s →
      ((m : List ℕ) → IsLeast events (Keeps cs) s m → (w : Choice) → Memᴰ w (ways m) → (b' : BestSoFar) →
      Searched P (P.also w cs) b' (go (P.also w cs) m b').best) →
      (x : Look Choice) → Seen P cs s b x → Searched P cs b (follow P go cs b x).best
  unfolding follow
  follow_sound go cs s b z u h _ (seen_none e) =
      searched_dead P cs b (unfold NoneBetter in λ m l k i. L.least_none cs s z e m (L.lawful_fit m l) k (u m l k))
  follow_sound go cs s b z u h _ (seen_cut m e t) =
      searched_dead P cs b (cut_right cs m b (under_least P L cs s m u (L.least_is cs s m z e)) (allowed m) (improves P m b) refl refl t)
  follow_sound go cs s b z u h _ (seen_clear m e t q) =
      let i = L.least_is cs s m z e in
      let (timely, better) = (and-eq-true_iff (allowed m) (improves P m b)).0 t in
      searched_clear P L cs m b (under_least P L cs s m u i) (L.clear cs m i.fit i.keeps timely q) (improves_true P m b better)
  follow_sound go cs s b z u h _ (seen_open m w ws e q) =
      let i = L.least_is cs s m z e in
      searched_tried P L cs m (ways m) (w ∷ ws) (L.ways_split cs m (λ c. cons≢nil (sym q ∙ c))) (λ c k. rw q at k) b _
      (in_order_tried cs (λ c. go (P.also c cs) m) (w ∷ ws) b (λ v k. h m i v (rw q k)))

  -- a split lowers the slack, so that one less fuel suffices for each way
  enough_way :
      (fuel : ℕ) (cs : Plan) (s m : List ℕ) (w : Choice) → Enough P (suc fuel) cs s → IsLeast events (Keeps cs) s m → Memᴰ w (ways m) →
      Enough P fuel (P.also w cs) m
  enough_way fuel cs s m w n i k =
      record {
        some = omega (arith, n.deep m i);
        deep = λ m₁ i₁. ⊎_elim
            (λ (p : m ≡ m₁). absurd ((L.ways_split cs m (λ e. Memᴰ.not-nil (rw e at k))).progress w k (rw p i₁.keeps)))
            (λ (p : slack m₁ < slack m). omega (arith, n.deep m i))
            (slack_falls m m₁ (cc) i₁.above i₁.fit.within);
      }

  -- the walk from a plan, by induction on the fuel
  pub take_up_sound :
      (fuel : ℕ) (cs : Plan) (s : List ℕ) (b : BestSoFar) → Enough P fuel cs s → Fit events s → Under P cs s → Searched P cs b (take_up P fuel cs s b).best
  unfolding take_up
  take_up_sound zero cs s b n z u = absurd (omega arith)
  take_up_sound (suc fuel) cs s b n z u =
      follow_sound (λ ds m. take_up P fuel ds m) cs s b z u
      (λ m i w k b'.
      take_up_sound fuel (P.also w cs) m b' (enough_way fuel cs s m w n i k) i.fit (under_also P L w cs m (under_least P L cs s m u i)))
      (look P cs s b) (seen P cs s b)
