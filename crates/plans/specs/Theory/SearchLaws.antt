-- Laws of searching: how a search of a plan ends at once, how it is made of searches of its ways, in any order, and what a search of everything has found.
use Rattle.std.specs.Prelude.{◌≡◌, refl, ◌⊎◌, Bool, true, false, ℕ, zero, suc}
use Rattle.std.proofs.Common.{sym, ◌∙◌, inl}
use Rattle.std.proofs.Math.Logic.{inr, ⊎_elim}
use Rattle.std.proofs.Math.Bool.{true≢false}
use mathlib.Core.List.Memᴰ
use mathlib.Core.List.{List, Memᴰ}
use Rattle.orders.specs.LeastMinutes.NoLater.{◌⊑◌}
use Rattle.orders.specs.LeastMinutes.Least.{IsLeast}
use Rattle.plans.specs.Theory.Ranking.{ahead}
use Rattle.plans.specs.Theory.RankingLaws.{ahead-not-later, later-ahead, ahead_trans, ahead_true, ahead_false, ahead_total}
use Rattle.plans.specs.Theory.Problem.{Problem, Splits, Laws, Better, rank}
use Rattle.plans.specs.Theory.BestSoFar.{BestSoFar, nothing, found, Improves}
use Rattle.plans.specs.Theory.Search.{Fine, Onward, Under, NoneBetter, Searched, Narrows, Tried, tried_none, tried_dead, tried_searched, SearchSays, ToldApart}

-- ---- the best so far goes on

module _ (P : Problem) where
  pub improves_trans : (m m₁ : List ℕ) (b : BestSoFar) → Better P m m₁ → Improves P m₁ b → Improves P m b
  improves_trans m m₁ nothing h t = tt
  improves_trans m m₁ (found m₀) h t = ahead_trans (rank P m) (rank P m₁) (rank P m₀) h t

  pub onward_fine : (b r : BestSoFar) → Onward P b r → Fine P b → Fine P r
  onward_fine b r (inl e) f = rw e f
  onward_fine b nothing (inr g) f = absurd g
  onward_fine b (found m) (inr g) f = g.0

  -- what is better than the new is better than the old
  pub onward_improves : (m : List ℕ) (b r : BestSoFar) → Onward P b r → Improves P m r → Improves P m b
  onward_improves m b r (inl e) t = rw e at t
  onward_improves m b nothing (inr g) t = absurd g
  onward_improves m b (found n) (inr g) t = improves_trans m n b t g.1

  pub onward_then : (b b₁ r : BestSoFar) → Onward P b b₁ → Onward P b₁ r → Onward P b r
  onward_then b b₁ r o (inl e) = rw e o
  onward_then b b₁ nothing o (inr g) = absurd g
  onward_then b b₁ (found m) o (inr g) = inr (g.0, onward_improves m b b₁ o g.1)

-- ---- nothing better

module _ (P : Problem) (cs : P.Plan) where
  -- it stays so as the best so far goes on
  pub none_onward : (b r : BestSoFar) → Onward P b r → NoneBetter P cs b → NoneBetter P cs r
  unfolding NoneBetter
  none_onward b r o h m l k i = h m l k (onward_improves P m b r o i)

  -- so the plan is searched
  pub searched_dead : (b : BestSoFar) → NoneBetter P cs b → Searched P cs b b
  searched_dead b h = record { onward = inl refl; none_better = h }

module _ (P : Problem) (L : Laws P) where
  open P use {Choice, Plan, events, Keeps, Lawful, also, free, allowed}

  rank_up : (m m' : List ℕ) → m ⊑ m' → rank P m ⊑ rank P m'
  rank_up m m' h zero = L.cost_up m m' h
  rank_up m m' h (suc e) = L.key_up m m' h e

  improves_up : (m m' : List ℕ) (b : BestSoFar) → m ⊑ m' → Improves P m' b → Improves P m b
  improves_up m m' nothing h t = tt
  improves_up m m' (found m₀) h t = later-ahead (rank P m) (rank P m') (rank P m₀) (rank_up m m' h) t

  -- ---- the minutes of a plan

  -- its least minutes lie below every lawful timetable that keeps the plan
  pub under_least : (cs : Plan) (s m : List ℕ) → Under P cs s → IsLeast events (Keeps cs) s m → Under P cs m
  under_least cs s m u i m' l k = i.first m' (L.lawful_fit m' l) k (u m' l k)

  pub under_also : (c : Choice) (cs : Plan) (m : List ℕ) → Under P cs m → Under P (also c cs) m
  under_also c cs m u m' l k = u m' l (L.keeps_rest c cs m' k)

  pub under_start : Under P free P.start
  under_start m' l k = L.start_low m' l

  -- ---- a search that ends at once

  module _ (cs : Plan) (m : List ℕ) (b : BestSoFar) (u : Under P cs m) where
    -- the minutes are not better than the best so far
    pub none_worse : (Improves P m b → ⊥) → NoneBetter P cs b
    unfolding NoneBetter
    none_worse n m' l k i = n (improves_up m m' b (u m' l k) i)

    pub none_late : allowed m ≡ false → NoneBetter P cs b
    unfolding NoneBetter
    none_late n m' l k i = true≢false (sym (L.allowed_down m m' (u m' l k) (L.lawful_allowed m' l)) ∙ n)

    pub searched_worse : (Improves P m b → ⊥) → Searched P cs b b
    searched_worse n = searched_dead P cs b (none_worse n)

    pub searched_late : allowed m ≡ false → Searched P cs b b
    searched_late n = searched_dead P cs b (none_late n)

    -- the minutes are lawful, and better
    pub searched_clear : Lawful m → Improves P m b → Searched P cs b (found m)
    unfolding NoneBetter
    searched_clear l i = record {
      onward = inr (l, i);
      none_better = λ m' l' k. ahead-not-later (rank P m) (rank P m') (rank_up m m' (u m' l' k));
    }

  -- ---- a search by the ways out of a conflict

  module _ (cs : Plan) (m : List ℕ) (ws : List Choice) (s : Splits P cs m ws) where
    -- a plan holds nothing better where none of the ways does
    pub none_split : (b : BestSoFar) → ((c : Choice) → Memᴰ c ws → NoneBetter P (also c cs) b) → NoneBetter P cs b
    unfolding NoneBetter
    none_split b h m' l k i = let (c, there, k') = s.complete m' l k in h c there m' l k' i

    -- whatever was done on the way, in whatever order
    pub searched_split : (b r : BestSoFar) → Onward P b r → ((c : Choice) → Memᴰ c ws → NoneBetter P (also c cs) r) → Searched P cs b r
    searched_split b r o h = record { onward = o; none_better = none_split r h }

    -- a way that alone is left is forced
    pub narrows_forced : (b : BestSoFar) (w : Choice) → ((c : Choice) → Memᴰ c ws → (c ≡ w) ⊎ NoneBetter P (also c cs) b) → Narrows P cs (also w cs) b
    unfolding Narrows NoneBetter
    narrows_forced b w h m' l k i =
        let (c, there, k') = s.complete m' l k in
        ⊎_elim (λ (e : c ≡ w). rw e at k') (λ n. absurd (n m' l k' i)) (h c there)

  -- ---- a search of what is left of a plan

  pub narrows_onward : (cs ds : Plan) (b r : BestSoFar) → Onward P b r → Narrows P cs ds b → Narrows P cs ds r
  unfolding Narrows
  narrows_onward cs ds b r o f m' l k i = f m' l k (onward_improves P m' b r o i)

  pub narrows_all : (cs : Plan) (b : BestSoFar) → Narrows P cs cs b
  unfolding Narrows
  narrows_all cs b m' l k i = k

  pub narrows_rest : (c : Choice) (cs : Plan) (b : BestSoFar) → Narrows P (also c cs) cs b
  unfolding Narrows
  narrows_rest c cs b m' l k i = L.keeps_rest c cs m' k

  pub narrows_then : (cs ds es : Plan) (b : BestSoFar) → Narrows P cs ds b → Narrows P ds es b → Narrows P cs es b
  unfolding Narrows
  narrows_then cs ds es b f g m' l k i = g m' l (f m' l k i) i

  pub none_narrows : (cs ds : Plan) (b : BestSoFar) → Narrows P cs ds b → NoneBetter P ds b → NoneBetter P cs b
  unfolding Narrows NoneBetter
  none_narrows cs ds b f h m' l k i = h m' l (f m' l k i) i

  pub searched_narrows : (cs ds : Plan) (b r : BestSoFar) → Narrows P cs ds b → Searched P ds b r → Searched P cs b r
  searched_narrows cs ds b r f h =
      record { onward = h.onward; none_better = none_narrows cs ds r (narrows_onward cs ds b r h.onward f) h.none_better }

  pub searched_forced : (cs : Plan) (m : List ℕ) (ws : List Choice) → Splits P cs m ws → (b r : BestSoFar) (w : Choice) →
      ((c : Choice) → Memᴰ c ws → (c ≡ w) ⊎ NoneBetter P (also c cs) b) → Searched P (also w cs) b r → Searched P cs b r
  searched_forced cs m ws s b r w h = searched_narrows cs (also w cs) b r (narrows_forced cs m ws s b w h)

  -- ---- the ways one after another, in the order of a list

  module _ (cs : Plan) where
    pub tried_onward : (ws : List Choice) (b r : BestSoFar) → Tried P cs ws b r → Onward P b r
    tried_onward _ _ _ (tried_none b) = inl refl
    tried_onward _ _ _ (tried_dead c ws b r h t) = tried_onward ws b r t
    tried_onward _ _ _ (tried_searched c ws b b₁ r h t) = onward_then P b b₁ r h.onward (tried_onward ws b₁ r t)

    pub tried_all : (ws : List Choice) (b r : BestSoFar) → Tried P cs ws b r → (c : Choice) → Memᴰ c ws → NoneBetter P (also c cs) r
    tried_all _ _ _ (tried_none b) c k = absurd (Memᴰ.not-nil k)
    tried_all _ _ _ (tried_dead w ws b r h t) c k =
        ⊎_elim
        (λ (e : c ≡ w). rw e (none_onward P (also w cs) b r (tried_onward ws b r t) h))
        (λ n. tried_all ws b r t c n)
        (Memᴰ.cases_cons k)
    tried_all _ _ _ (tried_searched w ws b b₁ r h t) c k =
        ⊎_elim
        (λ (e : c ≡ w). rw e (none_onward P (also w cs) b₁ r (tried_onward ws b₁ r t) h.none_better))
        (λ n. tried_all ws b₁ r t c n)
        (Memᴰ.cases_cons k)

    -- a list that has every way
    pub searched_tried : (m : List ℕ) (ws vs : List Choice) → Splits P cs m ws → ((c : Choice) → Memᴰ c ws → Memᴰ c vs) →
        (b r : BestSoFar) → Tried P cs vs b r → Searched P cs b r
    searched_tried m ws vs s all b r t = searched_split cs m ws s b r (tried_onward vs b r t) (λ c k. tried_all vs b r t c (all c k))

  -- ---- a search of everything

  pub searched_whole : (r : BestSoFar) → Searched P free nothing r → SearchSays P r
  unfolding NoneBetter
  searched_whole nothing h = λ m' l. h.none_better m' l (L.lawful_keeps m' l) tt
  searched_whole (found m) h = (onward_fine P nothing (found m) h.onward tt, λ m' l. h.none_better m' l (L.lawful_keeps m' l))

-- where the rank tells timetables apart, the one found is better than every other
pub answer_only :
    (P : Problem) (Same : List ℕ → List ℕ → Type 0) → ToldApart P Same → (m : List ℕ) → SearchSays P (found m) → (m' : List ℕ) → P.Lawful m' → (Same m m' → ⊥) →
    Better P m m'
answer_only P Same apart m best m' l d = go (ahead (rank P m) (rank P m')) refl
  where
    go : (t : Bool) → ahead (rank P m) (rank P m') ≡ t → Better P m m'
    go true t = ahead_true (rank P m) (rank P m') t
    go false t =
        let same = ahead_total (rank P m) (rank P m') (ahead_false (rank P m) (rank P m') t) (best.1 m' l) in
        absurd (d (apart m m' best.0 l (same 0) (λ k. same (suc k))))
