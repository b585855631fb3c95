-- The best timetable so far, as a search carries it along, and when minutes are better than it.
use Rattle.std.specs.Prelude.{◌≡◌, Bool, true, false, List, ℕ}
use Rattle.std.proofs.Math.Bool.{true≢false}
use Rattle.plans.specs.Theory.Ranking.{ahead}
use Rattle.plans.specs.Theory.RankingLaws.{ahead_true, ahead_false}
use Rattle.plans.specs.Theory.Problem.{Problem, Better, rank}

pub data BestSoFar : Type 0 where
  nothing : BestSoFar
  found : List ℕ → BestSoFar

-- these minutes are better than the best so far
abbrev pub Improves : Problem → List ℕ → BestSoFar → Type 0
Improves P m nothing = Unit {0}
Improves P m (found m₀) = Better P m m₀

module _ (P : Problem) where
  -- the test of it
  unfoldable pub improves : List ℕ → BestSoFar → Bool
  improves m nothing = true
  improves m (found m₀) = ahead (rank P m) (rank P m₀)

  pub improves_true : (m : List ℕ) (b : BestSoFar) → improves m b ≡ true → Improves P m b
  unfolding improves
  improves_true m nothing t = tt
  improves_true m (found m₀) t = ahead_true (rank P m) (rank P m₀) t

  pub improves_false : (m : List ℕ) (b : BestSoFar) → improves m b ≡ false → Improves P m b → ⊥
  unfolding improves
  improves_false m nothing t h = true≢false t
  improves_false m (found m₀) t h = ahead_false (rank P m) (rank P m₀) t h
