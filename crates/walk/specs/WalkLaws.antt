-- The whole walk is a search of everything.
use Rattle.std.specs.Prelude.{ℕ, List}
use Rattle.std.proofs.Common.{arith}
use Rattle.orders.specs.LeastMinutes.NoLaterLaws.{slack-most}
use Rattle.plans.specs.Theory.Problem.{Problem, Laws}
use Rattle.plans.specs.Theory.BestSoFar.{nothing}
use Rattle.walk.specs.Walk.{plenty, walk}
use Rattle.plans.specs.Theory.Search.{Searched}
use Rattle.plans.specs.Theory.SearchLaws.{under_start}
use Rattle.walk.specs.SoundLaws.{Enough, take_up_sound}

plenty_enough : (P : Problem) (cs : P.Plan) (s : List ℕ) → Enough P (plenty P) cs s
unfolding plenty
plenty_enough P cs s = record { some = omega arith; deep = λ m i. omega (arith, slack-most m, i.fit.size) }

pub walk_searched : (P : Problem) → Laws P → Searched P P.free nothing (walk P).best
unfolding walk
walk_searched P L = take_up_sound P L (plenty P) P.free P.start nothing (plenty_enough P P.free P.start) L.start_fit (under_start P L)
