-- Timetables that are the same have the same text: only the minutes of legs are written.
use Prim.Native.Nat.{ℕ, zero, suc, ◌+◌, ◌≤◌}
use Rattle.std.specs.Prelude.{◌≡◌, List, map}
use Rattle.std.proofs.Math.Path.{refl, ap}
use Rattle.std.proofs.Common.{◌∙◌, arith}
use Rattle.finite.specs.Below.{EachFrom}
use Rattle.line.specs.declared.Train.{Train}
use Rattle.line.specs.declared.Line.{Line}
use Rattle.line.specs.Within.{Within, Arrays}
use Rattle.rules.specs.Statement.Paths.{train, legs}
use Rattle.rules.specs.Check.Tests.{departure_of, arrival_of}
use Rattle.rules.specs.Statement.Delay.{weighted_delay, Same}
use Rattle.rules.specs.StatementLaws.SameLaws.{delay-same, lists_same}
use Rattle.timetable.specs.Spell.{legs_text, trains_text, minutes_text, rest_text, numbers, list_numbers, timetable_text}

module _ (m m' : List ℕ) where
  -- leg k of a train, which is train i, has the same minutes
  abbrev pub SameLeg : Train → ℕ → ℕ → Type 0
  SameLeg t i k = (departure_of t m i k ≡ departure_of t m' i k) × (arrival_of t m i k ≡ arrival_of t m' i k)

  -- the same minutes of these legs are the same text
  pub legs-same : (k : ℕ) (t : Train) (i j : ℕ) (rest : List ℕ) → EachFrom k j (SameLeg t i) → legs_text k t m i j rest ≡ legs_text k t m' i j rest
  unfolding legs_text
  legs-same zero t i j rest h = refl
  legs-same (suc k) t i j rest h =
      let here = h j (omega arith) (omega arith) in
      rw (here.0, here.1, legs-same k t i (j + 1) rest (λ x low high. h x (omega arith) (omega arith))) refl

  module _ (l : Line) (same : Same l m m') where
    trains_same : (k i : ℕ) (rest : List ℕ) → i + k ≤ l.traffic.train_count → trains_text k l m i rest ≡ trains_text k l m' i rest
    unfolding trains_text
    trains_same zero i rest h = refl
    trains_same (suc k) i rest h =
        legs-same (legs l i) (train l i) i 0 (trains_text k l m (i + 1) rest) (λ x low high. same i (omega arith) x (omega arith))
        ∙ ap (legs_text (legs l i) (train l i) m' i 0) (trains_same k (i + 1) rest (omega arith))

    pub text_same : Within l → Arrays l → timetable_text l m ≡ timetable_text l m'
    unfolding timetable_text minutes_text
    text_same w a =
        let lists = ap (map numbers) (lists_same l m m' same w a) in
        rw (delay-same l m m' same w a, lists, trains_same l.traffic.train_count 0 (rest_text l (list_numbers l m') (weighted_delay l m')) (omega arith)) refl
