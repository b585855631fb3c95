-- Laws of reading the lines of trains, a step at a time: the runs and stops of a line laid into arrays, a train's line from its head and these, and
-- how many legs a head that was read has.
use Rattle.std.specs.Prelude.{ℕ, suc, ◌+◌, ◌-◌, ◌≤◌, ◌<◌, ◌≡◌, List, ◌∷◌, set, replicate}
use Rattle.std.proofs.Math.Path.{refl}
use Rattle.std.proofs.Common.{sym, ◌∙◌, arith}
use Rattle.std.proofs.Math.Numerals.{add-one}
use Rattle.std.proofs.Math.Nat.{sub-zero}
use Rattle.std.proofs.lemmas.List.Edits.{sets}
use Rattle.text.specs.declared.Cursor.{Cursor}
use Rattle.text.specs.Reading.Parsed.{Parsed, then_read, map_parsed}
use Rattle.text.proofs.Elements.LayLaws.{lay_many, lay_step, lay_stop}
use Rattle.text.specs.Elements.Padded.{padded}
use Rattle.line.specs.declared.Train.{Train}
use Rattle.line.specs.declared.reading.Head.{Head}
use Rattle.line.specs.Ranges.{run, stop}
use Rattle.line.specs.Record.{legs_between, no_train}
use Rattle.line.specs.RecordLaws.{path_legs}
use Rattle.line.specs.AcceptedLaws.{head_spelt}
use Rattle.line.specs.File.{number, head_at, Journey, journey_at, train_with, train_line}

-- ---- the runs and stops of a line, laid into arrays

-- a journey laid into rs and ts from index k on
abbrev laid : List ℕ → List ℕ → ℕ → Journey → Journey
laid rs ts k x = record { runs = sets rs k x.runs; stops = sets ts k x.stops }

-- the runs and stops of j stations between and the last run, laid into rs and ts from index k on
abbrev pub lay_journey : ℕ → List ℕ → Cursor → List ℕ → List ℕ → ℕ → Parsed Journey
lay_journey j s c rs ts k = map_parsed (laid rs ts k) (journey_at j s c)

journey_cons : (j : Parsed Journey) (rs ts : List ℕ) (k r t : ℕ) →
    map_parsed (laid rs ts k) (then_read j (λ y end. Parsed.got (record { runs = r ∷ y.runs; stops = t ∷ y.stops }) end))
    ≡ map_parsed (laid (set rs k r) (set ts k t) (suc k)) j
journey_cons (Parsed.got y end) rs ts k r t = refl
journey_cons (Parsed.bad n p) rs ts k r t = refl

module _ (m : ℕ) (s : List ℕ) (c : Cursor) (rs ts : List ℕ) (k : ℕ) where
  module _ (j : ℕ) (e : m ≡ suc j) where
    pub journey_stop-run : (n q : ℕ) → number run 32 s c ≡ Parsed.bad n q → lay_journey m s c rs ts k ≡ Parsed.bad n q
    unfolding journey_at
    journey_stop-run n q h = rw (e, h) refl

    module _ (r : ℕ) (c₁ : Cursor) (h : number run 32 s c ≡ Parsed.got r c₁) where
      pub journey_stop-stop : (n q : ℕ) → number stop 32 s c₁ ≡ Parsed.bad n q → lay_journey m s c rs ts k ≡ Parsed.bad n q
      unfolding journey_at
      journey_stop-stop n q g = rw (e, h, g) refl

      pub journey_step : (t : ℕ) (c₂ : Cursor) → number stop 32 s c₁ ≡ Parsed.got t c₂ →
          lay_journey m s c rs ts k ≡ lay_journey j s c₂ (set rs k r) (set ts k t) (k + 1)
      unfolding journey_at
      journey_step t c₂ g = rw (e, h, g, add-one k) (journey_cons (journey_at j s c₂) rs ts k r t)

  pub journey_last_read : m ≡ 0 → (r : ℕ) (next : Cursor) → number run 10 s c ≡ Parsed.got r next →
      lay_journey m s c rs ts k ≡ Parsed.got (record { runs = set rs k r; stops = ts }) next
  unfolding journey_at
  journey_last_read e r next h = rw (e, h) refl

  pub journey_last_stop : m ≡ 0 → (n q : ℕ) → number run 10 s c ≡ Parsed.bad n q → lay_journey m s c rs ts k ≡ Parsed.bad n q
  unfolding journey_at
  journey_last_stop e n q h = rw (e, h) refl

-- ---- a train's line

-- the train of a head and its journey
abbrev pub train_of : Head → Journey → Train
train_of h x = train_with h x.runs x.stops

train-laid : (h : Head) (j : Parsed Journey) →
    then_read j (λ x end. Parsed.got (train_with h (padded 11 0 x.runs) (padded 11 0 x.stops)) end) ≡ map_parsed (train_of h)
    (map_parsed (laid (replicate 11 0) (replicate 11 0) 0) j)
unfolding padded
train-laid h (Parsed.got x end) = refl
train-laid h (Parsed.bad n p) = refl

module _ (n : ℕ) (s : List ℕ) (c : Cursor) where
  pub train-stop_head : (m q : ℕ) → head_at n s c ≡ Parsed.bad m q → train_line n s c ≡ Parsed.bad m q
  unfolding train_line
  train-stop_head m q e = rw e refl

  pub train-from : (h : Head) (c₁ : Cursor) (legs : ℕ) (yet : Parsed Journey) → head_at n s c ≡ Parsed.got h c₁ →
      legs ≡ legs_between h.origin h.destination → yet ≡ lay_journey (legs - 1) s c₁ (replicate 11 0) (replicate 11 0) 0 →
      train_line n s c ≡ map_parsed (train_of h) yet
  unfolding train_line
  train-from h c₁ legs yet e l y = rw (e, y, l) (train-laid h (journey_at (legs_between h.origin h.destination - 1) s c₁))

-- ---- the lines of trains

-- before the first is read
pub lines_begin : (t : Train) (count n : ℕ) (s : List ℕ) (c : Cursor) → t ≡ no_train →
    lay_many (count - 0) (λ left. train_line n) s c (replicate 12 t) 0 ≡ lay_many count (λ left. train_line n) s c (replicate 12 no_train) 0
lines_begin t count n s c e = rw (e, sub-zero) refl

-- train i read, or refused, when the lines from its own on give `whole`
module _ (n count i : ℕ) (s : List ℕ) (c : Cursor) (trains : List Train) (whole : Parsed (List Train))
    (inv : lay_many (count - i) (λ left. train_line n) s c trains i ≡ whole) (left : i < count) where
  pub lines_read : (x t : Train) (next : Cursor) → train_line n s c ≡ Parsed.got t next → x ≡ t →
      lay_many (count - (i + 1)) (λ left. train_line n) s next (set trains i x) (i + 1) ≡ whole
  lines_read x t next e same =
      let k : count - i ≡ suc (count - (i + 1)) = omega arith in
      rw same (sym (lay_step (λ left. train_line n) (count - i) (count - (i + 1)) s c trains i k t next e) ∙ inv)

  pub lines-stop : (m q : ℕ) (r : Parsed (List Train)) → train_line n s c ≡ Parsed.bad m q → r ≡ Parsed.bad m q → r ≡ whole
  lines-stop m q r e b =
      let k : count - i ≡ suc (count - (i + 1)) = omega arith in
      b ∙ sym (lay_stop (λ left. train_line n) (count - i) (count - (i + 1)) s c trains i k m q e) ∙ inv

-- ---- how many legs a head that was read has

pub head_legs : (n : ℕ) (s : List ℕ) (c : Cursor) (h : Head) (next : Cursor) → n ≤ 12 → head_at n s c ≡ Parsed.got h next →
    (1 ≤ legs_between h.origin h.destination) × (legs_between h.origin h.destination ≤ 11)
head_legs n s c h next few e =
    let a = head_spelt n s c h next e in
    path_legs n h.origin h.destination few a.origin a.destination a.apart
