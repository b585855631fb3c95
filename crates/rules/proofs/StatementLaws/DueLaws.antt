-- When each train is due (document 02, K2): a train that the section of dues lists is due at its listed minute, as the list rises and has it once; any other at
-- its free arrival.
use Rattle.std.specs.Prelude.{◌≡◌, ℕ, ◌+◌, ◌-◌, ◌<◌, ◌≤◌, List, [], ◌∷◌, ◌≢◌}
use Rattle.std.proofs.Math.Path.{refl}
use Rattle.std.proofs.Common.{arith, eq-eqb, ne_eqb}
use Rattle.text.specs.declared.Limits.{Limits}
use Rattle.text.specs.Sections.Chained.{EachAfter}
use Rattle.finite.specs.Each.{Each}
use Rattle.finite.specs.EachLaws.{each_both}
use Rattle.line.specs.declared.Line.{Line}
use Rattle.line.specs.declared.Listed.{Listed}
use Rattle.line.specs.Ranges.{time}
use Rattle.line.specs.Record.{no_listed, dues_of}
use Rattle.line.specs.Within.{ListedWithin, Within}
use Rattle.rules.specs.Statement.Delay.{free_arrival, listed_for, due}

-- a list of trains whose first is train i, or another
module _ (x : Listed) (xs : List Listed) (i given : ℕ) where
  pub listed_here : x.train ≡ i + 1 → listed_for (x ∷ xs) i given ≡ x.minutes
  unfolding listed_for
  listed_here e = rw (eq-eqb x.train (i + 1) e) refl

  pub listed-later : (x.train ≢ i + 1) → listed_for (x ∷ xs) i given ≡ listed_for xs i given
  unfolding listed_for
  listed-later h = rw (ne_eqb x.train (i + 1) h) refl

module _ (t : ℕ) (r : Limits) where
  -- all after a train have higher numbers
  after_higher : (before : Listed) (n : ℕ) (xs : List Listed) → n ≤ before.train → EachAfter (λ b x. x) (ListedWithin t r) before xs → Each (λ x. n < x.train) xs
  after_higher before n [] h w = tt
  after_higher before n (x ∷ xs) h w = (omega (arith, w.0.order), after_higher x n xs (omega (arith, w.0.order)) w.1)

  -- a rising list has for each of its trains the minutes listed with it
  rising_listed : (given : ℕ → ℕ) (before : Listed) (xs : List Listed) → EachAfter (λ b x. x) (ListedWithin t r) before xs →
      Each (λ x. listed_for xs (x.train - 1) (given (x.train - 1)) ≡ x.minutes) xs
  rising_listed given before [] w = tt
  rising_listed given before (x ∷ xs) w = (
    listed_here x xs (x.train - 1) (given (x.train - 1)) (omega (arith, w.0.train.0)),
    each_both (λ y. listed_for xs (y.train - 1) (given (y.train - 1)) ≡ y.minutes) (λ y. x.train < y.train)
        (λ y. listed_for (x ∷ xs) (y.train - 1) (given (y.train - 1)) ≡ y.minutes)
        (λ y e h. rw (listed-later x xs (y.train - 1) (given (y.train - 1)) (λ z. omega (arith, h))) e) xs
        (rising_listed given x xs w.1) (after_higher x x.train xs (omega arith) w.1),
  )

-- "A fifth section gives train and due minute": each train that it lists is due then
pub due-listed : (l : Line) → Within l → Each (λ x. due l (x.train - 1) ≡ x.minutes) (dues_of l)
unfolding due
due-listed l w = rising_listed l.traffic.train_count time (free_arrival l) no_listed (dues_of l) w.each_due

-- train i is not in a list of trains; it is not listed in the section of dues
abbrev pub NotIn : ℕ → List Listed → Type 0
NotIn i xs = Each (λ x. x.train ≢ i + 1) xs

abbrev pub Unlisted : Line → ℕ → Type 0
Unlisted l i = NotIn i (dues_of l)

not_listed : (i given : ℕ) (xs : List Listed) → NotIn i xs → listed_for xs i given ≡ given
unfolding listed_for
not_listed i given [] h = refl
not_listed i given (x ∷ xs) h = rw (ne_eqb x.train (i + 1) h.0) (not_listed i given xs h.1)

-- "a train not listed is due at its free arrival"
pub due-free : (l : Line) (i : ℕ) → Unlisted l i → due l i ≡ free_arrival l i
unfolding due
due-free l i h = not_listed i (free_arrival l i) (dues_of l) h
