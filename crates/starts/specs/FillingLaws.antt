-- The entries filled in one after the other: with the first of them the loop starts, then one more each time, and all.
use Rattle.std.specs.Prelude.{ℕ, ◌+◌, ◌-◌, ◌≤◌, ◌<◌, ◌≡◌, refl, List, Option, length, get_or, set}
use Rattle.std.proofs.Common.{sym, ◌∙◌, subst, arith, length-set, get_or-set_same, get_or-set_other}
use Rattle.std.proofs.Math.Path.{subst⁻¹}
use Rattle.std.proofs.Math.Decide.{dec_lt}
use Rattle.finite.specs.Below.{EachBelow}
use Rattle.line.specs.declared.Line.{Line}
use Rattle.line.specs.Within.{Within, Arrays}
use Rattle.line.specs.Spell.{text_of}
use Rattle.line.specs.RoundTripLaws.{accepts_read}
use Rattle.line.specs.Starting.{starting}
use Rattle.line.specs.StartingLaws.{starting_within, starting_arrays, starting_again, starting_accepted}
use Rattle.rules.proofs.StatementLaws.StartingLaws.{earliest_starting}
use Rattle.plans.specs.declared.found.Best.{Best}
use Rattle.starts.specs.Asking.{Asked}
use Rattle.starts.specs.Operation.{altered_file, Tells, Filled}
use Rattle.starts.specs.Knowing.{FromFile, Knows, entry_of, Follows, Filling}
use Rattle.starts.specs.TellsLaws.{knows_tells}

-- ---- the first entry stored

module _ (number : ℕ) (minutes entry : List ℕ) (e : ℕ) where
  -- the entries are as many
  pub asked_still : (trains : ℕ) → Asked trains number minutes (length entry) → Asked trains number minutes (length (set entry 0 e))
  asked_still trains asked = subst⁻¹ (Asked trains number minutes) (length-set entry 0 e) asked

  -- and all past the list are as they were
  pub filled_from : {l : Line} {exit : List ℕ} → 1 ≤ length minutes → Filled l number minutes (set entry 0 e) exit → Filled l number minutes entry exit
  filled_from some f =
      record {
        size = f.size ∙ length-set entry 0 e;
        told = f.told;
        kept = λ k b. f.kept k b ∙ get_or-set_other entry 0 k e 0 (λ z. omega arith);
      }

-- ---- from the entries with which the loop starts

module _ (l : Line) (from : FromFile l) (i : ℕ) (minutes entry : List ℕ) (asked : Asked l.traffic.train_count (i + 1) minutes (length entry)) where
  limits : Within l
  limits = (accepts_read from.file l from.accepted).limits

  arrays : Arrays l
  arrays = (accepts_read from.file l from.accepted).arrays

  here : i < l.traffic.train_count
  here = omega (arith, asked.there.1)

  pub train_below : i < 12
  train_below = omega (arith, here, limits.trains.1)

  -- the line of a minute of the list
  abbrev line_at : ℕ → Line
  line_at k = starting i (get_or minutes k 0) l

  module _ (k : ℕ) (b : k < length minutes) (line : Line) (is : line ≡ line_at k) where
    pub at_within : Within line × Arrays line
    at_within =
        let day = asked.days k b in
        subst⁻¹ (λ (x : Line). Within x × Arrays x) is (starting_within _ day l i limits, starting_arrays _ day l i arrays)

    -- its entry
    told_at : (known : Option Best) → Knows line known → Tells (altered_file l (i + 1) (get_or minutes k 0)) (entry_of known)
    told_at known knows =
        let index : i + 1 - 1 ≡ i = omega arith in
        rw index
        (knows_tells (text_of (line_at k)) (line_at k) (starting_accepted _ (asked.days k b) l i from.file from.accepted here) known
        (subst (λ (x : Line). Knows x known) is knows))

  -- ---- the entry of minute k, after those before it

  stored : (now : List ℕ) (k e : ℕ) (known : Option Best) (line : Line) → k < length minutes → length now ≡ length entry → line ≡ line_at k → Knows line known →
      e ≡ entry_of known → EachBelow k (λ j. Tells (altered_file l (i + 1) (get_or minutes j 0)) (get_or now j 0)) →
      ((j : ℕ) → k ≤ j → get_or now j 0 ≡ get_or entry j 0) → Filling l i minutes entry (set now k e) (k + 1) line known
  stored now k e known line b size is knows told before kept =
      record {
        some = (omega arith, omega arith);
        size = length-set now k e ∙ size;
        told = λ j c. elim (dec_lt j k) [
          | yes h ↦ subst⁻¹ (Tells (altered_file l (i + 1) (get_or minutes j 0))) (get_or-set_other now k j e 0 (λ z. omega arith)) (before j h)
          | no h ↦
              let same : j ≡ k = omega arith in
              rw same (subst⁻¹ (Tells (altered_file l (i + 1) (get_or minutes k 0))) (get_or-set_same now k e 0 (omega (arith, size, asked.room)) ∙ told)
              (told_at k b line is known knows))
        ];
        kept = λ j c. get_or-set_other now k j e 0 (λ z. omega arith) ∙ kept j (omega arith);
        line = let last : k + 1 - 1 ≡ k = omega arith in rw last is;
        knows = knows;
      }

  pub filling_first : (known : Option Best) (line : Line) → line ≡ line_at 0 → Knows line known → get_or entry 0 0 ≡ entry_of known →
      Filling l i minutes entry entry 1 line known
  filling_first known line is knows told =
      record {
        some = (omega arith, asked.some);
        size = refl;
        told = λ j c.
            let first : j ≡ 0 = omega arith in
            rw first (subst⁻¹ (Tells (altered_file l (i + 1) (get_or minutes 0 0))) told (told_at 0 (omega (arith, asked.some)) line is known knows));
        kept = λ j c. refl;
        line = is;
        knows = knows;
      }

  module _ (now : List ℕ) (k : ℕ) (before : Line) (known : Option Best) (f : Filling l i minutes entry now k before known) where
    pub filling_more : k < length minutes → (e : ℕ) (next : Option Best) (line : Line) → line ≡ line_at k → Knows line next → e ≡ entry_of next →
        Filling l i minutes entry (set now k e) (k + 1) line next
    filling_more b e next line is knows told = stored now k e next line b f.size is knows told f.told f.kept

    -- the line of the next minute follows
    pub filling_follows : k < length minutes → (line : Line) → line ≡ line_at k → Follows before line i
    filling_follows b line is =
        let last = get_or minutes (k - 1) 0 in
        let day = asked.days (k - 1) (omega (arith, f.some.0)) in
        let inside : i < length l.traffic.trains = omega (arith, here, limits.trains.1, arrays.trains) in
        let next : k - 1 + 1 ≡ k = omega (arith, f.some.0) in
        let rises = rw next at (asked.rising (k - 1) (omega (arith, f.some.0))) in
        subst⁻¹ (λ (x : Line). Follows x line i) f.line
        record {
          limits = starting_within last day l i limits;
          arrays = starting_arrays last day l i arrays;
          here = here;
          minute = get_or minutes k 0;
          day = asked.days k b;
          rises = omega (arith, earliest_starting l i last inside, rises);
          is = is ∙ sym (starting_again l i last (get_or minutes k 0));
        }

    pub filling_end : length minutes ≤ k → Filled l (i + 1) minutes entry now
    filling_end b = record { size = f.size; told = λ j c. f.told j (omega arith); kept = λ j c. f.kept j (omega (arith, f.some.1)) }
