-- Laws of the check of lists and total as its loops and returns go.
use Rattle.std.specs.Prelude.{ℕ, zero, suc, ◌+◌, ◌<◌, ◌≤◌, true, false, List, [], ◌∷◌, Result, Ok, Err, map, length, get_or, take}
use Rattle.std.proofs.Math.Path.{◌≡◌, refl, sym, ap}
use Rattle.std.proofs.Common.{◌∙◌, arith, eq-eqb, ne_eqb, length-take, get_or-take, ext_get_or}
use Rattle.std.proofs.Math.Bool.{Bool, not}
use Rattle.std.proofs.lemmas.Bool.{false≢true}
use Rattle.std.proofs.lemmas.List.{length-map}
use Rattle.std.proofs.Math.ListN.{get_or-map}
use Rattle.text.specs.declared.Refusal.{Refusal}
use Rattle.text.specs.Reading.Told.{refusal}
use Rattle.finite.specs.Decide.{Decides}
use Rattle.finite.specs.DecideLaws.{decides_and, decides_eq, decides_as, is_true, is_false}
use Rattle.finite.specs.Below.{EachBelow}
use Rattle.finite.specs.LoopLaws.{decides_all, first_found, first_none}
use Rattle.text.specs.Reading.Parsed.{Parsed}
use Rattle.line.specs.declared.Line.{Line}
use Rattle.line.specs.File.{line_file, answered}
use Rattle.line.specs.Within.{Within}
use Rattle.line.specs.RoundTripLaws.{accepted_read}
use Rattle.rules.specs.declared.orders.OrderList.{OrderList}
use Rattle.rules.specs.Lists.Orders.{list_count, order_lists, listed}
use Rattle.rules.specs.Statement.Delay.{weighted_delay}
use Rattle.rules.specs.Check.Breaches.{breach_of}
use Rattle.timetable.specs.Reading.{Rest, Timetable, timetable_file}
use Rattle.timetable.specs.Spell.{numbers}
use Rattle.timetable.specs.Told.{named, named_first}
use Rattle.timetable.specs.AnsweredLaws.{answered_got, answered_bad}
use Rattle.timetable.specs.Check.{same_list, at_list, lists_breach, rest_breach, timetable_breach, judged, checked, check_of}

-- ---- one list

-- the number at j is that of the train there
abbrev pub MatchAt : List ℕ → List ℕ → ℕ → Type 0
MatchAt xs is j = get_or xs j 0 ≡ get_or is j 0 + 1

-- the numbers are those of the trains by index
abbrev pub Matches : List ℕ → List ℕ → Type 0
Matches xs is = (length xs ≡ length is) × EachBelow (length is) (MatchAt xs is)

pub decides_matches : (xs is : List ℕ) → Decides (Matches xs is) (same_list xs is)
unfolding same_list
decides_matches xs is = decides_and (decides_eq _ _) (decides_all (MatchAt xs is) _ (length is) (λ j _. decides_eq _ _))

-- entry j of a list of the code, below its size
pub entry_at : (o : OrderList) (j : ℕ) → j < length (listed o) → get_or (listed o) j 0 ≡ get_or o.trains j 0
entry_at o j h = get_or-take o.count o.trains j 0 (omega (arith, length-take o.count o.trains))

-- the number of entry j
pub number_at : (is : List ℕ) (j : ℕ) → j < length is → get_or (numbers is) j 0 ≡ get_or is j 0 + 1
number_at [] j b = absurd (omega arith)
number_at (i ∷ is) zero b = refl
number_at (i ∷ is) (suc j) b = number_at is j (omega arith)

-- two lists of the code have the same train at j
abbrev pub SameAt : OrderList → OrderList → ℕ → Type 0
SameAt o q j = get_or o.trains j 0 ≡ get_or q.trains j 0

-- a list that was read against the right one
pub decides_same : (o q : OrderList) → Decides ((length (listed o) ≡ length (listed q)) × EachBelow (length (listed q)) (SameAt o q)) (same_list (named o) (listed q))
decides_same o q =
    decides_as
    (λ h.
    let size = sym (length-map (listed o) (λ i. i + 1)) ∙ h.0 in
    (size, λ j b. omega (arith, h.1 j b, number_at (listed o) j (omega (arith, size, b)), entry_at o j (omega (arith, size, b)), entry_at q j b)))
    (λ h. (
      length-map (listed o) (λ i. i + 1) ∙ h.0,
      λ j b. omega (arith, h.1 j b, number_at (listed o) j (omega (arith, h.0, b)), entry_at o j (omega (arith, h.0, b)), entry_at q j b),
    ))
    (decides_matches (named o) (listed q))

-- the numbers of some trains are those of others exactly where the trains are the same
decides_numbers : (xs ys : List ℕ) → Decides (xs ≡ ys) (same_list (numbers xs) ys)
decides_numbers xs ys =
    decides_as
    (λ h.
    let size : length xs ≡ length ys = sym (length-map xs (λ i. i + 1)) ∙ h.0 in
    ext_get_or 0 xs ys size (λ j b. omega (arith, h.1 j (omega (arith, size, b)), number_at xs j b)))
    (λ e. (length-map xs (λ i. i + 1) ∙ ap length e, λ j b. number_at xs j (omega (arith, b, ap length e)) ∙ ap (λ (zs : List ℕ). get_or zs j 0 + 1) e))
    (decides_matches (numbers xs) ys)

-- a comparison of the trains of a list that was read with those of the right one
pub same_told : (o q : OrderList) (b : Bool) → (b ≡ true → listed o ≡ listed q) → (listed o ≡ listed q → b ≡ true) → b ≡ same_list (named o) (listed q)
same_told o q true yea nay = sym (is_true (decides_numbers (listed o) (listed q)) (yea refl))
same_told o q false yea nay = sym (is_false (decides_numbers (listed o) (listed q)) (λ e. false≢true (nay e)))

-- as many entries as a list has are the list
pub front_listed : (o : OrderList) {n : ℕ} → n ≡ length (listed o) → take n o.trains ≡ listed o
front_listed o e = rw e (go o.count o.trains)
  where
    go : (n : ℕ) (xs : List ℕ) → take (length (take n xs)) xs ≡ take n xs
    go zero xs = refl
    go (suc n) [] = refl
    go (suc n) (x ∷ xs) = ap (λ (ys : List ℕ). x ∷ ys) (go n xs)

-- ---- all of them

-- what stands past the last list
abbrev past_list : OrderList
past_list = record { count = 0; trains = [] }

-- list k of some lists of the code
list_at : (f : OrderList → List ℕ) (xs : List OrderList) (n k : ℕ) → k < n → get_or (map f (take n xs)) k (f past_list) ≡ f (get_or xs k past_list)
list_at f xs n k h = get_or-map f (take n xs) k past_list ∙ ap f (get_or-take n xs k _ h)

-- the test of list k
pub same_at : (xs ys : List OrderList) (n k : ℕ) → k < n →
    same_list (get_or (map named (take n xs)) k []) (get_or (map listed (take n ys)) k []) ≡ same_list (named (get_or xs k past_list)) (listed (get_or ys k past_list))
same_at xs ys n k h = rw (list_at named xs n k h, list_at listed ys n k h) refl

pub lists_size : (xs : List OrderList) (n : ℕ) → n ≤ length xs → length (map listed (take n xs)) ≡ n
lists_size xs n h = length-map (take n xs) listed ∙ omega (arith, length-take n xs)

module _ (read own : List (List ℕ)) where
  abbrev pub Right : ℕ → Type 0
  Right k = same_list (get_or read k []) (get_or own k []) ≡ true

  pub wrong_at : (k : ℕ) → k < length own → same_list (get_or read k []) (get_or own k []) ≡ false → EachBelow k Right →
      refusal 16 (k + 1) ≡ lists_breach read own
  unfolding lists_breach
  wrong_at k h e r = ap at_list (sym (first_found _ _ k h (ap not e) (λ j s. ap not (r j s))))

  pub wrong_none : EachBelow (length own) Right → Ok tt ≡ lists_breach read own
  unfolding lists_breach
  wrong_none r = ap at_list (sym (first_none _ _ (λ j s. ap not (r j s))))

-- ---- lists and total

-- the lists that the code was given, against its own, which are n
pub lists_told : (l : Line) (m : List ℕ) (xs : List OrderList) {n : ℕ} {own : List (List ℕ)} {b : Result (Unit {0}) Refusal} → own ≡ order_lists l m →
    n ≡ list_count l → b ≡ lists_breach (named_first n xs) own → b ≡ lists_breach (named_first (list_count l) xs) (order_lists l m)
lists_told l m xs own n b = b ∙ rw (own, n) refl

module _ (l : Line) (m : List ℕ) (r : Rest) where
  pub rest_list : {e : Refusal} → Err e ≡ lists_breach r.lists (order_lists l m) → Err e ≡ rest_breach l m r
  unfolding rest_breach
  rest_list told = rw (← told) refl

  module _ (lists : Ok tt ≡ lists_breach r.lists (order_lists l m)) {w : ℕ} (delay : w ≡ weighted_delay l m) where
    pub rest_none : r.total ≡ w → Ok tt ≡ rest_breach l m r
    unfolding rest_breach
    rest_none e = rw (← lists, eq-eqb r.total (weighted_delay l m) (e ∙ delay)) refl

    pub rest_total : (r.total ≡ w → ⊥) → refusal 17 0 ≡ rest_breach l m r
    unfolding rest_breach
    rest_total e = rw (← lists, ne_eqb r.total (weighted_delay l m) (λ q. e (q ∙ sym delay))) refl

-- ---- the whole

module _ (l : Line) (t : Timetable) where
  pub breach_rule : {e : Refusal} → Err e ≡ breach_of l t.minutes → Err e ≡ timetable_breach l t
  unfolding timetable_breach
  breach_rule told = rw (← told) refl

  pub breach_rest : Ok tt ≡ breach_of l t.minutes → rest_breach l t.minutes t.rest ≡ timetable_breach l t
  unfolding timetable_breach
  breach_rest told = rw (← told) refl

-- a text that was refused, or read
module _ (l : Line) (s : List ℕ) where
  pub judged_refused : {e : Refusal} → Err e ≡ answered (timetable_file l s) → Err e ≡ judged l (timetable_file l s)
  judged_refused told = sym (ap (judged l) (answered_bad (timetable_file l s) told))

  pub judged_read : {t : Timetable} → Ok t ≡ answered (timetable_file l s) → timetable_breach l t ≡ judged l (timetable_file l s)
  judged_read told = sym (ap (judged l) (answered_got (timetable_file l s) told).got)

-- ---- the file

-- the line of an accepted file
pub file_within : (file : List ℕ) {l : Line} → Ok l ≡ answered (line_file file) → Within l
file_within file told = (accepted_read file told).limits

module _ (file s : List ℕ) where
  pub file_refused : {e : Refusal} → Err e ≡ answered (line_file file) → Err e ≡ check_of file s
  unfolding check_of
  file_refused told = sym (ap (λ (a : Parsed Line). checked a s) (answered_bad (line_file file) told))

  pub file_accepted : {l : Line} → Ok l ≡ answered (line_file file) → judged l (timetable_file l s) ≡ check_of file s
  unfolding check_of
  file_accepted told = sym (ap (λ (a : Parsed Line). checked a s) (answered_got (line_file file) told).got)
