-- What the answers of the check mean: no breach of lists and total says that they are those of the minutes, and no breach at all that the rules are kept
-- too; and each of these the other way.
use Rattle.std.specs.Prelude.{ℕ, ◌+◌, ◌≡◌, Bool, true, false, cond, not, List, [], Result, Ok, map, length, eqb}
use Rattle.std.proofs.Math.Path.{refl, sym}
use Rattle.std.proofs.Common.{◌∙◌, ap, arith, ext_get_or}
use Rattle.std.proofs.Math.Option.{Option, some, none}
use Rattle.std.proofs.lemmas.List.{length-map}
use Rattle.std.proofs.Math.ListN.{get_or-map}
use Rattle.std.proofs.lemmas.Bool.{not-false}
use Rattle.finite.specs.Decide.{Decides}
use Rattle.finite.specs.DecideLaws.{is_true, decides_as, decides_eq}
use Rattle.finite.specs.LoopLaws.{first_none, none_first}
use Rattle.text.specs.declared.Refusal.{Refusal}
use Rattle.text.specs.Reading.Told.{refusal}
use Rattle.line.specs.declared.Line.{Line}
use Rattle.rules.specs.Statement.Delay.{weighted_delay}
use Rattle.rules.specs.Lists.Orders.{list_count, order_lists}
use Rattle.rules.specs.Lists.OrdersLaws.{lists_count}
use Rattle.rules.specs.Check.Breaches.{breach_of}
use Rattle.rules.specs.Check.BreachesLaws.{or_none}
use Rattle.timetable.specs.Reading.{Rest, Timetable}
use Rattle.timetable.specs.Spell.{numbers, list_numbers}
use Rattle.timetable.specs.CheckLoopLaws.{number_at, decides_matches}
use Rattle.timetable.specs.Check.{same_list, at_list, lists_breach, total_breach, rest_breach, timetable_breach}

-- ---- lists

pub decides_list : (xs is : List ℕ) → Decides (xs ≡ numbers is) (same_list xs is)
unfolding same_list
decides_list xs is =
    decides_as
    (λ h. ext_get_or 0 xs (numbers is) (h.0 ∙ sym (length-map is (λ i. i + 1)))
    (λ j b. h.1 j (omega (arith, h.0)) ∙ sym (number_at is j (omega (arith, h.0)))))
    (λ e. rw e (length-map is (λ i. i + 1), number_at is))
    (decides_matches xs is)

-- where no breach is found the lists are those of the trains
pub lists_right : (read own : List (List ℕ)) → lists_breach read own ≡ Ok tt → length read ≡ length own → read ≡ map numbers own
unfolding lists_breach
lists_right read own e size =
    ext_get_or [] read (map numbers own) (size ∙ sym (length-map own numbers))
    (λ k b. (decides_list _ _).yea (not-false _ (none_first _ _ (nothing _ e) k (omega (arith, size)))) ∙ sym (get_or-map numbers own k []))
  where
    nothing : (o : Option ℕ) → at_list o ≡ Ok tt → o ≡ none
    nothing none q = refl
    nothing (some k) q = let z : ◌≡◌ {A = ℕ} 0 1 = cc in absurd (omega arith)

pub right_lists : (own : List (List ℕ)) → lists_breach (map numbers own) own ≡ Ok tt
unfolding lists_breach
right_lists own = ap at_list (first_none _ (length own) (λ k _. ap not (is_true (decides_list _ _) (get_or-map numbers own k []))))

-- ---- lists and total

total_right : (a b : ℕ) → total_breach a b ≡ Ok tt → a ≡ b
total_right a b e = (decides_eq a b).yea (same (eqb a b) e)
  where
    same : (c : Bool) → cond {A = Result (Unit {0}) Refusal} c (Ok tt) (refusal 17 0) ≡ Ok tt → c ≡ true
    same true q = refl
    same false q = let z : ◌≡◌ {A = ℕ} 0 1 = cc in absurd (omega arith)

module _ (l : Line) (m : List ℕ) (r : Rest) where
  pub rest_right : length r.lists ≡ list_count l → rest_breach l m r ≡ Ok tt → (r.lists ≡ list_numbers l m) × (r.total ≡ weighted_delay l m)
  unfolding rest_breach
  rest_right size e =
      let b = or_none (lists_breach r.lists (order_lists l m)) _ e in
      (lists_right r.lists (order_lists l m) b.0 (size ∙ sym (lists_count l m)), total_right _ _ b.1)

  pub right_rest : r.lists ≡ list_numbers l m → r.total ≡ weighted_delay l m → rest_breach l m r ≡ Ok tt
  unfolding rest_breach
  right_rest e t = rw (e, right_lists (order_lists l m), is_true (decides_eq r.total (weighted_delay l m)) t) refl

-- ---- the whole

module _ (l : Line) (t : Timetable) where
  pub timetable_right : timetable_breach l t ≡ Ok tt → (breach_of l t.minutes ≡ Ok tt) × (rest_breach l t.minutes t.rest ≡ Ok tt)
  unfolding timetable_breach
  timetable_right e = or_none (breach_of l t.minutes) _ e

  pub right_timetable : breach_of l t.minutes ≡ Ok tt → rest_breach l t.minutes t.rest ≡ Ok tt → timetable_breach l t ≡ Ok tt
  unfolding timetable_breach
  right_timetable e h = rw (e, h) refl
