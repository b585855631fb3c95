-- What the check refuses it refuses by a number from 1 to 19, at a place of at most 4,097.
use Prim.Native.Nat.{ℕ, ◌≤◌}
use Rattle.std.specs.Prelude.{◌≡◌, refl, true, false, cond, List, [], Result, Ok, Err, eqb, get_or}
use Rattle.std.proofs.Common.{ap, ⊎_elim, arith}
use Rattle.std.proofs.Math.Bool.{Bool, not}
use Rattle.std.proofs.Math.Option.{Option, some, none}
use Rattle.std.proofs.Math.ListN.{length}
use Rattle.finite.specs.Below.{first, IsFirst}
use Rattle.finite.specs.LoopLaws.{first_is}
use Rattle.text.specs.declared.Refusal.{Refusal}
use Rattle.text.specs.Reading.Parsed.{Parsed}
use Rattle.text.specs.Reading.Told.{refusal}
use Rattle.line.specs.declared.Line.{Line}
use Rattle.line.specs.File.{line_file, answered}
use Rattle.line.specs.PlaceLaws.{file_refusal}
use Rattle.line.specs.RoundTripLaws.{ReadFrom, accepts_read}
use Rattle.rules.specs.Statement.FirstBroken.{checked_order}
use Rattle.rules.specs.Statement.Delay.{weighted_delay}
use Rattle.rules.specs.Check.Breaches.{or_breach, breach_of}
use Rattle.rules.proofs.Check.FirstBrokenLaws.{first_broken, broken_bounds}
use Rattle.rules.specs.Lists.Orders.{order_lists}
use Rattle.rules.specs.Lists.OrdersLaws.{lists_few, lists_count}
use Rattle.timetable.specs.Reading.{Timetable, timetable_file}
use Rattle.timetable.specs.Check.{same_list, at_list, lists_breach, total_breach, rest_breach, timetable_breach, judged, checked, check_of}
use Rattle.timetable.specs.PlaceLaws.{text_refusal}

pub record CheckRefusal (n p : ℕ) : Type 0 where
  pub number : (1 ≤ n) × (n ≤ 19)
  pub place : p ≤ 4097

-- ---- of a breach

abbrev Bounded : Result (Unit {0}) Refusal → Type 0
Bounded (Ok _) = Unit {0}
Bounded (Err e) = CheckRefusal e.number e.place

or_bounded : (a b : Result (Unit {0}) Refusal) → Bounded a → Bounded b → Bounded (or_breach a b)
or_bounded (Ok _) b x y = y
or_bounded (Err e) b x y = x

module _ (file : List ℕ) (l : Line) (r : ReadFrom file l) where
  rules_bounded : (m : List ℕ) (b : Result (Unit {0}) Refusal) → breach_of l m ≡ b → Bounded b
  rules_bounded m (Ok _) e = tt
  rules_bounded m (Err y) e =
      let x = broken_bounds l m r.limits checked_order y.number y.place (first_broken l r.limits r.arrays m y.number y.place e) in
      record { number = (omega (arith, x.0), omega (arith, x.1)); place = omega (arith, x.3) }

  lists_bounded : (read own : List (List ℕ)) → length own ≤ 22 → Bounded (lists_breach read own)
  unfolding lists_breach
  lists_bounded read own few = go (first wrong (length own)) (first_is wrong (length own))
    where
      wrong : ℕ → Bool
      wrong k = not (same_list (get_or read k []) (get_or own k []))

      go : (o : Option ℕ) → IsFirst wrong (length own) o → Bounded (at_list o)
      go none h = tt
      go (some k) h = record { number = (omega arith, omega arith); place = omega (arith, h.0) }

  total_bounded : (a b : ℕ) → Bounded (total_breach a b)
  total_bounded a b = go (eqb a b)
    where
      go : (c : Bool) → Bounded (cond {A = Result (Unit {0}) Refusal} c (Ok tt) (refusal 17 0))
      go true = tt
      go false = record { number = (omega arith, omega arith); place = omega arith }

  timetable_bounded : (t : Timetable) → Bounded (timetable_breach l t)
  unfolding timetable_breach rest_breach
  timetable_bounded t =
      let few : length (order_lists l t.minutes) ≤ 22 = omega (arith, lists_count l t.minutes, lists_few l (omega (arith, r.limits.stations.1))) in
      or_bounded (breach_of l t.minutes) _ (rules_bounded t.minutes (breach_of l t.minutes) refl)
      (or_bounded (lists_breach t.rest.lists (order_lists l t.minutes)) _ (lists_bounded t.rest.lists (order_lists l t.minutes) few)
      (total_bounded t.rest.total (weighted_delay l t.minutes)))

-- ---- of a check

judged_bounded : (file : List ℕ) (l : Line) → ReadFrom file l → (s : List ℕ) (x : Parsed Timetable) → timetable_file l s ≡ x → Bounded (judged l x)
judged_bounded file l r s (Parsed.got t c) e = timetable_bounded file l r t
judged_bounded file l r s (Parsed.bad n p) e =
    let x = text_refusal l s n p e in
    record { number = (omega (arith, x.number), omega (arith, x.number)); place = x.place }

check_bounded : (file s : List ℕ) → Bounded (check_of file s)
unfolding check_of
check_bounded file s = go (line_file file) refl
  where
    go : (x : Parsed Line) → line_file file ≡ x → Bounded (checked x s)
    go (Parsed.got l c) e = judged_bounded file l (accepts_read file l (ap answered e)) s (timetable_file l s) refl
    go (Parsed.bad n p) e =
        let x = file_refusal file n p e in
        record { number = ⊎_elim (λ y. (y.0, omega (arith, y.1))) (λ y. (omega (arith, y), omega (arith, y))) x.number; place = x.place }

pub check_refusal : (file s : List ℕ) (n p : ℕ) → check_of file s ≡ refusal n p → CheckRefusal n p
check_refusal file s n p e = rw e at (check_bounded file s)
