-- Why the check refuses a text that was read: the rule that it names is the first that is broken (10 to 15, 18); or every rule is kept and the list that it
-- names is the first that does not have the trains of its segment and lane by departure (16); or the lists are right too, and the total is not the
-- weighted delay (17). All of it by what is declared, the order lists too.
use Rattle.std.specs.Prelude.{ℕ, ◌+◌, ◌≤◌, ◌<◌, ◌⊎◌, Bool, not, List, [], Result, Ok, Err, get_or}
use Rattle.std.proofs.Math.Path.{◌≡◌, refl, sym}
use Rattle.std.proofs.Common.{ap, ◌∙◌, ⊎_elim, arith}
use Rattle.std.proofs.Math.Logic.{inl, inr}
use Rattle.std.proofs.Math.Bool.{true, false, cond}
use Rattle.std.proofs.Math.Option.{Option, some, none}
use Rattle.std.proofs.Math.ListN.{length}
use Rattle.std.proofs.Math.Dec.{eqb}
use Rattle.std.proofs.lemmas.Bool.{not-false}
use Rattle.finite.specs.Below.{EachBelow, first, IsFirst}
use Rattle.finite.specs.LoopLaws.{first_is}
use Rattle.finite.specs.DecideLaws.{decides_eq}
use Rattle.text.specs.declared.Cursor.{Cursor}
use Rattle.text.specs.declared.Refusal.{Refusal}
use Rattle.text.specs.Reading.Parsed.{Parsed}
use Rattle.text.specs.Reading.Told.{refusal}
use Rattle.line.specs.declared.Line.{Line}
use Rattle.line.specs.File.{line_file, answered}
use Rattle.line.specs.Within.{Within, Arrays}
use Rattle.line.specs.PlaceLaws.{file_refusal}
use Rattle.line.specs.RoundTripLaws.{accepts_read}
use Rattle.rules.specs.Statement.Rules.{InDays, Lawful}
use Rattle.rules.specs.Statement.Paths.{EachTrain}
use Rattle.rules.specs.Statement.Delay.{weighted_delay}
use Rattle.rules.specs.Statement.FirstBroken.{checked_order, FirstBroken}
use Rattle.rules.specs.Statement.OrderLists.{IsOrderList, lanes_in, lane_at}
use Rattle.rules.specs.StatementLaws.OrderListsLaws.{order_list_only}
use Rattle.rules.specs.Lists.Orders.{order_lists}
use Rattle.rules.specs.Lists.LawfulListsLaws.{lawful_lists}
use Rattle.rules.specs.Check.Breaches.{or_breach, breach_of}
use Rattle.rules.proofs.Check.ExactLaws.{lawful_of}
use Rattle.rules.proofs.Check.FirstBrokenLaws.{first_broken}
use Rattle.timetable.specs.Reading.{Rest, Timetable, timetable_file}
use Rattle.timetable.specs.Spell.{numbers}
use Rattle.timetable.specs.Check.{same_list, at_list, lists_breach, total_breach, rest_breach, timetable_breach, judged, checked, check_of}
use Rattle.timetable.specs.CheckLaws.{decides_list}
use Rattle.timetable.specs.PlaceLaws.{text_refusal}
use Rattle.timetable.specs.SpeltLaws.{timetable_spelt}

-- ---- what is wrong with a text, by what is declared

-- list k of a text has the numbers of "the trains of that segment and lane by departure"
pub record RightAt (l : Line) (m : List ℕ) (lists : List (List ℕ)) (k : ℕ) : Type 0 where
  pub trains : List ℕ
  pub order : IsOrderList l m (lane_at l k).on (lane_at l k).lane trains
  pub text : get_or lists k [] ≡ numbers trains

-- 16, at the "lowest list, from 1" that has not
pub record WrongList (l : Line) (m : List ℕ) (lists : List (List ℕ)) (n p : ℕ) : Type 0 where
  pub index : ℕ
  pub number : n ≡ 16
  pub place : p ≡ index + 1
  pub real : index < length (lanes_in l)
  pub lower : EachBelow index (RightAt l m lists)
  pub wrong : RightAt l m lists index → ⊥

-- 17: "not the weighted delay", where every list is right
pub record WrongTotal (l : Line) (m : List ℕ) (r : Rest) (n p : ℕ) : Type 0 where
  pub number : n ≡ 17
  pub place : p ≡ 0
  pub lists : EachBelow (length (lanes_in l)) (RightAt l m r.lists)
  pub wrong : r.total ≡ weighted_delay l m → ⊥

abbrev pub RefusedFor : Line → Timetable → ℕ → ℕ → Type 0
RefusedFor l t n p =
    FirstBroken l t.minutes checked_order n p
    ⊎ (Lawful l t.minutes × (WrongList l t.minutes t.rest.lists n p ⊎ WrongTotal l t.minutes t.rest n p))

-- the same refusal has the same number and place
refusal_is : {k i n p : ℕ} → ◌≡◌ {A = Result (Unit {0}) Refusal} (refusal k i) (refusal n p) → (k ≡ n) × (i ≡ p)
refusal_is {k} {i} {n} {p} q =
    let same : ◌≡◌ {A = Refusal} (record { number = k; place = i }) (record { number = n; place = p }) = cc in
    (ap (λ (y : Refusal). y.number) same, ap (λ (y : Refusal). y.place) same)

-- ---- lists and total of lawful minutes

module _ (l : Line) (w : Within l) (a : Arrays l) (m : List ℕ) (h : Lawful l m) where
  module _ (lists : List (List ℕ)) where
    abbrev wrong : ℕ → Bool
    wrong k = not (same_list (get_or lists k []) (get_or (order_lists l m) k []))

    own : (k : ℕ) → k < length (order_lists l m) → IsOrderList l m (lane_at l k).on (lane_at l k).lane (get_or (order_lists l m) k [])
    own k b = let x = lawful_lists l w a m h in x.each k (omega (arith, x.number))

    right_at : (k : ℕ) → k < length (order_lists l m) → wrong k ≡ false → RightAt l m lists k
    right_at k b e = record { trains = get_or (order_lists l m) k []; order = own k b; text = (decides_list _ _).yea (not-false _ e) }

    not_right : (k : ℕ) → k < length (order_lists l m) → wrong k ≡ true → RightAt l m lists k → ⊥
    not_right k b e x =
        let same = order_list_only l m (lane_at l k).on (lane_at l k).lane x.trains (get_or (order_lists l m) k []) x.order (own k b) in
        (decides_list _ _).nay (off _ e) (x.text ∙ ap numbers same)
      where
        off : (c : Bool) → not c ≡ true → c ≡ false
        off true q = sym q
        off false q = refl

    -- what the test of the lists says
    abbrev ListsSay : Result (Unit {0}) Refusal → Type 0
    ListsSay (Ok _) = EachBelow (length (lanes_in l)) (RightAt l m lists)
    ListsSay (Err e) = WrongList l m lists e.number e.place

    lists_say : ListsSay (lists_breach lists (order_lists l m))
    unfolding lists_breach
    lists_say = go (first wrong (length (order_lists l m))) (first_is wrong (length (order_lists l m)))
      where
        go : (o : Option ℕ) → IsFirst wrong (length (order_lists l m)) o → ListsSay (at_list o)
        go none e = λ k b. let c : k < length (order_lists l m) = omega (arith, (lawful_lists l w a m h).number) in right_at k c (e k c)
        go (some k) e =
            record {
              index = k;
              number = refl;
              place = refl;
              real = omega (arith, (lawful_lists l w a m h).number, e.0);
              lower = λ j b. right_at j (omega (arith, e.0)) (e.2 j b);
              wrong = not_right k e.0 e.1;
            }

  module _ (r : Rest) {n p : ℕ} where
    rest_refused : rest_breach l m r ≡ refusal n p → WrongList l m r.lists n p ⊎ WrongTotal l m r n p
    unfolding rest_breach
    rest_refused e = go (lists_breach r.lists (order_lists l m)) (lists_say r.lists) e
      where
        total : (c : Bool) → eqb r.total (weighted_delay l m) ≡ c → EachBelow (length (lanes_in l)) (RightAt l m r.lists) →
            cond {A = Result (Unit {0}) Refusal} c (Ok tt) (refusal 17 0) ≡ refusal n p → WrongTotal l m r n p
        total true x lists q = let z : ◌≡◌ {A = ℕ} 0 1 = cc in absurd (omega arith)
        total false x lists q =
            let same = refusal_is q in
            record { number = sym same.0; place = sym same.1; lists = lists; wrong = (decides_eq r.total (weighted_delay l m)).nay x }

        go : (b : Result (Unit {0}) Refusal) → ListsSay r.lists b → or_breach b (total_breach r.total (weighted_delay l m)) ≡ refusal n p →
            WrongList l m r.lists n p ⊎ WrongTotal l m r n p
        go (Ok _) lists q = inr (total (eqb r.total (weighted_delay l m)) refl lists q)
        go (Err e) x q =
            let same = refusal_is q in
            inl record {
              index = x.index;
              number = sym same.0 ∙ x.number;
              place = sym same.1 ∙ x.place;
              real = x.real;
              lower = x.lower;
              wrong = x.wrong;
            }

-- ---- the whole

module _ (l : Line) (w : Within l) (a : Arrays l) (t : Timetable) (days : EachTrain l (InDays l t.minutes)) where
  pub refused_for : (n p : ℕ) → timetable_breach l t ≡ refusal n p → RefusedFor l t n p
  unfolding timetable_breach
  refused_for n p e = go (breach_of l t.minutes) refl e
    where
      go : (b : Result (Unit {0}) Refusal) → breach_of l t.minutes ≡ b → or_breach b (rest_breach l t.minutes t.rest) ≡ refusal n p → RefusedFor l t n p
      go (Ok _) x q =
          let h = lawful_of l w a t.minutes days x in
          inr (h, rest_refused l w a t.minutes h t.rest q)
      go (Err y) x q = inl (first_broken l w a t.minutes n p (x ∙ q))

-- the file is accepted, the text was read for its line, and this is why it is refused
pub record RefusedWhy (file s : List ℕ) (n p : ℕ) : Type 0 where
  pub line : Line
  pub end : Cursor
  pub accepted : line_file file ≡ Parsed.got line end
  pub timetable : Timetable
  pub last : Cursor
  pub read : timetable_file line s ≡ Parsed.got timetable last
  pub why : RefusedFor line timetable n p

-- 19 is a refusal of the file, for a booking
module _ (file s : List ℕ) (n p : ℕ) (ten : 10 ≤ n) (text : n ≡ 19 → ⊥) where
  judged_why : (l : Line) (c : Cursor) → line_file file ≡ Parsed.got l c → (x : Parsed Timetable) → timetable_file l s ≡ x → judged l x ≡ refusal n p →
      RefusedWhy file s n p
  judged_why l c accepted (Parsed.got t last) read q =
      let r = accepts_read file l (ap answered accepted) in
      let k = timetable_spelt l r.limits s t last read in
      record {
        line = l;
        end = c;
        accepted = accepted;
        timetable = t;
        last = last;
        read = read;
        why = refused_for l r.limits r.arrays t k.days n p q;
      }
  judged_why l c accepted (Parsed.bad k i) read q =
      let number = (refusal_is q).0 in
      absurd (omega (arith, (text_refusal l s k i read).number))

  checked_why : (x : Parsed Line) → line_file file ≡ x → checked x s ≡ refusal n p → RefusedWhy file s n p
  checked_why (Parsed.got l c) accepted q = judged_why l c accepted (timetable_file l s) refl q
  checked_why (Parsed.bad k i) refused q =
      let number = (refusal_is q).0 in
      absurd (⊎_elim (λ x. omega (arith, x.1)) (λ x. text (sym number ∙ x)) (file_refusal file k i refused).number)

  -- A text that the check refuses by 10 or a higher number, not 19, was read, and is refused for that number's reason at that place.
  pub refused_why : check_of file s ≡ refusal n p → RefusedWhy file s n p
  unfolding check_of
  refused_why e = checked_why (line_file file) refl e
