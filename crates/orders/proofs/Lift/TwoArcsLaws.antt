-- Laws of the choice that a train goes after another on a segment. Where the gap counts at departure and at arrival it has two arcs, each raised for by itself
-- with the event it starts from as the source: first the departure, and then the arrival. Where the gap counts once, the first is all there is to do.
use Rattle.std.specs.Prelude.{ℕ, ◌+◌, ◌≤◌, ◌<◌, ◌≡◌, refl, ◌⊎◌, Bool, true, false, cond, List, get_or, Option, Some, None}
use Rattle.std.proofs.Common.{sym, ◌∙◌, ap, ap₂, subst, inl, inr, ⊎_elim, true≢false, arith}
use Rattle.std.proofs.Math.Path.{subst⁻¹}
use Rattle.orders.specs.Plan.Bits.{in_mask}
use Rattle.orders.specs.Raise.Raising.{Graph, Kept}
use Rattle.orders.specs.Graph.LegGraph.{LegArc, runs, slow, next, depart, arrive, after, gone, beside, doubled, gap_in, UsedLeg, UsedArc, leg_graph}
use Rattle.orders.specs.Raise.LegTimes.{GoesBehind, source_of}
use Rattle.orders.specs.Lift.Lifting.{Alive, told_cost, Lifted, Choosing, Follows, Chose}
use Rattle.orders.proofs.Lift.ServingLaws.{Calls, Serves, serves_departure, serves_arrival, at_pair}
use Rattle.orders.proofs.Lift.ChosenArcsLaws.{Forced, chose_all, chose_then, chose_dead, arc_still, arc_dead, arc_forces, arc_forced, arc_next, one_lifted}

module _ (marks t ds : List ℕ) where
  abbrev G : Graph
  G = leg_graph marks t ds

  -- the arc between the arrivals of the choice, which starts in n where it did in m
  abbrev pub ArrivalLeft : ℕ → ℕ → List ℕ → List ℕ → LegArc → Type 0
  ArrivalLeft e j m n a = (a ≡ arrive e j) × (get_or n (G.from a) 0 ≡ get_or m (G.from a) 0)

  -- the departure is seen to: from m to n, which cost c, and no other arc is left
  pub record Halfway (e j cut : ℕ) (m n : List ℕ) (c : ℕ) : Type 0 where
    pub forced : Forced marks t ds m n
    pub choosing : Choosing (ArrivalLeft e j m n) n marks t ds e c cut

  pub halfway_as : (e j cut : ℕ) (m n : List ℕ) (c : ℕ) → Halfway e j cut m n c → (n' : List ℕ) (c' : ℕ) → n' ≡ n → c' ≡ c → Halfway e j cut m n' c'
  halfway_as e j cut m n c h n' c' p q =
      subst⁻¹ (λ (z : List ℕ). Halfway e j cut m z c') p (subst⁻¹ (λ (z : ℕ). Halfway e j cut m n z) q h)

  module _ (m : List ℕ) (e j f v w : ℕ) (leg : UsedLeg ds e) (train : j < 12) (on : in_mask (get_or marks e 0) j ≡ true) (f-is : f ≡ beside e j)
      (behind : GoesBehind m t ds e j v w) where
    -- ---- the arcs of the choice: two, or one

    apart : (c d : Bool) (x i : ℕ) → doubled t ds e j ≡ c → x ≡ e → i ≡ j → doubled t ds x i ≡ d → c ≡ d
    apart c d x i q p k u = sym q ∙ at_pair (λ x i. doubled t ds x i ≡ d) x i e j (sym p) (sym k) u

    two : doubled t ds e j ≡ true → (a : LegArc) → UsedArc marks t ds a → Follows e j a → (a ≡ depart e j) ⊎ (a ≡ arrive e j)
    two d (runs x) u q = absurd q
    two d (slow x) u q = absurd q
    two d (next x) u q = absurd q
    two d (depart x i) u q = inl (ap₂ depart q.0 q.1)
    two d (arrive x i) u q = inr (ap₂ arrive q.0 q.1)
    two d (after x i) u q = absurd (true≢false (apart true false x i d q.0 q.1 u.3))
    two d (gone x i) u q = absurd q

    one : doubled t ds e j ≡ false → (a : LegArc) → UsedArc marks t ds a → Follows e j a → a ≡ after e j
    one d (runs x) u q = absurd q
    one d (slow x) u q = absurd q
    one d (next x) u q = absurd q
    one d (depart x i) u q = absurd (true≢false (sym (apart false true x i d q.0 q.1 u.3)))
    one d (arrive x i) u q = absurd (true≢false (sym (apart false true x i d q.0 q.1 u.3)))
    one d (after x i) u q = ap₂ after q.0 q.1
    one d (gone x i) u q = absurd q

    -- ---- the departure

    -- the arc that asks for the departure starts at the source; the other, if there is one, may be left for later
    record Departing (src : ℕ) : Type 0 where
      arc : LegArc
      used : UsedArc marks t ds arc
      starts : src ≡ G.from arc
      calls : Calls marks t ds m f v arc
      part : (a : LegArc) → UsedArc marks t ds a → Follows e j a → (a ≡ arc) ⊎ (a ≡ arrive e j)
      later : (a : LegArc) → UsedArc marks t ds a → a ≡ arrive e j → G.Later src a

    departing : (src : ℕ) → src ≡ source_of t ds e j → Departing src
    departing src src-is = ⊎_elim
        (λ z.
        let at : src ≡ e = src-is ∙ ap (λ (b : Bool). cond b e (176 + e)) z.0 in
        record {
          arc = depart e j;
          used = (leg, train, on, z.0);
          starts = at;
          calls = (sym f-is, omega (arith, z.1));
          part = two z.0;
          later = λ a u q. subst⁻¹ (λ (b : LegArc). G.Later src b) q (sym at);
        })
        (λ z. record {
          arc = after e j;
          used = (leg, train, on, z.0);
          starts = src-is ∙ ap (λ (b : Bool). cond b e (176 + e)) z.0;
          calls = (sym f-is, omega (arith, z.1));
          part = λ a u q. inl (one z.0 a u q);
          later = λ a u q. absurd (true≢false (sym (subst (λ (b : LegArc). UsedArc marks t ds b) q u).3 ∙ z.0));
        })
        behind

    module _ (src cost cut : ℕ) (src-is : src ≡ source_of t ds e j) (p : Choosing (Follows e j) m marks t ds e cost cut) where
      first : Departing src
      first = departing src src-is

      serves : Serves marks t ds (λ a. a ≡ first.arc) m f v 0
      serves = serves_departure marks t ds m first.arc first.used f v first.calls

      pub departure_still : v ≤ get_or m f 0 → Halfway e j cut m m cost
      departure_still l =
          let c = arc_still marks t ds (Follows e j) (λ a. a ≡ arrive e j) first.arc first.part m e cost cut p f v 0 serves l (omega arith) in
          record {
            forced = record { size = refl; above = λ x. omega arith; first = λ y k up. up };
            choosing = record { ready = c.ready; others = λ a u. ⊎_elim (λ q. inl q) (λ q. inr (q, refl)) (c.others a u) };
          }

      module _ (n : List ℕ) (r : Option ℕ) (l : Lifted marks t ds src cut f v 0 m n r) where
        pub departure_dead : r ≡ None → Chose marks t ds cut m n None
        departure_dead z =
            chose_dead marks t ds m n cut
            (arc_dead marks t ds (Follows e j) (λ a. a ≡ arrive e j) first.arc first.part m e cost cut p f v 0 serves src first.starts
            first.later n r l z)
            (arc_forces marks t ds (Follows e j) (λ a. a ≡ arrive e j) first.arc first.part m e cost cut p f v 0 serves src first.starts
            first.later n r l)

        pub departure_lifted : Alive r → Halfway e j cut m n (told_cost r)
        departure_lifted z =
            record {
              forced = arc_forced marks t ds (Follows e j) (λ a. a ≡ arrive e j) first.arc first.part m e cost cut p f v 0 serves src
                  first.starts first.later n r l z;
              choosing = arc_next marks t ds (Follows e j) (λ a. a ≡ arrive e j) first.arc first.part m e cost cut p f v 0 serves src
                  first.starts first.later n r l z;
            }

    -- ---- the arrival

    module _ (n : List ℕ) (c cut : ℕ) (h : Halfway e j cut m n c) where
      arrival_kept : w ≤ get_or n (176 + f) 0 → UsedArc marks t ds (arrive e j) → get_or n (176 + e) 0 ≡ get_or m (176 + e) 0 → Kept G n (arrive e j)
      arrival_kept l u s =
          ⊎_elim
          (λ z. omega (arith, z.2, ap (λ (i : ℕ). get_or n (176 + i) 0) f-is))
          (λ z. absurd (true≢false (sym u.3 ∙ z.0)))
          behind

      pub arrival_still : w ≤ get_or n (176 + f) 0 → Chose marks t ds cut m n (Some c)
      arrival_still l =
          chose_then marks t ds m n n cut (Some c) h.forced
          (chose_all marks t ds n e c cut
          (record { ready = h.choosing.ready; others = λ a u. ⊎_elim (λ q. inl q) (λ q. inl (kept a u q.0 q.1)) (h.choosing.others a u) }))
        where
          kept : (a : LegArc) → UsedArc marks t ds a → a ≡ arrive e j → get_or n (G.from a) 0 ≡ get_or m (G.from a) 0 → Kept G n a
          kept a u q s =
              subst⁻¹ (λ (b : LegArc). Kept G n b) q
              (arrival_kept l (subst (λ (b : LegArc). UsedArc marks t ds b) q u)
              (subst (λ (b : LegArc). get_or n (G.from b) 0 ≡ get_or m (G.from b) 0) q s))

      -- it asks for w as before: were it to start later, it would be kept, and n had w already
      pub arrival_lifted : get_or n (176 + f) 0 < w → (n' : List ℕ) (r : Option ℕ) → Lifted marks t ds (176 + e) cut f 0 w n n' r → Chose marks t ds cut m n' r
      arrival_lifted l n' r k = ⊎_elim (λ z. by z.0 z.2) (λ z. absurd (omega (arith, z.2))) behind
        where
          raise : (u : UsedArc marks t ds (arrive e j)) → w ≡ get_or n (176 + e) 0 + gap_in t ds e j → Chose marks t ds cut m n' r
          raise u q =
              chose_then marks t ds m n n' cut r h.forced
              (one_lifted marks t ds (ArrivalLeft e j m n) (arrive e j) (λ a u q. q.0) n e c cut h.choosing f 0 w
              (serves_arrival marks t ds n (arrive e j) u f w (ap (λ (i : ℕ). 176 + i) (sym f-is), omega arith)) (176 + e) refl n' r k)

          by : doubled t ds e j ≡ true → w ≡ get_or m (176 + e) 0 + gap_in t ds e j → Chose marks t ds cut m n' r
          by d q =
              ⊎_elim
              (λ z. absurd (omega (arith, h.forced.above (176 + e), ap (λ (i : ℕ). get_or n (176 + i) 0) f-is)))
              (λ z. raise (leg, train, on, d) (omega (arith, z.1)))
              (h.choosing.others (arrive e j) (leg, train, on, d))
