-- The arcs of a mark ask what its choice asks: the tables and the directions give the gap, the kind and the stations of the line.
use Rattle.std.specs.Prelude.{ℕ, ◌+◌, ◌*◌, ◌-◌, ◌/◌, ◌%◌, ◌<◌, ◌≡◌, refl, Bool, true, false, cond, ◌&&◌, List, get_or, eqb}
use Rattle.std.proofs.Common.{sym, ◌∙◌, ap, ap₂, subst, true≢false, arith}
use Rattle.std.proofs.lemmas.Bool.{false≢true}
use Rattle.line.specs.declared.Kind.{Kind}
use Rattle.line.specs.declared.Segment.{Segment}
use Rattle.line.specs.declared.Train.{Train}
use Rattle.line.specs.declared.Line.{Line}
use Rattle.line.specs.Within.{Arrays}
use Rattle.line.specs.Runnable.{Runnable}
use Rattle.rules.specs.Statement.Paths.{train, segment, outbound, same_way, Uses, Middle, into, out_of}
use Rattle.rules.specs.Statement.Minutes.{departs}
use Rattle.rules.specs.Statement.Rules.{GapBy, Before}
use Rattle.rules.specs.StatementLaws.PathsLaws.{routed}
use Rattle.rules.specs.Conflict.Directions.{directions_of}
use Rattle.rules.specs.Conflict.DirectionsLaws.{same_way_lem}
use Rattle.orders.specs.Plan.Bits.{in_mask}
use Rattle.rules.specs.StatementLaws.PathsLaws.{middle_few}
use Rattle.orders.specs.Plan.Choices.{Choice, on_segment, at_station, Of, Shared, KeepsChoice}
use Rattle.orders.specs.Plan.Marks.{Plan, Placed, marked}
use Rattle.orders.specs.Plan.MarksLaws.{marked_row}
use Rattle.orders.specs.Plan.TidyPlans.{Related, Fitting}
use Rattle.orders.specs.LineTables.Tables.{shares, tables_of}
use Rattle.orders.specs.LineTables.TableLegsLaws.{shared_at, following_at, opposing_at}
use Rattle.orders.specs.Graph.LegGraph.{LegArc, runs, slow, next, depart, arrive, after, gone, way_in, beside, alike, doubled, gap_in, station_of, leaving, comes_on}
use Rattle.orders.specs.Graph.LegsLaws.{LegOf, over_few, over_leg, middle_over, out_over, leg-train}
use Rattle.orders.specs.Graph.LegChoices.{segment_choice, station_choice, ByChoice, Gap, KeptBehind, KeptGone}

-- what follows of the choice of an arc
pub by_choice : (ds : List ℕ) (P Q : Choice → Type 0) → ((c : Choice) → P c → Q c) → (a : LegArc) → ByChoice ds P a → ByChoice ds Q a
by_choice ds P Q f (runs e) h = tt
by_choice ds P Q f (slow e) h = tt
by_choice ds P Q f (next e) h = tt
by_choice ds P Q f (depart e j) h = f _ h
by_choice ds P Q f (arrive e j) h = f _ h
by_choice ds P Q f (after e j) h = f _ h
by_choice ds P Q f (gone e j) h = f _ h

-- ---- rule 14 by kind and direction, as a gap that counts twice or once

abbrev twice : Kind → Bool → Bool
twice k w = w && eqb (shares k) 1

abbrev gap_of : Segment → Bool → ℕ
gap_of g w = cond w g.following g.opposing

module _ (g : Segment) (d a d' a' : ℕ) where
  rule_gap : (k : Kind) (w : Bool) → (k ≡ Kind.D → w ≡ false → ⊥) → GapBy k w g d a d' a' → Gap (twice k w) (gap_of g w) d a d' a'
  rule_gap Kind.S true n h = ((λ c. absurd (false≢true c)), (λ c. h))
  rule_gap Kind.F true n h = ((λ c. h), (λ c. absurd (true≢false c)))
  rule_gap Kind.D true n h = ((λ c. h), (λ c. absurd (true≢false c)))
  rule_gap Kind.S false n h = ((λ c. absurd (false≢true c)), (λ c. h))
  rule_gap Kind.F false n h = ((λ c. absurd (false≢true c)), (λ c. h))
  rule_gap Kind.D false n h = absurd (n refl refl)

  gap_rule : (k : Kind) (w : Bool) → Gap (twice k w) (gap_of g w) d a d' a' → GapBy k w g d a d' a'
  gap_rule Kind.S true h = h.1 refl
  gap_rule Kind.F true h = h.0 refl
  gap_rule Kind.D true h = h.0 refl
  gap_rule Kind.S false h = h.1 refl
  gap_rule Kind.F false h = h.1 refl
  gap_rule Kind.D false h = tt

-- ---- stations by direction

-- the station that the leg on segment p departs from, and the segment on which one leaves station s
departs_out : (b : Bool) (p : ℕ) → cond b (cond b p (p + 1)) (cond b p (p + 1) - 1) ≡ p
departs_out true p = refl
departs_out false p = omega arith

out_station : (b : Bool) (s : ℕ) → 0 < s → cond b (cond b s (s - 1)) (cond b s (s - 1) + 1) ≡ s
out_station true s h = refl
out_station false s h = omega arith

into-departs : (b : Bool) (s j : ℕ) → cond b (16 * (s - 1) + j) (16 * s + j) ≡ departs (cond b (s - 1) s) j
into-departs true s j = refl
into-departs false s j = refl

-- a train goes over the segment after a middle station of its path
middle-uses : (t : Train) (s : ℕ) → Middle t s → Uses t s
middle-uses t s h = (omega (arith, h.0), h.1)

module _ (l : Line) (w : Runnable l) (r : Arrays l) where
  abbrev ds : List ℕ
  ds = directions_of l

  abbrev t : List ℕ
  t = tables_of l

  -- ---- train j after train i on segment p

  module _ (p i j : ℕ) (o : Of l (on_segment p i j)) (u : Shared l (on_segment p i j)) where
    low : i < 16
    low = omega (arith, w.trains.1, o.1)

    over : departs p i / 16 ≡ p
    over = omega (arith, low)

    alike_is : alike ds (departs p i) j ≡ same_way l i j
    alike_is = rw over (same_way_lem l w.trains.1 p (over_few l w r i o.1 p u.0) i j o.1 o.2 u.0 u.1)

    doubled_is : doubled t ds (departs p i) j ≡ twice (segment l p).kind (same_way l i j)
    doubled_is = ap₂ (λ (a b : Bool). a && b) alike_is (rw over (ap (λ (x : ℕ). eqb x 1) (shared_at l w r p o.0)))

    gap_is : gap_in t ds (departs p i) j ≡ gap_of (segment l p) (same_way l i j)
    gap_is = rw (alike_is, over, following_at l w r p o.0, opposing_at l w r p o.0) refl

    before_kept : (m : List ℕ) → Related l (on_segment p i j) → Before l m p i j → KeptBehind t ds m (departs p i) j
    before_kept m n h = rw (doubled_is, gap_is, over) (rule_gap (segment l p) _ _ _ _ (segment l p).kind (same_way l i j) n h)

    pub kept_before : (m : List ℕ) → KeptBehind t ds m (departs p i) j → Before l m p i j
    kept_before m h = gap_rule (segment l p) _ _ _ _ (segment l p).kind (same_way l i j) (rw (doubled_is, gap_is, over) at h)

  -- ---- train b to station s after train a has left

  module _ (s a b : ℕ) (o : Of l (at_station s a b)) (u : Shared l (at_station s a b)) where
    comes_is : comes_on ds s b ≡ departs (into (train l b) s) b
    comes_is = rw (out_over l w r b o.2 s (middle-uses (train l b) s u.1)) (into-departs (outbound (train l b)) s b)

    pub comes_leg : LegOf l (comes_on ds s b)
    comes_leg = subst (LegOf l) (sym comes_is) (over_leg l w r b o.2 (into (train l b) s) (middle_over l w r b o.2 s u.1).0)

    -- the leg on which a leaves
    abbrev e : ℕ
    e = departs (out_of (train l a) s) a

    pub leaves_leg : LegOf l e
    leaves_leg = over_leg l w r a o.1 (out_of (train l a) s) (middle_over l w r a o.1 s u.0).1

    station_is : station_of ds e ≡ s
    station_is =
        let inner = middle_few (train l a) (routed l a w r.trains o.1) s u.0 in
        let over : e / 16 ≡ out_of (train l a) s = omega (arith, w.trains.1, o.1) in
        rw (out_over l w r a o.1 (out_of (train l a) s) (middle_over l w r a o.1 s u.0).1, over) (out_station (outbound (train l a)) s inner.0)

    pub leaving_is : leaving ds e ≡ 176 + (16 * s + a)
    leaving_is = let who : e % 16 ≡ a = omega (arith, w.trains.1, o.1) in rw (station_is, who) refl

    pub goes_kept : (m : List ℕ) → KeptGone ds m e b → KeepsChoice l m (at_station s a b)
    goes_kept m h = omega (arith, rw (station_is, comes_is) at h)

  -- ---- the marks at leg e

  module _ (e : ℕ) (u : LegOf l e) where
    at : departs (e / 16) (e % 16) ≡ e
    at = omega arith

    pub segment_placed : (j : ℕ) → Placed (segment_choice e j)
    segment_placed j = (omega (arith, u.0), omega arith)

    pub station_placed : (j : ℕ) → Placed (station_choice ds e j)
    station_placed j = (one_more (eqb (way_in ds e) 1) (e / 16) (omega (arith, u.0)), omega arith)
      where
        one_more : (b : Bool) (p : ℕ) → p < 11 → cond b p (p + 1) < 12
        one_more true p h = omega arith
        one_more false p h = omega arith

    pub segment-marked : (q : Plan) (j : ℕ) → in_mask (get_or q e 0) j ≡ marked q (segment_choice e j)
    segment-marked q j = marked_row q (segment_choice e j) e j at refl

    pub station-marked : (q : Plan) (j : ℕ) → in_mask (get_or q (leaving ds e) 0) j ≡ marked q (station_choice ds e j)
    station-marked q j = marked_row q (station_choice ds e j) (leaving ds e) j refl refl

    pub behind_leg : (j : ℕ) → Fitting l (segment_choice e j) → LegOf l (beside e j)
    behind_leg j f = over_leg l w r j f.0.2 (e / 16) f.1.1

    pub segment_kept : (m : List ℕ) (j : ℕ) → Fitting l (segment_choice e j) → KeepsChoice l m (segment_choice e j) → KeptBehind t ds m e j
    segment_kept m j f h = subst (λ x. KeptBehind t ds m x j) at (before_kept (e / 16) (e % 16) j f.0 f.1 m f.2 h)

    -- its train leaves its station by it
    out_of_lem : out_of (train l (e % 16)) (station_of ds e) ≡ e / 16
    out_of_lem =
        let known = leg-train l w r e u in
        let way : eqb (way_in ds e) 1 ≡ outbound (train l (e % 16)) =
        ap (λ (x : ℕ). eqb (way_in ds x) 1) (sym at) ∙ out_over l w r (e % 16) known.0 (e / 16) known.1 in
        rw way (departs_out (outbound (train l (e % 16))) (e / 16))

    pub leaves_by : e ≡ departs (out_of (train l (e % 16)) (station_of ds e)) (e % 16)
    leaves_by = rw out_of_lem (sym at)

    pub station_kept : (m : List ℕ) (j : ℕ) → Fitting l (station_choice ds e j) → KeepsChoice l m (station_choice ds e j) → KeptGone ds m e j
    station_kept m j f h =
        let comes = comes_is (station_of ds e) (e % 16) j f.0 f.1 in
        rw comes (omega (arith, rw (out_of_lem, at) at h))
