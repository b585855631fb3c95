-- Laws of a choice, one arc at a time: where all arcs are kept but those of the choice, lifting the leg that one of them ends at, with the event it starts
-- from as the source, gives minutes that every solution has too and that keep this arc; or there are no solutions. When no arc is left they are the least.
use Rattle.std.specs.Prelude.{ℕ, ◌+◌, ◌≤◌, ◌<◌, ◌≡◌, refl, ◌⊎◌, true, List, length, get_or, Option, Some, None}
use Rattle.std.proofs.Common.{sym, ◌∙◌, ap, ap₂, inl, inr, ⊎_elim, arith}
use Rattle.std.proofs.Math.Path.{subst⁻¹}
use Rattle.orders.specs.Plan.Bits.{in_mask}
use Rattle.orders.specs.LeastMinutes.NoLater.{◌⊑◌}
use Rattle.orders.specs.Raise.Raising.{Graph, Kept, KeepsAll, Nothing, Solves, Reach, NoneFor}
use Rattle.orders.specs.Raise.RaisingLaws.{le_or_lt, done, first_below}
use Rattle.orders.specs.Graph.LegGraph.{LegArc, runs, slow, next, depart, arrive, after, gone, station_of, leaving, comes_on, UsedArc, leg_graph}
use Rattle.orders.specs.Lift.Lifting.{Alive, told_cost, Asks, Lifted, Choosing, Comes, NoneChosen, Forces, Chose}
use Rattle.orders.specs.Lift.LiftingLaws.{dead_or_alive}
use Rattle.orders.proofs.Lift.ServingLaws.{Serves, serves_asks, serves_there, serves_lifted, serves_arrival}

module _ (marks t ds : List ℕ) where
  abbrev G : Graph
  G = leg_graph marks t ds

  -- n is at or above m, and so is every solution that is at or above m
  pub record Forced (m n : List ℕ) : Type 0 where
    pub size : length n ≡ length m
    pub above : m ⊑ n
    pub first : Forces marks t ds m n

  -- no arc is left
  pub chose_all : (m : List ℕ) (e cost cut : ℕ) → Choosing (Nothing G) m marks t ds e cost cut → Chose marks t ds cut m m (Some cost)
  unfolding KeepsAll
  chose_all m e cost cut p =
      record {
        alive = λ _. record {
          size = refl;
          within = p.ready.within;
          keeps = λ a u. done (p.others a u);
          above = λ x. omega arith;
          first = λ y w k b. b;
          settled = record { cost_is = p.ready.cost_is; cost_in_lem = p.ready.cost_in_lem; limits = p.ready.limits };
        };
        dead = λ q. absurd (cc);
        forces = λ y k up. up;
      }

  -- what is chosen from minutes that every solution has is chosen from before
  pub chose_then : (m n n' : List ℕ) (cut : ℕ) (r : Option ℕ) → Forced m n → Chose marks t ds cut n n' r → Chose marks t ds cut m n' r
  unfolding NoneChosen
  chose_then m n n' cut r f c =
      record {
        alive = λ z. record {
          size = (c.alive z).size ∙ f.size;
          within = (c.alive z).within;
          keeps = (c.alive z).keeps;
          above = λ x. omega (arith, f.above x, (c.alive z).above x);
          first = λ y i k b. (c.alive z).first y i k (f.first y k b);
          settled = (c.alive z).settled;
        };
        dead = λ z y i k b. c.dead z y i k (f.first y k b);
        forces = λ y k b. c.forces y k (f.first y k b);
      }

  pub chose_dead : (m n : List ℕ) (cut : ℕ) → NoneChosen marks t ds cut m → Forces marks t ds m n → Chose marks t ds cut m n None
  chose_dead m n cut h f = record { alive = λ z. absurd (z refl); dead = λ _. h; forces = f }

  -- ---- one arc b of the choice; the others are left

  module _ (Chosen Left : LegArc → Type 0) (b : LegArc) (part : (a : LegArc) → UsedArc marks t ds a → Chosen a → (a ≡ b) ⊎ Left a)
      (m : List ℕ) (e cost cut : ℕ) (p : Choosing Chosen m marks t ds e cost cut) (f v w : ℕ) (h : Serves marks t ds (λ a. a ≡ b) m f v w) where
    pub arc_still : v ≤ get_or m f 0 → w ≤ get_or m (176 + f) 0 → Choosing Left m marks t ds e cost cut
    arc_still k l =
        record {
          ready = p.ready;
          others = λ a u. ⊎_elim
              (λ q. inl q)
              (λ q. ⊎_elim (λ z. inl (serves_there marks t ds _ m f v w h k l a u z)) (λ z. inr z) (part a u q))
              (p.others a u);
        }

    module _ (src : ℕ) (src-is : src ≡ G.from b) (later : (a : LegArc) → UsedArc marks t ds a → Left a → G.Later src a)
        (n : List ℕ) (r : Option ℕ) (l : Lifted marks t ds src cut f v w m n r) where
      at_source : (y : List ℕ) (a : LegArc) → a ≡ b → Reach src m y (G.from a) (get_or m (G.from a) 0)
      at_source y a q = subst⁻¹ (λ (x : ℕ). Reach src m y x (get_or m x 0)) (ap (λ (z : LegArc). G.from z) q ∙ sym src-is) (omega arith)

      solves : (y : List ℕ) → KeepsAll G y → m ⊑ y → Solves G src m y
      solves y k up =
          record {
            above = up;
            keeps = k;
            near = λ a u. ⊎_elim
                (λ q. inl q)
                (λ q. inr (⊎_elim (λ z. inl (at_source y a z)) (λ z. inr (later a u z)) (part a u q)))
                (p.others a u);
          }

      asks : (y : List ℕ) → KeepsAll G y → m ⊑ y → Asks src f v w m y
      asks y k up = serves_asks marks t ds _ m f v w h src y (solves y k up) (λ a u q _. at_source y a q)

      pub arc_dead : r ≡ None → NoneChosen marks t ds cut m
      unfolding NoneChosen NoneFor
      arc_dead z y i k up = (l.none z y (solves y k up) (asks y k up)).1 i

      -- whatever the answer
      pub arc_forces : Forces marks t ds m n
      unfolding NoneFor
      arc_forces y k up =
          ⊎_elim
          (λ z. (l.none z y (solves y k up) (asks y k up)).0)
          (λ z. first_below G src m n y (solves y k up) ((l.raised z).first y (solves y k up) (asks y k up)))
          (dead_or_alive r)

      module _ (z : Alive r) where
        pub arc_forced : Forced m n
        arc_forced = record { size = (l.raised z).grown.size; above = (l.raised z).grown.up; first = arc_forces }

        -- what is left starts where it did
        pub arc_next : Choosing (λ a. Left a × (get_or n (G.from a) 0 ≡ get_or m (G.from a) 0)) n marks t ds e (told_cost r) cut
        arc_next =
            record {
              ready = record {
                shaped = p.ready.shaped;
                size = (l.raised z).grown.size ∙ p.ready.size;
                within = (l.raised z).grown.within;
                limits = (l.settled z).limits;
                legs = l.legs z;
                leg = p.ready.leg;
                cost_is = (l.settled z).cost_is;
                cost_in_lem = (l.settled z).cost_in_lem;
              };
              others = λ a u. ⊎_elim
                  (λ q. inl (done ((l.raised z).grown.stays a u q)))
                  (λ q. ⊎_elim (λ o. inl (serves_lifted marks t ds _ m f v w h src cut n r l z a u o)) (left a u) (part a u q))
                  (p.others a u);
            }
          where
            left : (a : LegArc) → UsedArc marks t ds a → Left a → Kept G n a ⊎ (Left a × (get_or n (G.from a) 0 ≡ get_or m (G.from a) 0))
            left a u o =
                ⊎_elim
                (λ q. inr (o, omega (arith, (l.raised z).grown.up (G.from a))))
                (λ q. inl (done ((l.raised z).grown.rose a u q)))
                (le_or_lt (get_or n (G.from a) 0) (get_or m (G.from a) 0))

  -- ---- a choice of one arc

  module _ (Chosen : LegArc → Type 0) (b : LegArc) (one : (a : LegArc) → UsedArc marks t ds a → Chosen a → a ≡ b)
      (m : List ℕ) (e cost cut : ℕ) (p : Choosing Chosen m marks t ds e cost cut) (f v w : ℕ) (h : Serves marks t ds (λ a. a ≡ b) m f v w) where
    part : (a : LegArc) → UsedArc marks t ds a → Chosen a → (a ≡ b) ⊎ Nothing G a
    part a u q = inl (one a u q)

    pub one_still : v ≤ get_or m f 0 → w ≤ get_or m (176 + f) 0 → Chose marks t ds cut m m (Some cost)
    one_still k l = chose_all m e cost cut (arc_still Chosen (Nothing G) b part m e cost cut p f v w h k l)

    pub one_lifted : (src : ℕ) → src ≡ G.from b → (n : List ℕ) (r : Option ℕ) → Lifted marks t ds src cut f v w m n r → Chose marks t ds cut m n r
    one_lifted src q n r l =
        record {
          alive = λ z. (chose_then m n n cut (Some (told_cost r))
              (arc_forced Chosen (Nothing G) b part m e cost cut p f v w h src q (λ a u k. absurd k) n r l z)
              (chose_all n e (told_cost r) cut (none_left z))).alive (λ k. cc);
          dead = arc_dead Chosen (Nothing G) b part m e cost cut p f v w h src q (λ a u k. absurd k) n r l;
          forces = arc_forces Chosen (Nothing G) b part m e cost cut p f v w h src q (λ a u k. absurd k) n r l;
        }
      where
        none_left : Alive r → Choosing (Nothing G) n marks t ds e (told_cost r) cut
        none_left z =
            let c = arc_next Chosen (Nothing G) b part m e cost cut p f v w h src q (λ a u k. absurd k) n r l z in
            record { ready = c.ready; others = λ a u. ⊎_elim (λ k. inl k) (λ k. absurd k.0) (c.others a u) }

  -- train j comes to the station of leg e's departure after its train has left
  module _ (m : List ℕ) (e j cost cut : ℕ) (p : Choosing (Comes e j) m marks t ds e cost cut) (train : j < 12)
      (on : in_mask (get_or marks (leaving ds e) 0) j ≡ true) (f w : ℕ) (f-is : f ≡ comes_on ds (station_of ds e) j) (w-is : w ≡ get_or m e 0 + 1) where
    comes_one : (a : LegArc) → UsedArc marks t ds a → Comes e j a → a ≡ gone e j
    comes_one (runs x) u q = absurd q
    comes_one (slow x) u q = absurd q
    comes_one (next x) u q = absurd q
    comes_one (depart x i) u q = absurd q
    comes_one (arrive x i) u q = absurd q
    comes_one (after x i) u q = absurd q
    comes_one (gone x i) u q = ap₂ gone q.0 q.1

    serves : Serves marks t ds (λ a. a ≡ gone e j) m f 0 w
    serves = serves_arrival marks t ds m (gone e j) (p.ready.leg, train, on) f w (ap (λ (z : ℕ). 176 + z) (sym f-is), omega arith)

    pub comes_still : w ≤ get_or m (176 + f) 0 → Chose marks t ds cut m m (Some cost)
    comes_still = one_still (Comes e j) (gone e j) comes_one m e cost cut p f 0 w serves (omega arith)

    pub comes_lifted : (n : List ℕ) (r : Option ℕ) → Lifted marks t ds e cut f 0 w m n r → Chose marks t ds cut m n r
    comes_lifted = one_lifted (Comes e j) (gone e j) comes_one m e cost cut p f 0 w serves e refl
