-- The contracts of raising a leg and all that follows from it; None answers that there are no such minutes.
use Rattle.std.specs.Prelude.{ℕ, ◌+◌, ◌≤◌, ◌<◌, ◌≡◌, ◌⊎◌, List, length, get_or, Option, Some, None}
use Rattle.orders.specs.LeastMinutes.NoLater.{◌⊑◌, WithinDays, slack}
use Rattle.orders.specs.LineTables.Tables.{run_in, cost_in}
use Rattle.orders.specs.Raise.Raising.{Kept, KeepsAll, Nothing, Reach, Solves, Clear, Raised, NoneFor}
use Rattle.orders.specs.Graph.LegGraph.{LegArc, runs, slow, next, depart, arrive, after, gone, UsedLeg, UsedArc, leg_graph, InLimits, Shaped}

-- there are such minutes
abbrev pub Alive : Option ℕ → Type 0
Alive r = r ≡ None → ⊥

-- what they cost, and 4,294,967,295 where there are none
abbrev pub told_cost : Option ℕ → ℕ
told_cost (Some c) = c
told_cost None = 4294967295

-- ---- what raising starts from

-- each leg of a train takes its run
unfoldable pub LegsKept : List ℕ → List ℕ → List ℕ → List ℕ → Type 0
LegsKept marks t ds m =
    (e : ℕ) → UsedLeg ds e → (get_or m e 0 + run_in t e ≤ get_or m (176 + e) 0) × (get_or m (176 + e) 0 ≤ get_or m e 0 + run_in t e)

pub record Ready (m marks t ds : List ℕ) (e cost cut : ℕ) : Type 0 where
  pub shaped : Shaped marks t ds
  pub size : length m ≡ 352
  pub within : WithinDays m
  pub limits : InLimits t ds m
  pub legs : LegsKept marks t ds m
  pub leg : UsedLeg ds e
  pub cost_is : cost ≡ cost_in t m
  pub cost_in_lem : cost ≤ cut

-- ---- what it ends with

-- the minutes n, their cost and limits
pub record Settled (t ds : List ℕ) (cut : ℕ) (n : List ℕ) (r : ℕ) : Type 0 where
  pub cost_is : r ≡ cost_in t n
  pub cost_in_lem : r ≤ cut
  pub limits : InLimits t ds n

-- minutes are asked for that are there already, or that a solution has too, seen from the source
abbrev pub Asks : ℕ → ℕ → ℕ → ℕ → List ℕ → List ℕ → Type 0
Asks src e v w m y = ((v ≤ get_or m e 0) ⊎ Reach src m y e v) × ((w ≤ get_or m (176 + e) 0) ⊎ Reach src m y (176 + e) w)

pub record Lifted (marks t ds : List ℕ) (src cut e v w : ℕ) (m n : List ℕ) (r : Option ℕ) : Type 0 where
  pub raised : Alive r → Raised (leg_graph marks t ds) src (Asks src e v w m) (Nothing (leg_graph marks t ds)) (Nothing (leg_graph marks t ds)) m n
  pub there : Alive r → (v ≤ get_or n e 0) × (w ≤ get_or n (176 + e) 0)
  pub settled : Alive r → Settled t ds cut n (told_cost r)
  pub legs : Alive r → LegsKept marks t ds n
  pub none : r ≡ None → NoneFor (leg_graph marks t ds) (InLimits t ds) (cost_in t) cut src (Asks src e v w m) m n

-- the arc to the next leg of the train of leg e
abbrev pub ToNext : ℕ → LegArc → Type 0
ToNext e (runs x) = ⊥
ToNext e (slow x) = ⊥
ToNext e (next x) = x ≡ e
ToNext e (depart x j) = ⊥
ToNext e (arrive x j) = ⊥
ToNext e (after x j) = ⊥
ToNext e (gone x j) = ⊥

-- the arcs to the trains that go after that of leg e on its segment
abbrev pub After : ℕ → LegArc → Type 0
After e (runs x) = ⊥
After e (slow x) = ⊥
After e (next x) = ⊥
After e (depart x j) = x ≡ e
After e (arrive x j) = x ≡ e
After e (after x j) = x ≡ e
After e (gone x j) = ⊥

-- the arcs to the trains that come to its station after it has left
abbrev pub Gone : ℕ → LegArc → Type 0
Gone e (runs x) = ⊥
Gone e (slow x) = ⊥
Gone e (next x) = ⊥
Gone e (depart x j) = ⊥
Gone e (arrive x j) = ⊥
Gone e (after x j) = ⊥
Gone e (gone x j) = x ≡ e

-- every arc of `Due` is kept, and all that follows; none of them has to be left for later
pub record Followed (Due : LegArc → Type 0) (marks t ds : List ℕ) (src cut : ℕ) (m n : List ℕ) (r : Option ℕ) : Type 0 where
  pub raised : Alive r → Raised (leg_graph marks t ds) src (Clear (leg_graph marks t ds) src Due m) Due (Nothing (leg_graph marks t ds)) m n
  pub settled : Alive r → Settled t ds cut n (told_cost r)
  pub legs : Alive r → LegsKept marks t ds n
  pub none : r ≡ None → NoneFor (leg_graph marks t ds) (InLimits t ds) (cost_in t) cut src (Clear (leg_graph marks t ds) src Due m) m n

-- ---- raising under way

-- the minutes rose from m to n, which cost r; of the arcs T is to do
pub record Going (marks t ds : List ℕ) (src cut : ℕ) (H : List ℕ → Type 0) (D T : LegArc → Type 0) (m n : List ℕ) (r : ℕ) : Type 0 where
  pub raised : Raised (leg_graph marks t ds) src H D T m n
  pub settled : Settled t ds cut n r
  pub legs : LegsKept marks t ds n

-- D was due, none of which had to be left for later
abbrev pub GoingFor : List ℕ → List ℕ → List ℕ → ℕ → ℕ → (LegArc → Type 0) → (LegArc → Type 0) → List ℕ → List ℕ → ℕ → Type 0
GoingFor marks t ds src cut D T m n r = Going marks t ds src cut (Clear (leg_graph marks t ds) src D m) D T m n r

-- no solution from m, as was found when the minutes had risen to n
abbrev pub NoWay : List ℕ → List ℕ → List ℕ → ℕ → ℕ → (List ℕ → Type 0) → List ℕ → List ℕ → Type 0
NoWay marks t ds src cut H m n = NoneFor (leg_graph marks t ds) (InLimits t ds) (cost_in t) cut src H m n

-- after the stores: leg e is where it was asked to be, and T is to do, none of which has to be left for later
pub record Stepped (marks t ds : List ℕ) (T : LegArc → Type 0) (src cut e v w : ℕ) (m n : List ℕ) (c : ℕ) : Type 0 where
  pub going : Going marks t ds src cut (Asks src e v w m) (Nothing (leg_graph marks t ds)) T m n c
  pub dep : v ≤ get_or n e 0
  pub arr : w ≤ get_or n (176 + e) 0
  pub clear : (y : List ℕ) → Solves (leg_graph marks t ds) src m y → Asks src e v w m y → Clear (leg_graph marks t ds) src T n y
  pub less : slack n < slack m

-- ---- a choice

-- all arcs are kept but those of the choice
pub record Choosing (Chosen : LegArc → Type 0) (m marks t ds : List ℕ) (e cost cut : ℕ) : Type 0 where
  pub ready : Ready m marks t ds e cost cut
  pub others : (a : LegArc) → UsedArc marks t ds a → Kept (leg_graph marks t ds) m a ⊎ Chosen a

-- the arcs of "train j after that of leg e", and of "train j comes when that of leg e has left"
abbrev pub Follows : ℕ → ℕ → LegArc → Type 0
Follows e j (runs x) = ⊥
Follows e j (slow x) = ⊥
Follows e j (next x) = ⊥
Follows e j (depart x i) = (x ≡ e) × (i ≡ j)
Follows e j (arrive x i) = (x ≡ e) × (i ≡ j)
Follows e j (after x i) = (x ≡ e) × (i ≡ j)
Follows e j (gone x i) = ⊥

abbrev pub Comes : ℕ → ℕ → LegArc → Type 0
Comes e j (runs x) = ⊥
Comes e j (slow x) = ⊥
Comes e j (next x) = ⊥
Comes e j (depart x i) = ⊥
Comes e j (arrive x i) = ⊥
Comes e j (after x i) = ⊥
Comes e j (gone x i) = (x ≡ e) × (i ≡ j)

-- n is the least at or above m that keeps all arcs; it is in time and costs no more than the cut
pub record LeastChosen (marks t ds : List ℕ) (cut : ℕ) (m n : List ℕ) (r : ℕ) : Type 0 where
  pub size : length n ≡ length m
  pub within : WithinDays n
  pub keeps : KeepsAll (leg_graph marks t ds) n
  pub above : m ⊑ n
  pub first : (y : List ℕ) → WithinDays y → KeepsAll (leg_graph marks t ds) y → m ⊑ y → n ⊑ y
  pub settled : Settled t ds cut n r

-- no minutes at or above m keep all arcs, are in time and cost no more than the cut
unfoldable pub NoneChosen : List ℕ → List ℕ → List ℕ → ℕ → List ℕ → Type 0
NoneChosen marks t ds cut m =
    (y : List ℕ) → WithinDays y → KeepsAll (leg_graph marks t ds) y → m ⊑ y → InLimits t ds y → cost_in t y ≤ cut → ⊥

-- whatever keeps all arcs and is at or above m is at or above n
abbrev pub Forces : List ℕ → List ℕ → List ℕ → List ℕ → List ℕ → Type 0
Forces marks t ds m n = (y : List ℕ) → KeepsAll (leg_graph marks t ds) y → m ⊑ y → n ⊑ y

-- the answer r, with the minutes raised from m to n; these are forced whatever the answer is, so also those that a dead one leaves
pub record Chose (marks t ds : List ℕ) (cut : ℕ) (m n : List ℕ) (r : Option ℕ) : Type 0 where
  pub alive : Alive r → LeastChosen marks t ds cut m n (told_cost r)
  pub dead : r ≡ None → NoneChosen marks t ds cut m
  pub forces : Forces marks t ds m n
