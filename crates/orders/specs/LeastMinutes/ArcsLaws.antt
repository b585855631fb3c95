-- A round over arcs is what raising asks for: it only raises, it stays below all minutes that keep the arcs, and where it rests they are kept.
use Rattle.std.specs.Prelude.{ℕ, zero, suc, ◌≤◌, ◌<◌, ◌≡◌, refl, ◌⊎◌, List, [], ◌∷◌, length, get_or, set}
use Rattle.std.proofs.Common.{◌∙◌, ap, inl, inr, ⊎_elim, arith, length-set, get_or-set_same, ext_get_or}
use Rattle.orders.specs.LeastMinutes.NoLater.{◌⊑◌}
use Rattle.orders.specs.LeastMinutes.NoLaterLaws.{⊑_refl, ⊑_trans}
use Rattle.orders.specs.LeastMinutes.Least.{Fit}
use Rattle.orders.specs.LeastMinutes.SettleLaws.{RoundRaises}
use Rattle.orders.specs.LeastMinutes.Arcs.{Arc, KeepsArc, KeepsArcs, AllIn, due, pull, pull_all}

-- an entry after a store is the old one, or the one stored
pub stored : (m : List ℕ) (i v e : ℕ) → (get_or (set m i v) e 0 ≡ get_or m e 0) ⊎ ((e ≡ i) × (get_or (set m i v) e 0 ≡ v))
stored [] i v e = inl refl
stored (x ∷ m) zero v zero = inr (refl, refl)
stored (x ∷ m) zero v (suc e) = inl refl
stored (x ∷ m) (suc i) v zero = inl refl
stored (x ∷ m) (suc i) v (suc e) = ⊎_elim (λ l. inl l) (λ r. inr (ap suc r.0, r.1)) (stored m i v e)

-- ---- one arc

pull_size : (a : Arc) (m : List ℕ) → length (pull a m) ≡ length m
unfolding pull
pull_size a m = length-set m a.to _

pull_up : (a : Arc) (m : List ℕ) → m ⊑ pull a m
unfolding pull
pull_up a m e = go (stored m a.to (due a m) e)
  where
    go : (get_or (pull a m) e 0 ≡ get_or m e 0) ⊎ ((e ≡ a.to) × (get_or (pull a m) e 0 ≡ due a m)) → get_or m e 0 ≤ get_or (pull a m) e 0
    go (inl p) = omega arith
    go (inr p) = omega (arith, ap (λ k. get_or m k 0) p.0)

pull_below : (a : Arc) (m m' : List ℕ) → KeepsArc m' a → m ⊑ m' → pull a m ⊑ m'
unfolding pull
pull_below a m m' k h e = go (stored m a.to (due a m) e)
  where
    go : (get_or (pull a m) e 0 ≡ get_or m e 0) ⊎ ((e ≡ a.to) × (get_or (pull a m) e 0 ≡ due a m)) → get_or (pull a m) e 0 ≤ get_or m' e 0
    go (inl p) = omega (arith, h e)
    go (inr p) = omega (arith, h a.to, h a.from, ap (λ n. get_or m' n 0) p.0)

pull_rests : (a : Arc) (m : List ℕ) → a.to < length m → pull a m ⊑ m → KeepsArc m a
unfolding pull
pull_rests a m l h = omega (arith, h a.to, get_or-set_same m a.to (due a m) 0 l)

-- ---- a round

round_size : (rs : List Arc) (m : List ℕ) → length (pull_all rs m) ≡ length m
unfolding pull_all
round_size [] m = refl
round_size (a ∷ rs) m = round_size rs (pull a m) ∙ pull_size a m

round_up : (rs : List Arc) (m : List ℕ) → m ⊑ pull_all rs m
unfolding pull_all
round_up [] m = ⊑_refl m
round_up (a ∷ rs) m = ⊑_trans m (pull a m) (pull_all rs (pull a m)) (pull_up a m) (round_up rs (pull a m))

round_below : (rs : List Arc) (m m' : List ℕ) → KeepsArcs rs m' → m ⊑ m' → pull_all rs m ⊑ m'
unfolding pull_all
round_below [] m m' k h = h
round_below (a ∷ rs) m m' k h = round_below rs (pull a m) m' k.1 (pull_below a m m' k.0 h)

round_rests : (rs : List Arc) (m : List ℕ) → AllIn rs (length m) → pull_all rs m ⊑ m → KeepsArcs rs m
unfolding pull_all
round_rests [] m n h = tt
round_rests (a ∷ rs) m n h =
    let low : pull a m ⊑ m = ⊑_trans (pull a m) (pull_all rs (pull a m)) m (round_up rs (pull a m)) h in
    let same : pull a m ≡ m = ext_get_or 0 (pull a m) m (pull_size a m) (λ e _. omega (arith, low e, pull_up a m e)) in
    (pull_rests a m n.0 low, round_rests rs m n.1 (rw same at h))

-- what comes to arcs can be settled by rounds over them
pub arcs_raise :
    (n : ℕ) (Keeps : List ℕ → Type 0) (rs : List Arc) → AllIn rs n →
    ((m : List ℕ) → Fit n m → Keeps m → KeepsArcs rs m) → ((m : List ℕ) → Fit n m → KeepsArcs rs m → Keeps m) → RoundRaises n Keeps (pull_all rs)
arcs_raise n Keeps rs ends out back =
    record {
      up = round_up rs;
      size = round_size rs;
      below = λ m m' z f k h. round_below rs m m' (out m' f k) h;
      rests = λ m z e. back m z (round_rests rs m (rw z.size ends) (λ j. omega (arith, ap (λ (l : List ℕ). get_or l j 0) e)));
    }
