-- The four laws of marks: a set has what was added, keeps what it had and has nothing else; the empty set has nothing. All else is proved by these, but
-- for what raising reads: the row of a mark and the size of a plan.
use Rattle.std.specs.Prelude.{ℕ, zero, suc, ◌<◌, ◌≡◌, refl, ◌⊎◌, true, length, get_or, replicate}
use Rattle.std.proofs.Common.{sym, ◌∙◌, ap, inl, inr, ⊎_elim, arith, length-set, eqb-true, eq-eqb}
use Rattle.std.proofs.Math.Decide.{ℕ_discrete}
use Rattle.std.proofs.lemmas.List.{length-replicate}
use Rattle.line.specs.declared.Line.{Line}
use Rattle.line.specs.Runnable.{Runnable}
use Rattle.orders.specs.Plan.Bits.{bit, in_mask, with_bit, change}
use Rattle.orders.specs.Plan.BitsLaws.{bit_zero, bit_here, bit_other, change-set, change_cases}
use Rattle.orders.specs.Plan.Choices.{Choice, on_segment, at_station, Of}
use Rattle.orders.specs.Plan.Marks.{Plan, row, second, Placed, free, also, marked}

-- a list of zeros has no other entry
pub zeros : (n e : ℕ) → get_or {A = ℕ} (replicate n 0) e 0 ≡ 0
zeros zero e = refl
zeros (suc n) zero = refl
zeros (suc n) (suc e) = zeros n e

pub free-marked : (c : Choice) → marked free c ≡ true → ⊥
unfolding free marked
free-marked c t =
    let e : bit (second c) (get_or (replicate 368 0) (row c) 0) ≡ 1 = eqb-true _ _ t in
    omega (arith, rw (zeros 368 (row c)) at e, bit_zero (second c))

pub also_here : (c : Choice) (p : Plan) → marked (also c p) c ≡ true
unfolding also marked
also_here c p =
    eq-eqb _ _ (⊎_elim
    (λ h. absurd (h.0 refl))
    (λ h. ap (bit (second c)) h.1 ∙ bit_here (second c) (get_or p (row c) 0))
    (change_cases (with_bit (second c)) (row c) p (row c)))

pub of_placed : (l : Line) → Runnable l → (c : Choice) → Of l c → Placed c
of_placed l w (on_segment p i j) o = (omega (arith, w.stations.1, o.0), omega (arith, w.trains.1, o.1))
of_placed l w (at_station s a b) o = (omega (arith, w.stations.1, o.0), omega (arith, w.trains.1, o.1))

-- another choice has another row or another second train
apart : (c d : Choice) → Placed c → Placed d → row d ≡ row c → second d ≡ second c → d ≡ c
apart (on_segment p i j) (on_segment p' i' j') a b e f =
    let x : p' ≡ p = omega (arith, a.1, b.1) in
    let y : i' ≡ i = omega (arith, a.1, b.1) in
    cc
apart (on_segment p i j) (at_station s x y) a b e f = absurd (omega (arith, a.0, a.1))
apart (at_station s x y) (on_segment p i j) a b e f = absurd (omega (arith, b.0, b.1))
apart (at_station s x y) (at_station s' x' y') a b e f =
    let z : s' ≡ s = omega (arith, a.1, b.1) in
    let v : x' ≡ x = omega (arith, a.1, b.1) in
    cc

-- what a mark says after another choice was added: nothing has changed, or it is the mark of that choice
also_cases : (c d : Choice) (p : Plan) → (marked (also c p) d ≡ marked p d) ⊎ ((row d ≡ row c) × (second d ≡ second c))
unfolding also marked
also_cases c d p =
    ⊎_elim (λ h. inl (rw h.1)) (λ h. here (ℕ_discrete (second d) (second c)) h.0 h.1)
    (change_cases (with_bit (second c)) (row c) p (row d))
  where
    here : Dec (second d ≡ second c) → row d ≡ row c → get_or (change (with_bit (second c)) (row c) p) (row d) 0 ≡ with_bit (second c) (get_or p (row d) 0) →
        (marked (also c p) d ≡ marked p d) ⊎ ((row d ≡ row c) × (second d ≡ second c))
    here (yes e) q h = inr (q, e)
    here (no n) q h = inl (rw (h, bit_other (second c) (second d) (get_or p (row d) 0) n))

pub also_placed : (c d : Choice) (p : Plan) → Placed c → Placed d → marked (also c p) d ≡ true → (d ≡ c) ⊎ (marked p d ≡ true)
also_placed c d p a b t = ⊎_elim (λ h. inr (sym h ∙ t)) (λ h. inl (apart c d a b h.0 h.1)) (also_cases c d p)

pub also_only : (l : Line) → Runnable l → (c d : Choice) (p : Plan) → Of l c → Of l d → marked (also c p) d ≡ true → (d ≡ c) ⊎ (marked p d ≡ true)
also_only l w c d p a b t = also_placed c d p (of_placed l w c a) (of_placed l w d b) t

pub also_stays : (c d : Choice) (p : Plan) → marked p d ≡ true → marked (also c p) d ≡ true
unfolding also marked
also_stays c d p t = ⊎_elim (λ h. h ∙ t) (λ h. same_mark h.0 h.1) (also_cases c d p)
  where
    same_mark : row d ≡ row c → second d ≡ second c → marked (also c p) d ≡ true
    same_mark q e = rw (q, e) (also_here c p)

-- a mark as raising reads it
pub marked_row : (q : Plan) (c : Choice) (x j : ℕ) → row c ≡ x → second c ≡ j → in_mask (get_or q x 0) j ≡ marked q c
unfolding marked
marked_row q c x j e f = rw (← e, ← f) refl

-- ---- the size of a plan

pub free_size : length free ≡ 368
unfolding free
free_size = length-replicate {A = ℕ} 368 0

pub row_below : (c : Choice) → Placed c → row c < 368
row_below (on_segment p i j) o = omega (arith, o.0, o.1)
row_below (at_station s a b) o = omega (arith, o.0, o.1)

pub also_size : (c : Choice) (p : Plan) → Placed c → length p ≡ 368 → length (also c p) ≡ 368
unfolding also
also_size c p o e = ap length (change-set (with_bit (second c)) (row c) p (omega (arith, row_below c o))) ∙ length-set p (row c) _ ∙ e
