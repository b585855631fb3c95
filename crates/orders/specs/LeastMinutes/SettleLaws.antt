-- What raising comes to is the least minutes, or there are none: each round keeps below every solution, and where it rests the rules are kept.
use Prim.Native.Nat.{ℕ, zero, suc, ◌<◌}
use Rattle.std.specs.Prelude.{◌≡◌, Bool, List, [], ◌∷◌, length, leb, eqb}
use Rattle.std.proofs.Math.Path.{refl}
use Rattle.std.proofs.Common.{sym, ◌∙◌, ⊎_elim, arith, leb-true, le-leb, eqb-true, eq-eqb}
use Rattle.std.proofs.Math.Bool.{true, false, and-eq-true_iff, true≢false}
use Rattle.orders.specs.LeastMinutes.NoLater.{◌⊑◌, WithinDays, slack}
use Rattle.orders.specs.LeastMinutes.NoLaterLaws.{⊑_refl, ⊑_trans, slack_falls}
use Rattle.orders.specs.LeastMinutes.Least.{Least, minutes, none, Fit, IsLeast, NoneKeeps}
use Rattle.orders.specs.LeastMinutes.Settle.{within_days, same, next, settle}

-- ---- the two tests

pub within_true : (m : List ℕ) → within_days m ≡ true → WithinDays m
unfolding within_days
within_true [] t e = omega arith
within_true (x ∷ xs) t zero = leb-true x 2879 ((and-eq-true_iff (leb x 2879) (within_days xs)).0 t).0
within_true (x ∷ xs) t (suc e) = within_true xs ((and-eq-true_iff (leb x 2879) (within_days xs)).0 t).1 e

true_within : (m : List ℕ) → WithinDays m → within_days m ≡ true
unfolding within_days
true_within [] h = refl
true_within (x ∷ xs) h = (and-eq-true_iff (leb x 2879) (within_days xs)).1 (le-leb x 2879 (h 0), true_within xs (λ e. h (suc e)))

same_true : (a b : List ℕ) → same a b ≡ true → a ≡ b
unfolding same
same_true [] [] t = refl
same_true [] (y ∷ ys) t = cc
same_true (x ∷ xs) [] t = cc
same_true (x ∷ xs) (y ∷ ys) t =
    let (p, q) = (and-eq-true_iff (eqb x y) (same xs ys)).0 t in
    cc (eqb-true x y p, same_true xs ys q)

true_same : (a : List ℕ) → same a a ≡ true
unfolding same
true_same [] = refl
true_same (x ∷ xs) = (and-eq-true_iff (eqb x x) (same xs xs)).1 (eq-eqb x x refl, true_same xs)

-- ---- rounds

-- what is asked of a round
pub record RoundRaises (n : ℕ) (Keeps : List ℕ → Type 0) (raise : List ℕ → List ℕ) : Type 0 where
  pub up : (m : List ℕ) → m ⊑ raise m
  pub size : (m : List ℕ) → length (raise m) ≡ length m
  -- it does not pass minutes that keep the rules
  pub below : (m m' : List ℕ) → Fit n m → Fit n m' → Keeps m' → m ⊑ m' → raise m ⊑ m'
  -- where it changes nothing, the rules are kept
  pub rests : (m : List ℕ) → Fit n m → m ≡ raise m → Keeps m

-- what a result is to be
abbrev Settled : ℕ → (List ℕ → Type 0) → List ℕ → Least → Type 0
Settled n Keeps s (minutes m) = IsLeast n Keeps s m
Settled n Keeps s none = NoneKeeps n Keeps s

module _ (n : ℕ) (Keeps : List ℕ → Type 0) (raise : List ℕ → List ℕ) (R : RoundRaises n Keeps raise) where
  -- one round earlier
  earlier : (m : List ℕ) → Fit n m → (x : Least) → Settled n Keeps (raise m) x → Settled n Keeps m x
  earlier m z (minutes r) i =
      record {
        fit = i.fit;
        keeps = i.keeps;
        above = ⊑_trans m (raise m) r (R.up m) i.above;
        first = λ m' f k h. i.first m' f k (R.below m m' z f k h);
      }
  earlier m z none i = λ m' f k h. i m' f k (R.below m m' z f k h)

  -- a round that changes something lowers the slack
  falls : (m : List ℕ) → WithinDays (raise m) → (m ≡ raise m → ⊥) → slack (raise m) < slack m
  falls m w d = ⊎_elim (λ e. absurd (d e)) (λ l. l) (slack_falls m (raise m) (sym (R.size m)) (R.up m) w)

  next_right :
      (go : List ℕ → Least) (m : List ℕ) → Fit n m → (Fit n (raise m) → slack (raise m) < slack m → Settled n Keeps (raise m) (go (raise m))) →
      (c d : Bool) → same m (raise m) ≡ c → within_days (raise m) ≡ d → Settled n Keeps m (next go m (raise m) c d)
  unfolding next
  next_right go m z h true d e f = record { fit = z; keeps = R.rests m z (same_true m (raise m) e); above = ⊑_refl m; first = λ m' k l a. a }
  next_right go m z h false true e f =
      let w = within_true (raise m) f in
      let changed : (m ≡ raise m → ⊥) = λ q. true≢false (cc (true_same m)) in
      earlier m z (go (raise m)) (h (record { size = R.size m ∙ z.size; within = w }) (falls m w changed))
  next_right go m z h false false e f =
      λ m' k l a. true≢false (sym (true_within (raise m) (λ j. omega (arith, R.below m m' z k l a j, k.within j))) ∙ f)

  settle_right : (fuel : ℕ) (m : List ℕ) → Fit n m → slack m < fuel → Settled n Keeps m (settle raise fuel m)
  unfolding settle
  settle_right zero m z l = absurd (omega arith)
  settle_right (suc fuel) m z l =
      next_right (λ r. settle raise fuel r) m z (λ y k. settle_right fuel (raise m) y (omega arith)) (same m (raise m)) (within_days (raise m)) refl refl

  pub settle-least : (fuel : ℕ) (s m : List ℕ) → Fit n s → slack s < fuel → settle raise fuel s ≡ minutes m → IsLeast n Keeps s m
  settle-least fuel s m z l e = rw e at (settle_right fuel s z l)

  pub settle_none : (fuel : ℕ) (s : List ℕ) → Fit n s → slack s < fuel → settle raise fuel s ≡ none → NoneKeeps n Keeps s
  settle_none fuel s z l e = rw e at (settle_right fuel s z l)
