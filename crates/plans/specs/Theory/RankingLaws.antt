-- Laws of the ranking: it is transitive and total, the test decides it, what is nowhere later is not ranked behind, and how a loop does the test.
use Rattle.std.specs.Prelude.{ℕ, zero, suc, ◌+◌, ◌≤◌, ◌<◌, ◌≡◌, Bool, true, false, cond, List, ◌∷◌, length, get_or, ltb, eqb}
use Rattle.std.proofs.Math.Path.{refl}
use Rattle.std.proofs.Common.{sym, ap, arith, ltb-true, ltb-false, eqb-true, eq-eqb, ne_eqb}
use Rattle.std.proofs.lemmas.Bool.{false≢true, eqb-false}
use Rattle.std.proofs.Math.Decide.{dec_le, dec_lt}
use Rattle.std.proofs.Math.ListN.{get_or-eq_default}
use Rattle.orders.specs.LeastMinutes.NoLater.{◌⊑◌}
use Rattle.plans.specs.Theory.Ranking.{Alike, Ahead, ahead_from, ahead}

-- what is nowhere later has nothing ahead of it
pub ahead-not-later : (a b : List ℕ) → a ⊑ b → Ahead b a → ⊥
ahead-not-later a b h p = omega (arith, h p.place)

pub ahead_trans : (a b c : List ℕ) → Ahead a b → Ahead b c → Ahead a c
ahead_trans a b c p q = go (dec_lt p.place q.place) (dec_lt q.place p.place)
  where
    at : (i : ℕ) → i ≤ p.place → i ≤ q.place → get_or a i 0 < get_or c i 0 → Ahead a c
    at i l k h = record { place = i; alike = λ j n. omega (arith, p.alike j (omega arith), q.alike j (omega arith)); less = h }

    go : Dec (p.place < q.place) → Dec (q.place < p.place) → Ahead a c
    go (yes l) d = at p.place (omega arith) (omega arith) (omega (arith, q.alike p.place l))
    go (no l) (yes k) = at q.place (omega arith) (omega arith) (omega (arith, p.alike q.place k))
    go (no l) (no k) =
        let same : p.place ≡ q.place = omega arith in
        at p.place (omega arith) (omega arith) (omega (arith, rw (← same) at q.less))

-- one place more
alike_next : (i : ℕ) (a b : List ℕ) → Alike i a b → get_or a i 0 ≡ get_or b i 0 → Alike (suc i) a b
alike_next i a b f e j l = go (dec_lt j i)
  where
    go : Dec (j < i) → get_or a j 0 ≡ get_or b j 0
    go (yes n) = f j n
    go (no n) =
        let same : j ≡ i = omega arith in
        rw same e

-- the deciding place lies past those where they agree
past : (i : ℕ) (a b : List ℕ) → Alike i a b → (p : Ahead a b) → i ≤ p.place
past i a b f p = elim (dec_le i p.place) [ yes h ↦ h | no h ↦ absurd (omega (arith, f p.place (omega arith))) ]

-- where neither is ahead of the other, they agree everywhere
pub ahead_total : (a b : List ℕ) → (Ahead a b → ⊥) → (Ahead b a → ⊥) → (e : ℕ) → get_or a e 0 ≡ get_or b e 0
ahead_total a b h k e = below (suc e) e (omega arith)
  where
    here : (i : ℕ) → Alike i a b → get_or a i 0 ≡ get_or b i 0
    here i f =
        let g : ¬ (get_or a i 0 < get_or b i 0) = λ n. h record { place = i; alike = f; less = n } in
        let l : ¬ (get_or b i 0 < get_or a i 0) = λ n. k record { place = i; alike = λ j r. sym (f j r); less = n } in
        omega arith

    below : (i : ℕ) → Alike i a b
    below zero = λ j l. absurd (omega arith)
    below (suc i) = alike_next i a b (below i) (here i (below i))

from_true : (n i : ℕ) (a b : List ℕ) → Alike i a b → ahead_from n i a b ≡ true → Ahead a b
unfolding ahead_from
from_true zero i a b f t = absurd (false≢true t)
from_true (suc n) i a b f t =
    let x = get_or a i 0 in
    let y = get_or b i 0 in
    (elim (eqb x y) as (λ c. eqb x y ≡ c → cond c (ahead_from n (suc i) a b) (ltb x y) ≡ true → Ahead a b) [
      | true ↦ λ e. from_true n (suc i) a b (alike_next i a b f (eqb-true _ _ e))
      | false ↦ λ e l. record { place = i; alike = f; less = ltb-true _ _ l }
    ]) refl t

-- `b` has the smaller entry at `i`, so `a` is not ahead of it by a place from `i` on
behind : (i : ℕ) (a b : List ℕ) → (get_or a i 0 ≡ get_or b i 0 → ⊥) → get_or b i 0 ≤ get_or a i 0 → (p : Ahead a b) → i ≤ p.place → ⊥
behind i a b e l p h = go (dec_lt i p.place)
  where
    go : Dec (i < p.place) → ⊥
    go (yes n) = e (p.alike i n)
    go (no n) =
        let same : p.place ≡ i = omega arith in
        omega (arith, rw same at p.less)

from_false : (n i : ℕ) (a b : List ℕ) → Alike i a b → length b ≤ i + n → ahead_from n i a b ≡ false → Ahead a b → ⊥
unfolding ahead_from
from_false zero i a b f l t p = omega (arith, past i a b f p, get_or-eq_default b 0 {n = p.place} (omega (arith, past i a b f p)))
from_false (suc n) i a b f l t p =
    let x = get_or a i 0 in
    let y = get_or b i 0 in
    (elim (eqb x y) as (λ c. eqb x y ≡ c → cond c (ahead_from n (suc i) a b) (ltb x y) ≡ false → ⊥) [
      | true ↦ λ e t'. from_false n (suc i) a b (alike_next i a b f (eqb-true _ _ e)) (omega arith) t' p
      | false ↦ λ e t'. behind i a b (eqb-false _ _ e) (ltb-false _ _ t') p (past i a b f p)
    ]) refl t

pub ahead_true : (a b : List ℕ) → ahead a b ≡ true → Ahead a b
unfolding ahead
ahead_true a b = from_true (length b) 0 a b (λ j l. absurd (omega arith))

pub ahead_false : (a b : List ℕ) → ahead a b ≡ false → Ahead a b → ⊥
unfolding ahead
ahead_false a b = from_false (length b) 0 a b (λ j l. absurd (omega arith)) (omega arith)

-- what is nowhere later than something ahead of `c` is ahead of `c` too
pub later-ahead : (a b c : List ℕ) → a ⊑ b → Ahead b c → Ahead a c
later-ahead a b c h p = go (ahead a c) refl (ahead c a) refl
  where
    go : (x : Bool) → ahead a c ≡ x → (y : Bool) → ahead c a ≡ y → Ahead a c
    go true s y t = ahead_true a c s
    go false s true t = absurd (ahead-not-later a b h (ahead_trans b c a p (ahead_true c a t)))
    go false s false t = absurd (ahead-not-later c b (λ e. omega (arith, h e, ahead_total a c (ahead_false a c s) (ahead_false c a t) e)) p)

-- ---- the test, entry by entry, as a loop goes on with it

module _ (n i : ℕ) (a b : List ℕ) where
  pub from_apart : (get_or a i 0 ≡ get_or b i 0 → ⊥) → ltb (get_or a i 0) (get_or b i 0) ≡ ahead_from (suc n) i a b
  unfolding ahead_from
  from_apart h = rw (ne_eqb (get_or a i 0) (get_or b i 0) h) refl

  pub from-alike : get_or a i 0 ≡ get_or b i 0 → ahead_from n (suc i) a b ≡ ahead_from (suc n) i a b
  unfolding ahead_from
  from-alike h = rw (eq-eqb (get_or a i 0) (get_or b i 0) h) refl

from_rest : (n i x y : ℕ) (a b : List ℕ) → ahead_from n (suc i) (x ∷ a) (y ∷ b) ≡ ahead_from n i a b
unfolding ahead_from
from_rest zero i x y a b = refl
from_rest (suc n) i x y a b =
    ap (λ (t : Bool). cond (eqb (get_or a i 0) (get_or b i 0)) t (ltb (get_or a i 0) (get_or b i 0))) (from_rest n (suc i) x y a b)

pub ahead-first : (n x y : ℕ) (a b : List ℕ) → length b ≡ n → cond (eqb x y) (ahead_from n 0 a b) (ltb x y) ≡ ahead (x ∷ a) (y ∷ b)
unfolding ahead_from ahead
ahead-first n x y a b e = rw (e, from_rest n 0 x y a b) refl
