-- There is one least at most, so that a function which ensures `IsLeast` has no other result. And where more is to be kept, the least at or above the former
-- least is the least of all.
use Rattle.std.specs.Prelude.{ℕ, ◌≡◌, List}
use Rattle.std.proofs.Common.{sym, ◌∙◌, arith, ext_get_or}
use Rattle.orders.specs.LeastMinutes.NoLaterLaws.{⊑_trans}
use Rattle.orders.specs.LeastMinutes.Least.{IsLeast, NoneKeeps}

pub least_one : (n : ℕ) (Keeps : List ℕ → Type 0) (s m m' : List ℕ) → IsLeast n Keeps s m → IsLeast n Keeps s m' → m ≡ m'
least_one n Keeps s m m' h k =
    ext_get_or 0 m m' (h.fit.size ∙ sym k.fit.size)
    (λ e _. omega (arith, h.first m' k.fit k.keeps k.above e, k.first m h.fit h.keeps h.above e))

-- what is kept may be said in other words
pub least-alike : (n : ℕ) (Keeps Keeps' : List ℕ → Type 0) → ((x : List ℕ) → Keeps x → Keeps' x) → ((x : List ℕ) → Keeps' x → Keeps x) →
    (s m : List ℕ) → IsLeast n Keeps s m → IsLeast n Keeps' s m
least-alike n Keeps Keeps' to from s m h =
    record { fit = h.fit; keeps = to m h.keeps; above = h.above; first = λ x z k up. h.first x z (from x k) up }

-- `More` asks for all that `Keeps` asks for, and m is the least at or above s that keeps `Keeps`
module _ (n : ℕ) (Keeps More : List ℕ → Type 0) (rest : (x : List ℕ) → More x → Keeps x) (s m : List ℕ) (h : IsLeast n Keeps s m) where
  pub least_afresh : (m' : List ℕ) → IsLeast n More m m' → IsLeast n More s m'
  least_afresh m' k =
      record {
        fit = k.fit;
        keeps = k.keeps;
        above = ⊑_trans s m m' h.above k.above;
        first = λ x z y up. k.first x z y (h.first x z (rest x y) up);
      }

  -- and the least of all is the least at or above it
  pub least_onward : (m' : List ℕ) → IsLeast n More s m' → IsLeast n More m m'
  least_onward m' k =
      record {
        fit = k.fit;
        keeps = k.keeps;
        above = h.first m' k.fit (rest m' k.keeps) k.above;
        first = λ x z y up. k.first x z y (⊑_trans s m x h.above up);
      }

  pub none_afresh : NoneKeeps n More m → NoneKeeps n More s
  none_afresh k x z y up = k x z y (h.first x z (rest x y) up)
