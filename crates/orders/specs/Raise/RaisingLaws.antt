-- Laws of raising over arcs, for any graph: raisings one after the other come to one raising, and what is to do can be found done.
use Rattle.std.specs.Prelude.{ℕ, ◌≤◌, ◌<◌, ◌≡◌, refl, ◌⊎◌, List, get_or}
use Rattle.std.proofs.Common.{◌∙◌, arith}
use Rattle.std.proofs.Math.Logic.{inl, inr, ⊎_elim}
use Rattle.std.proofs.Math.Decide.{dec_lt}
use Rattle.orders.specs.LeastMinutes.NoLater.{◌⊑◌, WithinDays}
use Rattle.orders.specs.Raise.Raising.{Graph, Kept, Nothing, Grown, Solves, Clear, AllReached, Raised, NoneFor}

pub le_or_lt : (a b : ℕ) → (a ≤ b) ⊎ (b < a)
le_or_lt a b = elim (dec_lt b a) [ yes l ↦ inr l | no l ↦ inl (omega arith) ]

pub done : {A : Type 0} → A ⊎ ⊥ → A
done (inl a) = a
done (inr n) = absurd n

-- ---- minutes that rose

-- two raisings, one after the other: what the first leaves to do is due to the second
grown_then : (G : Graph) (D T T' : G.Arc → Type 0) (m n n' : List ℕ) → Grown G D T m n → Grown G T T' n n' → Grown G D T' m n'
grown_then G D T T' m n n' g h =
    record {
      size = h.size ∙ g.size;
      up = λ x. omega (arith, g.up x, h.up x);
      within = h.within;
      due = λ a u d. pass a u (g.due a u d);
      stays = λ a u k. pass a u (g.stays a u k);
      rose = λ a u l. ⊎_elim
          (λ q. pass a u (g.rose a u (omega (arith, h.up (G.from a)))))
          (λ q. h.rose a u q)
          (le_or_lt (get_or n' (G.from a) 0) (get_or n (G.from a) 0));
    }
  where
    pass : (a : G.Arc) → G.Used a → Kept G n a ⊎ T a → Kept G n' a ⊎ T' a
    pass a u (inl k) = h.stays a u k
    pass a u (inr t) = h.due a u t

-- T may be due to a raising that leaves T₂ to do, where each arc of T is kept after it or in T', and T' has all of T₂
grown_onto : (G : Graph) (D T T₂ T' : G.Arc → Type 0) (m n : List ℕ) → Grown G D T₂ m n →
    ((a : G.Arc) → G.Used a → T a → Kept G n a ⊎ T' a) → ((a : G.Arc) → T₂ a → T' a) → Grown G T T' m n
grown_onto G D T T₂ T' m n g f more =
    record {
      size = g.size;
      up = g.up;
      within = g.within;
      due = f;
      stays = λ a u k. pass a (g.stays a u k);
      rose = λ a u l. pass a (g.rose a u l);
    }
  where
    pass : (a : G.Arc) → Kept G n a ⊎ T₂ a → Kept G n a ⊎ T' a
    pass a (inl k) = inl k
    pass a (inr t) = inr (more a t)

-- what is to do is kept already, or part of less
grown_skip : (G : Graph) (T T' : G.Arc → Type 0) (m : List ℕ) → WithinDays m →
    ((a : G.Arc) → G.Used a → T a → Kept G m a ⊎ T' a) → Grown G T T' m m
grown_skip G T T' m w f =
    record {
      size = refl;
      up = λ x. omega arith;
      within = w;
      due = f;
      stays = λ a u k. inl k;
      rose = λ a u l. absurd (omega arith);
    }

-- ---- and that are first

pub first_below : (G : Graph) (src : ℕ) (m n y : List ℕ) → Solves G src m y → AllReached src m n y → n ⊑ y
unfolding AllReached
first_below G src m n y s f x = ⊎_elim (λ w. omega (arith, s.above x)) (λ w. omega (arith, s.above src)) (f x)

first_more : (src : ℕ) (m n n' y : List ℕ) → get_or n src 0 ≡ get_or m src 0 → AllReached src m n y → AllReached src n n' y → AllReached src m n' y
unfolding AllReached
first_more src m n n' y q f g x = ⊎_elim (λ w. ⊎_elim (λ z. inl (w ∙ z)) (λ z. inr (omega arith)) (f x)) (λ w. inr (omega arith)) (g x)

pub raised_start : (G : Graph) (src : ℕ) (H : List ℕ → Type 0) (T : G.Arc → Type 0) (m : List ℕ) → WithinDays m → Raised G src H T T m m
unfolding AllReached
raised_start G src H T m w = record { grown = grown_skip G T T m w (λ a u t. inr t); source = refl; first = λ y s h x. inl refl }

module _ (G : Graph) (src : ℕ) (H : List ℕ → Type 0) (D T : G.Arc → Type 0) (m n : List ℕ) (p : Raised G src H D T m n) where
  -- the solutions from here on are those from before
  pub solves_on : (y : List ℕ) → Solves G src m y → H y → Solves G src n y
  unfolding AllReached
  solves_on y s h =
      record {
        above = first_below G src m n y s (p.first y s h);
        keeps = s.keeps;
        near = λ a u. ⊎_elim
            (λ w. ⊎_elim
            (λ k. inl (omega (arith, p.grown.up (G.to a))))
            (λ k. inr (⊎_elim (λ q. inl (omega (arith, p.source))) (λ q. inr q) k))
            (s.near a u))
            (λ w. inr (inl (omega (arith, p.source))))
            (p.first y s h (G.from a));
      }

  -- what had not to be left for later has not to be left from here on
  pub clear_on : (D' : G.Arc → Type 0) (y : List ℕ) → Solves G src m y → H y → Clear G src D' m y → Clear G src D' n y
  unfolding AllReached
  clear_on D' y s h c a u d l =
      ⊎_elim (λ w. omega (arith, p.source, c a u d l)) (λ w. omega (arith, p.source)) (p.first y s h (G.from a))

  -- a raising follows that leaves T₂; what is to do then is T'
  pub raised_onto :
      (H' : List ℕ → Type 0) (D' T₂ T' : G.Arc → Type 0) (n' : List ℕ) → Raised G src H' D' T₂ n n' → ((y : List ℕ) → Solves G src m y → H y → H' y) →
      ((a : G.Arc) → G.Used a → T a → Kept G n' a ⊎ T' a) → ((a : G.Arc) → T₂ a → T' a) → Raised G src H D T' m n'
  raised_onto H' D' T₂ T' n' q f part more =
      record {
        grown = grown_then G D T T' m n n' p.grown (grown_onto G D' T T₂ T' n n' q.grown part more);
        source = q.source ∙ p.source;
        first = λ y s h. first_more src m n n' y p.source (p.first y s h) (q.first y (solves_on y s h) (f y s h));
      }

  -- a raising follows that does D' of what is to do and leaves nothing of its own
  pub raised_then :
      (H' : List ℕ → Type 0) (D' T' : G.Arc → Type 0) (n' : List ℕ) → ((a : G.Arc) → G.Used a → T a → D' a ⊎ T' a) →
      Raised G src H' D' (Nothing G) n n' → ((y : List ℕ) → Solves G src m y → H y → H' y) → Raised G src H D T' m n'
  raised_then H' D' T' n' part q f =
      raised_onto H' D' (Nothing G) T' n' q f
      (λ a u t. ⊎_elim (λ d. inl (done (q.grown.due a u d))) (λ r. inr r) (part a u t)) (λ a t. absurd t)

  pub raised_skip : (T' : G.Arc → Type 0) → ((a : G.Arc) → G.Used a → T a → Kept G n a ⊎ T' a) → Raised G src H D T' m n
  raised_skip T' f =
      record {
        grown = grown_then G D T T' m n n p.grown (grown_skip G T T' n p.grown.within f);
        source = p.source;
        first = p.first;
      }

  pub none_then :
      (InTime : List ℕ → Type 0) (cost : List ℕ → ℕ) (cut : ℕ) (H' : List ℕ → Type 0) (n' : List ℕ) →
      NoneFor G InTime cost cut src H' n n' → ((y : List ℕ) → Solves G src m y → H y → H' y) → NoneFor G InTime cost cut src H m n'
  unfolding NoneFor
  none_then InTime cost cut H' n' q f y s h = q y (solves_on y s h) (f y s h)
