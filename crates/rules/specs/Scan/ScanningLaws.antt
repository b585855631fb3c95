-- Laws of what the scan collects of a station: its entries tell how many stand there. Assumes nothing.
use Rattle.std.specs.Prelude.{◌≡◌, ℕ, ◌+◌, ◌<◌, ◌≤◌, Bool, true, false, ◌&&◌, List, length, replicate, ◌≢◌, slice_index, slice_index_or, slice_set, refl, Option, Some, None}
use Rattle.std.proofs.Common.{◌∙◌, arith, length-set}
use Rattle.std.proofs.Math.Path.{ap}
use Rattle.std.proofs.Math.Decide.{ℕ_discrete}
use Rattle.std.proofs.lemmas.List.{get_or-replicate}
use Rattle.std.proofs.Math.Seq.{get_or-set_same, get_or-set_other}
use borrow.Author.Tests.{lt-ltb, le-ltb}
use Rattle.finite.specs.DecideLaws.{is_true, is_false, decides_and, decides_le}
use Rattle.finite.specs.Below.{count}
use Rattle.finite.specs.BelowLaws.{count_same, count_within}
use Rattle.rules.specs.declared.stations.Stay.{Stay}
use Rattle.rules.specs.declared.stations.Stays.{Stays}
use Rattle.rules.specs.Conflict.DirectionsLaws.{same_test}
use Rattle.rules.specs.Conflict.Conflicts.{came_to, passes, stay, stands_in, stands_at, standing_at}
use Rattle.rules.specs.Scan.Scanning.{stands_by, StaysOf}

module _ (came leaves : List ℕ) (t i : ℕ) where
  -- for the code: its tests of one entry
  pub stands_both : slice_index_or came i 0 ≤ t → t ≤ slice_index leaves i → stands_by came leaves t i ≡ true
  unfolding stands_by
  stands_both a b = is_true (decides_and (decides_le _ _) (decides_le _ _)) (a, b)

  pub stands-not : ((slice_index came i ≤ t) × (t ≤ slice_index leaves i) → ⊥) → stands_by came leaves t i ≡ false
  unfolding stands_by
  stands-not h = is_false (decides_and (decides_le (slice_index came i) t) (decides_le t (slice_index leaves i))) (λ q. h (q.0, q.1))

-- two stays that are the same, and nothing is none
came_of : (x y : Stay) → Some x ≡ Some y → x.came ≡ y.came
came_of x y e = ap (λ (z : Option Stay). came_in z) e
  where
    came_in : Option Stay → ℕ
    came_in None = 0
    came_in (Some z) = z.came

no_stay : (x : Stay) → ◌≡◌ {A = Option Stay} None (Some x) → ⊥
no_stay x e = let z : ◌≡◌ {A = ℕ} 0 1 = cc in omega arith

module _ (ds m : List ℕ) (s : ℕ) where
  -- no train yet: each leaves before it comes
  pub stays_start : StaysOf ds m 0 s (record { came = replicate 16 65535; leaves = replicate 16 0 })
  stays_start = record {
    came_size = refl;
    leaves_size = refl;
    stands = λ t i l. rw (le-ltb i 0 (omega arith)) (stands-not (replicate 16 65535) (replicate 16 0) t i
        (λ h. omega (arith, h.0, h.1, get_or-replicate {A = ℕ} 16 i 65535 0 l, get_or-replicate {A = ℕ} 16 i 0 0 l)));
    comes = λ i l. absurd (omega arith);
  }

  -- one train more: its entry is right, and the others are as they were
  module _ (i : ℕ) (x : Stays) (h : StaysOf ds m i s x) (l : i < 16) where
    stays_more : (y : Stays) → length y.came ≡ 16 → length y.leaves ≡ 16 →
        ((j : ℕ) → (j ≢ i) → (slice_index y.came j ≡ slice_index x.came j) × (slice_index y.leaves j ≡ slice_index x.leaves j)) →
        ((t : ℕ) → stands_by y.came y.leaves t i ≡ stands_at ds m s t i) →
        (passes ds s i ≡ true → slice_index y.came i ≡ came_to ds m s i) →
        StaysOf ds m (i + 1) s y
    unfolding stands_by
    stays_more y a b others here arrives = record {
      came_size = a;
      leaves_size = b;
      stands = λ t j k. elim (ℕ_discrete j i) [
        | yes e ↦ rw (e, lt-ltb i (i + 1) (omega arith)) (here t)
        | no e ↦ rw ((others j e).0, (others j e).1)
            (h.stands t j k ∙ ap (λ (b : Bool). b && stands_at ds m s t j) (same_test j i (i + 1) (omega arith) (omega arith)))
      ];
      comes = λ j k p. elim (ℕ_discrete j i) [
        | yes e ↦ rw e (arrives (rw e at p))
        | no e ↦ (others j e).0 ∙ h.comes j (omega arith) p
      ];
    }

    -- it does not stop there
    pub stays_out : None ≡ stay ds m s i → StaysOf ds m (i + 1) s x
    unfolding stands_in
    stays_out told =
        stays_more x h.came_size h.leaves_size (λ j k. (refl, refl))
        (λ t. h.stands t i l ∙ rw (le-ltb i i (omega arith)) (ap (λ (z : Option Stay). stands_in z t) told))
        (λ r. absurd (no_stay _ (rw r at told)))

    -- it does
    pub stays_in : (y : Stay) → Some y ≡ stay ds m s i →
        StaysOf ds m (i + 1) s (record { came = slice_set x.came i y.came; leaves = slice_set x.leaves i y.leaves })
    unfolding stands_in stands_by
    stays_in y told =
        let c = get_or-set_same x.came i y.came 0 (omega (arith, h.came_size)) in
        let v = get_or-set_same x.leaves i y.leaves 0 (omega (arith, h.leaves_size)) in
        stays_more (record { came = slice_set x.came i y.came; leaves = slice_set x.leaves i y.leaves })
        (length-set x.came i y.came ∙ h.came_size)
        (length-set x.leaves i y.leaves ∙ h.leaves_size)
        (λ j k. (get_or-set_other x.came i j y.came 0 k, get_or-set_other x.leaves i j y.leaves 0 k))
        (λ t. rw (c, v) (ap (λ (z : Option Stay). stands_in z t) told))
        (λ r. c ∙ came_of y _ (rw r at told))

-- so many stand there as the entries tell
pub standing_of : (ds m : List ℕ) (n s : ℕ) (x : Stays) → StaysOf ds m n s x → n ≤ 16 → (t k : ℕ) → k ≡ count (stands_by x.came x.leaves t) 16 →
    k ≡ standing_at ds m n s t
unfolding standing_at
standing_of ds m n s x h b t k e = e ∙ count_same _ _ 16 (h.stands t) ∙ count_within (stands_at ds m s t) n 16 b
