-- Laws of tests that decide statements: how tests of parts make a test of the whole.
use Rattle.std.specs.Prelude.{ℕ, ◌≤◌, ◌<◌, ◌≡◌, refl, ◌⊎◌, Bool, true, false, not, ◌&&◌, ◌||◌, ltb, leb, eqb}
use Rattle.std.proofs.Common.{sym, ◌∙◌, inl, inr, ⊎_elim, true≢false, ltb-true, ltb-false, leb-true, leb-false, eqb-true, arith}
use Rattle.std.proofs.lemmas.Bool.{false≢true, eqb-false}
use Rattle.finite.specs.Decide.{Decides}

-- one case for each answer, with the statement or its refusal
pub by_test : {P : Type 0} {b : Bool} {Q : Type 0} → Decides P b → (P → Q) → ((P → ⊥) → Q) → Q
by_test {P} {b} {Q} d f g =
    (elim b as (λ c. b ≡ c → Q) [ true ↦ λ e. f (d.yea e) | false ↦ λ e. g (d.nay e) ]) refl

pub is_true : {P : Type 0} {b : Bool} → Decides P b → P → b ≡ true
is_true {P} {b} d p =
    (elim b as (λ c. b ≡ c → b ≡ true) [ true ↦ λ e. e | false ↦ λ e. absurd (d.nay e p) ]) refl

pub is_false : {P : Type 0} {b : Bool} → Decides P b → (P → ⊥) → b ≡ false
is_false {P} {b} d p =
    (elim b as (λ c. b ≡ c → b ≡ false) [ true ↦ λ e. absurd (p (d.yea e)) | false ↦ λ e. e ]) refl

-- the same test decides what says the same
pub decides_as : {P Q : Type 0} {b : Bool} → (P → Q) → (Q → P) → Decides P b → Decides Q b
decides_as f g d = record { yea = λ e. f (d.yea e); nay = λ e q. d.nay e (g q) }

pub decides_lt : (a b : ℕ) → Decides (a < b) (ltb a b)
decides_lt a b = record { yea = ltb-true a b; nay = λ e h. omega (arith, ltb-false a b e) }

pub decides_le : (a b : ℕ) → Decides (a ≤ b) (leb a b)
decides_le a b = record { yea = leb-true a b; nay = λ e h. omega (arith, leb-false a b e) }

pub decides_eq : (a b : ℕ) → Decides (a ≡ b) (eqb a b)
decides_eq a b = record { yea = eqb-true a b; nay = eqb-false a b }

pub decides_self : (b : Bool) → Decides (b ≡ true) b
decides_self b = record { yea = λ e. e; nay = λ e h. true≢false (sym h ∙ e) }

-- the second statement is decided only where the first holds
pub decides_then : {P Q : Type 0} {a b : Bool} → Decides P a → (P → Decides Q b) → Decides (P × Q) (a && b)
decides_then {P} {Q} {a} {b} p q = go a p q
  where
    go : (a : Bool) → Decides P a → (P → Decides Q b) → Decides (P × Q) (a && b)
    go true p q = let d = q (p.yea refl) in record { yea = λ e. (p.yea refl, d.yea e); nay = λ e h. d.nay e h.1 }
    go false p q = record { yea = λ e. absurd (false≢true e); nay = λ e h. p.nay refl h.0 }

pub decides_and : {P Q : Type 0} {a b : Bool} → Decides P a → Decides Q b → Decides (P × Q) (a && b)
decides_and p q = decides_then p (λ _. q)

pub decides_or : {P Q : Type 0} {a b : Bool} → Decides P a → Decides Q b → Decides (P ⊎ Q) (a || b)
decides_or {P} {Q} {a} {b} p q = go a b p q
  where
    go : (a b : Bool) → Decides P a → Decides Q b → Decides (P ⊎ Q) (a || b)
    go true true p q = record { yea = λ e. inl (p.yea refl); nay = λ e h. true≢false e }
    go true false p q = record { yea = λ e. inl (p.yea refl); nay = λ e h. true≢false e }
    go false true p q = record { yea = λ e. inr (q.yea refl); nay = λ e h. true≢false e }
    go false false p q = record { yea = λ e. absurd (false≢true e); nay = λ e h. ⊎_elim (p.nay refl) (q.nay refl) h }

pub decides_not : {P : Type 0} {a : Bool} → Decides P a → Decides (P → ⊥) (not a)
decides_not {P} {a} p = go a p
  where
    go : (a : Bool) → Decides P a → Decides (P → ⊥) (not a)
    go true p = record { yea = λ e. absurd (false≢true e); nay = λ e h. h (p.yea refl) }
    go false p = record { yea = λ e. p.nay refl; nay = λ e h. true≢false e }

-- for the code: of two tests the first fails, or it holds and the second is asked
pub both_first : (a b r : Bool) → a ≡ false → r ≡ false → r ≡ a && b
both_first a b r e h = rw e h

pub both_second : (a b r : Bool) → a ≡ true → r ≡ b → r ≡ a && b
both_second a b r e h = rw e h
