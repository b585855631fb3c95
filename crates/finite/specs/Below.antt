-- What a loop over the numbers below n finds: the first at which a test holds, whether it holds at all of them, at how many, a sum, and
-- the greatest.
use Rattle.std.specs.Prelude.{ℕ, zero, suc, ◌+◌, ◌≤◌, ◌<◌, max, ◌≡◌, Bool, true, false, cond, ◌&&◌, List, [], ◌∷◌, ◌++◌}
use Rattle.std.proofs.Math.Option.{Option, some, none}

-- `P` at every number below n
abbrev pub EachBelow : ℕ → (ℕ → Type 0) → Type 0
EachBelow n P = (i : ℕ) → i < n → P i

-- `P` at each of the k numbers from j on
abbrev pub EachFrom : ℕ → ℕ → (ℕ → Type 0) → Type 0
EachFrom k j P = (i : ℕ) → j ≤ i → i < j + k → P i

abbrev pub or_else : {A : Type 0} → Option A → Option A → Option A
or_else none p = p
or_else (some i) p = some i

-- the first number below n at which the test holds
unfoldable pub first : (ℕ → Bool) → ℕ → Option ℕ
first f zero = none
first f (suc n) = or_else (first f n) (cond (f n) (some n) none)

-- what the numbers below n give, in order
unfoldable pub gather : {A : Type 0} → (ℕ → List A) → ℕ → List A
gather f zero = []
gather f (suc n) = gather f n ++ f n

-- the list of f at the numbers below n
unfoldable pub table : (ℕ → ℕ) → ℕ → List ℕ
table f zero = []
table f (suc n) = f 0 ∷ table (λ e. f (suc e)) n

-- the test holds at every number below n
unfoldable pub all : (ℕ → Bool) → ℕ → Bool
all f zero = true
all f (suc n) = all f n && f n

-- at how many numbers below n the test holds
unfoldable pub count : (ℕ → Bool) → ℕ → ℕ
count f zero = 0
count f (suc n) = count f n + cond (f n) 1 0

-- the sum of what is below n
unfoldable pub sum : (ℕ → ℕ) → ℕ → ℕ
sum f zero = 0
sum f (suc n) = sum f n + f n

-- the greatest of what is below n, or 0
unfoldable pub most : (ℕ → ℕ) → ℕ → ℕ
most f zero = 0
most f (suc n) = max (most f n) (f n)

-- what an answer of `first` says
abbrev pub IsFirst : (ℕ → Bool) → ℕ → Option ℕ → Type 0
IsFirst f n none = EachBelow n (λ j. f j ≡ false)
IsFirst f n (some i) = (i < n) × (f i ≡ true) × EachBelow i (λ j. f j ≡ false)
