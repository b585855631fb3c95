-- Laws of an array that begins with the elements of a list: its length, its first entries, one more of them, and what holds of each entry.
use Rattle.std.specs.Prelude.{ℕ, zero, suc, ◌+◌, ◌≤◌, ◌<◌, ◌≡◌, List, [], ◌∷◌, ◌++◌, map, length, set, replicate, take, drop}
use Rattle.std.proofs.Common.{sym, ap, ◌∙◌, add-one, arith, take-suc-set}
use Rattle.std.proofs.lemmas.List.{map-append, length-replicate}
use Rattle.std.proofs.lemmas.List.Edits.{sets, sets-eq}
use Rattle.std.proofs.Math.Seq.{length-sets, take-append_seam}
use Rattle.finite.specs.Each.{Each}
use Rattle.finite.specs.Alter.{altered}
use Rattle.finite.specs.AlterLaws.{altered-length, altered_front}
use Rattle.text.specs.Elements.Padded.{padded}

-- its first entries are ys
pub take-padded : {A : Type 0} (n : ℕ) (z : A) (ys : List A) → length ys ≤ n → take (length ys) (padded n z ys) ≡ ys
unfolding padded
take-padded n z ys h =
    let fits : 0 + length ys ≤ length (replicate n z) = rw length-replicate (omega arith) in
    ap (λ (l : List _). take (length ys) l) (sets-eq ys (replicate n z) 0 fits) ∙ take-append_seam ys (drop (0 + length ys) (replicate n z))

pub padded-length : {A : Type 0} (n : ℕ) (z : A) (ys : List A) → length (padded n z ys) ≡ n
unfolding padded
padded-length n z ys = length-sets (replicate n z) 0 ys ∙ length-replicate n z

-- one of its first entries altered, before or after it is laid into the array
pub padded-altered : {A : Type 0} (f : A → A) (n : ℕ) (z : A) (i : ℕ) (ys : List A) → i < length ys → length ys ≤ n →
    padded n z (altered f i ys) ≡ altered f i (padded n z ys)
unfolding padded
padded-altered f n z i ys h room =
    let size = altered-length f i ys in
    let fits : 0 + length ys ≤ length (replicate n z) = rw length-replicate (omega arith) in
    let fits' : 0 + length (altered f i ys) ≤ length (replicate n z) = rw length-replicate (omega (arith, size)) in
    sets-eq (altered f i ys) (replicate n z) 0 fits'
    ∙ ap (λ (k : ℕ). altered f i ys ++ drop (0 + k) (replicate n z)) size
    ∙ sym (altered_front f i ys (drop (0 + length ys) (replicate n z)) h)
    ∙ ap (altered f i) (sym (sets-eq ys (replicate n z) 0 fits))

-- one more entry stored at the end of the first k
pub stored_more : {A B : Type 0} (f : A → B) (at : List A) (k : ℕ) (x : A) → k < length at → map f (take (k + 1) (set at k x)) ≡ map f (take k at) ++ (f x ∷ [])
stored_more f at k x h = rw add-one (ap (map f) (take-suc-set at k x h) ∙ map-append f (take k at) (x ∷ []))

-- ---- what holds of the elements and of the entries beyond them holds of each entry

module _ {A : Type 0} (P : A → Type 0) where
  each_replicate : (n : ℕ) (z : A) → P z → Each P (replicate n z)
  each_replicate zero z p = tt
  each_replicate (suc n) z p = (p, each_replicate n z p)

  each_set : (xs : List A) (i : ℕ) (x : A) → P x → Each P xs → Each P (set xs i x)
  each_set [] i x p v = tt
  each_set (y ∷ ys) zero x p v = (p, v.1)
  each_set (y ∷ ys) (suc i) x p v = (v.0, each_set ys i x p v.1)

  each_sets : (vs xs : List A) (i : ℕ) → Each P vs → Each P xs → Each P (sets xs i vs)
  each_sets [] xs i a b = b
  each_sets (x ∷ vs) xs i a b = each_sets vs (set xs i x) (suc i) a.1 (each_set xs i x a.0 b)

  pub each_padded : (n : ℕ) (z : A) (ys : List A) → P z → Each P ys → Each P (padded n z ys)
  unfolding padded
  each_padded n z ys p v = each_sets ys (replicate n z) 0 v (each_replicate n z p)
