-- A table that is filled entry after entry: the first x of its n entries are there.
use Rattle.std.specs.Prelude.{ℕ, ◌+◌, ◌<◌, ◌≡◌, List, length, get_or, set, replicate}
use Rattle.std.proofs.Common.{sym, ◌∙◌, arith, length-set, ext_get_or, get_or-set_same, get_or-set_other}
use Rattle.std.proofs.Math.Decide.{ℕ_discrete}
use Rattle.std.proofs.lemmas.List.{length-replicate}
use Rattle.finite.specs.Below.{EachBelow, table}
use Rattle.finite.specs.BelowLaws.{table_at, table_size_lem}

pub record Begun (f : ℕ → ℕ) (n x : ℕ) (t : List ℕ) : Type 0 where
  pub size : length t ≡ n
  pub entries : EachBelow x (λ e. get_or t e 0 ≡ f e)

module _ (f : ℕ → ℕ) (n : ℕ) where
  pub begun_none : Begun f n 0 (replicate n 0)
  begun_none = record { size = length-replicate {A = ℕ} n 0; entries = λ e h. absurd (omega arith) }

  pub begun_more : (x v : ℕ) (t : List ℕ) → Begun f n x t → x < n → v ≡ f x → Begun f n (x + 1) (set t x v)
  begun_more x v t b h q =
      record {
        size = simp length-set b.size;
        entries = λ e k. elim (ℕ_discrete e x) [
          | yes s ↦ rw (s, get_or-set_same t x v 0 (omega (arith, b.size))) q
          | no s ↦ get_or-set_other t x e v 0 s ∙ b.entries e (omega arith)
        ];
      }

  pub begun_all : (x : ℕ) (t : List ℕ) → Begun f n x t → x ≡ n → t ≡ table f n
  begun_all x t b q =
      ext_get_or 0 t (table f n) (b.size ∙ sym (table_size_lem f n))
      (λ e h. b.entries e (omega (arith, b.size)) ∙ sym (table_at f n e (omega (arith, b.size))))
