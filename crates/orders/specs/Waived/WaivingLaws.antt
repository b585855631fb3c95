-- Latests waived one after the other: the first n of the trains are waived, and the others as they were.
use Rattle.std.specs.Prelude.{ℕ, ◌+◌, ◌≤◌, ◌<◌, ◌≡◌, refl, List, map, length, get_or, set}
use Rattle.std.proofs.Common.{sym, ◌∙◌, ap, arith, length-set, ext_get_or, get_or-set_same, get_or-set_other}
use Rattle.std.proofs.Math.Decide.{ℕ_discrete}
use Rattle.std.proofs.lemmas.List.{length-map}
use Rattle.finite.specs.Below.{EachBelow}
use Rattle.finite.specs.EachLaws.{map_at}
use Rattle.line.specs.declared.Train.{Train}
use Rattle.rules.specs.Statement.Paths.{past_train}
use Rattle.orders.specs.Waived.WaivedLine.{waived_train}

pub record WaivedFirst (n : ℕ) (ts us : List Train) : Type 0 where
  pub size : length us ≡ length ts
  pub first : EachBelow n (λ j. get_or us j past_train ≡ waived_train (get_or ts j past_train))
  pub rest : (j : ℕ) → n ≤ j → get_or us j past_train ≡ get_or ts j past_train

module _ (ts : List Train) where
  pub waived_none : WaivedFirst 0 ts ts
  waived_none = record { size = refl; first = λ j h. absurd (omega arith); rest = λ j h. refl }

  module _ (n : ℕ) (us : List Train) (w : WaivedFirst n ts us) where
    pub waived-more : (t : Train) → n < length ts → t ≡ waived_train (get_or us n past_train) → WaivedFirst (n + 1) ts (set us n t)
    waived-more t h q =
        record {
          size = length-set us n t ∙ w.size;
          first = λ j k. elim (ℕ_discrete j n) [
            | yes s ↦ rw (s, get_or-set_same us n t past_train (omega (arith, w.size))) (q ∙ ap waived_train (w.rest n (omega arith)))
            | no s ↦ get_or-set_other us n j t past_train s ∙ w.first j (omega arith)
          ];
          rest = λ j k. get_or-set_other us n j t past_train (λ s. omega arith) ∙ w.rest j (omega arith);
        }

    pub waived-all : length ts ≤ n → us ≡ map waived_train ts
    waived-all h =
        ext_get_or past_train us (map waived_train ts) (w.size ∙ sym (length-map ts waived_train))
        (λ j k. w.first j (omega (arith, w.size)) ∙ sym (map_at waived_train ts j past_train past_train (omega (arith, w.size))))
