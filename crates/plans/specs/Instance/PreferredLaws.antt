-- What is preferred to a timetable is preferred to every one that is the same.
use Rattle.std.specs.Prelude.{ℕ, List}
use Rattle.std.proofs.Common.{◌∙◌, inl, inr, ⊎_elim, arith}
use Rattle.line.specs.declared.Line.{Line}
use Rattle.line.specs.Within.{Within, Arrays}
use Rattle.rules.specs.Statement.Delay.{Same, Preferred}
use Rattle.rules.specs.StatementLaws.SameLaws.{delay-same}

pub preferred_same : (l : Line) → Within l → Arrays l → (x m m' : List ℕ) → Same l m m' → Preferred l x m → Preferred l x m'
preferred_same l w a x m m' s p =
    let d = delay-same l m m' s w a in
    ⊎_elim
    (λ h. inl (omega (arith, h, d)))
    (λ h. inr (
      h.0 ∙ d,
      record {
        who = h.1.who;
        place = h.1.place;
        real = h.1.real;
        alike = λ i n k r o. h.1.alike i n k r o ∙ (s i n k r).0;
        less = omega (arith, h.1.less, (s h.1.who h.1.real.0 h.1.place h.1.real.1).0);
      },
    ))
    p
