-- `line::reading::rising_section` meets its contract: it is left off, refused at its count, refused as it is empty and the last, or it is what its lines are.
-- Assumes nothing.
use mathlib.Core.Path.{◌∙◌, sym, refl}
use Rattle.std.proofs.lemmas.Result.{err_from_is_err_and}
use Rattle.text.specs.Elements.Padded.{padded}
use Rattle.line.specs.SectionLaws.{bad_map, got_map, rising_left_off, rising_no_count, rising_empty_last, rising_lines}
use Rattle.line.proofs.reading.rising_section.Goals as goal

pub returns-then-s-start : goal.returns-then-s-start
unfolding padded
returns-then-s-start g c = λ part tells. got_map _ _ refl (rising_left_off _ _ part c.args.s.now c.args.start c.if-s-start.true)

pub returns-in_err-count : goal.returns-in_err-count
returns-in_err-count g c =
    λ part tells.
    let p = err_from_is_err_and c.from_residual.result c.from_residual.ensures.1 in
    rw (p.1, p.2) (bad_map _ _ (rising_no_count _ _ part c.args.s.now c.args.start c.if-s-start.false (sym c.in_err-count.ensures)))

pub returns-then-empty_last : goal.returns-then-empty_last
returns-then-empty_last g c =
    λ part tells.
    bad_map _ _ (rising_empty_last _ _ part c.args.s.now c.args.start c.if-s-start.false _ _ (sym c.in_ok-count.ensures)
    (sym c.empty_last.ensures ∙ c.if-empty_last.true))

pub returns-in_err-entries : goal.returns-in_err-entries
returns-in_err-entries g c =
    λ part tells.
    let p = err_from_is_err_and c.from_residual-in_err-entries.result c.from_residual-in_err-entries.ensures.1 in
    rw (p.1, p.2) (rising_lines _ _ part c.args.s.now c.args.start c.if-s-start.false _ _ (sym c.in_ok-count.ensures) (λ k xs. record { count = k; entries = xs }) _
    (sym c.empty_last.ensures ∙ c.if-empty_last.false) _ (rw c.from.ensures at (c.in_err-entries.ensures c.args.s.now part tells)))

pub returns : goal.returns
returns g c =
    λ part tells.
    rising_lines _ _ part c.args.s.now c.args.start c.if-s-start.false _ _ (sym c.in_ok-count.ensures) (λ k xs. record { count = k; entries = xs }) _
    (sym c.empty_last.ensures ∙ c.if-empty_last.false) _ (rw c.from.ensures at (c.in_ok-entries.ensures c.args.s.now part tells))
