-- `line::reading::further_sections` meets its contract: it is refused where the bookings are; else it is the bookings that were read with what the dues after
-- them give. Assumes nothing.
use mathlib.Core.Path.{◌≡◌, ◌∙◌, ap}
use native.Mathlib.Omega.{arith}
use Rattle.std.proofs.lemmas.Result.{err_from_is_err_and}
use Rattle.text.specs.declared.Limits.{Limits}
use Rattle.line.specs.Ranges.{newest}
use Rattle.line.specs.Record.{booked_with}
use Rattle.line.specs.Parts.{sections_with}
use Rattle.line.specs.SectionLaws.{bad_map, made_of, refused_of, further_no_bookings, further_dues}
use Rattle.line.specs.PlaceLaws.{bookings_counted}
use Rattle.line.proofs.reading.further_sections.Goals as goal

pub returns-in_err-booked : goal.returns-in_err-booked
returns-in_err-booked c =
    let p = err_from_is_err_and c.from_residual.result c.from_residual.ensures.1 in
    rw (p.1, p.2) (bad_map sections_with _ (further_no_bookings _ _ _ _ (refused_of booked_with _ (rw c.from.ensures at c.in_err-booked.ensures))))

pub list_section-requires : goal.list_section-requires
list_section-requires c =
    let most : c.newest_counts-counts.result.max ≡ c.args.traffic.now.train_count =
    ap (λ (r : Limits). r.max) (c.newest_counts-counts.ensures ∙ ap newest c.counts.ensures) in
    let bookings = made_of booked_with _ c.in_ok-booked.ensures in
    (omega (arith, most, c.requires.0), bookings_counted _ _ _ c.requires.1 _ _ _ bookings.read)

pub returns-in_err-dues : goal.returns-in_err-dues
returns-in_err-dues c =
    let p = err_from_is_err_and c.from_residual-in_err-dues.result c.from_residual-in_err-dues.ensures.1 in
    let bookings = made_of booked_with _ (rw c.from.ensures at c.in_ok-booked.ensures) in
    let counts = c.newest_counts-counts.ensures ∙ ap newest c.counts.ensures in
    rw (p.1, p.2) (further_dues _ _ _ _ _ bookings.read bookings.made (rw counts at c.in_err-dues.ensures))

pub returns : goal.returns
returns c =
    let bookings = made_of booked_with _ (rw c.from.ensures at c.in_ok-booked.ensures) in
    let counts = c.newest_counts-counts.ensures ∙ ap newest c.counts.ensures in
    further_dues _ _ _ _ _ bookings.read bookings.made (rw counts at c.in_ok-dues.ensures)
