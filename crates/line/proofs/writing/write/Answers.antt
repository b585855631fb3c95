-- `line::writing::write` meets its contract. A fault of the record is its refusal, and the lent bytes are not touched. A record without one is within the
-- limits, and its text is lent. The lengths of its arrays are those of its type, so a line within the limits is read back. Assumes nothing.
use Rattle.std.proofs.Common.{◌≡◌, ◌∙◌, sym, ap, List, [], ◌∷◌, Err, rules}
use mir.Val.{Val}
use denote.Array.{each}
use denote.Shadow.{shadow}
use Rattle.finite.specs.Each.{Each}
use Rattle.text.specs.Writing.Lend.{Spelling}
use Rattle.text.specs.Writing.LendLaws.{lent_refused, lent_as}
use Rattle.line.specs.declared.Train.{Train}
use Rattle.line.specs.Spell.{text_of}
use Rattle.line.specs.Within.{TrainArrays, Arrays}
use Rattle.line.specs.RoundTripLaws.{read_back}
use Rattle.line.specs.declared.Line.{Line}
use Rattle.line.specs.Writing.{Checked, on_fault, fault_of, spelling}
use Rattle.line.specs.WithinLaws.{within_of}
use Rattle.line.specs.contracts.Train.{the_row as train_row}
use Rattle.line.proofs.writing.write.Goals as goal
use Rattle.line.proofs.writing.write.Goals.{After-fault_of}

-- each train of an array has arrays of the lengths of its type
trains-sized : (ts : List Train) (us : List Val) → shadow (each train_row.Denot train_row.own_val ts us) → Each TrainArrays ts
trains-sized [] us h = tt
trains-sized (t ∷ ts) [] h = absurd h
trains-sized (t ∷ ts) (u ∷ us) h =
    let own = h.0.1.1.1.1.1.1.1 in
    ((own.0.1.0.1, own.1.0.1.0.1), trains-sized ts us h.1)

-- the arrays of the record have the lengths of their types
sized : (c : After-fault_of) → Arrays c.args.line
sized c =
    let track = c.well_formed.0.1.1.0.1.1.1 in
    let trains = c.well_formed.0.1.1.1.0.1.1.1.0 in
    let further = c.well_formed.0.1.1.1.1 in
    record {
      tracks = track.0.1.0.1;
      segments = track.1.0.1.0.1;
      trains = trains.1.0.1;
      each_train = trains-sized c.args.line.traffic.trains trains.0 trains.1.1;
      bookings = further.0.1.1.1.0.1.0.1;
      dues = further.1.0.1.1.1.0.1.0.1;
    }

-- what there is to write, by what the check found
found : (l : Line) {f : Checked} → fault_of l ≡ f → spelling l ≡ on_fault f (Spelling.text (text_of l)) Spelling.refused
unfolding spelling
found l e = ap (λ (f : Checked). on_fault f (Spelling.text (text_of l)) Spelling.refused) e

pub write_text-requires : goal.write_text-requires
write_text-requires c = within_of c.args.line (sym c.fault_of.ensures ∙ c.in_ok-fault_of.was)

pub returns-in_err-fault_of : goal.returns-in_err-fault_of
returns-in_err-fault_of c =
    let same : c.from_residual.result ≡ Err c.in_err-fault_of.field-0.0 = search rules in
    (lent_refused c.args.out.now same (found c.args.line (sym c.fault_of.ensures ∙ c.in_err-fault_of.was)), read_back _ (sized (goal.at.returns-in_err-fault_of c).After-fault_of))

pub returns : goal.returns
returns c =
    (lent_as (found c.args.line (sym c.fault_of.ensures ∙ c.in_ok-fault_of.was)) c.write_text.ensures, read_back _ (sized (goal.at.returns c).After-fault_of))
