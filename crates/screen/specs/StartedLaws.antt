-- What `gaugeviolet_starts` returns says, number and place unpacked: the file's own number and place; 22 at 0 exactly where train, list and entries may not be
-- asked of its line; else 0, with every entry filled in.
use Rattle.std.specs.Prelude.{ℕ, ◌≡◌, List, Result, Ok, Err, length}
use Rattle.std.proofs.Common.{ap, ◌∙◌, subst, arith}
use Rattle.text.specs.declared.Cursor.{Cursor}
use Rattle.text.specs.declared.Refusal.{Refusal}
use Rattle.text.specs.Reading.Parsed.{Parsed}
use Rattle.line.specs.declared.Line.{Line}
use Rattle.line.specs.File.{line_file}
use Rattle.line.specs.PlaceLaws.{file_refusal}
use Rattle.service.specs.Packing.{packed_answer, PacksAnswer}
use Rattle.service.specs.PackingLaws.{Unpacks, packed_tells}
use Rattle.starts.specs.Asking.{Asked}
use Rattle.starts.specs.Operation.{Filled, StartsAs, Starts}
use Rattle.starts.specs.OperationLaws.{refusal_bounded}
use Rattle.screen.specs.Started.{Started}

-- what is answered can be packed
pub starts_packs : (file : List ℕ) (train : ℕ) (minutes entry exit : List ℕ) (a : Result (Unit {0}) Refusal) → Starts file train minutes entry exit a → PacksAnswer a
starts_packs file train minutes entry exit (Ok _) s = tt
starts_packs file train minutes entry exit (Err e) s = omega (arith, refusal_bounded file train minutes entry exit e.number e.place s)

module _ (file : List ℕ) (train : ℕ) (minutes entry exit : List ℕ) (r : ℕ) (s : Started file train minutes entry exit r) where
  -- a refused file is told by its number and place
  pub started_refused : (n p : ℕ) → line_file file ≡ Parsed.bad n p → Unpacks r n p × (exit ≡ entry)
  started_refused n p e =
      let x = subst (λ (a : Parsed Line). StartsAs a train minutes entry exit s.answer) e s.starts in
      (packed_tells r n p (s.packs ∙ ap packed_answer x.0) (omega (arith, (file_refusal file n p e).place)), x.1)

  module _ (l : Line) (c : Cursor) (accepted : line_file file ≡ Parsed.got l c) where
    abbrev May : Type 0
    May = Asked l.traffic.train_count train minutes (length entry)

    -- 22 where it may not be asked
    pub started_not : (May → ⊥) → Unpacks r 22 0 × (exit ≡ entry)
    started_not not =
        let x = (subst (λ (a : Parsed Line). StartsAs a train minutes entry exit s.answer) accepted s.starts).other not in
        (packed_tells r 22 0 (s.packs ∙ ap packed_answer x.0) (omega arith), x.1)

    -- else 0, and every entry
    pub started_filled : May → (r ≡ 0) × Filled l train minutes entry exit
    started_filled asked =
        let x = (subst (λ (a : Parsed Line). StartsAs a train minutes entry exit s.answer) accepted s.starts).asked asked in
        (s.packs ∙ ap packed_answer x.0, x.1)
