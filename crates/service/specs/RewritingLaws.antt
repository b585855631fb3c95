-- Laws of rewriting: its two cases, by what there is to write and by the packed answer with the lent bytes, that its answer can be packed, and the theorem that
-- an accepted file is written out again with the same bytes.
use Rattle.std.specs.Prelude.{ℕ, ◌≡◌, List, Result, Ok, Err}
use Rattle.std.proofs.Math.Path.{refl}
use Rattle.std.proofs.Common.{sym, ap}
use Rattle.text.specs.declared.Refusal.{Refusal}
use Rattle.text.specs.Reading.Parsed.{Parsed}
use Rattle.text.specs.Writing.Lend.{Spelling, Lent}
use Rattle.text.specs.Writing.LendLaws.{lent_as, lent_refused}
use Rattle.line.specs.declared.Line.{Line}
use Rattle.line.specs.Within.{Within}
use Rattle.line.specs.File.{line_file, answered}
use Rattle.line.specs.LengthLaws.{text_fits}
use Rattle.line.specs.Writing.{spelling}
use Rattle.line.specs.PlaceLaws.{file_refusal}
use Rattle.line.specs.RoundTripLaws.{Accepts, accepts_read, spelling_text, rewritten}
use Rattle.service.specs.Packing.{packed, PacksWritten, packed_written}
use Rattle.service.specs.PackingLaws.{lent-packed, text_packs, refusal_packs}
use Rattle.service.specs.Rewriting.{rewriting, Rewritten}

-- ---- the two cases, by what the reading answered

module _ (file : List ℕ) where
  pub rewritten_line : {l : Line} → Ok l ≡ answered (line_file file) → rewriting file ≡ spelling l
  unfolding rewriting
  rewritten_line read = rw (← read) refl

  pub rewritten_refused : {e : Refusal} → Err e ≡ answered (line_file file) → rewriting file ≡ Spelling.refused e.number e.place
  unfolding rewriting
  rewritten_refused read = rw (← read) refl

-- the packed answer r: what writing the line gives, or the refusal of the file, which leaves the lent bytes as they were
module _ (file entry : List ℕ) (r : ℕ) where
  pub line_rewritten : {l : Line} {exit : List ℕ} {w : Result ℕ Refusal} → Ok l ≡ answered (line_file file) → Lent (spelling l) entry exit w →
      r ≡ packed_written w → Rewritten file entry exit r
  line_rewritten read lent p = lent-packed (lent_as (rewritten_line file read) lent) p

  pub refused_rewritten : {e : Refusal} → Err e ≡ answered (line_file file) → r ≡ packed e.number e.place → Rewritten file entry entry r
  refused_rewritten {e} read q = lent-packed {w = Err e} (lent_refused entry refl (rewritten_refused file read)) q

-- ---- the answer can be packed

-- of a line within its limits
pub line_packs : {l : Line} {entry exit : List ℕ} {w : Result ℕ Refusal} → Within l → Lent (spelling l) entry exit w → PacksWritten w
line_packs {l} within lent = text_packs (spelling_text l within) (text_fits l within) lent

-- of a file
pub rewritten_packs : (file : List ℕ) {entry exit : List ℕ} {w : Result ℕ Refusal} → Lent (rewriting file) entry exit w → PacksWritten w
rewritten_packs file {w = w} lent = go (line_file file) refl
  where
    go : (a : Parsed Line) → line_file file ≡ a → PacksWritten w
    go (Parsed.got l c) e = line_packs (accepts_read file l (ap answered e)).limits (lent_as (sym (rewritten_line file (sym (ap answered e)))) lent)
    go (Parsed.bad n p) e = refusal_packs (rewritten_refused file (sym (ap answered e))) (file_refusal file n p e).place lent

-- ---- the theorem

pub rewriting-same : (file : List ℕ) (l : Line) → Accepts file l → rewriting file ≡ Spelling.text file
unfolding rewriting
rewriting-same file l e = rw e (rewritten file l e)
