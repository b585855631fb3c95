-- What export and import answer can be packed; and what the packed answer of each says, number and value unpacked: 0 with the length of the text, else the
-- refusal with its place and every lent byte as before.
use Rattle.std.specs.Prelude.{ℕ, ◌≤◌, ◌<◌, ◌≡◌, refl, List, ◌++◌, Result, length, drop}
use Rattle.std.proofs.Common.{ap, ◌∙◌, arith}
use Rattle.text.specs.declared.Refusal.{Refusal}
use Rattle.text.specs.Writing.Lend.{Spelling, Lent}
use Rattle.text.specs.Writing.LendLaws.{lent_there, text_written, text_refused, refusal_lent}
use Rattle.gtfs.proofs.BoundsLaws.{SpellingBounded}
use Rattle.service.specs.Packing.{packed_written, PacksWritten, LentPacked}
use Rattle.service.specs.PackingLaws.{Unpacks, packed_tells, text_packs, refusal_packs}

pub bounded_packs : (what : Spelling) {entry exit : List ℕ} {w : Result ℕ Refusal} → SpellingBounded what → Lent what entry exit w → PacksWritten w
bounded_packs (Spelling.text t) h lent = text_packs refl h lent
bounded_packs (Spelling.refused n p) h lent = refusal_packs {n = n} {p = p} refl h.place lent

module _ {entry exit : List ℕ} {r : ℕ} where
  -- a text that fits is written, and its length told
  pub packed_written_lem : {t : List ℕ} → LentPacked (Spelling.text t) entry exit r → length t ≤ 4096 → length t ≤ length entry →
      Unpacks r 0 (length t) × (exit ≡ t ++ drop (length t) entry)
  packed_written_lem {t} packed small fits =
      let lent = text_written (lent_there (Spelling.text t) entry) fits in
      (packed_tells r 0 (length t) (packed.answer ∙ ap packed_written lent.0) (omega arith), packed.bytes ∙ lent.1)

  -- one that is longer than the lent bytes is refused by 6
  pub packed_short : {t : List ℕ} → LentPacked (Spelling.text t) entry exit r → length entry < length t → Unpacks r 6 0 × (exit ≡ entry)
  packed_short {t} packed short =
      let lent = text_refused (lent_there (Spelling.text t) entry) short in
      (packed_tells r 6 0 (packed.answer ∙ ap packed_written lent.0) (omega arith), packed.bytes ∙ lent.1)

  -- a refusal is told by its number and place
  pub packed_refused : {n p : ℕ} → LentPacked (Spelling.refused n p) entry exit r → p ≤ 4097 → Unpacks r n p × (exit ≡ entry)
  packed_refused {n} {p} packed small =
      let lent = refusal_lent (lent_there (Spelling.refused n p) entry) in
      (packed_tells r n p (packed.answer ∙ ap packed_written lent.0) (omega arith), packed.bytes ∙ lent.1)
