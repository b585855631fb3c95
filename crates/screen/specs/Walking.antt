-- The length of the walk of a file's line, packed.
use Rattle.std.specs.Prelude.{ℕ, ◌≡◌, refl, List, Result, Ok, Err}
use Rattle.std.proofs.Common.{ap, arith, ◌∙◌}
use Rattle.text.specs.declared.Refusal.{Refusal}
use Rattle.text.specs.Reading.Parsed.{Parsed}
use Rattle.line.specs.declared.Line.{Line}
use Rattle.line.specs.File.{line_file, answered}
use Rattle.line.specs.PlaceLaws.{file_refusal}
use Rattle.plans.specs.Instance.Planning.{planning}
use Rattle.plans.specs.Clauses.Tallies.{cut_off}
use Rattle.walk.specs.Walk.{walk}
use Rattle.service.specs.Packing.{PacksWritten, packed_written}

-- the refusal of the file, or the number of plans of its line's walk, cut off at 4,294,967,295
abbrev pub walk_of : Result Line Refusal → Result ℕ Refusal
walk_of (Ok l) = Ok (cut_off (walk (planning l)).steps)
walk_of (Err r) = Err r

unfoldable pub walk_length : List ℕ → ℕ
walk_length file = packed_written (walk_of (answered (line_file file)))

-- it can be packed
pub walk_packs : (file : List ℕ) → PacksWritten (walk_of (answered (line_file file)))
walk_packs file = go (line_file file) refl
  where
    go : (a : Parsed Line) → line_file file ≡ a → PacksWritten (walk_of (answered a))
    go (Parsed.got l c) e = omega arith
    go (Parsed.bad n p) e = omega (arith, (file_refusal file n p e).place)

-- what it is, for a reading that answered x
pub length_told : (file : List ℕ) (x : Result Line Refusal) → x ≡ answered (line_file file) → (r : ℕ) → r ≡ packed_written (walk_of x) → r ≡ walk_length file
unfolding walk_length
length_told file x read r is = is ∙ ap (λ (a : Result Line Refusal). packed_written (walk_of a)) read
