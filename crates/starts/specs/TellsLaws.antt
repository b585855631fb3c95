-- What is known of a line gives the entry of its file: the total of any timetable of least delay is that of the best, which solving prints. And an entry can be
-- no other.
use Rattle.std.specs.Prelude.{ℕ, ◌≤◌, ◌<◌, ◌≡◌, refl, List, Option, Some, None, Ok, length, take, replicate}
use Rattle.std.proofs.Common.{sym, ap, ◌∙◌, ⊎_elim, mul-le-mul_right, arith}
use Rattle.std.proofs.lemmas.List.{length-replicate}
use Rattle.text.specs.declared.Cursor.{Cursor}
use Rattle.text.specs.Writing.Digits.{digits}
use Rattle.text.specs.Writing.DigitsLaws.{digits_only}
use Rattle.text.specs.Places.LastLine.{last_line}
use Rattle.text.specs.Reading.Parsed.{Parsed}
use Rattle.text.specs.Reading.Told.{refusal}
use Rattle.line.specs.declared.Line.{Line}
use Rattle.line.specs.File.{line_file}
use Rattle.line.specs.Within.{Within, Arrays}
use Rattle.line.specs.RunnableLaws.{within_runnable}
use Rattle.line.specs.RoundTripLaws.{Accepts, accepts_read, accepted_got}
use Rattle.rules.specs.Statement.Rules.{Lawful}
use Rattle.rules.specs.Statement.Delay.{weighted_delay}
use Rattle.rules.specs.StatementLaws.BestLaws.{best_least, least_only}
use Rattle.rules.specs.Check.RulesLaws.{cost-most}
use Rattle.timetable.specs.TotalLaws.{total_last}
use Rattle.solver.specs.Promise.Solving.{Solving}
use Rattle.solver.specs.Promise.Demand.{decided, printed_best, five_only, five_then, room_printed, solution}
use Rattle.plans.specs.declared.found.Best.{Best}
use Rattle.starts.specs.Operation.{Tells}
use Rattle.starts.specs.Knowing.{Knows, entry_of}

-- a total has at most seven digits
total_small : (l : Line) → Within l → (m : List ℕ) → Lawful l m → weighted_delay l m < 10000000
total_small l w m h = omega (arith, cost-most l m (within_runnable l w) h.days, mul-le-mul_right {n = 12} 285021 w.trains.1)

module _ (file : List ℕ) (l : Line) (accepted : Accepts file l) where
  limits : Within l
  limits = (accepts_read file l accepted).limits

  arrays : Arrays l
  arrays = (accepts_read file l accepted).arrays

  abbrev end : Cursor
  end = (accepted_got l (line_file file) accepted).end

  got : line_file file ≡ Parsed.got l end
  got = (accepted_got l (line_file file) accepted).got

  -- ---- the total of what is printed

  module _ (known : Best) (k : Knows l (Some known)) where
    printed_total : (entry exit : List ℕ) (n : ℕ) → Solving file entry exit (Ok n) →
        (known.delay < 10000000) × (last_line (take n exit) ≡ digits known.delay)
    printed_total entry exit n s =
        let p = printed_best file entry exit (Ok n) s l end got n refl in
        let same = least_only l p.minutes known.minutes (best_least l limits arrays p.minutes p.best) (k.least known refl) in
        let is : weighted_delay l p.minutes ≡ known.delay = same ∙ sym (k.delay_is known refl) in (
          omega (arith, is, total_small l limits p.minutes p.best.lawful),
          ap last_line p.text ∙ total_last l p.minutes ∙ ap digits is,
        )

  pub knows_tells : (known : Option Best) → Knows l known → Tells file (entry_of known)
  knows_tells (Some known) k =
      record {
        printed = printed_total known k;
        none = λ entry exit s. absurd (five_only file entry exit (refusal 5 0) s l end got refl known.minutes (k.least known refl).lawful);
      }
  knows_tells None k =
      record {
        printed = λ entry exit n s. absurd (k.none refl _ (printed_best file entry exit (Ok n) s l end got n refl).best.lawful);
        none = λ entry exit s. refl;
      }

  -- ---- no other entry

  -- lent 4,096 bytes, solving prints the timetable or says 5
  abbrev lent : List ℕ
  lent = replicate 4096 0

  pub tells_only : (a b : ℕ) → Tells file a → Tells file b → a ≡ b
  tells_only a b x y =
      let s = solution file lent in
      ⊎_elim
      (λ h.
      let room : 4096 ≤ length lent = rw length-replicate (omega arith) in
      let w = room_printed file lent s.content s.answer s.solving l end got h.minutes h.best.lawful room in
      let p = x.printed lent s.content w.length_of (rw w.written at s.solving) in
      let q = y.printed lent s.content w.length_of (rw w.written at s.solving) in
      digits_only a b p.0 q.0 (sym p.1 ∙ q.1))
      (λ h.
      let five = (five_then file lent s.content s.answer s.solving l end got h).0 in
      x.none lent s.content (rw five at s.solving) ∙ sym (y.none lent s.content (rw five at s.solving)))
      (decided l limits arrays)
