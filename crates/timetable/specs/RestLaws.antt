-- Laws of reading the second part of a timetable's text, and of the whole: a step at a time.
use Rattle.std.specs.Prelude.{ℕ, suc, ◌<◌, ◌≤◌, ◌≡◌, List, [], ◌∷◌, ◌++◌, None, Some, Result, Ok, Err, length}
use Rattle.std.proofs.Math.Path.{refl}
use Rattle.std.proofs.Common.{sym, ap, ◌∙◌, append-nil, append_assoc}
use borrow.Author.Tests.{lt-ltb, le-ltb}
use Rattle.text.specs.declared.Cursor.{Cursor}
use Rattle.text.specs.declared.Refusal.{Refusal}
use Rattle.text.specs.Reading.Numbers.{field_at}
use Rattle.text.specs.Reading.Parsed.{Parsed, then_read, map_parsed, many, lines}
use Rattle.text.specs.Reading.Told.{told_ending}
use Rattle.text.proofs.Reading.ParsedLaws.{many_done, many_step, many-stop}
use Rattle.line.specs.declared.Line.{Line}
use Rattle.line.specs.File.{answered}
use Rattle.rules.specs.Lists.Orders.{list_count}
use Rattle.timetable.specs.AnsweredLaws.{answered_got, answered_bad}
use Rattle.timetable.specs.Reading.{count_at, list_at, total_at, Rest, rest_at, minutes_at, Timetable, timetable_file}
use Rattle.timetable.specs.ReadingLaws.{count_is}

-- ---- parts in a row, after those read so far

abbrev pub after : {A : Type 0} → List A → Parsed (List A) → Parsed (List A)
after front r = map_parsed (λ ys. front ++ ys) r

pub after_none : {A : Type 0} (r : Parsed (List A)) → after [] r ≡ r
after_none (Parsed.got xs c) = refl
after_none (Parsed.bad n p) = refl

after_more : {A : Type 0} (front : List A) (x : A) (r : Parsed (List A)) →
    after front (then_read r (λ xs end. Parsed.got (x ∷ xs) end)) ≡ after (front ++ (x ∷ [])) r
after_more front x (Parsed.got xs c) = ap (λ (l : List _). Parsed.got l c) (sym (append_assoc front (x ∷ []) xs))
after_more front x (Parsed.bad n p) = refl

module _ {A : Type 0} (part : ℕ → List ℕ → Cursor → Parsed A) (k j : ℕ) (s : List ℕ) (c : Cursor) (front : List A) where
  pub after_done : k ≡ 0 → after front (many k part s c) ≡ Parsed.got front c
  after_done z = ap (after front) (many_done part k 0 s c z) ∙ ap (λ (l : List A). Parsed.got l c) (append-nil front)

  pub after_step : {front' : List A} → k ≡ suc j → (x : A) (next : Cursor) → part j s c ≡ Parsed.got x next → front' ≡ front ++ (x ∷ []) →
      after front (many k part s c) ≡ after front' (many j part s next)
  after_step z x next e f = rw f (ap (after front) (many_step part k j s c z x next e) ∙ after_more front x (many j part s next))

  pub after_stop : k ≡ suc j → (n m : ℕ) → part j s c ≡ Parsed.bad n m → after front (many k part s c) ≡ Parsed.bad n m
  after_stop z n m e = ap (after front) (many-stop part k j s c z n m e)

-- ---- the second part; n is the line's count of lists

module _ (l : Line) (s : List ℕ) (c : Cursor) {n : ℕ} (own : n ≡ list_count l) where
  counted : {r : Parsed ℕ} → count_at n s c ≡ r → count_at (list_count l) s c ≡ r
  counted e = ap (λ (k : ℕ). count_at k s c) (sym own) ∙ e

  pub rest_no_count : {x q : ℕ} → count_at n s c ≡ Parsed.bad x q → rest_at l s c ≡ Parsed.bad x q
  unfolding rest_at
  rest_no_count e = rw (counted e) refl

  module _ {v : ℕ} {c₁ : Cursor} (count : count_at n s c ≡ Parsed.got v c₁) where
    is_count : v ≡ list_count l
    is_count = count_is n s c v c₁ count ∙ own

    in_rows : {r : Parsed (List (List ℕ))} → lines n (list_at l.traffic.train_count) s c₁ ≡ r →
        lines (list_count l) (list_at l.traffic.train_count) s c₁ ≡ r
    in_rows e = ap (λ (k : ℕ). lines k (list_at l.traffic.train_count) s c₁) (sym own) ∙ e

    pub rest_no_lists : {x q : ℕ} → lines n (list_at l.traffic.train_count) s c₁ ≡ Parsed.bad x q → rest_at l s c ≡ Parsed.bad x q
    unfolding rest_at
    rest_no_lists e = rw (counted count, is_count, in_rows e) refl

    module _ {ls : List (List ℕ)} {c₂ : Cursor} (lists : lines n (list_at l.traffic.train_count) s c₁ ≡ Parsed.got ls c₂) where
      pub rest_no_total : field_at 7 s c₂ 10 ≡ None → rest_at l s c ≡ Parsed.bad 8 c₂.line
      unfolding rest_at total_at
      rest_no_total e = rw (counted count, is_count, in_rows lists, e) refl

      module _ {total : ℕ} {c₃ : Cursor} (field : field_at 7 s c₂ 10 ≡ Some (total, c₃)) where
        pub rest_more : c₃.at < length s → rest_at l s c ≡ Parsed.bad 8 c₃.line
        unfolding rest_at total_at
        rest_more h = rw (counted count, is_count, in_rows lists, field, lt-ltb c₃.at (length s) h) refl

        pub rest_whole : length s ≤ c₃.at → rest_at l s c ≡ Parsed.got (record { lists = ls; total = total }) c₃
        unfolding rest_at total_at
        rest_whole h = rw (counted count, is_count, in_rows lists, field, le-ltb c₃.at (length s) h) refl

-- ---- the whole text

-- what a part tells, with its value turned into another
pub told_map : {A B : Type 0} (f : A → B) (e : Result Cursor Refusal) (x : A) → map_parsed f (told_ending e x) ≡ told_ending e (f x)
told_map f (Ok c) x = refl
told_map f (Err r) x = refl

abbrev pub with_rest : List ℕ → Rest → Timetable
with_rest m r = record { minutes = m; rest = r }

module _ (l : Line) (s : List ℕ) where
  pub file_long : 4096 < length s → timetable_file l s ≡ Parsed.bad 7 0
  unfolding timetable_file
  file_long h = rw (lt-ltb 4096 (length s) h) refl

  module _ (h : length s ≤ 4096) where
    pub file_short : timetable_file l s ≡ then_read (minutes_at l s (record { at = 0; line = 1 })) (λ m c.
        then_read (rest_at l s c) (λ r end. Parsed.got (record { minutes = m; rest = r }) end))
    unfolding timetable_file
    file_short = rw (le-ltb 4096 (length s) h) refl

    pub file_no_minutes : {x q : ℕ} → minutes_at l s (record { at = 0; line = 1 }) ≡ Parsed.bad x q → timetable_file l s ≡ Parsed.bad x q
    unfolding timetable_file
    file_no_minutes e = rw (le-ltb 4096 (length s) h, e) refl

    -- the minutes, and then what the rest is to its end
    module _ {m : List ℕ} {c : Cursor} (minutes : minutes_at l s (record { at = 0; line = 1 }) ≡ Parsed.got m c) where
      -- the rest as the code tells it
      pub file_minutes : {r : Parsed Rest} → r ≡ rest_at l s c → timetable_file l s ≡ map_parsed (with_rest m) r
      unfolding timetable_file
      file_minutes told = rw (le-ltb 4096 (length s) h, minutes, told) refl

      pub file_no_rest : {e : Refusal} → Err e ≡ answered (rest_at l s c) → Err e ≡ answered (timetable_file l s)
      file_no_rest told = sym (ap answered (file_minutes refl ∙ ap (map_parsed (with_rest m)) (answered_bad (rest_at l s c) told)))

      pub file_rest : {r : Rest} → Ok r ≡ answered (rest_at l s c) → Ok (with_rest m r) ≡ answered (timetable_file l s)
      file_rest told = sym (ap answered (file_minutes refl ∙ ap (map_parsed (with_rest m)) (answered_got (rest_at l s c) told).got))
