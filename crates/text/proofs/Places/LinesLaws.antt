-- Laws of lines. What holds of a cursor and of the one past any byte of the text holds throughout a reading (`KeepsPassing`): every field, every row of parts
-- keeps it, and every refusal names the line of a cursor where it holds. So the line at a cursor is one more than the line feeds before it
-- (`keeps_line`), and no larger than the position allows (`keeps_counted`).
use Prim.Native.Nat.{ℕ, zero, suc, ◌+◌, ◌-◌, ◌*◌, ◌≤◌}
use Rattle.std.proofs.Math.Path.{◌≡◌, refl}
use Rattle.std.proofs.Common.{sym, ap, ◌∙◌, arith, add-one, ne_eqb, length-take}
use Rattle.std.specs.Prelude.{Bool, eqb, length, get_or, take, Option, Some, None, Result, Ok}
use Rattle.std.proofs.Math.Bool.{true, false}
use Rattle.std.proofs.lemmas.Option.{some_pair_parts}
use mathlib.Core.List.{List, [], ◌∷◌}
use Rattle.text.specs.declared.Cursor.{Cursor}
use Rattle.text.specs.declared.Refusal.{Refusal}
use Rattle.text.specs.Reading.Choice.{pick, on_some}
use Rattle.text.specs.Reading.Bytes.{byte_at, ahead, passing, digit_of, past_of}
use Rattle.text.specs.Reading.BytesLaws.{digit_worth, past_found}
use Rattle.text.specs.Reading.ChoiceLaws.{some_gave}
use Rattle.text.specs.Reading.NumbersLaws.{field_found}
use Rattle.text.specs.Reading.Numbers.{more, number_at, field_at}
use Rattle.text.specs.Reading.Limits.{bounded_of}
use Rattle.text.specs.Reading.Parsed.{Parsed, then_read, many, limited, ranged_at}
use Rattle.text.specs.Reading.Fixed.{past_all, text_at, pair_at, pair_field_at, paired_at}
use Rattle.text.proofs.Reading.FixedLaws.{pair_found}
use Rattle.text.specs.Reading.Told.{told, told_ending}
use Rattle.text.specs.Places.Lines.{feeds, LineAt, Counted, Stood, HoldsOn, AnyNumber, OnLine}

-- going past any byte of the text keeps P
pub record KeepsPassing (s : List ℕ) (P : Cursor → Type 0) : Type 0 where
  pub past : (c : Cursor) (b : ℕ) → byte_at s c ≡ b → P c → P (passing b c)

-- going past any byte of the text but a line feed keeps P
pub record KeepsAhead (s : List ℕ) (P : Cursor → Type 0) : Type 0 where
  pub past : (c : Cursor) → (byte_at s c ≡ 10 → ⊥) → P c → P (ahead c)

-- ---- the two properties

pub keeps_counted : (s : List ℕ) → KeepsPassing s Counted
keeps_counted s = record { past = λ c b is h. record { fits = go c.at c.line h.fits (eqb b 10) } }
  where
    go : (i p : ℕ) → p ≤ i + 1 → (q : Bool) → pick q (p + 1) p ≤ i + 1 + 1
    go i p h true = omega arith
    go i p h false = omega arith

-- the line feeds up to and with the byte at i
feeds-next : (s : List ℕ) (i : ℕ) → feeds (take (suc i) s) ≡ pick (eqb (get_or s i 256) 10) (1 + feeds (take i s)) (feeds (take i s))
feeds-next [] zero = refl
feeds-next [] (suc i) = refl
feeds-next (x ∷ xs) zero = refl
feeds-next (x ∷ xs) (suc i) =
    ap (λ (k : ℕ). pick (eqb x 10) (1 + k) k) (feeds-next xs i)
    ∙ swap (eqb x 10) (eqb (get_or xs i 256) 10) (feeds (take i xs))
  where
    swap : (p q : Bool) (k : ℕ) → pick p (1 + pick q (1 + k) k) (pick q (1 + k) k) ≡ pick q (1 + pick p (1 + k) k) (pick p (1 + k) k)
    swap true true k = refl
    swap true false k = refl
    swap false true k = refl
    swap false false k = refl

pub keeps_line : (s : List ℕ) → KeepsPassing s (LineAt s)
keeps_line s = record { past = step }
  where
    counts : (q : Bool) (p k : ℕ) → p ≡ 1 + k → pick q (p + 1) p ≡ 1 + pick q (1 + k) k
    counts true p k h = omega arith
    counts false p k h = h

    step : (c : Cursor) (b : ℕ) → byte_at s c ≡ b → LineAt s c → LineAt s (passing b c)
    step c b is h =
        let next : feeds (take (c.at + 1) s) ≡ pick (eqb b 10) (1 + feeds (take c.at s)) (feeds (take c.at s)) =
        rw (add-one c.at) (rw is at (feeds-next s c.at)) in
        counts (eqb b 10) c.line (feeds (take c.at s)) h ∙ ap (λ (k : ℕ). 1 + k) (sym next)

-- before the first byte it is line 1
pub line_first : (s : List ℕ) → LineAt s (record { at = 0; line = 1 })
line_first s = refl

-- a refusal's place is the line on which a position of the text stands
pub stood_line : {s : List ℕ} {Q : ℕ → Type 0} {n p : ℕ} → Stood (LineAt s) Q n p → OnLine s p
stood_line w = record { k = w.cursor.at; line = w.line ∙ w.keeps }

-- there are no more line feeds than bytes
feeds-most : (bs : List ℕ) → feeds bs ≤ length bs
feeds-most [] = omega arith
feeds-most (b ∷ bs) = go (eqb b 10) (feeds-most bs)
  where
    go : (q : Bool) → feeds bs ≤ length bs → pick q (1 + feeds bs) (feeds bs) ≤ suc (length bs)
    go true h = omega arith
    go false h = omega arith

-- so a line's number is at most one more than the bytes
pub line_most : {s : List ℕ} {p : ℕ} → OnLine s p → (1 ≤ p) × (p ≤ length s + 1)
line_most {s} w = (omega (arith, w.line), omega (arith, w.line, feeds-most (take w.k s), length-take w.k s))

-- ---- a reading, part after part

module _ (P : Cursor → Type 0) (Q : ℕ → Type 0) where
  pub stands_got : {A : Type 0} (r : Parsed A) {x : A} {c : Cursor} → HoldsOn P Q r → r ≡ Parsed.got x c → P c
  stands_got r w e = rw e at w

  pub stands_bad : {A : Type 0} (r : Parsed A) {n p : ℕ} → HoldsOn P Q r → r ≡ Parsed.bad n p → Stood P Q n p
  stands_bad r w e = rw e at w

  pub stands_then : {A B : Type 0} (r : Parsed A) (f : A → Cursor → Parsed B) → HoldsOn P Q r → ((x : A) (c : Cursor) → P c → HoldsOn P Q (f x c)) →
      HoldsOn P Q (then_read r f)
  stands_then (Parsed.got x c) f w g = g x c w
  stands_then (Parsed.bad n p) f w g = w

  -- refused at a cursor where an answer is missing, or else read on
  pub stands_some : {A B : Type 0} (o : Option B) (f : B → Parsed A) (n : ℕ) (c : Cursor) → Q n → P c → ((x : B) → o ≡ Some x → HoldsOn P Q (f x)) →
      HoldsOn P Q (on_some o f (Parsed.bad n c.line))
  stands_some (Some x) f n c q h w = w x refl
  stands_some None f n c q h w = record { cursor = c; keeps = h; line = refl; number = q }

  -- refused at a cursor by a test, or else read on
  pub stands_test : {A : Type 0} (b : Bool) (n : ℕ) (c : Cursor) (r : Parsed A) → Q n → P c → HoldsOn P Q r → HoldsOn P Q (pick b (Parsed.bad n c.line) r)
  stands_test true n c r q h w = record { cursor = c; keeps = h; line = refl; number = q }
  stands_test false n c r q h w = w

-- ---- a number and the byte after it

-- digits are no line feeds
module _ (s : List ℕ) (P : Cursor → Type 0) (k : KeepsAhead s P) where
  digit_ahead : (c : Cursor) (d : ℕ) → digit_of (byte_at s c) ≡ Some d → P c → P (ahead c)
  digit_ahead c d e h =
      let w = digit_worth (byte_at s c) d e in
      k.past c (λ z. omega (arith, w.low)) h

  more-ahead : (m : ℕ) (c : Cursor) (v n : ℕ) (next : Cursor) → P c → more m s c v ≡ Some (n, next) → P next
  unfolding more
  more-ahead zero c v n next h e = rw (some_pair_parts v n c next e).1 at h
  more-ahead (suc m) c v n next h e = go (digit_of (byte_at s c)) refl e (λ w f. more-ahead m (ahead c) w n next f)
    where
      go : (x : Option ℕ) → digit_of (byte_at s c) ≡ x → on_some x (λ d. more m s (ahead c) (v * 10 + d)) (Some (v, c)) ≡ Some (n, next) →
          ((w : ℕ) → P (ahead c) → more m s (ahead c) w ≡ Some (n, next) → P next) → P next
      go (Some d) hx f ih = ih (v * 10 + d) (digit_ahead c d hx h) f
      go None hx f ih = rw (some_pair_parts v n c next f).1 at h

  pub number-ahead : (m : ℕ) (c : Cursor) (n : ℕ) (next : Cursor) → P c → number_at m s c ≡ Some (n, next) → P next
  unfolding number_at
  number-ahead m c n next h e =
      let d = some_gave (digit_of (byte_at s c)) _ e in
      first d.value (digit_ahead c d.value d.is h) (eqb d.value 0) d.gave
    where
      first : (d : ℕ) → P (ahead c) → (q : Bool) → pick q (Some (0, ahead c)) (more (m - 1) s (ahead c) d) ≡ Some (n, next) → P next
      first d w true f = rw (some_pair_parts 0 n (ahead c) next f).1 at w
      first d w false f = more-ahead (m - 1) (ahead c) d n next w f

  pub pair-ahead : (c : Cursor) (n : ℕ) (next : Cursor) → P c → pair_at s c ≡ Some (n, next) → P next
  unfolding pair_at
  pair-ahead c n next h e =
      let t = some_gave (digit_of (byte_at s c)) _ e in
      let u = some_gave (digit_of (byte_at s (ahead c))) _ t.gave in
      let end = (some_pair_parts (t.value * 10 + u.value) n (ahead (ahead c)) next u.gave).1 in
      rw end at (digit_ahead (ahead c) u.value u.is (digit_ahead c t.value t.is h))

module _ (s : List ℕ) (P : Cursor → Type 0) (k : KeepsPassing s P) where
  pub ahead_keeps : (c : Cursor) → (byte_at s c ≡ 10 → ⊥) → P c → P (ahead c)
  ahead_keeps c other h = rw (ne_eqb (byte_at s c) 10 other) at (k.past c (byte_at s c) refl h)

  keeps_ahead : KeepsAhead s P
  keeps_ahead = record { past = ahead_keeps }

  pub past_keeps : (c : Cursor) (b : ℕ) (next : Cursor) → P c → past_of s c b ≡ Some next → P next
  past_keeps c b next h e = let w = past_found s c b next e in rw w.1 at (k.past c b w.0 h)

  pub number_keeps : (m : ℕ) (c : Cursor) (n : ℕ) (next : Cursor) → P c → number_at m s c ≡ Some (n, next) → P next
  number_keeps = number-ahead s P keeps_ahead

  pub field_keeps : (m : ℕ) (c : Cursor) (b n : ℕ) (next : Cursor) → P c → field_at m s c b ≡ Some (n, next) → P next
  field_keeps m c b n next h e =
      let f = field_found m s c b n next e in
      past_keeps f.after b next (number_keeps m c n f.after h f.number) f.past

  pair_keeps : (c : Cursor) (n : ℕ) (next : Cursor) → P c → pair_at s c ≡ Some (n, next) → P next
  pair_keeps = pair-ahead s P keeps_ahead

  pub all_keeps : (t : List ℕ) (c next : Cursor) → P c → past_all t s c ≡ Some next → P next
  unfolding past_all
  all_keeps [] c next h e = let z : c ≡ next = cc in rw z at h
  all_keeps (b ∷ t) c next h e =
      let p = some_gave (past_of s c b) _ e in
      all_keeps t p.value next (past_keeps c b p.value h p.is) p.gave

  -- ---- what is read, or refused by a number of which Q holds

  module _ (Q : ℕ → Type 0) where
    -- a field in its range: a fault's place is the line at the cursor where the field began
    pub stands-limited : (form range lo hi : ℕ) → Q form → Q range → (c : Cursor) → P c → (f : Option (ℕ × Cursor)) →
        ((n : ℕ) (next : Cursor) → f ≡ Some (n, next) → P next) → HoldsOn P Q (limited form range lo hi c.line f)
    stands-limited form range lo hi qf qr c h f after =
        stands_some P Q f _ form c qf h (λ (n, next) is. stands_some P Q (bounded_of lo hi n) _ range c qr h (λ v within. after n next is))

    pub stands_ranged : (form range lo hi b : ℕ) → Q form → Q range → (c : Cursor) → P c → HoldsOn P Q (ranged_at form range lo hi b s c)
    unfolding ranged_at
    stands_ranged form range lo hi b qf qr c h =
        stands-limited form range lo hi qf qr c h (field_at 4 s c b) (λ n next e. field_keeps 4 c b n next h e)

    pub stands_paired : (form range lo hi b : ℕ) → Q form → Q range → (c : Cursor) → P c → HoldsOn P Q (paired_at form range lo hi b s c)
    unfolding paired_at
    stands_paired form range lo hi b qf qr c h = stands-limited form range lo hi qf qr c h (pair_field_at s c b)
        (λ n next e. let w = pair_found s c b n next e in past_keeps w.after b next (pair_keeps c n w.after h w.number) w.past)

    pub stands_text : (form : ℕ) (t : List ℕ) → Q form → (c : Cursor) → P c → HoldsOn P Q (text_at form t s c)
    unfolding text_at
    stands_text form t q c h = stands_some P Q (past_all t s c) _ form c q h (λ next is. all_keeps t c next h is)

    -- ---- parts in a row

    pub stands-many : {A : Type 0} (m : ℕ) (part : ℕ → List ℕ → Cursor → Parsed A) → ((left : ℕ) (c : Cursor) → P c → HoldsOn P Q (part left s c)) → (c : Cursor) →
        P c → HoldsOn P Q (many m part s c)
    unfolding many
    stands-many zero part one c h = h
    stands-many (suc m) part one c h =
        stands_then P Q (part m s c) _ (one m c h)
        (λ x c₁ h₁. stands_then P Q (many m part s c₁) _ (stands-many m part one c₁ h₁) (λ xs c₂ h₂. h₂))

-- ---- for the reader's code: after each part that was read there are still no more lines than bytes

module _ (s : List ℕ) {c next : Cursor} (h : Counted c) where
  pub past_counted : (b : ℕ) {o : Option Cursor} → o ≡ past_of s c b → o ≡ Some next → Counted next
  past_counted b gives is = past_keeps s Counted (keeps_counted s) c b next h (sym gives ∙ is)

  pub number_counted : (m : ℕ) {o : Option (ℕ × Cursor)} {n : ℕ} → o ≡ number_at m s c → o ≡ Some (n, next) → Counted next
  number_counted m gives is = number_keeps s Counted (keeps_counted s) m c _ next h (sym gives ∙ is)

  pub number_field_counted : (m b : ℕ) {o : Option (ℕ × Cursor)} {n : ℕ} → o ≡ field_at m s c b → o ≡ Some (n, next) → Counted next
  number_field_counted m b gives is = field_keeps s Counted (keeps_counted s) m c b _ next h (sym gives ∙ is)

  pub text_counted : (form : ℕ) (t : List ℕ) {r : Result Cursor Refusal} → told_ending r tt ≡ text_at form t s c → r ≡ Ok next → Counted next
  text_counted form t told_r is =
      stands_got Counted AnyNumber _ (stands_text s Counted (keeps_counted s) AnyNumber form t tt c h)
      (sym told_r ∙ ap (λ (k : Result Cursor Refusal). told_ending k tt) is)

  -- of a part with a value, whose every reading keeps that
  pub told_counted : {A : Type 0} {p : Parsed A} {r : Result (A × Cursor) Refusal} {x : A} → HoldsOn Counted AnyNumber p → told r ≡ p → r ≡ Ok (x, next) →
      Counted next
  told_counted w told_r is = stands_got Counted AnyNumber _ w (sym told_r ∙ ap told is)

pub field_counted : (form range lo hi b : ℕ) (s : List ℕ) {c : Cursor} {f : Result (ℕ × Cursor) Refusal} {v : ℕ} {next : Cursor} → Counted c →
    told f ≡ ranged_at form range lo hi b s c → f ≡ Ok (v, next) → Counted next
field_counted form range lo hi b s {c} h told_f is =
    told_counted s h (stands_ranged s Counted (keeps_counted s) AnyNumber form range lo hi b tt tt c h) told_f is

pub paired_counted : (form range lo hi b : ℕ) (s : List ℕ) {c : Cursor} {f : Result (ℕ × Cursor) Refusal} {v : ℕ} {next : Cursor} → Counted c →
    told f ≡ paired_at form range lo hi b s c → f ≡ Ok (v, next) → Counted next
paired_counted form range lo hi b s {c} h told_f is =
    told_counted s h (stands_paired s Counted (keeps_counted s) AnyNumber form range lo hi b tt tt c h) told_f is
