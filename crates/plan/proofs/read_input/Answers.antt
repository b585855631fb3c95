-- The answers; the idea of the proof is at the head of the invariants.
use Rattle.std.proofs.Common.{◌≡◌, ℕ, ◌+◌, ◌-◌, ◌≤◌, List, Option, ◌++◌, rules, arith, length, take, slice_range, sym, ap, ◌∙◌, subst, le_refl, drop_at, length-take-le}
use Rattle.std.proofs.lemmas.Slice.{take-put_mid_below}
use Rattle.std.specs.Io.KnownBytes.{Consumes}
use Rattle.std.proofs.KnownBytes.{Consumes-trans}
use borrow.Rule.Slice.PartMut.{put_mid, post_of}
use lib.Seq.{take-add, take-append-le}
use Rattle.plan.proofs.read_input.Goals as goal

-- A front and what follows it up to b are the front up to b.
take_split : (a b : ℕ) (old new : List ℕ) → a ≤ b → take a new ≡ take a old → take a old ++ slice_range new a b ≡ take b new
take_split a b old new h front =
    let same : a + (b - a) ≡ b = omega arith in
    ap (λ l. l ++ slice_range new a b) (sym front) ∙ sym (take-add a (b - a) new) ∙ ap (λ n. take n new) same

-- What was read into the part behind the front is found there.
slice_range-put_mid : (a k n : ℕ) (xs ys : List ℕ) → a ≤ length xs → n ≤ length ys → slice_range (put_mid a k xs ys) a (a + n) ≡ take n ys
slice_range-put_mid a k n xs ys within fits =
    let same : (a + n) - a ≡ n = omega arith in
    let after = post_of a k xs in
    ap (take ((a + n) - a)) (drop_at (take a xs) (ys ++ after) a (length-take-le a xs within)) ∙ ap (λ m. take m (ys ++ after)) same ∙ take-append-le n ys after fits

-- So what is read behind the bytes read so far goes on from them.
read_on : (from more : ℕ) (old new : List ℕ) (start before after : Option (List ℕ)) → from ≤ length old → more ≤ length new → Consumes start before (take from old) →
    Consumes before after (take more new) → Consumes start after (take (from + more) (put_mid from (length old - from) old new))
read_on from more old new start before after within fits so_far here =
    let room = length old - from in
    let part = slice_range-put_mid from room more old new within fits in
    let joined = take_split from (from + more) old (put_mid from room old new) (omega arith) (take-put_mid_below _ _ _ _ _ (le_refl _) within) in
    subst (Consumes _ _) (ap (λ l. take from old ++ l) (sym part) ∙ joined) (Consumes-trans _ _ _ _ _ so_far here)

pub loop-n-preserved : goal.loop-n-preserved
loop-n-preserved g c =
    (search rules, search rules, read_on c.loop-n.n _ c.loop-n.file c.read.new.buf _ _ _ c.loop-n.invariant.0 (search rules) c.loop-n.invariant.2 (search rules))
