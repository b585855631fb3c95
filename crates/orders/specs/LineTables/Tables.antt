-- The tables of a line that raising reads, in one list. Three have an entry for each segment, 16 to a table. Those that have an entry for each leg come
-- after them, 176 to a table, so that a further one is appended and moves no other. Leg e = 16 p + i is that of train i on segment p.
use Rattle.std.specs.Prelude.{ℕ, zero, suc, ◌+◌, ◌*◌, ◌-◌, ◌/◌, ◌%◌, Bool, cond, ◌&&◌, List, get_or, ltb, eqb}
use Rattle.finite.specs.Below.{sum, table}
use Rattle.line.specs.declared.Kind.{Kind}
use Rattle.line.specs.declared.Segment.{Segment}
use Rattle.line.specs.declared.Train.{Train}
use Rattle.line.specs.declared.Line.{Line}
use Rattle.line.specs.Record.{legs_of}
use Rattle.rules.specs.Statement.Paths.{train, segment_count, segment, run_of, stop_of, legs, segment_of, leg_on}
use Rattle.rules.specs.Conflict.Directions.{uses_between}
use Rattle.rules.specs.Statement.Delay.{due}

-- ---- by entry

-- where table n of legs begins, and the size of the list, which has eight of them
abbrev pub leg_table : ℕ → ℕ
leg_table n = 48 + 176 * n

abbrev pub table_size : ℕ
table_size = leg_table 8

-- 1 where a following train may depart while the first is still on segment p (F and D), else 0; its two gaps
abbrev pub shared_in : List ℕ → ℕ → ℕ
shared_in t p = get_or t p 0

abbrev pub following_in : List ℕ → ℕ → ℕ
following_in t p = get_or t (16 + p) 0

abbrev pub opposing_in : List ℕ → ℕ → ℕ
opposing_in t p = get_or t (32 + p) 0

-- the run over the leg, the stop after it (0 at the train's last), the train's next leg (the leg itself at its last), the latest arrival from which the
-- train still ends in time
abbrev pub run_in : List ℕ → ℕ → ℕ
run_in t e = get_or t (leg_table 0 + e) 0

abbrev pub stop_in : List ℕ → ℕ → ℕ
stop_in t e = get_or t (leg_table 1 + e) 0

abbrev pub next_in : List ℕ → ℕ → ℕ
next_in t e = get_or t (leg_table 2 + e) 0

abbrev pub limit_in : List ℕ → ℕ → ℕ
limit_in t e = get_or t (leg_table 3 + e) 0

-- at a train's last leg its weight and its due minute, else 0
abbrev pub weight_in : List ℕ → ℕ → ℕ
weight_in t e = get_or t (leg_table 4 + e) 0

abbrev pub due_in : List ℕ → ℕ → ℕ
due_in t e = get_or t (leg_table 5 + e) 0

-- the runs and stops of the train after the leg (0 at its last), the train's last leg
abbrev pub rest_in : List ℕ → ℕ → ℕ
rest_in t e = get_or t (leg_table 6 + e) 0

abbrev pub last_in : List ℕ → ℕ → ℕ
last_in t e = get_or t (leg_table 7 + e) 0

-- what the minutes cost by these tables
unfoldable pub cost_in : List ℕ → List ℕ → ℕ
cost_in t m = sum (λ e. weight_in t e * (get_or m (176 + e) 0 - due_in t e)) 176

-- ---- of a leg

abbrev pub is_last : Train → ℕ → Bool
is_last t k = eqb (k + 1) (legs_of t)

-- the entry of the next leg after leg k, which has entry e, and of the last
abbrev pub next_leg : ℕ → Train → ℕ → ℕ
next_leg e t k = cond (is_last t k) e (16 * segment_of t (k + 1) + e % 16)

abbrev pub last_leg : ℕ → Train → ℕ
last_leg e t = 16 * segment_of t (legs_of t - 1) + e % 16

-- runs and stops of train i after a leg that has j more after it
unfoldable pub rest_of : Line → ℕ → ℕ → ℕ
rest_of l i zero = 0
rest_of l i (suc j) = rest_of l i j + stop_of l i (legs l i - 2 - j) + run_of l i (legs l i - 1 - j)

-- the values of leg k of train i
abbrev pub stop_after : Line → ℕ → ℕ → ℕ
stop_after l i k = cond (is_last (train l i) k) 0 (stop_of l i k)

abbrev pub rest_after : Line → ℕ → ℕ → ℕ
rest_after l i k = rest_of l i (legs l i - 1 - k)

abbrev pub limit_of : Line → ℕ → ℕ → ℕ
limit_of l i k = (train l i).latest - rest_after l i k

-- a value of the train at its last leg, else 0
abbrev pub at_last : Line → (ℕ → ℕ) → ℕ → ℕ → ℕ
at_last l f i k = cond (is_last (train l i) k) (f i) 0

-- in table n of legs: of leg k of train i, which has entry e, and of an entry that is no train's leg
abbrev pub leg_value : ℕ → Line → ℕ → ℕ → ℕ → ℕ
leg_value zero l e i k = run_of l i k
leg_value (suc zero) l e i k = stop_after l i k
leg_value (suc (suc zero)) l e i k = next_leg e (train l i) k
leg_value (suc (suc (suc zero))) l e i k = limit_of l i k
leg_value (suc (suc (suc (suc zero)))) l e i k = at_last l (λ j. (train l j).weight) i k
leg_value (suc (suc (suc (suc (suc zero))))) l e i k = at_last l (due l) i k
leg_value (suc (suc (suc (suc (suc (suc zero)))))) l e i k = rest_after l i k
leg_value (suc (suc (suc (suc (suc (suc (suc n))))))) l e i k = last_leg e (train l i)

unfoldable pub no_leg_value : ℕ → ℕ → ℕ
no_leg_value n e = cond (eqb n 2) e (cond (eqb n 7) e 0)

-- ---- of a segment

abbrev pub shares : Kind → ℕ
shares Kind.S = 0
shares Kind.F = 1
shares Kind.D = 1

-- in table n of segments
unfoldable pub segment_value : ℕ → Segment → ℕ
segment_value n g = cond (eqb n 1) g.following (cond (eqb n 2) g.opposing (shares g.kind))

-- ---- of a line

-- of a leg of a train its value, of any other entry z
abbrev pub on_leg : Line → (ℕ → ℕ → ℕ) → ℕ → ℕ → ℕ
on_leg l f z e =
    cond (ltb (e % 16) l.traffic.train_count && uses_between (train l (e % 16)).origin (train l (e % 16)).destination (e / 16))
    (f (e % 16) (leg_on (train l (e % 16)) (e / 16)))
    z

-- entry e of table n of legs
unfoldable pub leg_entry : Line → ℕ → ℕ → ℕ
leg_entry l n e = on_leg l (leg_value n l e) (no_leg_value n e) e

-- entry p of table n of segments; past the last segment 0
unfoldable pub segment_entry : Line → ℕ → ℕ → ℕ
segment_entry l n p = cond (ltb p (segment_count l)) (segment_value n (segment l p)) 0

unfoldable pub table_entry : Line → ℕ → ℕ
table_entry l x = cond (ltb x 48) (segment_entry l (x / 16) (x % 16)) (leg_entry l ((x - 48) / 176) ((x - 48) % 176))

unfoldable pub tables_of : Line → List ℕ
tables_of l = table (table_entry l) table_size
