-- The tables and directions of a line that can be run, and the marks of a tidy plan of it, have the shape that raising goes by.
use Rattle.std.specs.Prelude.{ℕ, ◌+◌, ◌-◌, ◌≤◌, ◌<◌, ◌≡◌, refl, true, ◌⊎◌, get_or}
use Rattle.std.proofs.Common.{sym, ◌∙◌, ap, subst, inl, inr, arith}
use Rattle.std.proofs.Math.Decide.{dec_lt}
use Rattle.line.specs.declared.Line.{Line}
use Rattle.line.specs.Within.{Arrays}
use Rattle.line.specs.Runnable.{Runnable}
use Rattle.rules.specs.Statement.Paths.{train, legs, segment_of}
use Rattle.rules.specs.Statement.Minutes.{departs}
use Rattle.rules.specs.StatementLaws.PathsLaws.{legs-most}
use Rattle.rules.specs.Conflict.Directions.{directions_of}
use Rattle.rules.specs.Scan.StationLaws.{directions_size}
use Rattle.orders.specs.Plan.Bits.{in_mask}
use Rattle.orders.specs.Plan.Marks.{Plan}
use Rattle.orders.specs.Plan.TidyPlans.{Fitting, Tidy}
use Rattle.orders.specs.LineTables.Tables.{next_in, rest_in, last_in, rest_of, tables_of}
use Rattle.orders.specs.LineTables.TableLegsLaws.{tables_size, run_in_lem, run_at, stop_at, next_last, next_at, rest_at, last_at, run-most, stop-most, limit_most, weight-most, gap-most}
use Rattle.orders.specs.LineTables.TablesLaws.{rest_start, rest_on}
use Rattle.orders.specs.LineTables.TablesLaws as tables
use Rattle.orders.specs.Graph.LegGraph.{station_of, leaving, Ends, GoesOn, Shaped}
use Rattle.orders.specs.Graph.LegsLaws.{LegOf, train-leg, by_leg}
use Rattle.orders.specs.Graph.LegChoices.{segment_choice, station_choice}
use Rattle.orders.specs.Graph.LegChoicesLaws.{segment_placed, station_placed, segment-marked, station-marked, behind_leg, comes_leg}

module _ (l : Line) (w : Runnable l) (r : Arrays l) where
  next-leg : (e : ℕ) → LegOf l e → LegOf l (next_in (tables_of l) e)
  next-leg =
      by_leg l w r (λ e. LegOf l (next_in (tables_of l) e))
      (λ i k n h. elim (dec_lt (k + 1) (legs l i)) [
        | yes m ↦ subst (LegOf l) (sym (next_at l w r i k n h m)) (train-leg l w r i n (k + 1) m)
        | no m ↦ subst (LegOf l) (sym (next_last l w r i k n h (omega arith))) (train-leg l w r i n k h)
      ])

  last_leg : (e : ℕ) → LegOf l e → LegOf l (last_in (tables_of l) e)
  last_leg =
      by_leg l w r (λ e. LegOf l (last_in (tables_of l) e))
      (λ i k n h. subst (LegOf l) (sym (last_at l w r i k n h)) (train-leg l w r i n (legs l i - 1) (omega arith)))

  -- what is left of a train after a leg: at most ten stops and runs, and from leg to leg a stop and a run less
  rest_few : (e : ℕ) → LegOf l e → rest_in (tables_of l) e ≤ 7200
  rest_few =
      by_leg l w r (λ e. rest_in (tables_of l) e ≤ 7200)
      (λ i k n h.
      omega (arith, rest_at l w r i k n h, tables.rest_most l i w n (legs l i - 1 - k) (omega arith), legs-most l i w n))

  rest_ends : (i k : ℕ) (n : i < l.traffic.train_count) (h : k < legs l i) → k + 1 ≡ legs l i → Ends (tables_of l) (departs (segment_of (train l i) k) i)
  rest_ends i k n h m =
      let none : legs l i - 1 - k ≡ 0 = omega arith in
      let last : legs l i - 1 ≡ k = omega arith in (
        next_last l w r i k n h m,
        rest_at l w r i k n h ∙ ap (rest_of l i) none ∙ sym (rest_start l i),
        last_at l w r i k n h ∙ ap (λ (x : ℕ). departs (segment_of (train l i) x) i) last,
      )

  rest_goes : (i k : ℕ) (n : i < l.traffic.train_count) (h : k < legs l i) (m : k + 1 < legs l i) →
      GoesOn (tables_of l) (departs (segment_of (train l i) k) i) (departs (segment_of (train l i) (k + 1)) i)
  rest_goes i k n h m = (
    omega (arith, run_at l w r i (k + 1) n m, (run_in_lem l w r i (k + 1) n m).0),
    summed (rest_at l w r i k n h) (stop_at l w r i k n h m) (run_at l w r i (k + 1) n m) (rest_at l w r i (k + 1) n m) (rest_on l i k m),
    last_at l w r i k n h ∙ sym (last_at l w r i (k + 1) n m),
  )
    where
      summed : {a b stop stop' run run' rest rest' : ℕ} → a ≡ b → stop ≡ stop' → run ≡ run' → rest ≡ rest' → b ≡ rest' + stop' + run' → a ≡ stop + run + rest
      summed p q r s t = omega arith

  rest_falls : (e : ℕ) → LegOf l e → Ends (tables_of l) e ⊎ GoesOn (tables_of l) e (next_in (tables_of l) e)
  rest_falls =
      by_leg l w r (λ e. Ends (tables_of l) e ⊎ GoesOn (tables_of l) e (next_in (tables_of l) e))
      (λ i k n h. elim (dec_lt (k + 1) (legs l i)) [
        | yes m ↦ inr (subst (GoesOn (tables_of l) (departs (segment_of (train l i) k) i)) (sym (next_at l w r i k n h m)) (rest_goes i k n h m))
        | no m ↦ inl (rest_ends i k n h (omega arith))
      ])

  module _ (q : Plan) (d : Tidy l q) where
    -- what is marked at a leg fits
    segment_fits : (e j : ℕ) → LegOf l e → in_mask (get_or q e 0) j ≡ true → Fitting l (segment_choice e j)
    segment_fits e j u m = d.fitting (segment_choice e j) (segment_placed l w r e u j) (sym (segment-marked l w r e u q j) ∙ m)

    station_fits : (e j : ℕ) → LegOf l e → in_mask (get_or q (leaving (directions_of l) e) 0) j ≡ true → Fitting l (station_choice (directions_of l) e j)
    station_fits e j u m = d.fitting (station_choice (directions_of l) e j) (station_placed l w r e u j) (sym (station-marked l w r e u q j) ∙ m)

    pub shaped : Shaped q (tables_of l) (directions_of l)
    shaped = record {
      marks_size = d.size;
      tables_size = tables_size l;
      directions_size = directions_size l (directions_of l) refl;
      run-most = run-most l w r;
      stop-most = stop-most l w r;
      limit_most = limit_most l w r;
      weight-most = weight-most l w r;
      gap-most = gap-most l w r;
      next_used = next-leg;
      last_used = last_leg;
      rest_most = rest_few;
      rest_falls = rest_falls;
      beside_used = λ e j u b m. behind_leg l w r e u j (segment_fits e j u m);
      comes_used = λ e j u b m. let f = station_fits e j u m in comes_leg l w r (station_of (directions_of l) e) _ j f.0 f.1;
    }
