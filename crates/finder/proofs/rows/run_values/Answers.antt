-- A position's row is right, it meets the constraints or breaks one, and the next position's latches are put. Assumes nothing.
use Rattle.std.proofs.Common.{◌+◌, ◌≤◌, sym, ◌∙◌, true≢false, arith}
use Rattle.finder.proofs.RunValues.{RunTo, none_shown, all_shown, row_shown, row_meets, broken_here, last_shown, next_shown}
use Rattle.finder.proofs.rows.run_values.Goals as goal
use Rattle.finder.proofs.rows.run_values.Goals.{then-t-last, else-t-last}

pub loop-t-init : goal.loop-t-init
loop-t-init c = none_shown c.fill.ensures c.told-table

pub returns-then-not-meets_constraints : goal.returns-then-not-meets_constraints
returns-then-not-meets_constraints c =
    let to = c.loop-t.invariant in
    let proper = c.shown.ensures.proper in
    let here : c.loop-t.t ≤ c.args.p.now.bound = omega (arith, c.bound-last.ensures.is) in
    let right = row_shown proper to here c.row_values.new.table c.row_values.array_long c.row_values.ensures in
    let met = row_meets proper to here right (rw (c.shown.ensures.is, c.row_of-row.ensures) at c.meets_constraints.ensures) in
    (to.held, λ e. absurd (true≢false (sym e)), λ e. broken_here proper to here (sym met ∙ c.if-not-meets_constraints.true))

pub loop-t-preserved : goal.loop-t-preserved
loop-t-preserved c =
    let to = c.loop-t.invariant in
    let proper = c.shown.ensures.proper in
    let here : c.loop-t.t ≤ c.args.p.now.bound = omega (arith, c.bound-last.ensures.is) in
    let right = row_shown proper to here c.row_values.new.table c.row_values.array_long c.row_values.ensures in
    let met = sym (row_meets proper to here right (rw (c.shown.ensures.is, c.row_of-row.ensures) at c.meets_constraints.ensures)) ∙ c.if-not-meets_constraints.false in
    elim c.if-t-last.branch [
      | then-t-last w ↦
          rw w.run-is (next_shown proper to here (omega (arith, c.bound-last.ensures.is)) _ right met _
          (rw (w.shown-then-t-last.ensures.is, w.inputs.ensures.is, c.row_of-row.ensures) at w.next_latches.ensures))
      | else-t-last w ↦ rw w.run-is (last_shown proper to here (omega (arith, c.bound-last.ensures.is)) _ right met)
    ]

pub returns-after-t-last : goal.returns-after-t-last
returns-after-t-last c =
    let to = c.loop-t.invariant in
    let proper = c.shown.ensures.proper in
    let here : c.loop-t.t ≤ c.args.p.now.bound = omega (arith, c.bound-last.ensures.is) in
    let right = row_shown proper to here c.row_values.new.table c.row_values.array_long c.row_values.ensures in
    let met = sym (row_meets proper to here right (rw (c.shown.ensures.is, c.row_of-row.ensures) at c.meets_constraints.ensures)) ∙ c.if-not-meets_constraints.false in
    let all : RunTo c.args.p.now c.args.m (c.loop-t.t + 1) c.if-t-last.run c.row_values.new.table = elim c.if-t-last.branch [
      | then-t-last w ↦ absurd (omega arith)
      | else-t-last w ↦ rw w.run-is (last_shown proper to here (omega (arith, c.bound-last.ensures.is)) _ right met)
    ] in
    (all.held, λ e. all_shown proper all (omega (arith, c.bound-last.ensures.is)), λ e. absurd (true≢false e))
