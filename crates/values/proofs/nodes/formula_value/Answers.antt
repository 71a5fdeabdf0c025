-- False where a test fails, and past the tests the last node's value. Assumes nothing.
use Rattle.std.proofs.Common.{◌+◌, ◌≤◌, sym, arith}
use Rattle.answers.specs.Limits.{inputs_limit, latches_limit, gates_limit, bound_limit}
use Rattle.values.specs.Tables.{row_width}
use Rattle.values.proofs.Fits.{nodes_fit_says, rows_fit_says, ready_if_fit, value_unless_nodes, value_unless_first, value_unless_rows, value_if_fit, shape_given, start_given}
use Rattle.values.proofs.nodes.formula_value.Goals as goal
use Rattle.values.proofs.nodes.formula_value.Goals.{then-not-nodes_fit-via-then-not-nodes_fit, then-not-nodes_fit-via-else-not-nodes_fit+then-last-first, then-not-nodes_fit-via-else-not-nodes_fit+else-last-first+then-not-rows_fit}

pub rows_fit-requires : goal.rows_fit-requires
unfolding bound_limit
rows_fit-requires c = let fit = nodes_fit_says c.args.p.now (sym c.if-not-nodes_fit.ensures) in omega (arith, fit.bound_within)

pub returns-then-not-nodes_fit : goal.returns-then-not-nodes_fit
returns-then-not-nodes_fit c =
    let p = c.args.p.now in
    let first = c.args.first in
    let table = c.args.table.now in
    elim c.then-not-nodes_fit.branch [
      | then-not-nodes_fit-via-then-not-nodes_fit w ↦ value_unless_nodes p first table (sym w.if-not-nodes_fit.ensures)
      | then-not-nodes_fit-via-else-not-nodes_fit+then-last-first w ↦
          value_unless_first p first table (sym w.if-not-nodes_fit.ensures) (omega arith)
      | then-not-nodes_fit-via-else-not-nodes_fit+else-last-first+then-not-rows_fit w ↦
          value_unless_rows p first table (sym w.if-not-nodes_fit.ensures) (omega arith) (sym w.if-not-rows_fit.ensures)
    ]

pub invariant_of-last_value-clause-room : goal.invariant_of-last_value-clause-room
unfolding row_width inputs_limit latches_limit gates_limit bound_limit
invariant_of-last_value-clause-room c = (rows_fit_says c.args.p.now c.args.table.now (sym c.if-not-rows_fit.ensures)).0

pub invariant_of-last_value-clause-last_within : goal.invariant_of-last_value-clause-last_within
unfolding bound_limit
invariant_of-last_value-clause-last_within c = let fit = nodes_fit_says c.args.p.now (sym c.if-not-nodes_fit.ensures) in omega (arith, fit.bound_within)

pub invariant_of-last_value-clause-start_within : goal.invariant_of-last_value-clause-start_within
invariant_of-last_value-clause-start_within c = start_given _ c.checked_sub-start.ensures c.if-last-first.false

pub last_value-requires : goal.last_value-requires
last_value-requires c =
    ready_if_fit _ _ c.bound-last.ensures (sym c.if-not-nodes_fit.ensures) (sym c.if-not-rows_fit.ensures)

pub returns : goal.returns
returns c =
    let first : c.args.first ≤ c.args.p.now.bound + 1 = omega arith in
    value_if_fit _ c.args.first _ (sym c.if-not-nodes_fit.ensures) first (sym c.if-not-rows_fit.ensures) (shape_given _ _ c.checked_sub-start.ensures)
    c.last_value.ensures
