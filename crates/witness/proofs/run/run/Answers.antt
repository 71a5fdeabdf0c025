-- Each turn makes one row of the table, from those before it. Assumes nothing.
use Rattle.std.proofs.Common.{◌≡◌, ◌+◌, ◌++◌, length, take, drop, sym, ◌∙◌, arith}
use Rattle.answers.specs.Limits.{inputs_limit, latches_limit, gates_limit}
use Rattle.values.specs.Tables.{row_width, RowsRight}
use Rattle.witness.proofs.RowParts.{row_lent, rows_before, one_row}
use Rattle.witness.proofs.run.run.Goals as goal
use Rattle.witness.proofs.run.run.Goals.{After-split_at_mut-before, After-row}

lent : (c : After-split_at_mut-before) → length (take row_width c.split_at_mut-before.result.1.now) ≡ row_width
unfolding inputs_limit latches_limit gates_limit row_width
lent c =
    row_lent c.bound-t-end.ensures.proper c.loop-t.invariant c.split_at_mut-before.result.0.now c.split_at_mut-before.result.1.now
    c.split_at_mut-before.ensures.value c.split_at_mut-before.ensures.front_len (omega arith)

made : (c : After-row) → RowsRight c.args.p.now c.args.witness.now (c.loop-t.t + 1)
    (c.split_at_mut-before.result.0.now ++ (c.row.new.row ++ drop row_width c.split_at_mut-before.result.1.now))
unfolding inputs_limit latches_limit gates_limit row_width
made c =
    one_row c.bound-t-end.ensures.proper c.loop-t.invariant c.split_at_mut-before.result.0.now c.split_at_mut-before.result.1.now
    c.split_at_mut-before.ensures.value c.split_at_mut-before.ensures.front_len (omega arith) c.row.new.row
    (c.row.auto.row ∙ lent (goal.at.After-row c).After-split_at_mut-before) c.row.ensures

pub slice_bounds-row-end-in-loop-t : goal.slice_bounds-row-end-in-loop-t
unfolding inputs_limit latches_limit gates_limit row_width
slice_bounds-row-end-in-loop-t c = sym (lent (goal.at.slice_bounds-row-end-in-loop-t c).After-split_at_mut-before)

pub row-requires-clause-ready : goal.row-requires-clause-ready
unfolding inputs_limit latches_limit gates_limit row_width
row-requires-clause-ready c = record {
  long = c.requires.0;
  within = omega arith;
  row_long = lent (goal.at.row-requires-clause-ready c).After-split_at_mut-before;
}

pub row-requires-clause-before : goal.row-requires-clause-before
unfolding inputs_limit latches_limit gates_limit row_width
row-requires-clause-before c =
    rows_before c.bound-t-end.ensures.proper c.loop-t.invariant c.split_at_mut-before.result.0.now c.split_at_mut-before.result.1.now
    c.split_at_mut-before.ensures.value c.split_at_mut-before.ensures.front_len (omega arith)

pub loop-t-preserved : goal.loop-t-preserved
unfolding inputs_limit latches_limit gates_limit row_width
loop-t-preserved c = made (goal.at.loop-t-preserved c).After-row

pub returns-2 : goal.returns-2
unfolding inputs_limit latches_limit gates_limit row_width
returns-2 c =
    let last : c.args.p.now.bound + 1 ≡ c.loop-t.t + 1 = omega arith in
    rw last (made (goal.at.returns-2 c).After-row)
