-- The positions before t are shown.
use Rattle.finder.proofs.RunValues.{RunTo}
use Rattle.finder.proofs.rows.run_values.Given as goal

abbrev pub invariant-loop-t : goal.invariant-loop-t
invariant-loop-t l = RunTo l.p l.m l.t l.run l.table
