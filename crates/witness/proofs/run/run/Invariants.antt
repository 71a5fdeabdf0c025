-- Before each turn the rows before are right.
use Rattle.values.specs.Tables.{RowsRight}
use Rattle.witness.proofs.run.run.Given as goal

abbrev pub invariant-loop-t : goal.invariant-loop-t
invariant-loop-t l = RowsRight l.p l.witness l.t l.table
