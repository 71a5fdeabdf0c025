-- Before each turn the gates passed are put. Assumes nothing.
use Rattle.std.proofs.Common.{◌*◌}
use Rattle.values.specs.declared.rows.TheConstants.{TOGETHER}
use Rattle.values.specs.Tables.{given_width}
use Rattle.values.proofs.RowGates.{GatesTo}
use Rattle.values.proofs.rows.gates.Given as goal

abbrev pub invariant-loop-turn : goal.invariant-loop-turn
invariant-loop-turn l = GatesTo l.p.gates (given_width l.p) 0 l.fn.row (l.turn * TOGETHER) l.row

abbrev pub invariant-loop-j : goal.invariant-loop-j
invariant-loop-j l = GatesTo l.p.gates (given_width l.p) 0 l.fn.row l.j l.row

abbrev pub invariant-loop-k : goal.invariant-loop-k
invariant-loop-k l = GatesTo l.p.gates (given_width l.p) 0 l.fn.row l.k l.row
