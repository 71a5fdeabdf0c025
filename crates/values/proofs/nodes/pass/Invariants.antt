-- The positions after i have their values, and y is the one at the next.
use Rattle.problem.specs.Promise.{node_read}
use Rattle.values.proofs.NodeValues.{Passing}
use Rattle.values.proofs.nodes.pass.Given as goal

abbrev pub invariant-loop-i : goal.invariant-loop-i
invariant-loop-i l = Passing l.run l.below (node_read l.node) l.end l.own l.y l.i
