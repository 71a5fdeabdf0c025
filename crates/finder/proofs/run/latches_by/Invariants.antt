-- The latches from i on are right.
use Rattle.finder.specs.Runs.{resets}
use Rattle.finder.proofs.FirstLatches.{LatchesFrom}
use Rattle.finder.proofs.run.latches_by.Given as goal

abbrev pub invariant-loop-i : goal.invariant-loop-i
invariant-loop-i l = LatchesFrom (resets l.p) l.p.inputs l.digits l.i l.rest l.initial.row l.row
