-- The hints before `i` are taken. Assumes nothing.
use Rattle.clauses.specs.Refutations.{clause_numbered}
use Rattle.refutation.specs.Named.{named}
use Rattle.refutation.proofs.Accepted.{HintsTaken}
use Rattle.refutation.proofs.steps.accepted.Given as goal

abbrev pub invariant-loop-i : goal.invariant-loop-i
invariant-loop-i l = HintsTaken l.stamp.variables l.stamp.stamp (clause_numbered (named l.so_far)) l.clause l.hints l.fn.values l.values l.i
