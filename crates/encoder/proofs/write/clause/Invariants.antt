-- Before each turn the literals so far are written. Assumes nothing.
use Rattle.std.proofs.Common.{take}
use Rattle.encoder.specs.Writing.{Wrote}
use Rattle.encoder.proofs.write.clause.Given as goal

abbrev pub invariant-loop-x : goal.invariant-loop-x
invariant-loop-x l = Wrote l.at (take l.x-index l.literals) l.fn.room l.room l.next
