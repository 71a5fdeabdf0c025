-- `unit` is what the literals before `w` give. Assumes nothing.
use Rattle.std.proofs.Common.{take}
use Rattle.refutation.proofs.Find.{LiteralsGive}
use Rattle.refutation.proofs.values.Stamp.find.Given as goal

abbrev pub invariant-loop-w : goal.invariant-loop-w
invariant-loop-w l = LiteralsGive l.self.variables l.self.stamp l.area (take l.w-index l.clause) l.unit
