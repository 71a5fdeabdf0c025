-- The literals before `w` are set false. Assumes nothing.
use Rattle.std.proofs.Common.{take}
use Rattle.refutation.proofs.SetFalse.{SetFalse}
use Rattle.refutation.proofs.values.Stamp.set_false.Given as goal

abbrev pub invariant-loop-w : goal.invariant-loop-w
invariant-loop-w l = SetFalse l.self.variables l.self.stamp l.fn.area (take l.w-index l.clause) l.area
