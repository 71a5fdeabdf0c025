-- The inputs of the positions after t are right.
use Rattle.std.proofs.Common.{◌+◌}
use Rattle.finder.proofs.Filling.{InputsFrom}
use Rattle.finder.proofs.run.all_inputs_by.Given as goal

abbrev pub invariant-loop-t : goal.invariant-loop-t
invariant-loop-t l = InputsFrom l.p.inputs l.p.bound l.m (l.t + 1) l.rest l.run
