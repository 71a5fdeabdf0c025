-- Before each turn the latches passed are counted. Assumes nothing.
use Rattle.std.proofs.Common.{◌≡◌, take}
use Rattle.meaning.proofs.ClosedForms.{fixed_resets}
use Rattle.problem.proofs.count.fixed.Given as goal

abbrev pub invariant-loop-i : goal.invariant-loop-i
invariant-loop-i l = l.count ≡ fixed_resets (take l.i l.fn.p.latches)
