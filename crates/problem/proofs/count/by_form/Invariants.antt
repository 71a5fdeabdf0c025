-- Before each turn the nodes passed are counted. Assumes nothing.
use Rattle.std.proofs.Common.{take}
use Rattle.problem.specs.Forms.{FormsOf}
use Rattle.problem.proofs.count.by_form.Given as goal

abbrev pub invariant-loop-n : goal.invariant-loop-n
invariant-loop-n l = FormsOf (take l.n l.fn.p.nodes) l.forms
