-- A refusal of one number is that of all; where none refuses, all pass. Assumes nothing.
use Rattle.problem.proofs.Answered.{passed_more, passed_all, refused_at, at_refusal}
use Rattle.aiger.proofs.check.all.Goals as goal

pub returns-in_err-part : goal.returns-in_err-part
returns-in_err-part g c = λ f said. at_refusal c.from_residual.ensures.1 (refused_at (c.loop-i.invariant f said) c.loop-i-test.true (said _ _ c.loop-i-test.true c.in_err-part.ensures))

pub loop-i-preserved : goal.loop-i-preserved
loop-i-preserved g c = λ f said. passed_more (c.loop-i.invariant f said) c.loop-i-test.true (said _ _ c.loop-i-test.true c.in_ok-part.ensures)

pub returns : goal.returns
returns g c = λ f said. passed_all (c.loop-i.invariant f said) c.loop-i-test.false
