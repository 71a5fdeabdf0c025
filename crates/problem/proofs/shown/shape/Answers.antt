-- The arm of op 2. Assumes nothing.
use Rattle.problem.proofs.shown.shape.Goals as goal

pub returns-in-2 : goal.returns-in-2
returns-in-2 c = rw c.in-2.is
