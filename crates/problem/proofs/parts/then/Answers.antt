-- The library's `and` joins two parts. Assumes nothing.
use Rattle.problem.proofs.Answered.{joined}
use Rattle.problem.proofs.parts.then.Goals as goal

pub returns : goal.returns
returns c = rw c.and.ensures (joined c.args.first c.args.second)
