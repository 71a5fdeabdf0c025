-- The ops of the form. Assumes nothing.
use Rattle.std.proofs.Common.{sym}
use Rattle.problem.proofs.FormsByOp.{by_op}
use Rattle.problem.proofs.count.is_or.Goals as goal

pub returns : goal.returns
returns c = λ a b. sym (by_op c.args.op a b).or_is
