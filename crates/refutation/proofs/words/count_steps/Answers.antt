-- `count_steps` meets its contract. Assumes nothing.
use Rattle.std.proofs.Common.{arith}
use Rattle.refutation.proofs.CountSteps.{read_refutation}
use Rattle.refutation.proofs.words.count_steps.Goals as goal

pub loop-i-init : goal.loop-i-init
loop-i-init c = (omega arith, read_refutation _ _ _)
