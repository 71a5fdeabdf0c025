-- A run more: it is better, or it is not. Assumes nothing.
use Rattle.std.proofs.Common.{◌+◌, ap, arith}
use Rattle.finder.proofs.NewRun.{held_new}
use Rattle.finder.proofs.search.search.Goals as goal

pub loop-m-init : goal.loop-m-init
loop-m-init c = (ap (λ b. b + 2) c.bound-limit.ensures.is, λ m l. absurd (omega arith), held_new)
