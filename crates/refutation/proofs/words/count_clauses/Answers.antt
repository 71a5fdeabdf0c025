-- `count_clauses` meets its contract. Assumes nothing.
use Rattle.std.proofs.Common.{arith}
use Rattle.answers.specs.Limits.{variables_limit}
use Rattle.refutation.proofs.CountClauses.{read_cnf, limit_passed}
use Rattle.refutation.proofs.words.count_clauses.Goals as goal

pub returns-then-variables-gt-VARIABLES_LIMIT : goal.returns-then-variables-gt-VARIABLES_LIMIT
unfolding variables_limit
returns-then-variables-gt-VARIABLES_LIMIT c = limit_passed _ _ c.if-variables-gt-VARIABLES_LIMIT.true

pub loop-i-init : goal.loop-i-init
unfolding variables_limit
loop-i-init c = (omega arith, read_cnf _ _ c.if-variables-gt-VARIABLES_LIMIT.false)
