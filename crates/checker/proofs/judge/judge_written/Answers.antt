-- `judge_written` meets its contract: the CNF is the first words of the room. Assumes nothing.
use Rattle.std.proofs.Common.{arith}
use Rattle.answers.specs.Limits.{variables_limit}
use Rattle.checker.proofs.ProblemRefutation.{variables_few, judged_for, lifted_is}
use Rattle.checker.proofs.judge.judge_written.Goals as goal

pub overflow_cast-n : goal.overflow_cast-n
unfolding variables_limit
overflow_cast-n c = omega (arith, variables_few c.requires.holds)

pub returns : goal.returns
returns c = λ p held. rw (lifted_is _ _ c.map_err.ensures.cases) (judged_for held c.judge-judged.ensures)
