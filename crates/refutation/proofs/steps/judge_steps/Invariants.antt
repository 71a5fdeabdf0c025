-- The steps before `done` are accepted, and the next begins at `at`. Assumes nothing.
use Rattle.refutation.proofs.JudgeSteps.{Judging}
use Rattle.refutation.proofs.steps.judge_steps.Given as goal

abbrev pub invariant-loop-done : goal.invariant-loop-done
invariant-loop-done l =
    Judging l.words.variables l.words.cnf.now l.words.refutation.now l.words.clauses l.values l.places l.done l.closed l.at
