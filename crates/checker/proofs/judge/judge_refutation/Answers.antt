-- `judge_refutation` meets its contract: a refusal before the CNF is written changes nothing, and then the steps are judged. Assumes nothing.
use Rattle.std.proofs.lemmas.Result.{err_from_is_err_and}
use Rattle.meaning.specs.Problem.{problem}
use Rattle.checker.proofs.ProblemRefutation.{refused_before, cnf_held, steps_answered}
use Rattle.checker.proofs.judge.judge_refutation.Goals as goal

pub judge_written-requires : goal.judge_written-requires
judge_written-requires c = record { p = problem c.args.version c.args.words.now; holds = cnf_held _ _ _ _ _ _ c.in_ok-n.ensures }

pub returns : goal.returns
returns c =
    steps_answered _ _ _ _ _ _ c.in_ok-n.ensures (c.judge_written.ensures _ (cnf_held _ _ _ _ _ _ c.in_ok-n.ensures))

pub returns-in_err-n : goal.returns-in_err-n
returns-in_err-n c =
    let p = err_from_is_err_and c.from_residual.result c.from_residual.ensures.1 in
    rw (p.1, p.2) (refused_before _ _ _ _ _ _ c.in_err-n.ensures)
