-- `judge_counted` meets its contract. Assumes nothing.
use Rattle.std.proofs.Common.{ℕ, arith}
use lib.ListN.{length-take}
use Rattle.clauses.proofs.CnfPassed.{cnf_right}
use Rattle.refutation.proofs.JudgeCounted.{standing_start}
use Rattle.refutation.proofs.judge.judge_counted.Goals as goal

pub place_cnf-requires : goal.place_cnf-requires
place_cnf-requires c =
    let right = c.args.words.now.cnf_right in
    ((cnf_right _ _ right.0).1, omega (arith, length-take {A = ℕ}, right.1))

pub judge_steps-answer-requires-clause-standing : goal.judge_steps-answer-requires-clause-standing
judge_steps-answer-requires-clause-standing c =
    let right = c.args.words.now.cnf_right in
    standing_start _ right.1 (cnf_right _ _ right.0).0 c.place_cnf.ensures
