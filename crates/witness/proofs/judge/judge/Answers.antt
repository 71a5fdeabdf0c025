-- A refused problem's answer is the check's; a good one's is that of the witness. Assumes nothing.
use Rattle.std.proofs.Common.{◌∙◌}
use Rattle.std.proofs.lemmas.Result.{err_from_is_err_and}
use Rattle.witness.proofs.Judging.{good_judged, refused_judged}
use Rattle.witness.proofs.judge.judge.Goals as goal

pub returns-in_err-p : goal.returns-in_err-p
returns-in_err-p c =
    let p = err_from_is_err_and c.from_residual.result c.from_residual.ensures.1 in
    rw (p.1, p.2) (refused_judged c.args.version c.args.words.now c.args.witness.now _ c.in_err-p.ensures)

pub returns : goal.returns
returns c = c.judge_good.ensures ∙ good_judged c.args.version c.args.words.now c.args.witness.now c.in_ok-p.ensures
