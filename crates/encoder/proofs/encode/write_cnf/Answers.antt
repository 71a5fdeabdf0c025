-- The check decides, and of a good problem the room's length. Assumes nothing.
use Rattle.std.proofs.lemmas.Result.{err_from_is_err_and}
use Rattle.encoder.proofs.RoomAnswers.{encoded_if_good, encoded_if_refused}
use Rattle.encoder.proofs.encode.write_cnf.Goals as goal

pub returns : goal.returns
returns c = encoded_if_good c.in_ok-p.ensures c.write_problem.ensures

pub returns-in_err-p : goal.returns-in_err-p
returns-in_err-p c =
    let e = err_from_is_err_and c.from_residual.result c.from_residual.ensures.1 in
    rw (e.1, e.2) (encoded_if_refused c.in_err-p.ensures _)
