-- `prepare` meets its contract: the problem's refusals, and then what is prepared for a good one. Assumes nothing.
use Rattle.checker.proofs.Preparing.{prepared_at, prepared_if_refused}
use Rattle.checker.proofs.prepare.prepare.Goals as goal

pub returns-in-Ok : goal.returns-in-Ok
returns-in-Ok c = prepared_at c.in-Ok.ensures.0 c.in-Ok.ensures.1 c.prepare_good.ensures

pub returns-in-Err : goal.returns-in-Err
returns-in-Err c = prepared_if_refused c.in-Err.ensures _
