-- The number that stands there is the known one, or another. Assumes nothing.
use Rattle.aiger.proofs.DueLaws.{exit, exactly_none, exactly_found, exactly_wrong}
use Rattle.aiger.proofs.due.exactly.Goals as goal

pub returns-in_err-told : goal.returns-in_err-told
returns-in_err-told c = rw (exit c.from_residual.ensures.1) (exactly_none _ c.in_err-told.ensures)

pub returns-then-told-n : goal.returns-then-told-n
returns-then-told-n c = exactly_wrong _ c.in_ok-told.ensures c.if-told-n.true

pub returns : goal.returns
returns c = exactly_found _ c.in_ok-told.ensures c.if-told-n.false
