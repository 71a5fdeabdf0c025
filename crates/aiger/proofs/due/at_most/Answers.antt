-- The number that stands there is kept, or it is too large. Assumes nothing.
use Rattle.aiger.proofs.DueLaws.{exit, at_most_none, at_most_wrong, at_most_found}
use Rattle.aiger.proofs.due.at_most.Goals as goal

pub returns-in_err-n : goal.returns-in_err-n
returns-in_err-n c = rw (exit c.from_residual.ensures.1) (at_most_none _ c.in_err-n.ensures)

pub returns-then-most-n : goal.returns-then-most-n
returns-then-most-n c = at_most_wrong _ c.in_ok-n.ensures c.if-most-n.true

pub returns : goal.returns
returns c = at_most_found _ c.in_ok-n.ensures c.requires c.if-most-n.false c.keep.ensures
