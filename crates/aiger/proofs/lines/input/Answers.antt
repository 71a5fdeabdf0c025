-- Its own literal, then the end of the line. Assumes nothing.
use Rattle.aiger.proofs.DueLaws.{exit}
use Rattle.aiger.proofs.LinesLaws.{passed_both, passes_end}
use Rattle.aiger.proofs.lines.input.Goals as goal

pub returns-in_err-exactly : goal.returns-in_err-exactly
returns-in_err-exactly c = rw (exit c.from_residual.ensures.1) (passes_end _ c.in_err-exactly.ensures)

pub returns : goal.returns
returns c = passed_both c.in_ok-exactly.ensures c.mark.ensures
