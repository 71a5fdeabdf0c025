-- The literal, then the end of the line. Assumes nothing.
use Rattle.aiger.proofs.LinesLaws.{stops, passed, followed, ends, lasts}
use Rattle.aiger.proofs.lines.output.Goals as goal

pub returns-in_err-at_most : goal.returns-in_err-at_most
returns-in_err-at_most c = stops c.from_residual.ensures.1 (ends _ c.in_err-at_most.ensures)

pub returns : goal.returns
returns c = followed c.in_ok-at_most.ensures (lasts (passed c.mark.ensures))
