-- A space, then the number. Assumes nothing.
use Rattle.aiger.proofs.LinesLaws.{stops, passed, followed, ends, lasts}
use Rattle.aiger.proofs.lines.spaced.Goals as goal

pub returns-in_err-mark : goal.returns-in_err-mark
returns-in_err-mark c = stops c.from_residual.ensures.1 (ends _ (passed c.in_err-mark.ensures))

pub returns : goal.returns
returns c = followed (passed c.in_ok-mark.ensures) (lasts c.at_most.ensures)
