-- A good problem is searched, and a refusal is the answer. Assumes nothing.
use Rattle.finder.proofs.FinderAnswers.{found_if_good, found_if_refused, refused_as}
use Rattle.finder.proofs.find.find.Goals as goal

pub returns-in_err-p : goal.returns-in_err-p
returns-in_err-p c = rw (refused_as c.from_residual.result c.from_residual.ensures.1) (found_if_refused c.in_err-p.ensures _)

pub returns : goal.returns
returns c = found_if_good c.in_ok-p.ensures.0 (rw c.in_ok-p.ensures.1 at c.find_good.ensures)
