-- Where all parts pass, the record is that of the words. Assumes nothing.
use Rattle.problem.proofs.Answered.{part_passes}
use Rattle.problem.proofs.Formed.{good_by_parts}
use Rattle.problem.proofs.check.check.Goals as goal

pub returns : goal.returns
returns c = good_by_parts _ _ (part_passes c.in_ok-header.ensures c.in_ok-limits.ensures) c.outline-outline.ensures c.in_ok-parts.ensures (rw c.new.ensures at c.numbers-counts.ensures)
