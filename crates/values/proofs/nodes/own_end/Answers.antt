-- The pass gives Q, and Q at the start is E. Assumes nothing.
use Rattle.values.proofs.NodeValues.{end_found}
use Rattle.values.proofs.nodes.own_end.Goals as goal

pub returns-then-is_some-goes_on : goal.returns-then-is_some-goes_on
returns-then-is_some-goes_on c = end_found c.second_end.ensures c.pass.ensures c.end.ensures
