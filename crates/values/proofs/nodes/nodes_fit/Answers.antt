-- The limits, and the children. Assumes nothing.
use Rattle.answers.specs.Limits.{nodes_limit, bound_limit}
use Rattle.values.proofs.nodes.nodes_fit.Goals as goal

pub returns-then-nodes-bound : goal.returns-then-nodes-bound
unfolding nodes_limit bound_limit
returns-then-nodes-bound c =
    rw (← c.nodes-nodes.ensures, ← c.bound.ensures, c.if-nodes-bound.true, c.nodes-nodes.ensures) c.all_earlier.ensures

pub returns-else-nodes-bound : goal.returns-else-nodes-bound
unfolding nodes_limit bound_limit
returns-else-nodes-bound c = rw (← c.nodes-nodes.ensures, ← c.bound.ensures, c.if-nodes-bound.false)
