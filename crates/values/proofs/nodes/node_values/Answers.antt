-- The node's end, and from it down its row. Assumes nothing.
use Rattle.values.proofs.NodeValues.{row_is}
use Rattle.values.proofs.nodes.node_values.Goals as goal

pub returns : goal.returns
returns c = row_is c.requires c.node-node.ensures c.own_end-end.ensures _ c.pass.ensures
