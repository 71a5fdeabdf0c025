-- The last node is the formula. Assumes nothing.
use Rattle.std.proofs.Common.{◌-◌, length, zero-le, arith}
use Rattle.values.proofs.NodeValues.{formula_from}
use Rattle.values.proofs.nodes.last_value.Goals as goal

pub returns : goal.returns
returns c =
    let some = c.requires.fit.nodes_some in
    rw c.nodes.ensures (formula_from c.requires ((c.loop-n.invariant (length c.args.p.now.nodes - 1) (omega arith)).right 0 zero-le))
