-- What is written for each of the positions is the whole. Assumes nothing.
use Rattle.std.proofs.Common.{rules}
use Rattle.encoder.specs.ItemParts.{gates_at}
use Rattle.encoder.proofs.circuit.gates.Goals as goal

pub each-requires : goal.each-requires
each-requires c =
    (gates_at c.args.p.now, search rules, rw c.positions-n.ensures.is c.requires)

pub returns : goal.returns
returns c =
    rw c.positions-n.ensures.is at (c.each.ensures (gates_at c.args.p.now) (search rules) (rw c.positions-n.ensures.is c.requires))
