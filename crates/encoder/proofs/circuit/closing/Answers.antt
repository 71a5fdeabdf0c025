-- What is written for each of the positions is the whole. Assumes nothing.
use Rattle.std.proofs.Common.{rules}
use Rattle.encoder.specs.ItemParts.{closings_at}
use Rattle.encoder.proofs.circuit.closing.Goals as goal

pub each-requires : goal.each-requires
each-requires c =
    (closings_at c.args.p.now, search rules, rw c.positions-n.ensures.is c.requires)

pub returns : goal.returns
returns c =
    rw c.positions-n.ensures.is at (c.each.ensures (closings_at c.args.p.now) (search rules) (rw c.positions-n.ensures.is c.requires))
