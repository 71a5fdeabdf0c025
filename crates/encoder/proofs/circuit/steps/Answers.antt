-- What is written for each of the positions is the whole. Assumes nothing.
use Rattle.std.proofs.Common.{rules}
use Rattle.encoder.specs.ItemParts.{steps_at}
use Rattle.encoder.proofs.circuit.steps.Goals as goal

pub each-requires : goal.each-requires
each-requires c =
    (steps_at c.args.p.now, search rules, rw c.bound.ensures.is c.requires)

pub returns : goal.returns
returns c =
    rw c.bound.ensures.is at (c.each.ensures (steps_at c.args.p.now) (search rules) (rw c.bound.ensures.is c.requires))
