-- What is written for each of the latches is the whole. Assumes nothing.
use Rattle.std.proofs.Common.{rules}
use Rattle.encoder.specs.ItemParts.{reset_clauses}
use Rattle.encoder.proofs.circuit.resets.Goals as goal

pub each-requires : goal.each-requires
each-requires c =
    (reset_clauses c.args.p.now, search rules, rw c.latches.ensures.is c.requires)

pub returns : goal.returns
returns c =
    rw c.latches.ensures.is at (c.each.ensures (reset_clauses c.args.p.now) (search rules) (rw c.latches.ensures.is c.requires))
