-- What is written for each of the nodes is the whole. Assumes nothing.
use Rattle.std.proofs.Common.{rules}
use Rattle.meaning.specs.Cnf.{node_clauses}
use Rattle.encoder.proofs.nodes.nodes.Goals as goal

pub each-requires : goal.each-requires
each-requires c =
    (node_clauses c.args.p.now, search rules, rw c.nodes.ensures.is c.requires)

pub returns : goal.returns
returns c =
    rw c.nodes.ensures.is at (c.each.ensures (node_clauses c.args.p.now) (search rules) (rw c.nodes.ensures.is c.requires))
