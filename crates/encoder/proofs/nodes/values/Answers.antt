-- What is written for each of the positions is the whole. Assumes nothing.
use Rattle.std.proofs.Common.{rules}
use Rattle.encoder.specs.ItemParts.{value_clauses}
use Rattle.problem.specs.Promise.{node_read}
use Rattle.encoder.proofs.nodes.values.Goals as goal

pub each-requires : goal.each-requires
each-requires c =
    let proper = c.requires.0 in
    let n = c.requires.1 in
    let good = c.positions-all.ensures.proper in
    (value_clauses c.args.p.now c.args.n (node_read c.args.node), search rules, rw c.positions-all.ensures.is c.requires.2)

pub returns : goal.returns
returns c =
    let proper = c.requires.0 in
    let n = c.requires.1 in
    let good = c.positions-all.ensures.proper in
    rw c.positions-all.ensures.is at (c.each.ensures (value_clauses c.args.p.now c.args.n (node_read c.args.node)) (search rules) (rw c.positions-all.ensures.is c.requires.2))
