-- What is written for each of the positions is the whole. Assumes nothing.
use Rattle.std.proofs.Common.{rules}
use Rattle.meaning.specs.Cnf.{e_clauses}
use Rattle.problem.specs.Promise.{node_read}
use Rattle.encoder.proofs.nodes.ends.Goals as goal

pub each-requires : goal.each-requires
each-requires c =
    let n = c.requires.0 in
    (e_clauses c.args.p.now c.args.n (node_read c.args.node), search rules, rw c.positions-all.ensures.is c.requires.1)

pub returns : goal.returns
returns c =
    let n = c.requires.0 in
    rw c.positions-all.ensures.is at (c.each.ensures (e_clauses c.args.p.now c.args.n (node_read c.args.node)) (search rules) (rw c.positions-all.ensures.is c.requires.1))
