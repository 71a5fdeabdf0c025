-- What is written for each of the latches is the whole. Assumes nothing.
use Rattle.std.proofs.Common.{rules}
use Rattle.meaning.specs.Cnf.{closing_clauses}
use Rattle.encoder.proofs.circuit.closings_at.Goals as goal

pub each-requires : goal.each-requires
each-requires c =
    let l = c.requires.0 in
    (closing_clauses c.args.p.now c.args.l, search rules, rw c.latches-n.ensures.is c.requires.1)

pub returns : goal.returns
returns c =
    let l = c.requires.0 in
    rw c.latches-n.ensures.is at (c.each.ensures (closing_clauses c.args.p.now c.args.l) (search rules) (rw c.latches-n.ensures.is c.requires.1))
