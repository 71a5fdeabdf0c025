-- What is written for each of the gates is the whole. Assumes nothing.
use Rattle.std.proofs.Common.{rules}
use Rattle.meaning.specs.Cnf.{gate_clauses}
use Rattle.encoder.proofs.circuit.gates_at.Goals as goal

pub each-requires : goal.each-requires
each-requires c =
    let t = c.requires.0 in
    (gate_clauses c.args.p.now c.args.t, search rules, rw c.gates.ensures.is c.requires.1)

pub returns : goal.returns
returns c =
    let t = c.requires.0 in
    rw c.gates.ensures.is at (c.each.ensures (gate_clauses c.args.p.now c.args.t) (search rules) (rw c.gates.ensures.is c.requires.1))
