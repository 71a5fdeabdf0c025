-- What is written for each of the latches is the whole. Assumes nothing.
use Rattle.std.proofs.Common.{rules}
use Rattle.encoder.specs.ItemParts.{step_clauses}
use Rattle.encoder.proofs.circuit.steps_at.Goals as goal

pub each-requires : goal.each-requires
each-requires c =
    let t = c.requires.0 in
    (step_clauses c.args.p.now c.args.t, search rules, rw c.latches.ensures.is c.requires.1)

pub returns : goal.returns
returns c =
    let t = c.requires.0 in
    rw c.latches.ensures.is at (c.each.ensures (step_clauses c.args.p.now c.args.t) (search rules) (rw c.latches.ensures.is c.requires.1))
