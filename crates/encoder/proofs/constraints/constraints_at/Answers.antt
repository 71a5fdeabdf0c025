-- What is written for each of the constraints is the whole. Assumes nothing.
use Rattle.std.proofs.Common.{rules}
use Rattle.meaning.specs.Cnf.{constraint_unit}
use Rattle.encoder.proofs.constraints.constraints_at.Goals as goal

pub each-requires : goal.each-requires
each-requires c =
    let t = c.requires.0 in
    (constraint_unit c.args.p.now c.args.t, search rules, rw c.constraints-n.ensures.is c.requires.1)

pub returns : goal.returns
returns c =
    let t = c.requires.0 in
    rw c.constraints-n.ensures.is at (c.each.ensures (constraint_unit c.args.p.now c.args.t) (search rules) (rw c.constraints-n.ensures.is c.requires.1))
