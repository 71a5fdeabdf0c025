-- The latches stand behind the inputs. Assumes nothing.
use Rattle.std.proofs.Common.{◌≡◌, suc, ◌-◌, ◌*◌, length, arith}
use Rattle.answers.specs.Limits.{inputs_limit, latches_limit, gates_limit}
use Rattle.values.specs.Tables.{row_width}
use Rattle.witness.proofs.RowParts.{first_there, next_there, part_long}
use Rattle.witness.proofs.run.latches.Goals as goal

pub returns-in-Some : goal.returns-in-Some
unfolding inputs_limit latches_limit gates_limit row_width
returns-in-Some c =
    let u = c.in-Some.last in
    let after : c.args.t ≡ suc u = omega (arith, c.in-Some.ensures) in
    let lent : length c.args.before.now - u * row_width ≡ row_width = omega (arith, after, c.requires.before.room) in
    rw (rw (c.shown.ensures.is, c.inputs.ensures.is, lent) at c.next_latches.ensures)
    (next_there c.shown.ensures.proper c.requires.ready u _ after (c.requires.before.right u (omega (arith, after))))

pub returns-in-None : goal.returns-in-None
returns-in-None c =
    let zero : c.args.t ≡ 0 = omega (arith, c.in-None.ensures) in
    rw (c.inputs.ensures.is)
    (first_there c.inputs.ensures.proper c.requires.ready c.copy_bits.new.values _ zero (rw (c.latches-latches.ensures.is, part_long) at c.copy_bits.ensures))
