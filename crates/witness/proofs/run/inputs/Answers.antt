-- Variable 0 is false, and the inputs stand behind it. Assumes nothing.
use Rattle.std.proofs.Common.{◌≡◌, ◌+◌, ◌-◌, arith}
use Rattle.witness.proofs.RowParts.{part_long, inputs_there}
use Rattle.witness.proofs.run.inputs.Goals as goal

pub returns : goal.returns
returns c =
    let size : (1 + c.args.p.now.inputs) - 1 ≡ c.args.p.now.inputs = omega arith in
    inputs_there c.inputs-inputs.ensures.proper c.requires c.copy_bits.new.values _
    (rw (c.inputs-inputs.ensures.is, c.latches.ensures.is, part_long) at c.copy_bits.ensures)
