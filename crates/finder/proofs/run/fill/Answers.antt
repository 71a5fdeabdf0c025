-- The inputs take the lowest digits, and the first latches those above. Assumes nothing.
use Rattle.std.proofs.Common.{arith}
use Rattle.finder.proofs.Filling.{filled}
use Rattle.finder.proofs.run.fill.Goals as goal

pub latches_by-requires : goal.latches_by-requires
latches_by-requires c = c.all_inputs_by-digits.ensures.1.bits_there 0 (omega arith)

pub returns : goal.returns
returns c =
    let inputs = c.all_inputs_by-digits.ensures in
    filled c.args.m inputs.1 inputs.2 inputs.0 _ c.latches_by.auto.row c.latches_by.ensures.0 c.latches_by.ensures.1
