-- One bit more stands there. Assumes nothing.
use Rattle.std.proofs.Common.{◌∙◌, arith}
use Rattle.finder.proofs.RoomWritten.{byte_is, one_byte}
use Rattle.finder.proofs.room.put.Goals as goal

pub loop-i-preserved : goal.loop-i-preserved
loop-i-preserved c =
    one_byte c.args.room.now c.args.at c.args.bits.now c.args.from c.loop-i.i c.loop-i.invariant (c.from.ensures ∙ byte_is _) (omega arith) (omega arith)
