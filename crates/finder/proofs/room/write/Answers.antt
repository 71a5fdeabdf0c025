-- All inputs stand in the room behind the first byte and the first latches. Assumes nothing.
use Rattle.std.proofs.Common.{◌+◌, add-one, arith}
use Rattle.finder.proofs.NewRun.{held_new}
use Rattle.finder.proofs.RoomWritten.{room_written}
use Rattle.finder.proofs.room.write.Goals as goal

pub fill-requires : goal.fill-requires
fill-requires c = held_new

pub returns-2 : goal.returns-2
returns-2 c =
    let proper = c.inputs-inputs.ensures.proper in
    let latches = rw (c.inputs-inputs.ensures.is, c.latches-latches.ensures.is) at c.put.ensures in
    let so_far = rw (c.inputs-inputs.ensures.is, c.latches-latches.ensures.is) at c.loop-t.invariant in
    let now = rw (c.inputs-inputs.ensures.is, c.latches-latches.ensures.is) at c.put-in-loop-t.ensures in
    room_written proper c.fill.ensures c.args.best.first c.args.room.now c.requires.1 {t = c.loop-t.t + 1} latches
    (rw (add-one, ← so_far) now) (omega (arith, c.bound-t-end.ensures.is)) (omega (arith, c.bound-t-end.ensures.is))
