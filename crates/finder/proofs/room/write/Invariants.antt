-- The inputs of the positions before t stand in the room.
use Rattle.std.proofs.Common.{◌≡◌}
use Rattle.finder.proofs.RoomWritten.{inputs_put}
use Rattle.finder.proofs.room.write.Given as goal

abbrev pub invariant-loop-t : goal.invariant-loop-t
invariant-loop-t l = l.room ≡ inputs_put l.run l.inputs l.latches l.initial.room l.t
