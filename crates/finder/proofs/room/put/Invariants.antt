-- The bits passed stand there.
use Rattle.std.proofs.Common.{◌≡◌, map, drop}
use Rattle.std.proofs.Math.Seq.{paste}
use Rattle.finder.specs.Runs.{byte_of}
use Rattle.finder.proofs.room.put.Given as goal

abbrev pub invariant-loop-i : goal.invariant-loop-i
invariant-loop-i l = l.room ≡ paste l.initial.room l.at (map byte_of (drop l.from l.bits)) l.i
