-- The free resets of the latches below i are counted.
use Rattle.std.proofs.Common.{◌≡◌, ◌+◌, ◌*◌, length, take}
use Rattle.answers.specs.Lists.{those}
use Rattle.finder.specs.Calls.{is_free}
use Rattle.finder.proofs.bits.open_bytes.Given as goal

abbrev pub invariant-loop-i : goal.invariant-loop-i
invariant-loop-i l = l.bits ≡ length (those is_free (take l.i l.p.latches)) + l.p.inputs * (l.p.bound + 1)
