-- Before each turn the bytes passed are in range.
use Rattle.std.proofs.Common.{drop}
use Rattle.answers.specs.Lists.{numbered}
use Rattle.witness.specs.Promise.{byte_check}
use Rattle.witness.proofs.Checks.{PassedUpTo}
use Rattle.witness.proofs.bytes.each_byte.Given as goal

abbrev pub invariant-loop-i : goal.invariant-loop-i
invariant-loop-i l = PassedUpTo (numbered 0 l.witness (byte_check l.p)) (numbered l.i (drop l.i l.witness) (byte_check l.p))
