-- Before each turn the latches passed meet their resets.
use Rattle.std.proofs.Common.{length}
use Rattle.meaning.specs.Witnesses.{reset_checks}
use Rattle.witness.proofs.Checks.{PassedUpTo, from_number}
use Rattle.witness.proofs.Parts.{reset_check}
use Rattle.witness.proofs.bytes.resets.Given as goal

abbrev pub invariant-loop-i : goal.invariant-loop-i
invariant-loop-i l = PassedUpTo (reset_checks l.p l.witness) (from_number (reset_check l.p l.witness) (length l.p.latches) l.i)
