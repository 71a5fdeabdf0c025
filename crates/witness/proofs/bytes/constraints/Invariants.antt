-- Before each turn the positions passed meet the constraints, of every witness that shows the table.
use Rattle.std.proofs.Common.{List, ℕ, ◌+◌}
use Rattle.meaning.specs.Witnesses.{position_checks}
use Rattle.witness.specs.ShownRun.{RunShown}
use Rattle.witness.proofs.Checks.{PassedUpTo, from_number}
use Rattle.witness.proofs.Parts.{position_check}
use Rattle.witness.proofs.bytes.constraints.Given as goal

abbrev pub invariant-loop-t : goal.invariant-loop-t
invariant-loop-t l =
    (bs : List ℕ) → RunShown l.p bs l.table → PassedUpTo (position_checks l.p bs) (from_number (position_check l.p bs) (l.p.bound + 1) l.t)
