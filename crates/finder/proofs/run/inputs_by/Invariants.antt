-- The bits from i on are right, and the digits that are left are the ones above theirs.
use Rattle.std.proofs.Common.{◌≡◌, ◌-◌, ◌/◌, ◌^◌, eqb}
use Rattle.finder.specs.Runs.{digit}
use Rattle.finder.proofs.FromTheLast.{GivenFrom}
use Rattle.finder.proofs.run.inputs_by.Given as goal

abbrev pub invariant-loop-i : goal.invariant-loop-i
invariant-loop-i l =
    (l.rest ≡ l.digits / 2 ^ (l.inputs - l.i)) × GivenFrom (λ k. eqb (digit l.digits (l.inputs - 1 - k)) 1) l.i l.inputs l.initial.row l.row
