-- Before each turn the next values passed are put.
use Rattle.std.proofs.Common.{◌≡◌, take}
use Rattle.problem.specs.Promise.{problem_in}
use Rattle.values.specs.Tables.{next_in}
use Rattle.values.proofs.latches.put_next.Given as goal

abbrev pub invariant-loop-i : goal.invariant-loop-i
invariant-loop-i l = take l.i l.room ≡ take l.i (next_in (problem_in l.s l.words) l.row)
