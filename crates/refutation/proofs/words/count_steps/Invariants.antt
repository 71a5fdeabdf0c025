-- The answer for all the words is the one that the steps so far give for the words from `i` on. Assumes nothing.
use Rattle.std.proofs.Common.{◌≡◌, ◌≤◌, length}
use Rattle.answers.specs.Answers.{first_failing, granted}
use Rattle.clauses.specs.Refutations.{steps_of, refutation_checks}
use Rattle.refutation.proofs.Scan.{rest}
use Rattle.refutation.proofs.CountSteps.{reader, tally}
use Rattle.refutation.proofs.words.count_steps.Given as goal

abbrev pub invariant-loop-i : goal.invariant-loop-i
invariant-loop-i l =
    (l.steps ≤ l.i)
    × (first_failing (refutation_checks l.variables l.clauses l.refutation) (granted (length (steps_of l.refutation)))
    ≡ rest (reader l.variables l.clauses) (tally l.steps l.hints l.«open») l.i l.refutation)
