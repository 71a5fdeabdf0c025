-- The answer for all the words is the one that the clauses so far give for the words from `i` on. Assumes nothing.
use Rattle.std.proofs.Common.{◌≡◌, ◌≤◌, length}
use Rattle.answers.specs.Answers.{first_failing, granted}
use Rattle.clauses.specs.CnfWords.{clauses_of, cnf_checks}
use Rattle.refutation.proofs.Scan.{rest}
use Rattle.refutation.proofs.CountClauses.{reader, tally}
use Rattle.refutation.proofs.words.count_clauses.Given as goal

abbrev pub invariant-loop-i : goal.invariant-loop-i
invariant-loop-i l =
    (l.clauses ≤ l.i)
    × (first_failing (cnf_checks l.variables l.cnf) (granted (length (clauses_of l.cnf))) ≡ rest (reader l.variables) (tally l.clauses l.«open») l.i l.cnf)
