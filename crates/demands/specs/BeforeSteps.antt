-- What a refutation judge asks before it looks at the steps. Assumes nothing.
use Rattle.std.specs.Prelude.{◌≡◌, List, ℕ, ◌≤◌, ℤ, length}
use Rattle.answers.specs.Answers.{granted, first_failing}
use Rattle.clauses.specs.CnfWords.{clauses_of, cnf_checks}
use Rattle.clauses.specs.Refutations.{steps_of, refutation_checks, numbers_area, clauses_area}
use Rattle.meaning.specs.Problem.{problem}
use Rattle.meaning.specs.Cnf.{cnf, cnf_words, variables}
use Rattle.meaning.specs.Calls.{WellFormed}

-- For a bare CNF 16, 11 and 12 pass; the last two numbers are the lengths of the work areas.
pub record CnfReady (v : ℕ) (cnf refutation : List ℤ) (numbers clauses : ℕ) : Type 0 where
  pub cnf_right : first_failing (cnf_checks v cnf) (granted 0) ≡ granted 0
  pub words_right : first_failing (refutation_checks v (length (clauses_of cnf)) refutation) (granted 0) ≡ granted 0
  pub numbers_fit : numbers_area v ≤ numbers
  pub clauses_fit : clauses_area (clauses_of cnf) (steps_of refutation) ≤ clauses

-- For a problem's 15 and 1 to 5, 6, 11 and 12; before them stands the length of the CNF room.
pub record ProblemReady (version : ℕ) (ws : List ℕ) (refutation : List ℤ) (room numbers clauses : ℕ) : Type 0 where
  pub formed : WellFormed version ws
  pub room_fits : length (cnf_words (problem version ws)) ≤ room
  pub words_right :
      first_failing (refutation_checks (variables (problem version ws)) (length (cnf (problem version ws))) refutation) (granted 0) ≡ granted 0
  pub numbers_fit : numbers_area (variables (problem version ws)) ≤ numbers
  pub clauses_fit : clauses_area (cnf (problem version ws)) (steps_of refutation) ≤ clauses
