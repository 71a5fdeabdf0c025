-- Of a problem without a witness at its bound: words that the judge of its refutations accepts. Assumes nothing.
use Rattle.std.specs.Prelude.{◌≡◌, List, ℕ, ◌≤◌, ℤ, length}
use Rattle.answers.specs.Answers.{granted}
use Rattle.clauses.specs.Refutations.{steps_of, numbers_area, clauses_area}
use Rattle.clauses.specs.Refutable.{WordsFit}
use Rattle.meaning.specs.Problem.{problem}
use Rattle.meaning.specs.Cnf.{cnf, cnf_words, variables}
use Rattle.meaning.specs.Calls.{judge_refutation}

-- They are accepted whatever CNF room and work areas the judge is lent that have the words it needs.
pub record AcceptedRefutation (version : ℕ) (ws : List ℕ) : Type 0 where
  pub words : List ℤ
  pub accepted : (room by_numbers by_clauses : ℕ) → length (cnf_words (problem version ws)) ≤ room
      → numbers_area (variables (problem version ws)) ≤ by_numbers → clauses_area (cnf (problem version ws)) (steps_of words) ≤ by_clauses
      → judge_refutation version ws words room by_numbers by_clauses ≡ granted 0
  pub words_fit : WordsFit (variables (problem version ws)) (cnf (problem version ws)) words
