-- Of a CNF that no assignment satisfies: steps that the rule accepts, and words that are read as them and that the judge accepts.
-- Assumes nothing.
use Rattle.std.specs.Prelude.{◌≡◌, List, ℕ, max, ◌+◌, ◌≤◌, ◌<◌, ℤ, pos, length, get_or}
use Rattle.answers.specs.Answers.{first_failing, granted}
use Rattle.clauses.specs.Clauses.{Clause, size}
use Rattle.clauses.specs.CnfWords.{clauses_of}
use Rattle.clauses.specs.Refutations.{Step, steps_of, words_of_steps, refutation_checks, judge_steps, judge_cnf, numbers_area, clauses_area}

-- A refutation that the judge accepts, of clauses over so many variables. The sizes of words and of work areas are left aside.
pub record Refutation (variables : ℕ) (cs : List Clause) : Type 0 where
  pub steps : List Step
  -- every step passes, and the last clause is empty
  pub accepted : judge_steps cs steps ≡ granted 0
  -- the words of the steps are read as these steps
  pub read_back : steps_of (words_of_steps steps) ≡ steps
  -- and are not answered 11
  pub words_right : first_failing (refutation_checks variables (length cs) (words_of_steps steps)) (granted 0) ≡ granted 0

-- No word is larger than the variables, or than the clauses and the steps together: where both fit a signed word, each word does.
abbrev pub WordsFit : ℕ → List Clause → List ℤ → Type 0
WordsFit variables cs words =
    (i : ℕ) → i < length words → size (get_or words i (pos 0)) ≤ max variables (length cs + length (steps_of words))

-- Words that the judge of a bare CNF accepts, whatever work areas it is lent that have the words it needs.
pub record AcceptedWords (variables : ℕ) (cnf : List ℤ) : Type 0 where
  pub words : List ℤ
  pub accepted : (by_numbers by_clauses : ℕ) → numbers_area variables ≤ by_numbers → clauses_area (clauses_of cnf) (steps_of words) ≤ by_clauses
      → judge_cnf variables cnf words by_numbers by_clauses ≡ granted 0
  pub words_fit : WordsFit variables (clauses_of cnf) words
