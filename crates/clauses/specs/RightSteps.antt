-- Document 01, "Refutations": the words of a refutation that are those of right steps. Assumes nothing.
use Rattle.std.specs.Prelude.{true, ◌&&◌, List, [], ◌≡◌, ℕ, ◌+◌, ◌<◌, ℤ, leb, ltb, length, get_or}
use Rattle.answers.specs.Lists.{all_of}
use Rattle.clauses.specs.Clauses.{literal_within}
use Rattle.clauses.specs.Refutations.{Step, step, steps_of, words_of_steps}

-- A step with its own number, for V variables: its literals are of variables 1 to V, and each hint is an earlier clause, at least 1 and
-- below the step's own number.
pub record StepRight (variables own : ℕ) (s : Step) : Type 0 where
  pub literals : all_of (literal_within variables) s.clause ≡ true
  pub hints : all_of (λ h. leb 1 h && ltb h own) s.hints ≡ true

-- The words are those of their steps, and each step is right. "CNF clauses are numbered from 1, steps follow on": the own number of step i,
-- counted from 0, is C, the i steps before it, and one.
pub record RightSteps (variables C : ℕ) (ws : List ℤ) : Type 0 where
  pub read_back : words_of_steps (steps_of ws) ≡ ws
  pub each_right : (i : ℕ) → i < length (steps_of ws) → StepRight variables (C + i + 1) (get_or (steps_of ws) i (step [] []))
