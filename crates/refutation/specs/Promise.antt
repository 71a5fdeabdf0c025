-- The results of the crate as the answers of document 01, and the promises of its public functions. Assumes nothing.
use Rattle.std.specs.Prelude.{◌≡◌, List, ℕ, ℤ, length, Result, Ok, Err}
use Rattle.answers.specs.Answers.{Answer, first_failing, granted, bad_cnf, bad_refutation, area_too_small, step_refused, not_closed}
use Rattle.clauses.specs.CnfWords.{cnf_checks, clauses_of}
use Rattle.clauses.specs.Refutations.{refutation_checks, steps_of, judge_cnf, numbers_area, clauses_area, area_after}
use Rattle.refutation.specs.declared.NotRefuted.{NotRefuted}
use Rattle.refutation.specs.declared.NotRefuted.TheVariants.{BadCnf, BadRefutation, AreaTooSmall, StepRefused, NotClosed}

-- Document 01's number and place of each refusal, and of each outcome of the judge.
abbrev pub refusal_answer : NotRefuted → Answer
refusal_answer (BadCnf i) = bad_cnf i
refusal_answer (BadRefutation i) = bad_refutation i
refusal_answer (AreaTooSmall n) = area_too_small n
refusal_answer (StepRefused i) = step_refused i
refusal_answer (NotClosed n) = not_closed n

abbrev pub answer_of : Result Unit NotRefuted → Answer
answer_of (Ok u) = granted 0
answer_of (Err f) = refusal_answer f

-- Words that were checked: how many clauses or steps they are, or the refusal's place.
abbrev pub counted_answer : (ℕ → Answer) → Result ℕ ℕ → Answer
counted_answer bad (Ok n) = granted n
counted_answer bad (Err i) = bad i

-- The clauses of CNF words, or 16.
abbrev pub CnfCounted : ℕ → List ℤ → Result ℕ ℕ → Type 0
CnfCounted variables cnf r =
    counted_answer bad_cnf r ≡ first_failing (cnf_checks variables cnf) (granted (length (clauses_of cnf)))

-- The steps of refutation words for a CNF of so many variables and clauses, or 11.
abbrev pub StepsCounted : ℕ → ℕ → List ℤ → Result ℕ ℕ → Type 0
StepsCounted variables clauses refutation r =
    counted_answer bad_refutation r
    ≡ first_failing (refutation_checks variables clauses refutation) (granted (length (steps_of refutation)))

-- The judge: its answer, and both work areas after it.
pub record Judged (variables : ℕ) (cnf refutation : List ℤ) (numbers clauses : List ℕ) (r : Result Unit NotRefuted) (numbers' clauses' : List ℕ) : Type 0 where
  pub answered : answer_of r ≡ judge_cnf variables cnf refutation (length numbers) (length clauses)
  pub numbers_left : numbers' ≡ area_after (answer_of r) (numbers_area variables) numbers
  pub clauses_left : clauses' ≡ area_after (answer_of r) (clauses_area (clauses_of cnf) (steps_of refutation)) clauses
