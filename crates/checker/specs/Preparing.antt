-- What the writer of a CNF for a refutation promises. Assumes nothing.
use Rattle.std.specs.Prelude.{◌≡◌, false, List, ◌++◌, ℕ, ℤ, length, Result, Ok, Err}
use Rattle.answers.specs.Lists.{written}
use Rattle.answers.specs.Answers.{Answer, first_failing_part}
use Rattle.clauses.specs.Refutations.{judged}
use Rattle.meaning.specs.Problem as problems
use Rattle.meaning.specs.Cnf.{cnf_words}
use Rattle.meaning.specs.Calls.{check_parts, preparing_parts}
use Rattle.counts.specs.Promise.{counts_of}
use Rattle.counts.specs.declared.Counts.{Counts}
use Rattle.checker.specs.declared.Unrefuted.{Unrefuted}
use Rattle.checker.specs.Refutation.{unrefuted_answer}

-- A refusal is the answer; where the CNF is written, that to the steps is.
abbrev pub prepared_then : Result Counts Unrefuted → Answer → Answer
prepared_then (Ok c) steps = steps
prepared_then (Err f) steps = unrefuted_answer f

-- The room: the CNF and then what it held, or what it held.
abbrev pub prepared_room : Result Counts Unrefuted → problems.Problem → List ℤ → List ℤ
prepared_room (Ok c) p room = written (cnf_words p) room
prepared_room (Err f) p room = room

abbrev pub WrittenNumbered : problems.Problem → Result Counts Unrefuted → Type 0
WrittenNumbered p (Ok c) = c ≡ counts_of p
WrittenNumbered p (Err f) = Unit

-- A refusal comes before any step is judged.
abbrev pub BeforeSteps : Result Counts Unrefuted → Type 0
BeforeSteps (Ok c) = Unit
BeforeSteps (Err f) = judged (unrefuted_answer f) ≡ false

-- Of a good problem: 6, 11 and 12, or the CNF written; `numbers` and `places` are the lengths of the work areas.
pub record PreparedFor (p : problems.Problem) (refutation : List ℤ) (numbers places : ℕ) (before : List ℤ) (r : Result Counts Unrefuted) (after : List ℤ) : Type 0 where
  pub answered : (steps : Answer) → prepared_then r steps ≡ first_failing_part (preparing_parts p refutation (length before) numbers places) steps
  pub room_after : after ≡ prepared_room r p before
  pub numbered : WrittenNumbered p r
  pub before_steps : BeforeSteps r

-- Of any words: 15 and 1 to 5 first.
pub record PreparedAs (version : ℕ) (ws : List ℕ) (refutation : List ℤ) (numbers places : ℕ) (before : List ℤ) (r : Result Counts Unrefuted) (after : List ℤ) : Type 0 where
  pub answered : (steps : Answer) → prepared_then r steps ≡ first_failing_part (check_parts version ws ++ preparing_parts (problems.problem version ws) refutation (length before) numbers places) steps
  pub room_after : after ≡ prepared_room r (problems.problem version ws) before
  pub numbered : WrittenNumbered (problems.problem version ws) r
  pub before_steps : BeforeSteps r
