-- Laws of the checks of a job file's bytes: a file that is too long, and that each check refuses. Assumes nothing.
use mathlib.Core.Path.{◌≡◌, refl}
use mathlib.Core.Bool.{true}
use mathlib.Core.List.{List}
use Prim.Native.Nat.{ℕ, ◌<◌}
use lib.ListN.{length}
use borrow.Author.Tests.{lt-leb}
use Rattle.answers.specs.Lists.{all_of}
use Rattle.answers.specs.Answers.{Answer, first_failing, granted, bad_job}
use Rattle.answers.specs.Limits.{job_limit}
use Rattle.job_file.specs.JobFile.{job_checks}
use Rattle.answers.proofs.Answers.{refusing}

abbrev pub checks_answer : List ℕ → Answer
checks_answer bs = first_failing (job_checks bs) (granted 0)

module _ (bs : List ℕ) where
  pub at_too_long : job_limit < length bs → checks_answer bs ≡ bad_job job_limit
  unfolding job_checks
  at_too_long h = rw (lt-leb _ _ h)

pub job_checks_refusing : (bs : List ℕ) → all_of refusing (job_checks bs) ≡ true
unfolding job_checks
job_checks_refusing bs = refl
