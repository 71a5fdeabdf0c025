-- A job's order of answers: 15 of its bytes, and what comes after it. Assumes nothing.
use mathlib.Core.Path.{◌≡◌, refl}
use mathlib.Core.List.{List}
use Prim.Native.Nat.{ℕ}
use Rattle.answers.specs.Answers.{first_failing}
use Rattle.answers.specs.Limits.{program_room}
use Rattle.meaning.specs.Calls.{write_cnf}
use Rattle.job_file.specs.JobFile.{job_version, job_words, job_checks, job_answer}

-- Of a job whose bytes are right, the answer is that of writing its CNF.
pub job_answer_is : (bs : List ℕ) → job_answer bs ≡ first_failing (job_checks bs) (write_cnf (job_version bs) (job_words bs) program_room)
unfolding job_answer write_cnf
job_answer_is bs = refl
