-- The refusals of the crate as document 01's answers, and the promises of its public functions. Assumes nothing.
use Rattle.std.specs.Prelude.{List, ◌≡◌, ℕ, ℤ, length, Result, Ok, Err, IfOk}
use Rattle.answers.specs.Answers.{Answer, granted, room_too_small}
use Rattle.meaning.specs.Problem.{problem}
use Rattle.meaning.specs.Calls.{write_cnf, room_after_writing}
use Rattle.counts.specs.declared.Counts.{Counts}
use Rattle.counts.specs.Promise.{counts_of}
use Rattle.problem.specs.Promise.{refusal_answer}
use Rattle.encoder.specs.declared.NotWritten.{NotWritten}
use Rattle.encoder.specs.declared.NotWritten.TheVariants.{Problem, RoomTooSmall}

-- Document 01's number and place of each refusal, and of each outcome: the numbers of the CNF that was written, or a refusal.
abbrev pub not_written_answer : NotWritten → Answer
not_written_answer (Problem f) = refusal_answer f
not_written_answer (RoomTooSmall n) = room_too_small n

abbrev pub answer_of : Result Counts NotWritten → Answer
answer_of (Ok n) = granted n.words
answer_of (Err e) = not_written_answer e

-- Writing: its answer, the whole room after it, and the numbers of variables, clauses and words of what was written.
pub record EncodedAs (version : ℕ) (ws : List ℕ) (before : List ℤ) (r : Result Counts NotWritten) (after : List ℤ) : Type 0 where
  pub answered : answer_of r ≡ write_cnf version ws (length before)
  pub room_after : after ≡ room_after_writing (answer_of r) version ws before
  pub numbered : IfOk r (λ n. n ≡ counts_of (problem version ws))
