-- The crate's answers as those of the documents, and the promises of its public functions. Assumes nothing.
use Rattle.std.specs.Prelude.{List, ◌≡◌, ℕ, length, Result, Ok, Err}
use Rattle.answers.specs.Answers.{Answer, granted, output_room_too_small}
use Rattle.problem.specs.Promise.{refusal_answer}
use Rattle.aiger.specs.Calls.{bad_text, read_answer, room_after_reading, write_answer, room_after_writing}
use Rattle.aiger.specs.declared.NotDone.{NotDone}
use Rattle.aiger.specs.declared.NotDone.TheVariants.{BadText, Circuit, RoomTooSmall}

-- The number and the place of each refusal, and of each result.
abbrev pub not_done_answer : NotDone → Answer
not_done_answer (BadText p) = bad_text p
not_done_answer (Circuit f) = refusal_answer f
not_done_answer (RoomTooSmall n) = output_room_too_small n

abbrev pub answer_of : Result ℕ NotDone → Answer
answer_of (Ok n) = granted n
answer_of (Err f) = not_done_answer f

-- Reading: its answer, and the word room after it.
pub record ReadAs (text before : List ℕ) (r : Result ℕ NotDone) (after : List ℕ) : Type 0 where
  pub answered : answer_of r ≡ read_answer text (length before)
  pub room_after : after ≡ room_after_reading (answer_of r) text before

-- Writing: its answer, and the text room after it.
pub record WrittenAs (ws before : List ℕ) (r : Result ℕ NotDone) (after : List ℕ) : Type 0 where
  pub answered : answer_of r ≡ write_answer ws (length before)
  pub room_after : after ≡ room_after_writing (answer_of r) ws before
