-- The finder's outcomes as the answers of the documents, and what it promises. Assumes nothing.
use Rattle.std.specs.Prelude.{cond, List, ◌≡◌, ℕ, ◌≤◌, eqb, length, Result, Ok, Err}
use Rattle.answers.specs.Answers.{Answer, first_failing, granted}
use Rattle.answers.specs.Limits.{search_limit}
use Rattle.finder.specs.Calls.{too_much_open, witness_room_too_small, none_exists, open_bytes, finding_checks, first_found, with_first, find_witness, room_after_finding}
use Rattle.meaning.specs.Problem as problems
use Rattle.meaning.specs.Witnesses.{witness_length}
use Rattle.meaning.specs.Calls.{witnesses}
use Rattle.problem.specs.Promise.{refusal_answer}
use Rattle.finder.specs.declared.NotFound.{NotFound}
use Rattle.finder.specs.declared.NotFound.TheVariants.{Problem, TooMuchOpen, RoomTooSmall, NoneExists}

-- The number and the place of each refusal.
abbrev pub not_found_answer : NotFound → Answer
not_found_answer (Problem f) = refusal_answer f
not_found_answer (TooMuchOpen n) = too_much_open n
not_found_answer (RoomTooSmall n) = witness_room_too_small n
not_found_answer NoneExists = none_exists 0

abbrev pub answer_of : Result ℕ NotFound → Answer
answer_of (Ok n) = granted n
answer_of (Err f) = not_found_answer f

-- Of a good problem: 17, 18, the first witness or none; and the room after it.
pub record FoundIn (p : problems.Problem) (before : List ℕ) (r : Result ℕ NotFound) (after : List ℕ) : Type 0 where
  pub answered : answer_of r ≡ first_failing (finding_checks p (length before)) (first_found (witnesses p))
  pub room_after : after ≡ cond (eqb (answer_of r).number 0) (with_first (witnesses p) before) before

-- The finder: its answer, and the witness room after it.
pub record FoundAs (version : ℕ) (ws before : List ℕ) (r : Result ℕ NotFound) (after : List ℕ) : Type 0 where
  pub answered : answer_of r ≡ find_witness version ws (length before)
  pub room_after : after ≡ room_after_finding (answer_of r) version ws before

-- 17 and 18 pass: few bytes are open, and the room has the bytes of a witness.
pub record Searched (p : problems.Problem) (room : ℕ) : Type 0 where
  pub few_open : open_bytes p ≤ search_limit
  pub fits : witness_length p ≤ room
