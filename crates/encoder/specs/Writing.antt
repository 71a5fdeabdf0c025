-- What a writer asks of the room, and what it does to it. Assumes nothing.
use Rattle.std.specs.Prelude.{◌≡◌, cond, List, ◌++◌, ℕ, ◌+◌, ◌≤◌, ℤ, eqb, length, take, drop, Result, IfOk}
use Rattle.answers.specs.Lists.{written}
use Rattle.clauses.specs.Clauses.{Clause}
use Rattle.clauses.specs.CnfWords.{words_of}
use Rattle.answers.specs.Answers.{first_failing, granted}
use Rattle.meaning.specs.Problem.{Problem}
use Rattle.meaning.specs.Cnf.{cnf_words}
use Rattle.meaning.specs.Calls.{room_checks}
use Rattle.counts.specs.declared.Counts.{Counts}
use Rattle.counts.specs.Promise.{counts_of}
use Rattle.encoder.specs.declared.NotWritten.{NotWritten}
use Rattle.encoder.specs.Promise.{answer_of}

-- From `at` on the room holds the words, which it has room for, and else what it held; the answer is the place after the words.
pub record Wrote (at : ℕ) (words before after : List ℤ) (r : ℕ) : Type 0 where
  pub fits : at + length words ≤ length before
  pub ends : r ≡ at + length words
  pub holds : after ≡ take at before ++ (words ++ drop (at + length words) before)

-- From `at` on the room is long enough for the clauses.
pub record Room (at : ℕ) (cs : List Clause) (room : List ℤ) : Type 0 where
  pub fits : at + length (words_of cs) ≤ length room

-- Writing where the problem is good: the answer to the room's length, the room after it, and the numbers of what was written.
pub record RoomAnswered (p : Problem) (before : List ℤ) (r : Result Counts NotWritten) (after : List ℤ) : Type 0 where
  pub answered : answer_of r ≡ first_failing (room_checks p (length before)) (granted (length (cnf_words p)))
  pub room_after : after ≡ cond (eqb (answer_of r).number 0) (written (cnf_words p) before) before
  pub numbered : IfOk r (λ n. n ≡ counts_of p)
